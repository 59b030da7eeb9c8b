-- Which committed transactions are concurrent, and which depend on which. The three kinds of dependency are Adya's
-- (1999); which pairs count is this project's profile. Concurrency is that of Fekete et al. (2005). The pivot is
-- theirs, and that of Cahill, Röhm, Fekete (2008): the middle of a dangerous structure. That a structure is dangerous
-- only where its target committed first is the test of commit order of Ports and Grittner (2012).
use Rattle.std.specs.List.{list_any}
use Rattle.std.specs.Prelude.{◌≢◌, Bool, ◌&&◌, ◌||◌, not, List, Contains, nat_lt, nat_le, ◌==◌, IsTrue}
use Rattle.model.specs.History.{Record}
use Rattle.model.specs.Map.{Bytes, is_same_key}
use Rattle.model.specs.PrivateCopy.{is_covered}

-- each began before the other committed
abbrev pub is_concurrent : Record → Record → Bool
is_concurrent a b = nat_lt a.begin b.commit && nat_lt b.begin a.commit

abbrev pub writes_key : Record → Bytes → Bool
writes_key a k = list_any (λ w. is_same_key k w.0) a.writes

abbrev pub reads_key : Record → Bytes → Bool
reads_key a k = is_covered a.reads k

-- whether both write some key
abbrev pub write_alike : Record → Record → Bool
write_alike a b = list_any (λ w. writes_key b w.0) a.writes

-- whether a reads some key that b writes
abbrev pub reads_from : Record → Record → Bool
reads_from a b = list_any (λ w. reads_key a w.0) b.writes

-- both write some key, and a commits first
abbrev pub write_write_dependency : Record → Record → Bool
write_write_dependency a b = write_alike a b && nat_lt a.commit b.commit

-- a writes a key that b reads, and b began once a had committed
abbrev pub write_read_dependency : Record → Record → Bool
write_read_dependency a b = reads_from b a && nat_le a.commit b.begin

-- an anti-dependency: a reads a key that another one, b, writes, and a began before b committed
abbrev pub read_write_dependency : Record → Record → Bool
read_write_dependency a b = reads_from a b && nat_lt a.begin b.commit && not (a.commit == b.commit)

abbrev pub dependency : Record → Record → Bool
dependency a b = write_write_dependency a b || write_read_dependency a b || read_write_dependency a b

-- a read-write dependency between two that are concurrent
abbrev pub concurrent_read_write : Record → Record → Bool
concurrent_read_write a b = read_write_dependency a b && is_concurrent a b

-- a concurrent read-write dependency from x to p, and one from p to y, which may be x
abbrev pub makes_pivot : Record → Record → Record → Bool
makes_pivot x p y = concurrent_read_write x p && concurrent_read_write p y

-- whether some x and y of the history make p a pivot
abbrev pub is_pivot : List Record → Record → Bool
is_pivot history p = list_any (λ x. list_any (λ y. makes_pivot x p y) history) history

-- a pivot whose target y committed before it, and not after x
abbrev pub makes_dangerous_pivot : Record → Record → Record → Bool
makes_dangerous_pivot x p y = makes_pivot x p y && (nat_lt y.commit p.commit && nat_le y.commit x.commit)

-- whether some x and y of the history make p a dangerous pivot
abbrev pub is_dangerous_pivot : List Record → Record → Bool
is_dangerous_pivot history p = list_any (λ x. list_any (λ y. makes_dangerous_pivot x p y) history) history

-- no two concurrent transactions write one key
abbrev pub NoConcurrentWriters : List Record → Type 0
NoConcurrentWriters history = (a b : Record) → Contains history a → Contains history b → a.commit ≢ b.commit →
    IsTrue (is_concurrent a b) → ¬ IsTrue (write_alike a b)
