-- A transaction alone: its private copy of a map, as in snapshot isolation (Fekete et al. 2005), the keys that it has
-- written, and the marks of what it has read. The marks are this project's profile: a range marks all its keys, present
-- or not, up to the last key of a reply that reached its limit.
use Rattle.std.specs.BTreeSet.{insert_key}
use Rattle.std.specs.Cmp.Lexicographic.{slice_cmp}
use Rattle.std.specs.List.{list_any}
use Rattle.std.specs.Ordering.{is_le, nat_cmp}
use Rattle.std.specs.Prelude.{ℕ, ◌∷◌, [], ◌++◌, List, Bool, true, false, ◌&&◌, length, take, Option, Some, None}
use Rattle.std.specs.Prelude.{nat_lt, ◌==◌, if◌then◌else◌}
use Rattle.model.specs.Map.{Bytes, key_cmp, is_same_key, KeyMap, KeyWrite, value_at, after_write, is_in_range}
use Rattle.model.specs.Map.{is_empty_range, pairs_in_range}
use Rattle.model.specs.Operations.{Operation, Response}
use Rattle.model.specs.Operations.Operation.{Begin, Get, Set, Del, Range, Commit, Abort, Ping, Faulty}
use Rattle.model.specs.Operations.Response.{Done, Pong, Value, Pairs, Refused}
use Rattle.model.specs.declared.refusals.Refusal.TheVariants.{AlreadyOpen, NotOpen, FullWrites, FullMarks}

-- what a read marks: a key, all keys of a range, or those from a first to a last key, both included
pub data Mark : Type 0 where
  OfKey : Bytes → Mark
  OfRange : Bytes → Option Bytes → Mark
  OfClosedRange : Bytes → Bytes → Mark

abbrev pub covers : Mark → Bytes → Bool
covers (OfKey k) q = is_same_key k q
covers (OfRange lo hi) q = is_in_range lo hi q
covers (OfClosedRange lo last) q = is_le (key_cmp lo q) && is_le (key_cmp q last)

-- whether some mark covers the key
abbrev pub is_covered : List Mark → Bytes → Bool
is_covered marks k = list_any (λ m. covers m k) marks

abbrev pub is_same_end : Option Bytes → Option Bytes → Bool
is_same_end None None = true
is_same_end (Some j) (Some k) = is_same_key j k
is_same_end _ _ = false

-- marks of two kinds are never the same
abbrev pub is_same_mark : Mark → Mark → Bool
is_same_mark (OfKey j) (OfKey k) = is_same_key j k
is_same_mark (OfKey j) (OfRange lo hi) = false
is_same_mark (OfKey j) (OfClosedRange lo last) = false
is_same_mark (OfRange lo hi) (OfKey k) = false
is_same_mark (OfRange lo hi) (OfRange lo' hi') = is_same_key lo lo' && is_same_end hi hi'
is_same_mark (OfRange lo hi) (OfClosedRange lo' last) = false
is_same_mark (OfClosedRange lo last) (OfKey k) = false
is_same_mark (OfClosedRange lo last) (OfRange lo' hi) = false
is_same_mark (OfClosedRange lo last) (OfClosedRange lo' last') = is_same_key lo lo' && is_same_key last last'

-- the last key of the pairs
abbrev pub last_key : List (Bytes × Bytes) → Option Bytes
last_key [] = None
last_key (e ∷ []) = Some e.0
last_key (e ∷ f ∷ es) = last_key (f ∷ es)

-- up to this last key, both ends included, where there is one
abbrev pub mark_up_to : Bytes → Option Bytes → Option Bytes → Mark
mark_up_to lo hi None = OfRange lo hi
mark_up_to lo hi (Some last) = OfClosedRange lo last

-- the last key of the pairs, where they are as many as the limit: others may follow it
abbrev pub page_end : ℕ → List (Bytes × Bytes) → Option Bytes
page_end limit pairs = if length pairs == limit then last_key pairs else None

-- what a RANGE marks whose reply has these pairs: up to the last of them where they are as many as its limit, else the
-- whole range. (A limit of 0, which no command has, gets no pairs and marks the whole range.)
abbrev pub mark_of_reply : Bytes → Option Bytes → ℕ → List (Bytes × Bytes) → Mark
mark_of_reply lo hi limit pairs = mark_up_to lo hi (page_end limit pairs)

-- the state of a transaction's private copy
pub record PrivateCopy : Type 0 where
  pub contents : KeyMap
  -- the written keys, rising
  pub written : List Bytes
  pub marks : List Mark

-- the private copy as the transaction begins
abbrev pub copy_of : KeyMap → PrivateCopy
copy_of m = record { contents = m; written = []; marks = [] }

abbrev pub is_written : PrivateCopy → Bytes → Bool
is_written c k = list_any (is_same_key k) c.written

-- the mark that a RANGE of the copy asks for
abbrev pub mark_asked : PrivateCopy → Bytes → Option Bytes → ℕ → Mark
mark_asked c lo hi limit = mark_of_reply lo hi limit (take limit (pairs_in_range c.contents lo hi))

-- a read that leaves this mark gets this response, unless there is no room for the mark
abbrev pub after_read : PrivateCopy → Mark → Response → Response × PrivateCopy
after_read c mark response =
    if list_any (is_same_mark mark) c.marks then (response, c)
    else (if nat_lt (length c.marks) 256 then (response, record c { marks = c.marks ++ mark ∷ [] })
    else (Refused FullMarks, c))

-- a write of this value, or a deletion, unless there is no room for the key
abbrev pub after_put : PrivateCopy → Bytes → Option Bytes → Response × PrivateCopy
after_put c k v =
    if is_written c k then (Done, record c { contents = after_write c.contents k v })
    else (if nat_lt (length c.written) 64 then (
      Done,
      record c { contents = after_write c.contents k v; written = insert_key (slice_cmp nat_cmp) c.written k },
    )
    else (Refused FullWrites, c))

-- the response to one request inside the transaction, and the copy after it
abbrev pub respond : PrivateCopy → Operation → Response × PrivateCopy
respond c (Get k) =
    if is_written c k then (Value (value_at c.contents k), c)
    else after_read c (OfKey k) (Value (value_at c.contents k))
respond c (Range lo hi limit) =
    if is_empty_range lo hi then (Pairs [], c)
    else after_read c (mark_asked c lo hi limit) (Pairs (take limit (pairs_in_range c.contents lo hi)))
respond c (Set k v) = after_put c k (Some v)
respond c (Del k) = after_put c k None
respond c Begin = (Refused AlreadyOpen, c)
respond c Ping = (Pong, c)
respond c (Faulty refusal) = (Refused refusal, c)
-- these two end the transaction and are never among its own requests: they make the function total
respond c Commit = (Refused NotOpen, c)
respond c Abort = (Refused NotOpen, c)

-- the copy after own requests, one after another
abbrev pub copy_after : PrivateCopy → List Operation → PrivateCopy
copy_after c [] = c
copy_after c (q ∷ qs) = copy_after (respond c q).1 qs

-- the responses to them
abbrev pub responses : PrivateCopy → List Operation → List Response
responses c [] = []
responses c (q ∷ qs) = (respond c q).0 ∷ responses (respond c q).1 qs

-- what a private copy of the map answers to the request q after the own requests qs, and nothing else
abbrev pub answer : KeyMap → List Operation → Operation → Response
answer m qs q = (respond (copy_after (copy_of m) qs) q).0

-- the marks of what the own requests read; the reads are the keys that these cover
abbrev pub reads : KeyMap → List Operation → List Mark
reads m qs = (copy_after (copy_of m) qs).marks

-- each written key with its value in the copy
abbrev pub values_at : KeyMap → List Bytes → List KeyWrite
values_at m [] = []
values_at m (k ∷ ks) = (k, value_at m k) ∷ values_at m ks

-- what the own requests wrote, by rising key
abbrev pub writes : KeyMap → List Operation → List KeyWrite
writes m qs = values_at (copy_after (copy_of m) qs).contents (copy_after (copy_of m) qs).written
