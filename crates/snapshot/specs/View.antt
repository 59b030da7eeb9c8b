-- A transaction as contracts see it, and what its own requests read and leave.
use Rattle.std.specs.Prelude.{ℕ, List, [], ◌∷◌, Bool, Option, Some, None, is_some, if◌then◌else◌, not, ◌&&◌, ◌||◌}
use Rattle.model.specs.Map.{Bytes, KeyMap, KeyWrite, value_at, after_writes}
use Rattle.model.specs.PrivateCopy.{Mark, PrivateCopy}
use Rattle.model.specs.PrivateCopy.Mark.{OfKey}
use Rattle.marks.specs.Marked.{has_mark, with_mark, is_full_for_mark}
use Rattle.write_buffer.specs.Buffered.{last_write, with_write}

pub record View : Type 0 where
  pub begin : ℕ
  -- the last writes by rising key
  pub writes : List KeyWrite
  pub marks : List Mark

abbrev pub new_view : ℕ → View
new_view b = record { begin = b; writes = []; marks = [] }

abbrev pub or_else : Option (Option Bytes) → Option Bytes → Option Bytes
or_else None v = v
or_else (Some w) v = w

-- what a read of the key gives over the map m
abbrev pub value_read : View → KeyMap → Bytes → Option Bytes
value_read t m k = or_else (last_write t.writes k) (value_at m k)

abbrev pub marked : View → Mark → View
marked t mark = record t { marks = with_mark t.marks mark }

-- the transaction after a read of the key
abbrev pub after_get : View → Bytes → View
after_get t k = if is_some (last_write t.writes k) then t else marked t (OfKey k)

-- the transaction after a write of the key
abbrev pub view_after_put : View → Bytes → Option Bytes → View
view_after_put t k v = record t { writes = with_write t.writes k v }

abbrev pub keys_of : List KeyWrite → List Bytes
keys_of [] = []
keys_of (w ∷ ws) = w.0 ∷ keys_of ws

-- the private copy of m that the transaction stands for
abbrev pub copy_held : View → KeyMap → PrivateCopy
copy_held t m = record { contents = after_writes m t.writes; written = keys_of t.writes; marks = t.marks }

-- a read of the key needs a mark for which there is no room, and it needs no new mark
abbrev pub is_full_get : View → Bytes → Bool
is_full_get t k = not (is_some (last_write t.writes k)) && is_full_for_mark t.marks (OfKey k)

abbrev pub is_known_get : View → Bytes → Bool
is_known_get t k = is_some (last_write t.writes k) || has_mark t.marks (OfKey k)
