-- Where a session stands among the sessions that are present, or would stand, and what they end as where one is lent.
use Rattle.std.specs.BTreeMap.{insert_entry, is_at}
use Rattle.std.specs.Borrow.{Lends, LendsIf, Fml, MutBor}
use Rattle.std.specs.Map.{lookup, set_value, remove_entry}
use Rattle.std.specs.Ordering.{nat_cmp}
use Rattle.std.specs.Prelude.{◌≡◌, ℕ, ◌<◌, ◌≤◌, List, length, Option, Some, None, slice_index_or, slice_set, insert}
use Rattle.std.specs.Prelude.{remove}
use Rattle.sessions.specs.SessionStreams.{SessionState}
use Rattle.sessions.specs.contracts.present.Present.{the_row as present_row}
use Rattle.sessions.specs.contracts.session.Session.{the_row as session_row}

module _ {X : Type 0} (rows : List (ℕ × X)) (s i : ℕ) where
  -- it stands at place i
  pub record IsSessionPlace : Type 0 where
    pub in_range : i < length rows
    pub number : (d : ℕ × X) → (slice_index_or rows i d).0 ≡ s
    pub found : (d : ℕ × X) → lookup (is_at (nat_cmp s)) rows ≡ Some (slice_index_or rows i d).1
    pub written : (x : X) → slice_set rows i (s, x) ≡ set_value (is_at (nat_cmp s)) rows x
    pub inserted : (x : X) → slice_set rows i (s, x) ≡ insert_entry nat_cmp rows s x
    pub removed : remove rows i ≡ remove_entry (is_at (nat_cmp s)) rows

  -- it isn't there, and would stand at place i
  pub record IsSessionGap : Type 0 where
    pub in_range : i ≤ length rows
    pub absent : lookup (is_at (nat_cmp s)) rows ≡ None
    pub unchanged : remove_entry (is_at (nat_cmp s)) rows ≡ rows
    pub inserted : (x : X) → insert rows i (s, x) ≡ insert_entry nat_cmp rows s x

-- once the borrow r ends, session s is what was last written through it
abbrev pub lends_session : MutBor (List (ℕ × SessionState)) → ℕ → MutBor SessionState → Fml
lends_session m s r = Lends present_row session_row m r (set_value (is_at (nat_cmp s)) m.now)

-- the same, and at `None` nothing has changed
abbrev pub lends_session_if_present : MutBor (List (ℕ × SessionState)) → ℕ → Option (MutBor SessionState) → Fml
lends_session_if_present m s r = LendsIf present_row session_row m r (set_value (is_at (nat_cmp s)) m.now) m.now
