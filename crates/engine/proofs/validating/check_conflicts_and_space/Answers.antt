use Rattle.engine.proofs.validating.check_conflicts_and_space.Goals as goal
use Rattle.std.proofs.Common.{◌≡◌, ◌≤◌, ◌<◌, ◌+◌, ℕ, Bool, true, false, List, [], length, ap, ◌∙◌, arith, inl, inr}
use Rattle.std.proofs.lemmas.Bool.{cases_lt, iff_false}
use Rattle.std.proofs.lemmas.Bool.Decides.{nat_tests}
use Rattle.std.proofs.lemmas.List.{nil_from_length}
use Rattle.std.specs.Prelude.{◌==◌, IsTrue, ◌↔◌}
use Rattle.model.specs.Machine.{payload_size, body_sectors}
use Rattle.model.specs.Map.{KeyWrite}
use Rattle.model.specs.declared.refusals.Refusal.TheVariants.{PivotSelf, Pivot}
use Rattle.sector.specs.declared.device.Sectors.{Ghosts}
use Rattle.commit_log.specs.LogState.{sector_count, used_sectors}
use Rattle.commit_log.specs.RecordFormat.{sectors_for}
use Rattle.commit_log.specs.declared.log.Log.{Log}
use Rattle.engine.proofs.Committing.{conflict_refuses, overwritten_refuses, full_refuses, to_commit}
use Rattle.engine.specs.Changes.{WritesSomething, HasLogRoom}

-- whether anything was written
none_written : (xs ws : List KeyWrite) (b : Bool) → b ≡ (length xs == 0) → xs ≡ ws → b ≡ true → ws ≡ []
none_written xs ws b e same t = nil_from_length ws (grind (arith, nat_tests))

some_written : (xs ws : List KeyWrite) (b : Bool) → b ≡ (length xs == 0) → xs ≡ ws → b ≡ false → WritesSomething ws
some_written xs ws b e same f none = grind (arith, nat_tests, ap length none)

-- whether the log has room for it
module _ {D : Type 0} {g : Ghosts D} (log log' : Log D g) (same : log' ≡ log) (ws : List KeyWrite) (n : ℕ) (is : n ≡ payload_size ws) (b : Bool) (iff : IsTrue b
    ↔ (used_sectors log + sectors_for n < sector_count log)) where
  has_room : b ≡ true → HasLogRoom (used_sectors log') (sector_count log') ws
  has_room t some = rw (same, ← is) (iff.0 t)

  has_none : b ≡ false → sector_count log' ≤ used_sectors log' + body_sectors ws
  has_none f = rw (same, ← is) (elim (cases_lt (used_sectors log + sectors_for n) (sector_count log)) [ inl lt ↦ absurd (iff_false iff f lt) | inr le ↦ le ])

pub returns-in-Overwritten : goal.returns-in-Overwritten
returns-in-Overwritten g c e s log history j = (
  c.in-Overwritten.ensures.place,
  λ d. overwritten_refuses e s _ j _ _ c.committed.ensures history _ c.entries-writes.ensures.writes c.entries-writes.ensures.made c.in-Overwritten.i d
      c.in-Overwritten.ensures.verdict,
)

pub returns-in-PivotSelf : goal.returns-in-PivotSelf
returns-in-PivotSelf g c e s log history j =
    conflict_refuses e s _ j _ _ c.committed.ensures history _ c.entries-writes.ensures.writes c.entries-writes.ensures.made PivotSelf
    c.in-PivotSelf.ensures.verdict

pub returns-in-Pivot : goal.returns-in-Pivot
returns-in-Pivot g c e s log history j =
    conflict_refuses e s _ j _ _ c.committed.ensures history _ c.entries-writes.ensures.writes c.entries-writes.ensures.made (Pivot c.in-Pivot.n)
    c.in-Pivot.ensures.verdict

pub returns-then-is_empty : goal.returns-then-is_empty
returns-then-is_empty g c e s log history j =
    let t = c.args.transaction.now in
    let none = none_written _ t.writes _ c.is_empty.ensures c.entries-writes.ensures.writes c.if-is_empty.true in (
      to_commit e s t j _ _ c.committed.ensures history _ c.entries-writes.ensures.writes c.entries-writes.ensures.made c.in-Clear.ensures.verdict
          (λ some. absurd (some none)),
      none,
      rw (history, ← c.committed.ensures) c.in-Clear.ensures.cleared,
    )

pub returns-then-not-room : goal.returns-then-not-room
returns-then-not-room g c e s log history j =
    let t = c.args.transaction.now in
    let len = c.payload_len-len.ensures.len ∙ ap payload_size c.entries-writes.ensures.writes in
    full_refuses e s t j _ _ c.committed.ensures history _ c.entries-writes.ensures.writes c.entries-writes.ensures.made c.in-Clear.ensures.verdict
    (some_written _ t.writes _ c.is_empty.ensures c.entries-writes.ensures.writes c.if-is_empty.false)
    (has_none c.args.log.now e.log log t.writes _ len _ c.room.ensures c.if-not-room.true)

pub returns : goal.returns
returns g c e s log history j =
    let t = c.args.transaction.now in
    let len = c.payload_len-len.ensures.len ∙ ap payload_size c.entries-writes.ensures.writes in (
      to_commit e s t j _ _ c.committed.ensures history _ c.entries-writes.ensures.writes c.entries-writes.ensures.made c.in-Clear.ensures.verdict
          (has_room c.args.log.now e.log log t.writes _ len _ c.room.ensures c.if-not-room.false),
      (some_written _ t.writes _ c.is_empty.ensures c.entries-writes.ensures.writes c.if-is_empty.false, len),
      rw (history, ← c.committed.ensures) c.in-Clear.ensures.cleared,
    )
