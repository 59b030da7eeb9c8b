use Rattle.engine.proofs.history.History.join.Goals as goal
use Rattle.std.proofs.Common.{◌≡◌, ℕ, ◌+◌, Bool, true, List, [], ◌∷◌, ◌++◌, ap, sym, subst, ◌∙◌, length, arith}
use Rattle.std.proofs.lemmas.Bool.{and_parts, or_left}
use Rattle.std.proofs.lemmas.Bool.Decides.{nat_tests}
use Rattle.std.proofs.lemmas.List.{nil_from_length}
use Rattle.std.specs.List.{AllByRecursion}
use Rattle.std.specs.Prelude.{◌==◌, ◌&&◌, ◌||◌, nat_le, IsTrue}
use Rattle.model.specs.History.{Record}
use Rattle.model.specs.Map.{KeyMap, KeyWrite}
use Rattle.versions.specs.Chains.{ChainsValue, IsPrepared}
use Rattle.versions.specs.Meaning.{is_among}
use Rattle.versions.specs.StandsFor.{AreHeldWhereKnown, StandsFor as VersionsStandFor}
use Rattle.snapshot.specs.View.{View}
use Rattle.pivot_check.specs.FewKept.{KeepsLittle}
use Rattle.pivot_check.specs.Kept.{CommittedValue, Facts, IsInReach, KeepsReach, asked_from, may_ask}
use Rattle.pivot_check.specs.StandsFor.{StandsFor as CommittedStandsFor, IsRecordOf}
use Rattle.engine.specs.HistoryValue.{HistoryValue, Joins, LeavesLittle}

-- little is kept where it was before the record was noted
little_joined : (bs : List ℕ) (old noted new : CommittedValue) → KeepsReach old.facts noted.facts → (KeepsLittle old → KeepsLittle noted)
    → (AllByRecursion (λ b. may_ask noted.facts.reach b ≡ true) bs → KeepsLittle noted → KeepsLittle new)
    → AllByRecursion (λ b. may_ask old.facts.reach b ≡ true) bs → KeepsLittle old → KeepsLittle new
little_joined bs old noted new keeps notes keep ask little =
    keep (subst (λ reach. AllByRecursion (λ b. may_ask reach b ≡ true) bs) (sym keeps.reach) ask) (notes little)

next_joined : (bs : List ℕ) (old new : HistoryValue) (t : View) (ws : List KeyWrite) (n : ℕ) (noted : Facts) → n ≡ old.committed.facts.last + 1
    → ws ≡ t.writes → KeepsReach old.committed.facts noted → noted.last ≡ n → new.committed.facts ≡ asked_from bs noted
    → ((active : ℕ → Bool) (base : KeyMap) (history : List Record) (r : Record) → VersionsStandFor old.versions active base history → length history + 1 ≡ n
    → r.commit ≡ n → r.writes ≡ ws → VersionsStandFor new.versions (λ k. active k && is_among bs k) base (history ++ r ∷ []))
    → (IsInReach old.committed.facts t → (history : List Record) → CommittedStandsFor old.committed.facts history → (r : Record) → IsRecordOf t n r
    → CommittedStandsFor noted (history ++ r ∷ []))
    → (AllByRecursion (λ b. may_ask noted.reach b ≡ true) bs → (h : List Record) → CommittedStandsFor noted h → CommittedStandsFor new.committed.facts h)
    → LeavesLittle old new bs → Joins bs old new t
next_joined bs old new t ws n noted number same keeps last is adds notes keep little = record {
  oldest = ap (λ (f : Facts). f.oldest) is ∙ keeps.oldest;
  reach = grind (arith, is);
  little = little;
  stands = λ active base history r h ask reach own.
      let long = h.committed.last in
      let record_is : IsRecordOf t n r = subst (λ k. IsRecordOf t k r) (sym number) own in
      record {
        versions = adds active base history r h.versions (omega (arith, long, number)) record_is.commit (own.writes ∙ sym same);
        committed = keep (subst (λ reach. AllByRecursion (λ b. may_ask reach b ≡ true) bs) (sym keeps.reach) ask) (history ++ r ∷ [])
            (notes reach history h.committed r record_is);
      };
}

-- each number that is still active is held
held_still : (bs : List ℕ) (old new : ChainsValue) (active : ℕ → Bool) (base : KeyMap) (history : List Record) → AreHeldWhereKnown bs old new
    → VersionsStandFor old active base history → (n : ℕ) → IsTrue (active n && is_among bs n) → IsTrue (is_among new.held n)
held_still bs old new active base history held s n t =
    let p = and_parts (active n) (is_among bs n) t in held n p.1 (s.known n p.0)

-- fewer numbers are active
fewer : (bs : List ℕ) (v : ChainsValue) (active : ℕ → Bool) (base : KeyMap) (history : List Record)
    → ((active others : ℕ → Bool) (base : KeyMap) (history : List Record) → ((n : ℕ) → IsTrue (others n) → IsTrue (active n || nat_le v.last n))
    → VersionsStandFor v active base history → VersionsStandFor v others base history)
    → VersionsStandFor v active base history → VersionsStandFor v (λ n. active n && is_among bs n) base history
fewer bs v active base history law s =
    law active (λ n. active n && is_among bs n) base history
    (λ n t. or_left (active n) (nat_le v.last n) (and_parts (active n) (is_among bs n) t).0) s

-- what was made ready stays so
prepared_still : (v w : ChainsValue) (ws : List KeyWrite) → w ≡ record v { held = w.held } → IsPrepared v ws → IsPrepared w ws
prepared_still v w ws same p =
    subst (λ (u : ChainsValue). IsPrepared u ws) (sym same) (record { chains = p.chains; places = p.places; listed = p.listed; groups = p.groups })

-- a list that was found to be empty
empty_is : (xs : List KeyWrite) (n : ℕ) (b : Bool) → b ≡ (n == 0) → n ≡ length xs → b ≡ true → xs ≡ []
empty_is xs n b e long t = nil_from_length xs (grind (arith, nat_tests))

pub returns-then-not-is_empty-clause-joins : goal.returns-then-not-is_empty-clause-joins
returns-then-not-is_empty-clause-joins c =
    let bs = c.args.others.now in
    let held_now = c.keep_active-then-not-is_empty.new.self in
    let calls = c.keep_active-then-not-is_empty.ensures in
    let kept = calls.stands c.requires.few in
    let held = calls.held c.requires.few in
    let asked = ap (λ (v : CommittedValue). v.facts) c.keep_active.ensures.asked in
    let new : HistoryValue = record { versions = c.install.new.self; committed = c.keep_active.new.self } in
    subst (λ (v : HistoryValue). Joins bs v new c.args.transaction) c.self.view_is
    (next_joined bs _ _ c.args.transaction c.into_writes-writes.result.items (c.last-number.result + 1) c.note.new.self.facts
    (ap (λ n. n + 1) c.last-number.ensures) c.into_writes-writes.ensures.writes c.note.ensures.numbered.reach c.note.ensures.numbered.last asked
    (λ active base history r s long commit is. c.install.ensures.stands (λ n. active n && is_among bs n) base history r
    (kept active base history s) (held_still bs c.self.inside.versions held_now active base history held s) long commit is)
    c.note.ensures.stands_for
    c.keep_active.ensures.stands_for
    (little_joined bs c.self.inside.committed c.note.new.self c.keep_active.new.self c.note.ensures.numbered.reach c.note.ensures.little
    c.keep_active.ensures.little))

pub returns-else-not-is_empty-clause-joins : goal.returns-else-not-is_empty-clause-joins
returns-else-not-is_empty-clause-joins c =
    let bs = c.args.others.now in
    let writes = c.into_writes-writes.result in
    let none = empty_is writes.items writes.len c.is_empty.result c.is_empty.ensures writes.ok.0 c.if-not-is_empty.false in
    let asked = ap (λ (v : CommittedValue). v.facts) c.keep_active.ensures.asked in
    let new : HistoryValue = record { versions = c.self.inside.versions; committed = c.keep_active.new.self } in
    subst (λ (v : HistoryValue). Joins bs v new c.args.transaction) c.self.view_is
    (next_joined bs _ _ c.args.transaction c.into_writes-writes.result.items (c.last-number.result + 1) c.note.new.self.facts
    (ap (λ n. n + 1) c.last-number.ensures) c.into_writes-writes.ensures.writes c.note.ensures.numbered.reach c.note.ensures.numbered.last asked
    (λ active base history r s long commit is. c.law_read_only_record_follows.ensures c.self.inside.versions (λ n. active n && is_among bs n) base history r
    (is ∙ none) (fewer bs c.self.inside.versions active base history (c.law_numbers_change.ensures c.self.inside.versions) s))
    c.note.ensures.stands_for
    c.keep_active.ensures.stands_for
    (little_joined bs c.self.inside.committed c.note.new.self c.keep_active.new.self c.note.ensures.numbered.reach c.note.ensures.little
    c.keep_active.ensures.little))
