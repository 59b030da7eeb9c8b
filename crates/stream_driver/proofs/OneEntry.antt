-- One entry of a table, before its drive and after it.
use Rattle.std.proofs.Common.{◌≡◌, ◌≢◌, ◌⊎◌, inl, inr, ℕ, ◌<◌, List, length, set, get_or, refl, sym, ap, subst, ◌∙◌}
use Rattle.std.proofs.Common.{Option, Some, None}
use Rattle.std.proofs.Math.ListN.{get_or-eq_default}
use Rattle.std.proofs.lemmas.Bool.{cases_lt, cases_eq}
use Rattle.std.proofs.lemmas.List.{get_or-set_same, get_or-set_other}
use Rattle.model.proofs.Lookups.{some_same}
use Rattle.sessions.specs.SessionStreams.{stream_of}
use Rattle.stream_driver.proofs.Events.{leaves_others}
use Rattle.stream_driver.specs.Drives.{LeavesIfGone}
use Rattle.stream_driver.specs.Entries.{DrivenIn, entry_state_after}
use Rattle.stream_driver.specs.Sessions.{Point, IsPresentIn}
use Rattle.stream_driver.specs.Traffic.{Traffic}
use Rattle.stream_driver.specs.Types.{Progress, Gone, EntryState, Idle, Ready, EntryGone, Entry}

pub ends_other : (s : ℕ) (last new : Point) (answer : Progress) (t : ℕ) → t ≢ s → LeavesIfGone s last new answer → stream_of new.hub t ≡ stream_of last.hub t
ends_other s last new Gone t d e = ap (λ h. stream_of h t) e.adds.run_is ∙ leaves_others last.hub s e.choice t d
ends_other s last new _ t d e = ap (λ p. stream_of p.hub t) e

-- a session that wasn't to leave is where its run led
pub ends_last : (s : ℕ) (last new : Point) (answer : Progress) → answer ≢ Gone → LeavesIfGone s last new answer → new ≡ last
ends_last s last new Gone differs e = absurd (differs refl)
ends_last s last new _ differs e = e

module _ {T : Type 0} (reports : Type 0) (traffic : T → Traffic) where
  pub entry_present : (state : EntryState) (earlier : Point) (old : Entry T) (later : Point) (new : Entry T) → old.state ≡ state
      → DrivenIn reports traffic state earlier old later new → new.state ≢ EntryGone
      → IsPresentIn earlier.hub old.session → IsPresentIn later.hub new.session
  entry_present Ready earlier old later new is d alive p =
      let going : d.answer ≢ Gone = λ gone. alive (d.state ∙ ap entry_state_after gone) in
      let last = ends_last old.session d.drove.last later d.answer going d.drove.ends in
      rw d.session (subst (λ v. IsPresentIn v.hub old.session) (sym last) d.drove.carried.runs.present)
  entry_present Idle earlier old later new is d alive p = rw (d.0, d.1) p
  entry_present EntryGone earlier old later new is d alive p = absurd (alive (rw d.0 is))

  -- each other session is as it was
  pub entry_other : (state : EntryState) (earlier : Point) (old : Entry T) (later : Point) (new : Entry T) → old.state ≡ state
      → DrivenIn reports traffic state earlier old later new
      → (t : ℕ) → (old.state ≢ EntryGone → t ≢ old.session) → stream_of later.hub t ≡ stream_of earlier.hub t
  entry_other Ready earlier old later new is d t differs =
      let apart : t ≢ old.session = differs (λ gone. cc) in
      ends_other old.session d.drove.last later d.answer t apart d.drove.ends ∙ d.drove.carried.runs.others t apart
  entry_other _ earlier old later new is d t differs = rw d.1 refl

module _ {T : Type 0} where
  pub get_set : (slots : List (Option (Entry T))) (key other : ℕ) (new : Entry T) (another : Entry T) → key < length slots
      → get_or (set slots key (Some new)) other None ≡ Some another
      → ((other ≡ key) × (another ≡ new)) ⊎ ((other ≢ key) × (get_or slots other None ≡ Some another))
  get_set slots key other new another lt e = elim (cases_eq other key) [
    | inl same ↦ inl (same, some_same (sym e ∙ ap (λ (k : ℕ). get_or (set slots key (Some new)) k None) same ∙ get_or-set_same slots key (Some new) None lt))
    | inr differs ↦ inr (differs, sym (get_or-set_other slots key other (Some new) None differs) ∙ e)
  ]

  pub below : (slots : List (Option (Entry T))) (key : ℕ) (old : Entry T) → get_or slots key None ≡ Some old → key < length slots
  below slots key old e = elim (cases_lt key (length slots)) [
    | inl lt ↦ lt
    | inr ge ↦ absurd (let bad : None ≡ Some old = sym (get_or-eq_default slots None ge) ∙ e in cc)
  ]
