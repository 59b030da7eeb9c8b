-- Why a stream that blocked did so, and that its notes of short reads stay sound.
use Rattle.std.proofs.Common.{◌≡◌, ◌≢◌, ◌⊎◌, ◌↔◌, ◌+◌, ◌<◌, ◌≤◌, inl, inr, ℕ, true, false, List, [], length, set}
use Rattle.std.proofs.Common.{get_or, Option, Some, None, refl, sym, ap, subst, ◌∙◌, arith}
use Rattle.std.proofs.lemmas.Bool.{cases_eq}
use Rattle.std.proofs.lemmas.Grind.{common_steps}
use Rattle.std.proofs.lemmas.List.{get_or-set_other, length-set, set_comm}
use Rattle.model.proofs.Lookups.{some_same}
use Rattle.stream_driver.proofs.OneEntry.{below, get_set}
use Rattle.stream_driver.specs.Buffers.{ShortAfter, WhyTook, buffered_in}
use Rattle.stream_driver.specs.Entries.{all_but}
use Rattle.stream_driver.specs.Traffic.{Traffic}
use Rattle.stream_driver.specs.Types.{BufferedStream, Call, Entry, Read, ReadAnswer, Moved, Blocked, Failed}
use Rattle.stream_driver.specs.Types.{Ended, CallCounts, WriteAnswer, Wrote, WriteBlocked, WriteFailed}
use Rattle.stream_driver.specs.Waits.{ComesShort, EachEntry, HasSoundNotes, StaysSound, SaysWhyBlocked, WhyBlocked}
use Rattle.stream_driver.specs.Waits.{WhyReadBlocked, WhyWriteBlocked}

-- several calls, of which the last may have blocked
module _ {T : Type 0} (is_sound waits : T → Type 0) {blocked : Type 0} (old mid new : T) where
  pub stays_last : {before : Type 0} → (is_sound old → is_sound mid) → StaysSound is_sound waits before mid new → (blocked → before)
      → StaysSound is_sound waits blocked old new
  stays_last so_far last then = record { sound = λ s. last.sound (so_far s); why = λ s b. last.why (so_far s) (then b) }

  pub stays_still : (is_sound old → is_sound new) → (blocked → ⊥) → StaysSound is_sound waits blocked old new
  stays_still so_far not = record { sound = so_far; why = λ s b. absurd (not b) }

-- ---- a walk over a table

module _ {T : Type 0} (P : Entry T → Entry T → Type 0) where
  -- so it is of the entries below a key
  abbrev pub EntriesBelow : ℕ → List (Option (Entry T)) → List (Option (Entry T)) → Type 0
  EntriesBelow key slots new =
      (other : ℕ) (was entry : Entry T) → other < key → get_or slots other None ≡ Some was → get_or new other None ≡ Some entry → P was entry

  module _ (key : ℕ) (slots new : List (Option (Entry T))) (so_far : EntriesBelow key slots new) where
    pub below_driven : (old entry : Entry T) → get_or slots key None ≡ Some old → key < length new → P old entry
        → EntriesBelow (key + 1) slots (set new key (Some entry))
    below_driven old entry is lt since = λ other was now below e d. elim (get_set new key other entry now lt d) [
      | inl (same, which) ↦
          let which_was : was ≡ old = some_same (sym e ∙ ap (λ k. get_or slots k None) same ∙ is) in
          subst (λ (x : Entry T). P was x) (sym which) (subst (λ (x : Entry T). P x entry) (sym which_was) since)
      | inr (differs, there) ↦ so_far other was now (omega (arith, below, differs)) e there
    ]

    pub below_vacant : get_or new key None ≡ None → EntriesBelow (key + 1) slots new
    below_vacant none = λ other was now below e d. elim (cases_eq other key) [
      | inl same ↦ absurd (let bad : None ≡ Some now = sym none ∙ ap (λ k. get_or new k None) (sym same) ∙ d in cc)
      | inr differs ↦ so_far other was now (omega (arith, below, differs)) e d
    ]

  pub below_all : (key : ℕ) (slots new : List (Option (Entry T))) → length slots ≤ key → EntriesBelow key slots new → EachEntry P slots new
  below_all key slots new le so_far = λ other was now e d. so_far other was now (let lt = below slots other was e in omega arith) e d

  -- one more of those that aren't last
  pub below_others : (last key : ℕ) (slots new : List (Option (Entry T))) → EntriesBelow key (all_but last slots) (all_but last new) → (old entry : Entry T)
      → key ≢ last → get_or slots key None ≡ Some old → key < length new → P old entry
      → EntriesBelow (key + 1) (all_but last slots) (all_but last (set new key (Some entry)))
  below_others last key slots new so_far old entry differs is lt since =
      subst (λ (ys : List (Option (Entry T))). EntriesBelow (key + 1) (all_but last slots) ys) (set_comm new last key None (Some entry) (λ e. differs (sym e)))
      (below_driven key (all_but last slots) (all_but last new) so_far old entry (get_or-set_other slots last key None None differs ∙ is)
      (rw (length-set new last None) lt) since)

  -- and the last
  pub each_and_last : (last : ℕ) (slots new : List (Option (Entry T))) → EachEntry P (all_but last slots) (all_but last new)
      → ((was entry : Entry T) → get_or slots last None ≡ Some was → get_or new last None ≡ Some entry → P was entry) → EachEntry P slots new
  each_and_last last slots new others this = λ key was now e d. elim (cases_eq key last) [
    | inl same ↦ this was now (ap (λ k. get_or slots k None) (sym same) ∙ e) (ap (λ k. get_or new k None) (sym same) ∙ d)
    | inr differs ↦ others key was now (get_or-set_other slots last key None None differs ∙ e) (get_or-set_other new last key None None differs ∙ d)
  ]

-- ---- a stream that buffers

-- calls one after another left whether a read came short
pub short_then : {P Q R : Type 0} → P ↔ Q → Q ↔ R → P ↔ R
short_then p q = (λ x. q.0 (p.0 x), λ x. p.1 (q.1 x))

module _ {T : Type 0} (short : T → Type 0) where
  -- a read that moved nothing leaves whether one came short
  pub comes_not : (old new : T) (len : ℕ) (answer : ReadAnswer) → ((n : ℕ) → answer ≢ Moved n) → ComesShort short old len answer new → short old ↔ short new
  comes_not old new len (Moved n) differs comes = absurd (differs n refl)
  comes_not old new len Blocked differs comes = comes
  comes_not old new len Failed differs comes = comes
  comes_not old new len Ended differs comes = comes

  -- so it is after calls that left whether one came short
  pub comes_since : (old mid new : BufferedStream T) (len : ℕ) (answer : ReadAnswer) → ((n : ℕ) → answer ≢ Moved n) → (short old.inner ↔ short mid.inner)
      → ComesShort short mid.inner len answer new.inner → ComesShort (λ (b : BufferedStream T). short b.inner) old len answer new
  comes_since old mid new len (Moved n) differs since comes = absurd (differs n refl)
  comes_since old mid new len Blocked differs since comes = short_then since comes
  comes_since old mid new len Failed differs since comes = short_then since comes
  comes_since old mid new len Ended differs since comes = short_then since comes

  -- and once the call was counted
  pub comes_counted : (old mid : BufferedStream T) (counts : CallCounts) (len : ℕ) (answer : ReadAnswer)
      → ComesShort (λ (b : BufferedStream T). short b.inner) old len answer mid
      → ComesShort (λ (b : BufferedStream T). short b.inner) old len answer (record mid { counts = counts })
  comes_counted old mid counts len (Moved n) comes = comes
  comes_counted old mid counts len Blocked comes = comes
  comes_counted old mid counts len Failed comes = comes
  comes_counted old mid counts len Ended comes = comes

  -- calls that kept the notes
  pub sound_kept : (old new : BufferedStream T) → (short old.inner → short new.inner) → new.is_short ≡ old.is_short → new.is_drained ≡ old.is_drained
      → new.reads_on ≡ old.reads_on → HasSoundNotes short old → HasSoundNotes short new
  sound_kept old new inner shorter drained on sound = record {
    short = λ e. (let was = sound.short (sym shorter ∙ e) in (inner was.0, on ∙ was.1));
    drained = λ e. (let was = sound.drained (sym drained ∙ e) in (inner was.0, on ∙ was.1));
  }

  -- a read that moved bytes, where not all had been read
  pub sound_moved : (old new : BufferedStream T) (n len : ℕ) → (n < len → short new.inner) → ShortAfter old len (Moved n) new → new.is_drained ≡ false
      → new.reads_on ≡ old.reads_on → HasSoundNotes short new
  sound_moved old new n len comes after drained on = record {
    short = λ e. (let how = after.0 e in (comes how.0, on ∙ how.1));
    drained = λ e. absurd (grind (arith, common_steps));
  }

  -- a write, after which all was read if a read had come short
  pub sound_drained : (old new : BufferedStream T) → (short old.inner → short new.inner) → new.is_short ≡ old.is_short
      → (new.is_drained ≡ true → (old.is_drained ≡ true) ⊎ (old.is_short ≡ true)) → new.reads_on ≡ old.reads_on → HasSoundNotes short old
      → HasSoundNotes short new
  sound_drained old new inner shorter drained on sound = record {
    short = λ e. (let was = sound.short (sym shorter ∙ e) in (inner was.0, on ∙ was.1));
    drained = λ e. elim (drained e) [
      | inl e ↦ (let was = sound.drained e in (inner was.0, on ∙ was.1))
      | inr e ↦ (let was = sound.short e in (inner was.0, on ∙ was.1))
    ];
  }

  module _ (traffic : T → Traffic) where
    -- the inner stream was read, once nothing was buffered
    pub why_read : (b : BufferedStream T) (answer : ReadAnswer) → buffered_in b.buffered ≡ [] → (traffic b.inner).last ≡ Some (Read answer)
        → WhyReadBlocked short traffic answer b
    why_read b (Moved n) none last = tt
    why_read b Blocked none last = inr (inr (none, inl last))
    why_read b Failed none last = tt
    why_read b Ended none last = tt

    -- a write was asked for, and where it blocked no share was taken
    pub why_wrote : (old mid b : BufferedStream T) (answer : WriteAnswer) → WhyTook traffic old answer mid → (answer ≡ WriteBlocked → b.share ≡ old.share)
        → b.inner ≡ mid.inner → WhyWriteBlocked short traffic answer b
    why_wrote old mid b (Wrote n) why share inner = tt
    why_wrote old mid b WriteFailed why share inner = tt
    why_wrote old mid b WriteBlocked (inl pauses) share inner = inl (share refl ∙ pauses.0.none_left)
    why_wrote old mid b WriteBlocked (inr (inl stops)) share inner = absurd (grind (arith, common_steps))
    why_wrote old mid b WriteBlocked (inr (inr goes)) share inner = inr (ap (λ (i : T). (traffic i).last) inner ∙ goes.1.1)

    -- the last call is the one that was noted
    pub waits_as : (b : BufferedStream T) (call : Call) → b.counts.last ≡ Some call → WhyBlocked short traffic call b → SaysWhyBlocked short traffic b
    waits_as b call last why = λ other is. subst (λ c. WhyBlocked short traffic c b) (some_same (sym last ∙ is)) why

    why_counted : (b : BufferedStream T) (counts : CallCounts) (answer : ReadAnswer) → WhyReadBlocked short traffic answer b
        → WhyReadBlocked short traffic answer (record b { counts = counts })
    why_counted b counts (Moved n) why = tt
    why_counted b counts Blocked why = why
    why_counted b counts Failed why = tt
    why_counted b counts Ended why = tt

    pub waits_counted : (b : BufferedStream T) (counts : CallCounts) (answer : ReadAnswer) → counts.last ≡ Some (Read answer)
        → WhyReadBlocked short traffic answer b → SaysWhyBlocked short traffic (record b { counts = counts })
    waits_counted b counts answer last why = waits_as (record b { counts = counts }) (Read answer) last (why_counted b counts answer why)
