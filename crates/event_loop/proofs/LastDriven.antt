-- The entry that is driven last: the places of the entries in the order of the drives.
use Rattle.std.proofs.Common.{◌≡◌, ◌≢◌, ◌⊎◌, inl, inr, ℕ, ◌<◌, ◌∷◌, [], length, Some, None, refl, sym, ap, subst, ◌∙◌}
use Rattle.std.proofs.Common.{arith}
use Rattle.std.proofs.Math.ListN.{get_or-append, get_or-eq_default}
use Rattle.std.proofs.lemmas.Bool.{cases_eq, cases_lt}
use Rattle.std.proofs.lemmas.List.{get_or-set_other, get_or-set_same, get_or_push, length-append, length-set}
use Rattle.stream_driver.proofs.Turns.{driven_length}
use Rattle.stream_driver.specs.Entries.{DrivenThen, all_but, with_last}
use Rattle.stream_driver.specs.Sessions.{Point}
use Rattle.stream_driver.specs.Traffic.{Traffic}
use Rattle.stream_driver.specs.declared.entries.Entry.{Entry}
use Rattle.event_loop.proofs.Slots.{Slots}
use Rattle.event_loop.specs.Tables.{slot_at}

-- where the entry at a key stands: that of the last behind the others, of which there are so many
abbrev pub IsPlaced : ℕ → ℕ → ℕ → ℕ → Type 0
IsPlaced last len key place = ((key ≡ last) × (place ≡ len)) ⊎ ((key ≢ last) × (key < len) × (place ≡ key))

pub same_place : (last len key place other : ℕ) → IsPlaced last len key place → IsPlaced last len key other → place ≡ other
same_place last len key place other (inl x) (inl y) = x.1 ∙ sym y.1
same_place last len key place other (inl x) (inr y) = absurd (y.0 x.0)
same_place last len key place other (inr x) (inl y) = absurd (x.0 y.0)
same_place last len key place other (inr x) (inr y) = x.2 ∙ sym y.2

module _ {T : Type 0} where
  has_place : (slots : Slots T) (key : ℕ) (entry : Entry T) → slot_at slots key ≡ Some entry → key < length slots
  has_place slots key entry e = elim (cases_lt key (length slots)) [
    | inl lt ↦ lt
    | inr ge ↦ absurd (let bad : None ≡ Some entry = sym (get_or-eq_default slots None ge) ∙ e in cc)
  ]

  -- each has one place
  pub place_of : (last : ℕ) (slots : Slots T) (key : ℕ) (entry : Entry T) → slot_at slots key ≡ Some entry
      → (place : ℕ) × IsPlaced last (length slots) key place
  place_of last slots key entry e = elim (cases_eq key last) [
    | inl same ↦ (length slots, inl (same, refl))
    | inr differs ↦ (key, inr (differs, has_place slots key entry e, refl))
  ]

  -- at which it stands
  pub slot_placed : (last : ℕ) (slots : Slots T) (key place : ℕ) → IsPlaced last (length slots) key place
      → slot_at (with_last last slots) place ≡ slot_at slots key
  slot_placed last slots key place (inl (same, at)) =
      get_or_push (all_but last slots) (slot_at slots last) None place (length-set slots last None ∙ sym at) ∙ ap (slot_at slots) (sym same)
  slot_placed last slots key place (inr (differs, lt, at)) =
      ap (slot_at (with_last last slots)) at
      ∙ get_or-append (all_but last slots) (slot_at slots last ∷ []) None key (let len = length-set slots last None in omega (arith, lt, len))
      ∙ get_or-set_other slots last key None None differs

  -- and at each place stands one
  pub key_of : (last : ℕ) (slots : Slots T) (place : ℕ) (entry : Entry T) → slot_at (with_last last slots) place ≡ Some entry
      → (key : ℕ) × IsPlaced last (length slots) key place
  key_of last slots place entry e =
      let len = length-set slots last None in
      elim (cases_lt place (length slots)) [
        | inl lt ↦
            let others : slot_at (all_but last slots) place ≡ Some entry =
            sym (get_or-append (all_but last slots) (slot_at slots last ∷ []) None place (omega (arith, lt, len))) ∙ e in
            elim (cases_eq place last) [
              | inl same ↦ absurd (
                  let none : slot_at (all_but last slots) place ≡ None =
                  ap (slot_at (all_but last slots)) same ∙ get_or-set_same slots last None None (subst (λ k. k < length slots) same lt) in
                  let bad : None ≡ Some entry = sym none ∙ others in
                  cc
                  )
              | inr differs ↦ (place, inr (differs, lt, refl))
            ]
        | inr ge ↦
            let all = length-append (all_but last slots) (slot_at slots last ∷ []) in
            let within = has_place (with_last last slots) place entry e in
            (last, inl (refl, omega (arith, ge, all, len, within)))
      ]

  -- what holds of each entry
  pub in_order : (P : Entry T → Type 0) (last : ℕ) (slots : Slots T) → ((key : ℕ) (entry : Entry T) → slot_at slots key ≡ Some entry → P entry)
      → (place : ℕ) (entry : Entry T) → slot_at (with_last last slots) place ≡ Some entry → P entry
  in_order P last slots all place entry e =
      let k = key_of last slots place entry e in
      all k.0 entry (sym (slot_placed last slots k.0 place k.1) ∙ e)

  pub by_key : (P : Entry T → Type 0) (last : ℕ) (slots : Slots T)
      → ((place : ℕ) (entry : Entry T) → slot_at (with_last last slots) place ≡ Some entry → P entry)
      → (key : ℕ) (entry : Entry T) → slot_at slots key ≡ Some entry → P entry
  by_key P last slots all key entry e =
      let p = place_of last slots key entry e in
      all p.0 entry (slot_placed last slots key p.0 p.1 ∙ e)

  -- what only an entry at that key has
  pub own_place : (P : Entry T → Type 0) (last : ℕ) (slots : Slots T) (key place : ℕ) → IsPlaced last (length slots) key place
      → ((other : ℕ) (another : Entry T) → slot_at slots other ≡ Some another → P another → key ≡ other)
      → (other : ℕ) (another : Entry T) → slot_at (with_last last slots) other ≡ Some another → P another → place ≡ other
  own_place P last slots key place at own other another e p =
      let k = key_of last slots other another e in
      let same : key ≡ k.0 = own k.0 another (sym (slot_placed last slots k.0 other k.1) ∙ e) p in
      same_place last (length slots) key place other at (subst (λ n. IsPlaced last (length slots) n other) (sym same) k.1)

  module _ (reports : Type 0) (traffic : T → Traffic) where
    pub then_length : (last : ℕ) (earlier : Point) (slots : Slots T) (later : Point) (new : Slots T) → DrivenThen reports traffic last earlier slots later new
        → length new ≡ length slots
    then_length last earlier slots later new d =
        let all = driven_length reports traffic earlier (with_last last slots) later (with_last last new) d in
        let old_len = length-append (all_but last slots) (slot_at slots last ∷ []) in
        let new_len = length-append (all_but last new) (slot_at new last ∷ []) in
        let old_others = length-set slots last None in
        let new_others = length-set new last None in
        omega (arith, all, old_len, new_len, old_others, new_others)
