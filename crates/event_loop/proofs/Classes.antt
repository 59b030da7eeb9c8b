-- What the entries of a table are to a turn.
use Rattle.std.proofs.Common.{◌≡◌, ◌∙◌, ℕ, ◌<◌, ◌≤◌, ◌+◌, ◌==◌, Bool, true, false, cond, not, length, List, [], ◌∷◌}
use Rattle.std.proofs.Common.{◌++◌, Option, Some, None, inl, inr, refl, sym, ap, arith}
use Rattle.std.proofs.Math.ListN.{get_or-eq_default}
use Rattle.std.proofs.lemmas.Bool.{cases_Bool, cases_eq}
use Rattle.std.proofs.lemmas.Bool.Decides.{nat_tests}
use Rattle.std.proofs.lemmas.List.{get_or_append_left, get_or_push, length_push}
use Rattle.std.specs.Prelude.{nat_lt, slice_index_or, ◌&&◌, ◌||◌}
use Rattle.sector.specs.declared.device.Sectors.{Ghosts}
use Rattle.sessions.specs.declared.hub.Hub.{Hub}
use Rattle.stream_driver.specs.Buffers.{is_heavy, is_late}
use Rattle.stream_driver.specs.declared.buffered.BufferedStream.{BufferedStream}
use Rattle.stream_driver.specs.declared.entries.Entry.{Entry}
use Rattle.stream_driver.specs.declared.entries.EntryState.TheVariants.{Ready}
use Rattle.event_loop.proofs.Slots.{Slots}
use Rattle.event_loop.specs.Order.{AreClasses, class_in, class_of, is_class_of, is_late_class, is_late_entry}
use Rattle.event_loop.specs.Order.{is_light, is_of_kind, is_writer, late_in, light_in, waits_as}
use Rattle.event_loop.specs.Tables.{is_ready, slot_at}
use Rattle.event_loop.specs.declared.order.Class.{Class}
use Rattle.event_loop.specs.declared.order.Class.TheVariants.{Heavy, Late, Light, Writing}
use Rattle.event_loop.specs.declared.order.Kind.{Kind}
use Rattle.event_loop.specs.declared.order.Kind.TheVariants.{Any, Reader, Writer}

-- one that takes no turns is of no kind
pub of_no_kind : (kind : Kind) → is_class_of kind Light ≡ false
of_no_kind Any = refl
of_no_kind Writer = refl
of_no_kind Reader = refl

-- a stream that is late is heavy
late_is_heavy : (turns : ℕ) → (turns == 1) ≡ true → nat_lt 0 turns ≡ true
late_is_heavy turns late = grind (arith, nat_tests)

-- of one that writes or doesn't, and whose stream is late, and so heavy, or isn't
abbrev class_by : (writes late heavy : Bool) → Class
class_by writes late heavy = cond writes Writing (cond late Late (cond heavy Heavy Light))

any_kind : (writes late heavy : Bool) → (late ≡ true → heavy ≡ true) → is_class_of Any (class_by writes late heavy) ≡ writes || heavy
any_kind true late heavy is = refl
any_kind false true heavy is = sym (is refl)
any_kind false false true is = refl
any_kind false false false is = refl

writer_kind : (writes late heavy : Bool) → is_class_of Writer (class_by writes late heavy) ≡ writes
writer_kind true late heavy = refl
writer_kind false true heavy = refl
writer_kind false false true = refl
writer_kind false false false = refl

reader_kind : (writes late heavy : Bool) → (late ≡ true → heavy ≡ true) → is_class_of Reader (class_by writes late heavy) ≡ not writes && heavy
reader_kind true late heavy is = refl
reader_kind false true heavy is = sym (is refl)
reader_kind false false true is = refl
reader_kind false false false is = refl

late_class : (writes late heavy : Bool) → is_late_class (class_by writes late heavy) ≡ not writes && late
late_class true late heavy = refl
late_class false true heavy = refl
late_class false false true = refl
late_class false false false = refl

-- one that isn't to be driven is of no kind
unless_driven : (driven : Bool) (kind : Kind) (class : Class) (is : Bool) → is_class_of kind class ≡ is
    → is_class_of kind (cond driven class Light) ≡ driven && is
unless_driven true kind class is same = same
unless_driven false kind class is same = of_no_kind kind

-- and of one that is to be driven, what holds of its class
where_driven : (driven : Bool) → driven ≡ true → (holds : Class → Bool) (class : Class) (is : Bool) → holds class ≡ is
    → holds (cond driven class Light) ≡ driven && is
where_driven true driven holds class is same = same
where_driven false driven holds class is same = absurd (let bad : false ≡ true = driven in cc)

module _ {T D : Type 0} {g : Ghosts D} (hub : Hub D g) where
  pub class_kind : (kind : Kind) (entry : Entry (BufferedStream T)) → is_class_of kind (class_of hub entry) ≡ is_of_kind hub kind entry
  class_kind Any entry =
      any_kind (is_writer hub entry) (is_late entry.stream) (is_heavy entry.stream) (late_is_heavy entry.stream.heavy_for)
  class_kind Writer entry = writer_kind (is_writer hub entry) (is_late entry.stream) (is_heavy entry.stream)
  class_kind Reader entry =
      reader_kind (is_writer hub entry) (is_late entry.stream) (is_heavy entry.stream) (late_is_heavy entry.stream.heavy_for)

  pub class_late : (entry : Entry (BufferedStream T)) → is_late_class (class_of hub entry) ≡ is_late_entry hub entry
  class_late entry = late_class (is_writer hub entry) (is_late entry.stream) (is_heavy entry.stream)

  pub class_waits : (kind : Kind) (slot : Option (Entry (BufferedStream T))) → is_class_of kind (class_in hub slot) ≡ waits_as hub kind slot
  class_waits kind None = of_no_kind kind
  class_waits kind (Some entry) =
      unless_driven (is_ready entry.state) kind (class_of hub entry) (is_of_kind hub kind entry) (class_kind kind entry)

  -- so it is at each key
  pub classes_wait : (slots : ℕ → Option (Entry (BufferedStream T))) (classes : List Class) → AreClasses hub slots classes → (kind : Kind) (key : ℕ)
      → is_class_of kind (slice_index_or classes key Light) ≡ waits_as hub kind (slots key)
  classes_wait slots classes are kind key = ap (is_class_of kind) (are key) ∙ class_waits kind (slots key)

  -- the classes of the entries below a key
  pub record ClassesBelow (slots : Slots (BufferedStream T)) (count : ℕ) (classes : List Class) : Type 0 where
    pub many : length classes ≡ count
    pub each : (key : ℕ) → key < count → slice_index_or classes key Light ≡ class_in hub (slot_at slots key)

  pub classes_more : (slots : Slots (BufferedStream T)) (count : ℕ) (classes : List Class) → ClassesBelow slots count classes → (class : Class)
      → class ≡ class_in hub (slot_at slots count) → ClassesBelow slots (count + 1) (classes ++ class ∷ [])
  classes_more slots count classes below class is = record {
    many = omega (arith, length_push classes class, below.many);
    each = λ key before. elim (cases_eq key count) [
      | inl same ↦
          get_or_push classes class Light key (below.many ∙ sym same) ∙ is ∙ ap (λ k. class_in hub (slot_at slots k)) (sym same)
      | inr other ↦
          get_or_append_left classes (class ∷ []) Light key (omega (arith, below.many, before, other)) ∙ below.each key (omega (arith, before, other))
    ];
  }

  -- and those of all, where nothing stands from there on
  pub classes_all : (slots : Slots (BufferedStream T)) (count : ℕ) (classes : List Class) → ClassesBelow slots count classes
      → ((key : ℕ) → count ≤ key → slot_at slots key ≡ None) → AreClasses hub (slot_at slots) classes
  classes_all slots count classes below beyond key = elim (cases_Bool (nat_lt key count)) [
    | inl before ↦ below.each key (grind (arith, nat_tests))
    | inr behind ↦ (let far : count ≤ key = grind (arith, nat_tests) in
        get_or-eq_default classes Light (omega (arith, below.many, far)) ∙ sym (ap (class_in hub) (beyond key far)))
  ]

  -- of one that is to be driven
  pub writes_as : (class : Class) (entry : Entry (BufferedStream T)) → entry.state ≡ Ready → class ≡ class_in hub (Some entry)
      → is_class_of Writer class ≡ is_writer hub entry
  writes_as class entry ready is =
      ap (is_class_of Writer) is
      ∙ where_driven (is_ready entry.state) (ap is_ready ready) (is_class_of Writer) (class_of hub entry) (is_writer hub entry) (class_kind Writer entry)
      ∙ ap (λ s. is_ready s && is_writer hub entry) ready

  pub light_as : (class : Class) (entry : Entry (BufferedStream T)) → entry.state ≡ Ready → class ≡ class_in hub (Some entry)
      → not (is_class_of Any class) ≡ light_in hub (Some entry)
  light_as class entry ready is =
      ap (λ c. not (is_class_of Any c)) is
      ∙ where_driven (is_ready entry.state) (ap is_ready ready) (λ c. not (is_class_of Any c)) (class_of hub entry) (is_light hub entry)
      (ap not (class_kind Any entry))

  pub late_as : (class : Class) (entry : Entry (BufferedStream T)) → entry.state ≡ Ready → class ≡ class_in hub (Some entry)
      → is_late_class class ≡ late_in hub (Some entry)
  late_as class entry ready is =
      ap is_late_class is
      ∙ where_driven (is_ready entry.state) (ap is_ready ready) is_late_class (class_of hub entry) (is_late_entry hub entry) (class_late entry)
