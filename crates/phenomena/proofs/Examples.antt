-- Worked examples: which keys a transaction reads, and a pair of transactions for each kind of dependency.
use Rattle.std.proofs.Common.{◌≡◌, true, false, [], ◌∷◌, Some, None, refl, arith, inl, inr, codes}
use Rattle.std.proofs.lemmas.Bool.{true≢false}
use Rattle.model.proofs.Members.{Contains-from_in}
use Rattle.model.specs.History.{Record, record_of}
use Rattle.model.specs.Operations.Operation.{Get, Set, Del, Range}
use Rattle.model.specs.Operations.Response.{Done, Value, Pairs, Refused}
use Rattle.model.specs.declared.refusals.Refusal.TheVariants.{FullWrites}
use Rattle.phenomena.specs.Adya.{AreTwo, ItemAntiDepends, ItemReadDepends, PredicateAntiDepends, PredicateReadDepends}
use Rattle.phenomena.specs.Adya.{WriteDepends, reads_version}

-- ---- reads

a_get_reads_an_absent_key : reads_version (codes "k") (Get (codes "k") ∷ []) (Value None ∷ []) ≡ true
a_get_reads_an_absent_key = refl

an_own_write_is_not_read : reads_version (codes "k") (Set (codes "k") (codes "1") ∷ Get (codes "k") ∷ []) (Done ∷ Value (Some (codes "1")) ∷ []) ≡ false
an_own_write_is_not_read = refl

a_refused_write_is_none : reads_version (codes "k") (Set (codes "k") (codes "1") ∷ Get (codes "k") ∷ []) (Refused FullWrites ∷ Value None ∷ []) ≡ true
a_refused_write_is_none = refl

a_range_reads_an_absent_key : reads_version (codes "b") (Range (codes "a") (Some (codes "c")) 2 ∷ []) (Pairs ((codes "a", codes "1") ∷ []) ∷ []) ≡ true
a_range_reads_an_absent_key = refl

a_page_ends_at_its_last_pair : reads_version (codes "b") (Range (codes "a") (Some (codes "c")) 1 ∷ []) (Pairs ((codes "a", codes "1") ∷ []) ∷ []) ≡ false
a_page_ends_at_its_last_pair = refl

-- ---- dependencies on the first to commit, which sets the only key

abbrev first : Record
first = record_of 0 1 [] (Set (codes "k") (codes "1") ∷ []) (Done ∷ [])

-- one that deletes the key, one that reads it, and one that began before the first had committed and reads it
abbrev deletes : Record
deletes = record_of 1 2 ((codes "k", codes "1") ∷ []) (Del (codes "k") ∷ []) (Done ∷ [])

abbrev gets : Record
gets = record_of 1 2 ((codes "k", codes "1") ∷ []) (Get (codes "k") ∷ []) (Value (Some (codes "1")) ∷ [])

abbrev ranges : Record
ranges = record_of 0 2 [] (Range (codes "a") None 1 ∷ []) (Pairs [] ∷ [])

two : (a b : Record) → a.commit ≡ 1 → b.commit ≡ 2 → AreTwo (a ∷ b ∷ []) a b
two a b p q = record {
  first = Contains-from_in (a ∷ b ∷ []) a (inl refl);
  second = Contains-from_in (a ∷ b ∷ []) b (inr (inl refl));
  differ = λ e. omega arith;
}

turned : (a b : Record) → a.commit ≡ 1 → b.commit ≡ 2 → AreTwo (a ∷ b ∷ []) b a
turned a b p q = record {
  first = Contains-from_in (a ∷ b ∷ []) b (inr (inl refl));
  second = Contains-from_in (a ∷ b ∷ []) a (inl refl);
  differ = λ e. omega arith;
}

write_depends : WriteDepends (first ∷ deletes ∷ []) first deletes
write_depends = (two first deletes refl refl, (codes "k", refl, record { installs = refl; after = omega arith; first = λ r _ _ less. omega arith }))

item_read_depends : ItemReadDepends (first ∷ gets ∷ []) first gets
item_read_depends = (two first gets refl refl, (codes "k", refl, record { installs = refl; before = omega arith; last = λ r _ _ le. le }))

predicate_read_depends : PredicateReadDepends [] (first ∷ gets ∷ []) first gets
predicate_read_depends = (two first gets refl refl, (codes "k", refl, record { installs = refl; changes = true≢false }, omega arith))

item_anti_depends : ItemAntiDepends (first ∷ ranges ∷ []) ranges first
item_anti_depends = (turned first ranges refl refl, (codes "k", refl, record { installs = refl; after = omega arith; first = λ r _ _ less. omega arith }))

predicate_anti_depends : PredicateAntiDepends [] (first ∷ ranges ∷ []) ranges first
predicate_anti_depends = (turned first ranges refl refl, (codes "k", refl, record { installs = refl; changes = true≢false }, omega arith))
