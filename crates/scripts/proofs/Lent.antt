-- The words of a line, lent from its text, and the parts that they stand for.
use Rattle.std.proofs.Common.{◌≡◌, ◌<◌, ◌≤◌, ◌+◌, ◌-◌, [], ◌∷◌, ◌++◌, List, ℕ, length, take, drop, map, set, get_or}
use Rattle.std.proofs.Common.{ap, sym, refl, ◌∙◌, arith}
use Rattle.std.proofs.lemmas.List.{take_more, take_all, length-map, length-set, map-append, take-map, drop-take}
use Rattle.std.specs.Borrow.{Bor}
use Rattle.resp.proofs.Lent.{lent, lent_more}
use Rattle.scripts.specs.Lines.{part_of}

-- what a word stands for
abbrev pub lent_part : Bor (List ℕ) → List ℕ
lent_part word = part_of word.now

-- the first i parts stand in place of their words
pub record ArePartsTo (words parts : List (Bor (List ℕ))) (i : ℕ) : Type 0 where
  pub long : length parts ≡ length words
  pub front : take i (map lent parts) ≡ map lent_part (take i words)

pub parts_more : (words parts : List (Bor (List ℕ))) (i : ℕ) (d part : Bor (List ℕ)) → ArePartsTo words parts i → i < length words
    → part.now ≡ part_of (get_or words i d).now → ArePartsTo words (set parts i part) (i + 1)
parts_more words parts i d part h lt e = record {
  long = length-set parts i part ∙ h.long;
  front =
      lent_more parts i part (omega (arith, h.long))
      ∙ ap (λ xs. xs ++ part.now ∷ []) h.front
      ∙ ap (λ x. map lent_part (take i words) ++ x ∷ []) e
      ∙ sym (ap (map lent_part) (take_more words i d lt) ∙ map-append lent_part (take i words) (get_or words i d ∷ []));
}

pub parts_all : (words parts : List (Bor (List ℕ))) (i : ℕ) → ArePartsTo words parts i → length words ≤ i → map lent parts ≡ map lent_part words
parts_all words parts i h le =
    sym (take_all i (map lent parts) (omega (arith, h.long, length-map parts lent))) ∙ h.front ∙ ap (map lent_part) (take_all i words le)

drop_map : {X Y : Type 0} (f : X → Y) (xs : List X) → drop 1 (map f xs) ≡ map f (drop 1 xs)
drop_map f [] = refl
drop_map f (x ∷ xs) = refl

parts_of_words : (words : List (Bor (List ℕ))) → map lent_part words ≡ map part_of (map lent words)
parts_of_words [] = refl
parts_of_words (word ∷ words) = ap (λ (parts : List (List ℕ)). lent_part word ∷ parts) (parts_of_words words)

-- the parts behind the first stand in place of the words behind the first
pub parts_behind : (words parts : List (Bor (List ℕ))) (count : ℕ) (view : List (List ℕ)) → map lent parts ≡ map lent_part words
    → take count (map lent words) ≡ view → 1 ≤ count
    → map lent (take (count - 1) (drop 1 parts)) ≡ map part_of (drop 1 view)
parts_behind words parts count view are seen some =
    let k = count - 1 in
    let ws = map lent words in
    let whole : 1 + k ≡ count = omega arith in
    sym (take-map lent k (drop 1 parts))
    ∙ ap (take k) (sym (drop_map lent parts))
    ∙ ap (λ (xs : List (List ℕ)). take k (drop 1 xs)) (are ∙ parts_of_words words)
    ∙ ap (take k) (drop_map part_of ws)
    ∙ take-map part_of k (drop 1 ws)
    ∙ ap (map part_of) (sym (drop-take 1 k ws))
    ∙ ap (λ (n : ℕ). map part_of (drop 1 (take n ws))) whole
    ∙ ap (λ (xs : List (List ℕ)). map part_of (drop 1 xs)) seen
