-- Worked examples: postings that are kept for whoever may ask, and one too many; runs that are kept short, and some that aren't.
use Rattle.std.proofs.Common.{◌≡◌, ◌<◌, ◌^◌, ℕ, Bool, true, false, ◌||◌, List, [], ◌∷◌, length, map, refl, arith}
use Rattle.std.proofs.Common.{codes, inl, inr}
use Rattle.std.proofs.lemmas.Bool.Decides.{nat_tests}
use Rattle.std.specs.List.{list_all}
use Rattle.std.specs.Prelude.{nat_le, nat_lt}
use Rattle.pivot_check.proofs.KeptShort.{within_itself}
use Rattle.pivot_check.specs.Bounds.{are_from_bound}
use Rattle.pivot_check.specs.FewKept.{AreKeptFor, KeepsLittle}
use Rattle.pivot_check.specs.Inside.{postings_in, written_run_size}
use Rattle.pivot_check.specs.Kept.{CommittedValue}
use Rattle.pivot_check.specs.Postings.{Posting, keys_rise}
use Rattle.pivot_check.specs.Reach.{Reach}
use Rattle.pivot_check.specs.Redundant.{are_spaced}
use Rattle.pivot_check.specs.declared.bound.Bound.{Bound}
use Rattle.pivot_check.specs.declared.part.Part.{Part}
use Rattle.pivot_check.specs.declared.run.WrittenRun.{WrittenRun}

-- what a commit with that number has written, and whether it has the flag
abbrev write : ℕ → Bool → Posting
write n flag = record { key = codes "k"; number = n; has_earlier_target = flag }

-- Where somebody began at 3, four of a key are as many as can be kept.
abbrev kept : List Posting
kept = write 1 false ∷ write 2 true ∷ write 4 false ∷ write 5 true ∷ []

abbrev asking : Reach
asking = record { begins = 3 ∷ []; since = 5 }

four_are_kept : AreKeptFor asking (codes "k" ∷ []) kept
four_are_kept = record {
  of_keys = (refl, (refl, (refl, (refl, tt))));
  numbers = refl;
  upto = (omega arith, (omega arith, (omega arith, (omega arith, tt))));
  spaced = refl;
}

they_rise : keys_rise kept ≡ true
they_rise = refl

-- where nobody began between, one of them is needless
not_without_begins : are_spaced (record { begins = []; since = 5 }) kept ≡ false
not_without_begins = refl

-- ---- runs

abbrev bound : Bound
bound = record { number = 1; flagged = 1; last = 5 }

-- a run of such postings at rest, where a part and a value are given for all that is not said here
module _ (given : Part) (v : CommittedValue) where
  abbrev part_of : (ps : List Posting) → length ps < 2 ^ 63 → keys_rise ps ≡ true → are_from_bound bound ps ≡ true → Part
  part_of ps small rising bounded = record {
    written = record {
      ptr = given.written.ptr;
      len = length ps;
      cap = length ps;
      alloc = given.written.alloc;
      items = ps;
      ok = (refl, omega arith);
      small = small;
    };
    start = 0;
    bound = bound;
    bounds = record {
      ptr = given.bounds.ptr;
      len = 0;
      cap = 0;
      alloc = given.bounds.alloc;
      items = [];
      ok = (refl, omega arith);
      small = omega arith;
    };
    within = omega arith;
    rising = rising;
    bounded = bounded;
    blocks = λ i b lt. absurd (omega arith);
    whole = omega arith;
  }

  abbrev nothing : Part
  nothing = part_of [] (omega arith) refl refl

  -- a value with that run alone
  abbrev value_of : WrittenRun → CommittedValue
  value_of r = record v {
    facts = record v.facts { postings = postings_in (r ∷ []); last = 5; reach = asking };
    contents = record v.contents { sizes = map written_run_size (r ∷ []) };
    runs = r ∷ [];
  }

  abbrev kept_run : WrittenRun
  kept_run = record {
    last = 5;
    first = nothing;
    second = nothing;
    made = part_of kept (omega arith) refl refl;
    room = 0;
    first_rises = refl;
    second_rises = refl;
    places = omega arith;
    upto = refl;
  }

  -- the four were merged for those who may ask
  little_is_kept : KeepsLittle (value_of kept_run)
  little_is_kept = record {
    postings = refl;
    sizes = refl;
    few = omega arith;
    runs = record {
      each = (
        record {
          numbers = record { first_rises = refl; second_rises = refl; middle = 0; upto = refl; from = refl };
          kept = inr (record { were = asking; few = omega arith; within = within_itself asking; upto = refl; spaced = refl });
        },
        tt,
      );
      upto = (omega arith, tt);
      order = (tt, tt);
    };
  }

  -- a key twice with one number: whoever might ask began before both or before neither
  abbrev twice : List Posting
  twice = write 2 false ∷ write 2 false ∷ []

  abbrev run_twice : WrittenRun
  run_twice = record {
    last = 5;
    first = nothing;
    second = nothing;
    made = part_of twice (omega arith) refl refl;
    room = 0;
    first_rises = refl;
    second_rises = refl;
    places = omega arith;
    upto = refl;
  }

  none_between : (n : ℕ) (bs : List ℕ) → list_all (λ b. nat_lt b n || nat_le n b) bs ≡ true
  none_between n [] = refl
  none_between n (b ∷ bs) = grind (arith, nat_tests, none_between n bs)

  two_are_not_kept : KeepsLittle (value_of run_twice) → ⊥
  two_are_not_kept little = elim little.runs.each.0.kept [
    | inl one ↦ let once = one.once in cc
    | inr was ↦ let spaced = was.spaced in let upto = was.upto in grind (arith, nat_tests, spaced, upto, none_between 2 was.were.begins)
  ]

  -- of one key the numbers fall
  abbrev falling : List Posting
  falling = write 2 false ∷ write 1 false ∷ []

  abbrev run_falling : WrittenRun
  run_falling = record {
    last = 5;
    first = nothing;
    second = nothing;
    made = part_of falling (omega arith) refl refl;
    room = 0;
    first_rises = refl;
    second_rises = refl;
    places = omega arith;
    upto = refl;
  }

  none_that_fall : KeepsLittle (value_of run_falling) → ⊥
  none_that_fall little = let rise = little.runs.each.0.numbers.first_rises in cc
