use Rattle.pivot_check.proofs.merges.WrittenRunRun.join.Goals as goal
use Rattle.std.proofs.Common.{◌≡◌, ◌+◌, ◌++◌, ℕ, true, length, subst, sym, ap, ◌∙◌, arith, inr}
use Rattle.std.specs.Prelude.{max}
use Rattle.std.specs.Vec.{vec_capacity}
use Rattle.pivot_check.proofs.Joined.{both_agree, joined, both_upto, none_left}
use Rattle.pivot_check.proofs.ShortRuns.{joined_numbers, upto_wider}
use Rattle.pivot_check.proofs.KeptShort.{within_itself}
use Rattle.pivot_check.specs.Active.{reach_of}
use Rattle.pivot_check.specs.Redundant.{are_spaced}
use Rattle.merging_runs.proofs.RunSteps.{finished_left}
use Rattle.merging_runs.specs.RunSizes.{is_finished}
use Rattle.pivot_check.specs.Inside.{in_run, written_run_size}
use Rattle.pivot_check.specs.Parts.{remaining, left, remaining_in}
use Rattle.pivot_check.specs.Postings.{asked_in, keys_rise, are_upto}
use Rattle.pivot_check.specs.declared.part.Part.{Part}
use Rattle.pivot_check.specs.declared.run.WrittenRun.{WrittenRun}

rests : (r : WrittenRun) → is_finished (written_run_size r) ≡ true → left r.first + left r.second ≡ 0
rests r is = finished_left (written_run_size r) is

pub invariant_of-self : goal.invariant_of-self
invariant_of-self c =
    let was = c.args.self.now in
    let more = c.args.second in
    let first = c.replace.result in
    let made = c.replace.new.dest in
    let value = c.replace.ensures.value in
    let after = c.replace.ensures.after in
    let empty = (λ i. length (after i).written.items) ∙ c.requires.places.none in
    let none : left made ≡ 0 = omega (arith, empty) in
    let nothing = none_left made none in
    record {
      first_rises = (λ i. keys_rise (nothing i ++ remaining (value i))) ∙ was.made.rising;
      second_rises = (λ i. keys_rise (nothing i ++ remaining more.made)) ∙ more.made.rising;
      places = omega (arith, empty, ap left value, ap (λ (p : Part). vec_capacity p.written) after, c.requires.places.room);
      upto = subst (λ (n : ℕ). are_upto n (remaining_in made first more.made) ≡ true) (sym c.max-self.ensures)
          (both_upto was.last more.last (in_run was) (in_run more) (remaining_in made first more.made) was.upto more.upto
          (λ t. joined t was more made first (rests was c.requires.first) (rests more c.requires.second) none value));
    }

pub returns-clause-agree : goal.returns-clause-agree
returns-clause-agree c = λ begins b asks keys flagged.
    let asked = asked_in keys b flagged in
    let was = c.args.self.now in
    let more = c.args.second in
    let none : left c.replace.new.dest ≡ 0 = ap left c.replace.ensures.after ∙ omega (arith, c.requires.places.none) in
    both_agree asked was more (remaining_in c.replace.new.dest c.replace.result more.made)
    (joined asked was more c.replace.new.dest c.replace.result (rests was c.requires.first) (rests more c.requires.second) none c.replace.ensures.value)

pub returns-clause-from : goal.returns-clause-from
returns-clause-from c =
    omega (arith, c.requires.places.bound, ap (λ (p : Part). p.bound.number) c.replace.ensures.after, ap (λ (p : Part). p.bound.number) c.replace.ensures.value)

pub returns-clause-holds : goal.returns-clause-holds
returns-clause-holds c = λ active first_before second_before order first_holds second_holds few.
    let was = c.args.self.now in
    let more = c.args.second in
    let reach = reach_of active in
    let made = c.replace.new.dest in
    let first = c.replace.result in
    let value = c.replace.ensures.value in
    let rest = rests was c.requires.first in
    let none : left made ≡ 0 = ap left c.replace.ensures.after ∙ omega (arith, c.requires.places.none) in
    record {
      numbers = joined_numbers was more made first rest none value order (first_holds few).numbers (second_holds few).numbers;
      kept = inr (record {
        were = reach;
        few = few;
        within = within_itself reach;
        upto = upto_wider (max was.last more.last) reach.since (remaining_in made first more.made) (omega (arith, first_before, second_before))
            (both_upto was.last more.last (in_run was) (in_run more) (remaining_in made first more.made) was.upto more.upto
            (λ t. joined t was more made first rest (rests more c.requires.second) none value));
        spaced = ap (are_spaced reach) (none_left made none);
      });
    }
