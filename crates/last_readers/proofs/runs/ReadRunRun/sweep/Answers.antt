use Rattle.last_readers.proofs.runs.ReadRunRun.sweep.Goals as goal
use Rattle.std.proofs.Common.{◌≡◌, ◌+◌, ◌++◌, ◌&&◌, ap, ◌∙◌, arith, Some}
use Rattle.std.proofs.lemmas.Bool.{and_from, and_parts, leb-true}
use Rattle.std.specs.Prelude.{max}
use Rattle.model.specs.Map.{Bytes}
use Rattle.last_readers.proofs.Cuts.{cut_either, cut_later_same}
use Rattle.last_readers.proofs.Sweeps.{cut_again, cut_low, from_swept, merged_swept, rises_swept}
use Rattle.last_readers.specs.Steps.{are_from, cut, merged_at, steps_from, steps_rise}

pub invariant_of-self : goal.invariant_of-self
invariant_of-self c =
    let o = c.args.oldest in
    let was = c.args.self.now in
    let in_force = c.number_in_force-in_force.result in
    let first = c.sweep.ensures.swept in
    let second = c.sweep-2.ensures.swept in
    let made = c.sweep-3.ensures.swept in
    let merged : (k : Bytes)
    → merged_at c.sweep.new.steps.items c.sweep-2.new.steps.items c.sweep-3.new.steps.items k
    ≡ cut o (merged_at was.first.items was.second.items was.made.items k)
    = λ k. merged_swept o in_force was.first.items was.second.items was.made.items c.sweep.new.steps.items c.sweep-2.new.steps.items c.sweep-3.new.steps.items k
    was.first_rises was.second_rises c.sweep.ensures.swept c.sweep-2.ensures.swept made c.number_in_force-in_force.ensures in
    let n = was.earliest in
    let from = c.max-self.result in
    let latest : from ≡ max n (o + 1) = omega (arith, c.max-self.ensures) in
    let parts = and_parts (steps_from n was.first.items) (steps_from n was.second.items && steps_from n was.made.items) was.numbers in
    let others = and_parts (steps_from n was.second.items) (steps_from n was.made.items) parts.1 in
    record {
      first_rises = (λ i. steps_rise (first i ++ made i)) ∙ rises_swept o (Some 0) in_force was.first.items was.made.items was.first_rises;
      second_rises = (λ i. steps_rise (second i ++ made i)) ∙ rises_swept o (Some 0) in_force was.second.items was.made.items was.second_rises;
      places = omega (
        arith,
        was.places,
        c.sweep.ensures.len,
        c.sweep-2.ensures.len,
        c.sweep-3.ensures.len,
        c.sweep-3.ensures.capacity,
      );
      upto = λ k. omega (arith, merged k, cut_low o (merged_at was.first.items was.second.items was.made.items k), was.upto k);
      numbers = (λ i. are_from from (first i) (second i) (made i))
          ∙ and_from _ _ (from_swept from n o (Some 0) was.first.items latest parts.0)
          (and_from _ _ (from_swept from n o (Some 0) was.second.items latest others.0) (from_swept from n o in_force was.made.items latest others.1));
    }

pub returns-clause-agree : goal.returns-clause-agree
returns-clause-agree c = λ b asks k.
    let o = c.args.oldest in
    let low = leb-true o b asks in
    let was = c.args.self.now in
    cut_either b _ _ 0 (cut_later_same o b _ _ low (
    ap (cut o)
    (merged_swept o c.number_in_force-in_force.result was.first.items was.second.items was.made.items c.sweep.new.steps.items c.sweep-2.new.steps.items
    c.sweep-3.new.steps.items k was.first_rises was.second_rises c.sweep.ensures.swept c.sweep-2.ensures.swept c.sweep-3.ensures.swept
    c.number_in_force-in_force.ensures)
    ∙ cut_again o (merged_at was.first.items was.second.items was.made.items k)))
