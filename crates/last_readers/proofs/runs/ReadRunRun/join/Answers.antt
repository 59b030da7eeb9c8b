use Rattle.last_readers.proofs.runs.ReadRunRun.join.Goals as goal
use Rattle.std.proofs.Common.{◌≡◌, ◌+◌, true, length, ap, ◌∙◌, arith}
use Rattle.last_readers.proofs.RunLaws.{joined_are_from, joined_runs}
use Rattle.last_readers.proofs.StepLaws.{rises_with, rises_right}
use Rattle.last_readers.specs.Inside.{read_run_size}
use Rattle.last_readers.specs.Steps.{StepsValue, cut, steps_rise}
use Rattle.last_readers.specs.declared.run.ReadRun.{ReadRun}
use Rattle.merging_runs.proofs.RunSteps.{finished_left}
use Rattle.merging_runs.specs.RunSizes.{is_finished}

rests : (r : ReadRun) → is_finished (read_run_size r) ≡ true → length r.first.items + length r.second.items ≡ 0
rests r is = finished_left (read_run_size r) is

pub invariant_of-self : goal.invariant_of-self
invariant_of-self c =
    let was = c.args.self.now in
    let more = c.args.second in
    let made = c.replace.new.dest.items in
    let value = c.replace.ensures.value in
    let after = c.replace.ensures.after in
    let none = (λ i. length (after i).items) ∙ c.requires.places.0 in
    let count = λ (s : StepsValue). length s.items in
    let capacity = ap (λ (s : StepsValue). s.capacity) after in
    record {
      first_rises = rises_with c.replace.result.items made none ((λ i. steps_rise (value i).items)
          ∙ rises_right was.first.items was.made.items was.first_rises);
      second_rises = rises_with more.made.items made none (rises_right more.first.items more.made.items more.first_rises);
      places = omega (arith, ap count value, ap count after, capacity, c.requires.places.0, c.requires.places.1);
      upto = λ k.
          let rest = rests was c.requires.first in
          let both = joined_runs was more c.replace.result.items made k rest (rests more c.requires.second) (λ i. (value i).items) none in
          omega (arith, both, was.upto k, more.upto k, c.max-self.ensures);
      numbers = joined_are_from c.min-self.result was more c.replace.result.items made (omega (arith, c.min-self.ensures)) (omega (arith, c.min-self.ensures))
          (λ i. (value i).items) none;
    }

pub returns-clause-agree : goal.returns-clause-agree
returns-clause-agree c = λ begins o asks k.
    let none = (λ i. length (c.replace.ensures.after i).items) ∙ c.requires.places.0 in
    let both = joined_runs c.args.self.now c.args.second c.replace.result.items c.replace.new.dest.items k
    (rests c.args.self.now c.requires.first) (rests c.args.second c.requires.second) (λ i. (c.replace.ensures.value i).items) none in
    ap (cut o) (omega (arith, both))
