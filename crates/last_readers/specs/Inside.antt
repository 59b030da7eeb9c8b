-- What a `LastReaders` holds as contracts see it.
use Rattle.std.specs.Prelude.{ℕ, ◌+◌, List, Option, length, map, option_map}
use Rattle.merging_runs.specs.RunSizes.{RunSize}
use Rattle.last_readers.specs.Steps.{StepValue, RunValue}
use Rattle.last_readers.specs.declared.run.ReadRun.{ReadRun}
use Rattle.last_readers.specs.declared.run.Ready.{Ready}

abbrev pub run_of : ReadRun → RunValue
run_of r = record { first = r.first.items; second = r.second.items; made = r.made.items }

abbrev pub runs_in : List ReadRun → List RunValue
runs_in rs = map run_of rs

abbrev pub ready_steps : Option Ready → Option (List StepValue)
ready_steps ready = option_map (λ r. r.steps.items) ready

-- how many steps it holds
abbrev pub steps_count : ReadRun → ℕ
steps_count r = length r.first.items + length r.second.items + length r.made.items

-- how far a run is merged
abbrev pub read_run_size : ReadRun → RunSize
read_run_size r = record {
  last = r.last;
  left = length r.first.items + length r.second.items;
  made = length r.made.items;
  room = r.room;
}
