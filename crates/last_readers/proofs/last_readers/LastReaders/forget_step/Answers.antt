use Rattle.last_readers.proofs.last_readers.LastReaders.forget_step.Goals as goal
use Rattle.std.proofs.Common.{◌≡◌, ◌+◌, true}
use Rattle.std.proofs.lemmas.List.Elements.{All-map}
use Rattle.last_readers.specs.Inside.{run_of}
use Rattle.last_readers.specs.Steps.{RunValue, is_run_from}

pub returns-clause-named : goal.returns-clause-named
returns-clause-named c =
    λ none. All-map (λ (run : RunValue). is_run_from (c.max-self-inside.result + 1) run
    ≡ true) run_of c.forget_step.new.self.runs (c.forget_step.ensures.above none)
