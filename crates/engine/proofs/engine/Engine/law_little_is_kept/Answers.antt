use Rattle.engine.proofs.engine.Engine.law_little_is_kept.Goals as goal
use Rattle.engine.specs.Meaning.{committed_of}

pub returns : goal.returns
returns g c m h keys among rest = c.law_few_kept.ensures.runs (committed_of c.args.self.now) keys h.little among rest
