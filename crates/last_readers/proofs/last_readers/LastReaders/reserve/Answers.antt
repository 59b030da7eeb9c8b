use Rattle.last_readers.proofs.last_readers.LastReaders.reserve.Goals as goal
use Rattle.std.proofs.Common.{ap, true}
use Rattle.last_readers.proofs.RunLaws.{answer_alike}
use Rattle.last_readers.specs.Readers.{LastReadersValue}

pub returns-in_err-reserve-clause-readers : goal.returns-in_err-reserve-clause-readers
returns-in_err-reserve-clause-readers c =
    answer_alike c.args.self.now.readers c.self.inside.runs.runs c.reserve.new.self.runs c.self.inside.oldest
    (ap (λ (v : LastReadersValue). v.readers) c.self.view_is) (c.reserve.ensures.agree (λ _. true))

pub returns-in_err-steps-clause-readers : goal.returns-in_err-steps-clause-readers
returns-in_err-steps-clause-readers c =
    answer_alike c.args.self.now.readers c.self.inside.runs.runs c.reserve.new.self.runs c.self.inside.oldest
    (ap (λ (v : LastReadersValue). v.readers) c.self.view_is) (c.reserve.ensures.agree (λ _. true))

pub returns-clause-readers : goal.returns-clause-readers
returns-clause-readers c =
    answer_alike c.args.self.now.readers c.self.inside.runs.runs c.reserve.new.self.runs c.self.inside.oldest
    (ap (λ (v : LastReadersValue). v.readers) c.self.view_is) (c.reserve.ensures.agree (λ _. true))
