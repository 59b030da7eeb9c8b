use Rattle.std.proofs.Common.{codes, arith}
use Rattle.clap.specs.Matches.{found_of}
use Rattle.command_line.proofs.Given.{number_given}
use Rattle.command_line.proofs.Lacking.{lacks_outside, lacks_unread}
use Rattle.command_line.proofs.reading.sectors.Goals as goal

pub returns-in_err-given-clause-lacks : goal.returns-in_err-given-clause-lacks
returns-in_err-given-clause-lacks c is = lacks_unread (found_of c.args.found.now) (codes "sectors") c.args.most c.ranges.most.fits
    (λ t e. (c.in_err-given.ensures.value t e).1.0)

pub returns-then-given-lt-SECTORS_MIN-clause-lacks : goal.returns-then-given-lt-SECTORS_MIN-clause-lacks
returns-then-given-lt-SECTORS_MIN-clause-lacks c is = lacks_outside (found_of c.args.found.now) (codes "sectors") c.args.most c.in_ok-given.given
    (λ t e. (c.in_ok-given.ensures.value t e).0.1) (λ range. absurd (omega arith))

pub returns-then-given-most-clause-lacks : goal.returns-then-given-most-clause-lacks
returns-then-given-most-clause-lacks c is = lacks_outside (found_of c.args.found.now) (codes "sectors") c.args.most c.in_ok-given.given
    (λ t e. (c.in_ok-given.ensures.value t e).0.1) (λ range. absurd (omega arith))

pub returns-else-given-most-clause-given : goal.returns-else-given-most-clause-given
returns-else-given-most-clause-given c = number_given (found_of c.args.found.now) (codes "sectors") c.in_ok-given.given c.in_ok-given.ensures.none
    (λ t e. (c.in_ok-given.ensures.value t e).0)
