use Rattle.test_hubs.proofs.driven.Driven.drive.Goals as goal
use Rattle.std.proofs.Common.{◌≡◌, ◌∙◌, true, false}
use Rattle.stream_driver.proofs.States.{stands_after}

pub drive-requires : goal.drive-requires
drive-requires g c = (
  c.args.self.now.stands,
  λ gone.
      let is : c.eq.result ≡ true = rw (c.status.ensures ∙ gone) at c.eq.ensures in
      let not : c.eq.result ≡ false = c.if-eq.false in
      cc,
)

pub invariant_of-self : goal.invariant_of-self
invariant_of-self g c = record {
  stands = stands_after c.args.self.now.stands c.drive.ensures.driven.leads;
}
