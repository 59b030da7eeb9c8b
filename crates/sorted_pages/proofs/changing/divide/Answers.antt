use Rattle.sorted_pages.proofs.changing.divide.Goals as goal
use Rattle.std.proofs.Common.{◌+◌, ◌-◌, ◌∙◌, arith}
use Rattle.std.proofs.lemmas.Result.{on_ok_weaker}
use Rattle.sorted_pages.proofs.Placings.{tight-then}
use Rattle.sorted_pages.specs.declared.page.TheConstants.{STEP}

pub returns-clause-room : goal.returns-clause-room
returns-clause-room g c =
    let one = c.split.ensures.room in
    let two = c.grow.ensures.room in
    record {
      order = two.order;
      roomier = record {
        entries = two.roomier.entries ∙ one.roomier.entries;
        rooms = λ q. (let a = one.roomier.rooms q in let b = two.roomier.rooms q in omega arith);
        apart = λ j k t. one.roomier.apart j k (two.roomier.apart j k t);
      };
      tight = tight-then (c.args.n + (STEP - 1)) c.args.pages.now.pages c.split.new.pages.pages c.grow.new.pages.pages one.tight two.tight;
      held = record { held = two.held.held ∙ one.held.held; last = two.held.last ∙ one.held.last };
    }

pub returns-clause-split : goal.returns-clause-split
returns-clause-split g c =
    on_ok_weaker c.grow.result (λ made h. let a = c.in_ok-split.ensures.split h in record {
      more = (let more = a.more in let b = c.grow.ensures.pages in omega arith);
      halved = record {
        low = λ f. (let low = a.halved.low f in let same = c.grow.ensures.count in omega arith);
        high = λ f. (let high = a.halved.high f in let same = c.grow.ensures.count in omega arith);
      };
    }) c.grow.ensures.made
