use Rattle.commit_log.proofs.formatting.write_head.Goals as goal
use Rattle.std.proofs.Common.{◌≢◌, ◌∙◌, ap, arith, set}
use Rattle.sector.specs.SectorModel.{IsSameElsewhere}
use Rattle.commit_log.proofs.Calls.{leaves_no_more}
use Rattle.commit_log.proofs.Protocol.{Making, gate_written, gate_settled, head_written}
use Rattle.commit_log.proofs.Records.{formatted, closed_gate_shut}
use Rattle.commit_log.proofs.formatting.write_head.Given.{Over}
use Rattle.commit_log.proofs.formatting.write_head.Goals.{After-write-2}
use Rattle.commit_log.specs.RecordFormat.{is_gate_open, closed_gate}

pub returns-clause-formatted : goal.returns-clause-formatted
returns-clause-formatted g c keeps =
    let first = c.in_ok-sync.ensures.settles keeps in
    let second = c.in_ok-sync-2.ensures.settles keeps in
    let other : 1 ≢ 0 = omega arith in (
      second.image,
      second.settled,
      formatted second.image (omega (
        arith,
        second.settled.size_is,
        c.requires,
        c.write.ensures.counts.sectors,
        c.sync.ensures.size,
        c.write-2.ensures.counts.sectors,
        c.sync-2.ensures.size,
      ))
          (λ s at. c.in_ok-write-2.ensures.written keeps s (second.was_read 0 s at) ∙ c.head_sector.ensures)
          (λ s at.
          let before = first.settled.read 1 s (c.write-2.ensures.others keeps 1 s other (second.was_read 1 s at)) in
          let zeros = c.in_ok-write.ensures.written keeps s (first.was_read 1 s before) in
          ap is_gate_open (zeros ∙ c.closed_gate.ensures) ∙ closed_gate_shut),
    )

head : (g : Over) (c : After-write-2 g) → g.D.Sectors.keeps_model
    → Making g.D.Sectors c.args.device.now c.write-2.new.self (λ d s. IsSameElsewhere 0 (set d 1 closed_gate) s)
head g c keeps =
    let first = gate_written g.D.Sectors c.args.device.now c.write.new.self (g.met.D.Sectors.only_now keeps c.args.device.now) (c.write.ensures.crash keeps)
    (c.write.ensures.time keeps) in
    let settled = gate_settled g.D.Sectors c.args.device.now c.write.new.self c.sync.new.self (g.D.Sectors.size c.sync.new.self)
    (omega (arith, c.requires, c.write.ensures.counts.sectors, c.sync.ensures.size)) (λ s read. c.in_ok-write.ensures.written keeps s read
    ∙ c.closed_gate.ensures) first (c.in_ok-sync.ensures.settles keeps) (c.sync.ensures.time keeps) in
    head_written g.D.Sectors c.args.device.now c.sync.new.self c.write-2.new.self settled (c.write-2.ensures.crash keeps) (c.write-2.ensures.time keeps)

pub returns-in_err-write-clause-any_moment : goal.returns-in_err-write-clause-any_moment
returns-in_err-write-clause-any_moment g c keeps =
    (gate_written g.D.Sectors c.args.device.now c.write.new.self (g.met.D.Sectors.only_now keeps c.args.device.now) (c.write.ensures.crash keeps)
    (c.write.ensures.time keeps)).time

pub returns-in_err-sync-clause-any_moment : goal.returns-in_err-sync-clause-any_moment
returns-in_err-sync-clause-any_moment g c keeps =
    let so_far = gate_written g.D.Sectors c.args.device.now c.write.new.self (g.met.D.Sectors.only_now keeps c.args.device.now) (c.write.ensures.crash keeps)
    (c.write.ensures.time keeps) in
    (leaves_no_more g.D.Sectors c.sync.new.self so_far (c.sync.ensures.crash keeps) (c.sync.ensures.time keeps)).time

pub returns-in_err-write-2-clause-any_moment : goal.returns-in_err-write-2-clause-any_moment
returns-in_err-write-2-clause-any_moment g c keeps = (head g (goal.at.returns-in_err-write-2-clause-any_moment g c).After-write-2 keeps).time

pub returns-in_err-sync-2-clause-any_moment : goal.returns-in_err-sync-2-clause-any_moment
returns-in_err-sync-2-clause-any_moment g c keeps =
    let so_far = head g (goal.at.returns-in_err-sync-2-clause-any_moment g c).After-write-2 keeps in
    (leaves_no_more g.D.Sectors c.sync-2.new.self so_far (c.sync-2.ensures.crash keeps) (c.sync-2.ensures.time keeps)).time

pub returns-clause-any_moment : goal.returns-clause-any_moment
returns-clause-any_moment g c keeps =
    let so_far = head g (goal.at.returns-clause-any_moment g c).After-write-2 keeps in
    (leaves_no_more g.D.Sectors c.sync-2.new.self so_far (c.sync-2.ensures.crash keeps) (c.sync-2.ensures.time keeps)).time
