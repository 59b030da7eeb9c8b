use Rattle.commit_log.proofs.read.read_records.Goals as goal
use Rattle.std.proofs.Common.{◌∙◌, refl, arith}
use Rattle.std.proofs.lemmas.Grind.{common_steps}
use Rattle.std.proofs.lemmas.Result.{err_from_is_err_and}
use Rattle.sector.proofs.Crashes.{of_none}
use Rattle.commit_log.proofs.Calls.{reads_joined}
use Rattle.commit_log.proofs.Recovering.{read_fault, nothing_read, ended, damaged, more}
use Rattle.commit_log.specs.Reading.{ReadsImage}

pub records-init : goal.records-init
records-init g c = record {
  size = refl;
  failures = refl;
  only_reads = λ keeps. record { reads = λ i s read. read; left = λ crash left. left; time = of_none (g.met.D.Sectors.only_now keeps c.args.device.now) };
  in_range = omega arith;
  counted = omega arith;
  found = λ keeps image size reads. nothing_read c.args.format image _ c.new-latest.ensures;
}

pub returns-then-sector-ne1-clause-found : goal.returns-then-sector-ne1-clause-found
returns-then-sector-ne1-clause-found g c keeps image size reads =
    let there = reads _ _ ((c.records.invariant.only_reads keeps).reads _ _ (c.in-Ok.ensures.gives keeps)) in
    let read = c.records.invariant.found keeps image size reads in
    record {
      lists = read.lists;
      holds = ended c.args.format image _ _ _ _ _ read there c.if-sector-ne1.true;
      reports = record { gate = read.gate_is; records = read.records_are; digest = read.digest_is; map = c.in_ok-map.ensures ∙ read.map_is };
    }

pub returns-in_err-record-clause-found : goal.returns-in_err-record-clause-found
returns-in_err-record-clause-found g c keeps image size reads = grind (arith, common_steps, err_from_is_err_and, read_fault)

pub records-preserved : goal.records-preserved
records-preserved g c = record {
  size = c.read_record.ensures.calls.0 ∙ c.read.ensures.counts.sectors ∙ c.records.invariant.size;
  failures = c.in_ok-record.ensures.calls.1 ∙ c.in-Ok.ensures.failures.0 ∙ c.records.invariant.failures;
  only_reads = λ keeps. reads_joined g.D.Sectors _ _ c.read.new.self _ (c.records.invariant.only_reads keeps) (c.read.ensures.reads keeps)
      (c.read.ensures.crash keeps) (c.read.ensures.time keeps) (c.read_record.ensures.only_reads keeps);
  in_range = omega (arith, (rw c.in-Some.is at c.in_ok-record.ensures.fit).sectors);
  counted = omega (arith, c.records.invariant.counted);
  found = λ keeps image size reads.
      let there = reads _ _ ((c.records.invariant.only_reads keeps).reads _ _ (c.in-Ok.ensures.gives keeps)) in
      let mid : ReadsImage (g.D.Sectors.may_read c.read.new.self) image =
      λ i s read. reads i s ((c.records.invariant.only_reads keeps).reads i s (c.read.ensures.reads keeps i s read)) in
      let read = c.records.invariant.found keeps image size reads in
      let found = rw c.in-Some.is at (c.in_ok-record.ensures.found keeps image size mid) in
      more c.args.format image _ _ _ _ _ read there c.if-sector-ne1.false c.in-Some.record.writes.items c.in-Some.record.sectors c.in-Some.record.digest.bytes _
      found.stands found.counted (rw c.in-Some.is at c.in_ok-record.ensures.fit).digest c.in_ok-latest-in-Some.ensures;
}

pub returns-in-None-clause-found : goal.returns-in-None-clause-found
returns-in-None-clause-found g c keeps image size reads = grind (arith, common_steps, damaged)
