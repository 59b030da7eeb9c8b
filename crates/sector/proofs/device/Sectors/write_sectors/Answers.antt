use Rattle.sector.proofs.device.Sectors.write_sectors.Goals as goal
use Rattle.std.proofs.Common.{◌≡◌, ◌≢◌, ◌∙◌, ◌-◌, ◌+◌, ◌*◌, ℕ, take, drop, ap, arith}
use Rattle.sector.proofs.Runs.{elapses_on, writes_on, written_more}

pub returns-in_err-write-clause-others : goal.returns-in_err-write-clause-others
returns-in_err-write-clause-others g c keeps i s outside read =
    let other : i ≢ c.args.at + c.loop-k.k = omega (arith, outside) in
    c.loop-k.invariant.others keeps i s outside (c.write.ensures.others keeps i s other read)

pub returns-in_err-write-clause-crash : goal.returns-in_err-write-clause-crash
returns-in_err-write-clause-crash g c keeps =
    writes_on _ _ _ _ _ _ (omega arith) (omega arith) (c.loop-k.invariant.crash keeps) (c.write.ensures.crash keeps)

pub returns-in_err-write-clause-time : goal.returns-in_err-write-clause-time
returns-in_err-write-clause-time g c keeps =
    elapses_on _ _ _ _ _ _ _ _ (c.loop-k.invariant.time keeps) (c.write.ensures.time keeps)
    (writes_on _ _ _ _ _ _ (omega arith) (omega arith) (c.loop-k.invariant.crash keeps) (c.write.ensures.crash keeps))

pub loop-k-preserved : goal.loop-k-preserved
loop-k-preserved g c = record {
  counts = record {
    sectors = c.write.ensures.counts.sectors ∙ c.loop-k.invariant.counts.sectors;
    synced = c.write.ensures.counts.synced ∙ c.loop-k.invariant.counts.synced;
  };
  failures = (
    c.in_ok-write.ensures.failures.0 ∙ c.loop-k.invariant.failures.0,
    λ some. omega (arith, c.in_ok-write.ensures.failures.1, c.loop-k.invariant.failures.0),
  );
  written = λ keeps.
      let len : (512 * c.loop-k.k + 512) - 512 * c.loop-k.k ≡ 512 = omega arith in
      written_more c.args.at c.loop-k.k _ _ _ (c.loop-k.invariant.written keeps) (c.write.ensures.others keeps)
      (λ s read. c.in_ok-write.ensures.written keeps s read ∙ c.copy_from_slice.ensures.after
      ∙ ap (λ (n : ℕ). take n (drop (512 * c.loop-k.k) c.args.from.now)) len);
  others = λ keeps i s outside read.
      let other : i ≢ c.args.at + c.loop-k.k = omega (arith, outside) in
      c.loop-k.invariant.others keeps i s outside (c.write.ensures.others keeps i s other read);
  crash = λ keeps. writes_on _ _ _ _ _ _ (omega arith) (omega arith) (c.loop-k.invariant.crash keeps) (c.write.ensures.crash keeps);
  time = λ keeps. elapses_on _ _ _ _ _ _ _ _ (c.loop-k.invariant.time keeps) (c.write.ensures.time keeps)
      (writes_on _ _ _ _ _ _ (omega arith) (omega arith) (c.loop-k.invariant.crash keeps) (c.write.ensures.crash keeps));
}
