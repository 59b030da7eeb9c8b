use Rattle.sector.proofs.device.Sectors.read_sectors.Goals as goal
use Rattle.std.proofs.Common.{◌∙◌, ◌+◌, ℕ, List, subst, sym, arith}
use Rattle.sector.proofs.Runs.{elapses_on, read_more}

pub returns-in_err-read-clause-time : goal.returns-in_err-read-clause-time
returns-in_err-read-clause-time g c keeps =
    elapses_on _ _ _ _ _ _ _ _ (c.loop-k.invariant.time keeps) (c.read.ensures.time keeps)
    (λ s left. c.loop-k.invariant.crash keeps s (c.read.ensures.crash keeps s left))

pub loop-k-preserved : goal.loop-k-preserved
loop-k-preserved g c = record {
  counts = record {
    sectors = c.read.ensures.counts.sectors ∙ c.loop-k.invariant.counts.sectors;
    synced = c.read.ensures.counts.synced ∙ c.loop-k.invariant.counts.synced;
  };
  failures = (
    c.in_ok-read.ensures.failures.0 ∙ c.loop-k.invariant.failures.0,
    λ some. omega (arith, c.in_ok-read.ensures.failures.1, c.loop-k.invariant.failures.0),
  );
  gives = λ keeps.
      let here : g.Self.Sectors.may_read c.args.self.now (c.args.at + c.loop-k.k) c.copy_from_slice.new.self =
      subst (λ (s : List ℕ). g.Self.Sectors.may_read c.args.self.now (c.args.at + c.loop-k.k) s) (sym c.copy_from_slice.ensures.after)
      (c.loop-k.invariant.reads keeps _ _ (c.in_ok-read.ensures.gives keeps)) in
      read_more (g.Self.Sectors.may_read c.args.self.now) _ _ _ _ _ (omega arith) (omega arith) (omega arith) (c.loop-k.invariant.gives keeps) here;
  reads = λ keeps i s read. c.loop-k.invariant.reads keeps i s (c.read.ensures.reads keeps i s read);
  crash = λ keeps s left. c.loop-k.invariant.crash keeps s (c.read.ensures.crash keeps s left);
  time = λ keeps. elapses_on _ _ _ _ _ _ _ _ (c.loop-k.invariant.time keeps) (c.read.ensures.time keeps)
      (λ s left. c.loop-k.invariant.crash keeps s (c.read.ensures.crash keeps s left));
}
