use Rattle.pivot_check.proofs.merges.WrittenRunRun.sweep.Goals as goal
use Rattle.std.proofs.Common.{◌++◌, [], List, refl, ap, sym, ◌∙◌, arith}
use Rattle.std.proofs.lemmas.Bool.{leb-true}
use Rattle.pivot_check.proofs.Writers.{asked_above}
use Rattle.pivot_check.proofs.ShortRuns.{swept_short}
use Rattle.pivot_check.proofs.Sweeps.{all_parts, both_rise, fewer_in, fewer_left, upto_later}
use Rattle.pivot_check.specs.Active.{reach_of}
use Rattle.pivot_check.specs.Agreeing.{least-append, lesser_none}
use Rattle.pivot_check.specs.Inside.{in_run}
use Rattle.pivot_check.specs.Parts.{remaining}
use Rattle.pivot_check.specs.Postings.{Posting, asked_in, keys_rise, least, are_upto}

pub invariant_of-self : goal.invariant_of-self
invariant_of-self c =
    let was = c.args.self.now in
    let o = c.args.oldest in
    let first = c.sweep.ensures.left in
    let second = c.sweep-2.ensures.left in
    let made = c.sweep-3.ensures.left in
    record {
      first_rises = (λ i. keys_rise (made i ++ first i)) ∙ both_rise o (remaining was.made) (remaining was.first) was.first_rises;
      second_rises = (λ i. keys_rise (made i ++ second i)) ∙ both_rise o (remaining was.made) (remaining was.second) was.second_rises;
      places = omega (
        arith,
        was.places,
        fewer_left o was.first c.sweep.new.self first,
        fewer_left o was.second c.sweep-2.new.self second,
        fewer_in o was.made c.sweep-3.new.self c.sweep-3.ensures.written,
        c.sweep-3.ensures.capacity,
      );
      upto = ap (are_upto was.last)
          (all_parts o (remaining was.made) (remaining was.first) (remaining was.second) (remaining c.sweep-3.new.self) (remaining c.sweep.new.self)
          (remaining c.sweep-2.new.self) made first
          second) ∙ upto_later was.last o (in_run was) was.upto;
    }

pub returns-clause-from : goal.returns-clause-from
returns-clause-from c = omega (arith, c.sweep.ensures.number, c.sweep-2.ensures.number, c.sweep-3.ensures.number)

pub returns-clause-agree : goal.returns-clause-agree
returns-clause-agree c = λ b asks keys flagged.
    let was = c.args.self.now in
    let o = c.args.oldest in
    let above = asked_in keys b flagged in
    let one = λ (ps : List Posting). least-append above ps [] ∙ lesser_none (least above ps) in
    one (remaining c.sweep-3.new.self ++ (remaining c.sweep.new.self ++ remaining c.sweep-2.new.self))
    ∙ ap (least above) (all_parts o (remaining was.made) (remaining was.first) (remaining was.second) (remaining c.sweep-3.new.self)
    (remaining c.sweep.new.self)
    (remaining c.sweep-2.new.self) c.sweep-3.ensures.left c.sweep.ensures.left c.sweep-2.ensures.left)
    ∙ asked_above o b keys flagged (in_run was) (leb-true o b asks) ∙ sym (one (in_run was))

pub returns-clause-swept : goal.returns-clause-swept
returns-clause-swept c =
    let was = c.args.self.now in
    let o = c.args.oldest in
    record {
      last = refl;
      left = omega (
        arith,
        fewer_left o was.first c.sweep.new.self c.sweep.ensures.left,
        fewer_left o was.second c.sweep-2.new.self c.sweep-2.ensures.left,
      );
      made = omega (arith, fewer_left o was.made c.sweep-3.new.self c.sweep-3.ensures.left);
      room = omega arith;
    }

pub returns-clause-fewer : goal.returns-clause-fewer
returns-clause-fewer c =
    let was = c.args.self.now in
    let o = c.args.oldest in
    omega (
      arith,
      fewer_in o was.first c.sweep.new.self c.sweep.ensures.written,
      fewer_in o was.second c.sweep-2.new.self c.sweep-2.ensures.written,
      fewer_in o was.made c.sweep-3.new.self c.sweep-3.ensures.written,
      was.first.written.ok.0,
      was.second.written.ok.0,
      was.made.written.ok.0,
      c.sweep.new.self.written.ok.0,
      c.sweep-2.new.self.written.ok.0,
      c.sweep-3.new.self.written.ok.0,
    )

pub returns-clause-holds : goal.returns-clause-holds
returns-clause-holds c = λ active holds few.
    swept_short (reach_of active) c.args.oldest c.args.self.now _ c.sweep-3.ensures.left c.sweep.ensures.left c.sweep-2.ensures.left (holds few)
