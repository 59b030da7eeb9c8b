use Rattle.commit_log.proofs.decode.decode_payload.Goals as goal
use Rattle.std.proofs.Common.{◌≡◌, ◌++◌, ◌∷◌, [], ◌-◌, List, get_or, subst, ap, sym, length, arith, length-append}
use Rattle.std.proofs.lemmas.List.Elements.{All-push}
use Rattle.std.specs.declared.cmp.Ordering.TheVariants.{Less}
use Rattle.byteorder.specs.Endian.{big_bytes}
use Rattle.model.specs.Map.{KeyWrite, key_cmp}
use Rattle.commit_log.proofs.Parsing.{too_few, no_count, no_entry, not_rising, left_over, whole, read_more, empty_if}
use Rattle.commit_log.proofs.Parsing.{some_if}
use Rattle.commit_log.proofs.decode.decode_payload.Goals.{then-count-lt1-via-then-count-lt1}
use Rattle.commit_log.proofs.decode.decode_payload.Goals.{then-count-lt1-via-else-count-lt1+then-count-gt64}
use Rattle.commit_log.specs.RecordFormat.{FitsFormat, IsRising}

pub returns-in_default-clause-none : goal.returns-in_default-clause-none
returns-in_default-clause-none c = too_few c.args.format c.args.bytes.now c.in_default.ensures.none

pub returns-then-count-lt1-clause-none : goal.returns-then-count-lt1-clause-none
returns-then-count-lt1-clause-none c =
    no_count c.args.format c.args.bytes.now c.in-Some.rest.now c.in-Some.count c.in-Some.ensures.some c.in-Some.ensures.fits
    (λ some few. elim c.then-count-lt1.branch
    [ then-count-lt1-via-then-count-lt1 w ↦ omega arith | then-count-lt1-via-else-count-lt1+then-count-gt64 w ↦ omega arith ])

pub returns-in_default-2-clause-none : goal.returns-in_default-2-clause-none
returns-in_default-2-clause-none c =
    no_entry c.args.format c.args.bytes.now c.loop-i.rest.now c.in-Some.count c.loop-i.writes.items c.loop-i.invariant.read (omega arith)
    c.loop-i.invariant.limits
    (rw c.in_default-2.is at c.in_ok-write.ensures.none)
    (omega (arith, c.loop-i.invariant.number))

pub returns-then-not-rises-clause-none : goal.returns-then-not-rises-clause-none
returns-then-not-rises-clause-none c =
    let deref : c.deref.result.now ≡ c.loop-i.writes.items = c.deref.ensures.value in
    not_rising c.args.format c.args.bytes.now c.loop-i.rest.now c.in-Some.count c.loop-i.writes.items c.loop-i.invariant.read (omega arith)
    c.loop-i.invariant.limits
    c.in-Some-2.write c.in-Some-2.after.now (rw c.in-Some-2.is at c.in_ok-write.ensures.some) (rw c.in-Some-2.is at c.in_ok-write.ensures.limits)
    (omega (arith, c.rises.ensures.some c.if-not-rises.true, ap length deref))
    (subst (λ (l : List KeyWrite). (d : KeyWrite) → key_cmp (get_or l (length l - 1) d).0 c.in-Some-2.write.0 ≡ Less
    → ⊥) deref (c.rises.ensures.falls c.if-not-rises.true))
    (omega (arith, c.loop-i.invariant.number))

pub loop-i-preserved : goal.loop-i-preserved
loop-i-preserved c =
    let pushed : c.push.new.self.items ≡ c.loop-i.writes.items ++ c.in-Some-2.write ∷ [] = c.in_ok-push.ensures.items in
    let deref : c.deref.result.now ≡ c.loop-i.writes.items = c.deref.ensures.value in
    record {
      read = rw pushed (read_more c.args.bytes.now (big_bytes 4 c.in-Some.count) c.loop-i.rest.now c.in-Some-2.after.now c.loop-i.writes.items c.in-Some-2.write
          c.loop-i.invariant.read (rw c.in-Some-2.is at c.in_ok-write.ensures.some));
      number = omega (arith, ap length pushed, length-append c.loop-i.writes.items (c.in-Some-2.write ∷ []), c.loop-i.invariant.number);
      limits = rw pushed (All-push (FitsFormat c.args.format) c.loop-i.writes.items c.in-Some-2.write c.loop-i.invariant.limits
          (rw c.in-Some-2.is at c.in_ok-write.ensures.limits));
      rising = rw pushed (subst (λ (l : List KeyWrite). IsRising (l ++ c.in-Some-2.write ∷ [])) deref
          (c.rises.ensures.yes c.if-not-rises.false (subst IsRising (sym deref) c.loop-i.invariant.rising)));
    }

pub returns-then-is_empty-clause-some : goal.returns-then-is_empty-clause-some
returns-then-is_empty-clause-some c =
    whole c.args.format c.args.bytes.now c.loop-i.rest.now c.in-Some.count c.loop-i.writes.items c.loop-i.invariant.read (omega arith) c.loop-i.invariant.limits
    (omega (arith, c.loop-i.invariant.number, c.loop-i-test.false)) (empty_if c.is_empty.result c.loop-i.rest.now c.is_empty.ensures c.if-is_empty.true)

pub returns-else-is_empty-clause-none : goal.returns-else-is_empty-clause-none
returns-else-is_empty-clause-none c =
    left_over c.args.format c.args.bytes.now c.loop-i.rest.now c.in-Some.count c.loop-i.writes.items c.loop-i.invariant.read (omega arith)
    c.loop-i.invariant.limits
    (omega (arith, c.loop-i.invariant.number, c.loop-i-test.false)) (some_if c.is_empty.result c.loop-i.rest.now c.is_empty.ensures c.if-is_empty.false)
