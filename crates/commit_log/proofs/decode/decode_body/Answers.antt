use Rattle.commit_log.proofs.decode.decode_body.Goals as goal
use Rattle.std.proofs.Common.{◌≡◌, ◌∙◌, ◌*◌, ◌++◌, ℕ, List, rules, ap, sym, length, arith, take-append-drop}
use Rattle.std.proofs.lemmas.Grind.{common_steps}
use Rattle.byteorder.specs.Endian.{big_bytes, big_number}
use Rattle.byteorder.specs.Numbers.{big_number-reads_back}
use Rattle.sha2.specs.Sha256.{sha256}
use Rattle.commit_log.proofs.Parsing.{same_parts, not_zero, right_body}
use Rattle.commit_log.proofs.decode.decode_body.Goals.{After-split_at-3}
use Rattle.commit_log.specs.RecordFormat.{sectors_for, record_digest}

joined : (c : After-split_at-3)
    → c.args.body.now ≡ big_bytes 4 c.in-Some.len
    ++ (c.split_at.result.0.now ++ (c.split_at-2.result.0.now ++ (c.split_at-3.result.0.now ++ c.split_at-3.result.1.now)))
joined c = grind (arith, common_steps, take-append-drop)

pub returns-then-not-is_same-clause-none : goal.returns-then-not-is_same-clause-none
returns-then-not-is_same-clause-none c writes proper same =
    let right : c.write_u64.new.buf ≡ big_bytes 8 c.args.index = search rules in
    let found = same_parts c.args.format c.args.before.now c.args.index c.in-Some.len c.args.body.now c.split_at.result.0.now c.split_at-2.result.0.now
    c.split_at-3.result.0.now c.split_at-3.result.1.now (joined (goal.at.returns-then-not-is_same-clause-none c).After-split_at-3) c.in-Some.ensures.fits
    c.split_at.ensures.front_len c.split_at-2.ensures.front_len c.split_at-3.ensures.front_len writes proper same in
    c.is_same.ensures.no c.if-not-is_same.true (sym found.0 ∙ sym right)

pub returns-then-not-is_same-2-clause-none : goal.returns-then-not-is_same-2-clause-none
unfolding record_digest
returns-then-not-is_same-2-clause-none c writes proper same =
    let found = same_parts c.args.format c.args.before.now c.args.index c.in-Some.len c.args.body.now c.split_at.result.0.now c.split_at-2.result.0.now
    c.split_at-3.result.0.now c.split_at-3.result.1.now (joined (goal.at.returns-then-not-is_same-2-clause-none c).After-split_at-3) c.in-Some.ensures.fits
    c.split_at.ensures.front_len c.split_at-2.ensures.front_len c.split_at-3.ensures.front_len writes proper same in
    let digest = ap (λ (l : List ℕ). sha256 ((c.args.before.now ++ big_bytes 8 c.args.index) ++ l)) found.2 in
    c.is_same-2.ensures.no c.if-not-is_same-2.true (sym found.1 ∙ digest ∙ sym c.digest_of-right_digest.ensures)

pub returns-then-not-is_zero-clause-none : goal.returns-then-not-is_zero-clause-none
returns-then-not-is_zero-clause-none c =
    not_zero c.args.format c.args.before.now c.args.index c.in-Some.len c.args.body.now c.split_at.result.0.now c.split_at-2.result.0.now
    c.split_at-3.result.0.now c.split_at-3.result.1.now (joined (goal.at.returns-then-not-is_zero-clause-none c).After-split_at-3) c.in-Some.ensures.fits
    c.split_at.ensures.front_len c.split_at-2.ensures.front_len c.split_at-3.ensures.front_len (c.is_zero.ensures.no c.if-not-is_zero.true)

pub returns-in-None-clause-none : goal.returns-in-None-clause-none
returns-in-None-clause-none c writes proper same =
    let found = same_parts c.args.format c.args.before.now c.args.index c.in-Some.len c.args.body.now c.split_at.result.0.now c.split_at-2.result.0.now
    c.split_at-3.result.0.now c.split_at-3.result.1.now (joined (goal.at.returns-in-None-clause-none c).After-split_at-3) c.in-Some.ensures.fits
    c.split_at.ensures.front_len c.split_at-2.ensures.front_len c.split_at-3.ensures.front_len writes proper same in
    (rw c.in-None.is at c.in_ok-writes.ensures.none) writes proper found.2

pub returns-in-Some-2-clause-digest : goal.returns-in-Some-2-clause-digest
unfolding record_digest
returns-in-Some-2-clause-digest c = grind (arith, common_steps)

pub returns-in-Some-2-clause-some : goal.returns-in-Some-2-clause-some
returns-in-Some-2-clause-some c =
    let right : c.write_u64.new.buf ≡ big_bytes 8 c.args.index = search rules in
    let size : length c.args.body.now ≡ 512 * sectors_for c.in-Some.len =
    c.requires ∙ ap (λ (n : ℕ). 512 * sectors_for n) (ap (λ (l : List ℕ). big_number 4 l) c.in-Some.ensures.some
    ∙ big_number-reads_back 4 c.in-Some.len c.in-Some.rest.now (omega (arith, c.in-Some.ensures.fits))) in
    right_body c.args.format c.args.before.now c.args.index c.in-Some.len c.args.body.now c.split_at.result.0.now c.split_at-2.result.0.now
    c.split_at-3.result.0.now c.split_at-3.result.1.now (joined (goal.at.returns-in-Some-2-clause-some c).After-split_at-3) c.in-Some.ensures.fits
    c.split_at.ensures.front_len c.split_at-2.ensures.front_len c.split_at-3.ensures.front_len
    c.in-Some-2.writes.items c.digest_of-right_digest.result size (c.is_same.ensures.yes c.if-not-is_same.false
    ∙ right) c.digest_of-right_digest.ensures (rw c.in-Some-2.is at c.in_ok-writes.ensures.some) (c.is_same-2.ensures.yes c.if-not-is_same-2.false)
    (c.is_zero.ensures.yes c.if-not-is_zero.false)
