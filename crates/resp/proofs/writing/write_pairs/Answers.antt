use Rattle.resp.proofs.writing.write_pairs.Goals as goal
use Rattle.std.proofs.Common.{◌≡◌, ◌++◌, ◌∷◌, ◌+◌, ◌≤◌, ℕ, List, true, false, [], length, arith, vec_len}
use Rattle.std.proofs.Common.{length-append, ap, sym, subst, ◌∙◌}
use Rattle.std.proofs.iter.Next.{Yields-more}
use Rattle.std.proofs.lemmas.Grind.{common_steps}
use Rattle.std.specs.Borrow.{Bor}
use Rattle.std.specs.Iterator.{AlwaysYields}
use Rattle.std.specs.Prelude.{is_ok}
use Rattle.model.specs.Grammar.{bulk}
use Rattle.model.specs.KeyBytes.{pair_bytes}
use Rattle.model.specs.Operations.Response.{Pairs}
use Rattle.model.specs.ReplyText.{pair_text, reply_text}
use Rattle.model.specs.declared.keys.KeyRef.{KeyRef}
use Rattle.resp.proofs.Appending.{not_ok}
use Rattle.resp.proofs.GivenPairs.{given_front, same_given, pairs_text, pairs_more, pairs_front}

pub returns-then-is_err-clause-room : goal.returns-then-is_err-clause-room
returns-then-is_err-clause-room g c all given fits =
    let it = c.into_iter-key-iterator.result in
    let gives : AlwaysYields g.I.Iterator.next_gives pair_bytes it all =
    subst (λ s. AlwaysYields g.I.Iterator.next_gives pair_bytes s all) (sym c.into_iter-key-iterator.ensures.into_iter_gives) given.1 in
    let failed : is_ok c.write_pair.result ≡ false = not_ok c.write_pair.result (sym c.if-is_err.ensures.value) in
    let old = c.args.out.now in
    let before = c.loop-key.out in
    let pair : KeyRef × Bor (List ℕ) = (c.in-Some.key, c.in-Some.value) in
    let so_far = c.loop-key.yielded in
    let more = Yields-more g.I.Iterator.next_gives it so_far c.loop-key.key-iterator pair c.next.new.self c.loop-key.yielded_by c.in-Some.ensures.steps in
    let front = given_front g.I.Iterator.next_gives pair_bytes it all (so_far ++ pair ∷ []) c.next.new.self gives more in
    let short : length (pairs_text c.args.n (so_far ++ pair ∷ [])) ≤ length (reply_text (Pairs all)) =
    pairs_front c.args.n (so_far ++ pair ∷ []) front.0 all front.1 given.0 in
    let grown : length (pairs_text c.args.n (so_far ++ pair ∷ [])) ≡ length (pairs_text c.args.n so_far) + length (pair_text (pair_bytes pair)) =
    ap length (sym (pairs_more c.args.n so_far pair)) ∙ length-append (pairs_text c.args.n so_far) (pair_text (pair_bytes pair)) in
    let len : vec_len before ≡ vec_len old + length (pairs_text c.args.n so_far) =
    omega (arith, before.ok.0, old.ok.0, ap length c.loop-key.invariant.items, length-append old.items (pairs_text c.args.n so_far)) in
    let same : length (bulk c.bytes.result.now ++ bulk c.in-Some.value.now) ≡ length (pair_text (pair_bytes pair)) =
    ap (λ (xs : List ℕ). length (bulk xs ++ bulk c.in-Some.value.now)) c.bytes.ensures.bytes in
    let succeeds : is_ok c.write_pair.result ≡ true = c.write_pair.ensures.room (omega (arith, grown, len, short, same, c.loop-key.invariant.capacity, fits)) in
    absurd cc

pub returns-clause-ok : goal.returns-clause-ok
returns-clause-ok g c all given = grind (arith, common_steps, same_given)

pub returns-in_err-write_array_line-clause-room : goal.returns-in_err-write_array_line-clause-room
returns-in_err-write_array_line-clause-room g c all given fits = grind (arith, common_steps, pairs_front, length-append)
