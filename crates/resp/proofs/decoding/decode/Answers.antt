use Rattle.resp.proofs.decoding.decode.Goals as goal
use Rattle.std.proofs.Common.{arith, refl}
use Rattle.std.proofs.lemmas.Grind.{common_steps}
use Rattle.resp.proofs.Exactly.{is_whole, only_whole, no_more, not_none, cut_no_whole, foreign_no_whole}
use Rattle.resp.proofs.Exactly.{foreign_no_more}

pub returns-in-Ok-clause-whole : goal.returns-in-Ok-clause-whole
returns-in-Ok-clause-whole c parts n = grind (arith, common_steps, is_whole, only_whole)

pub returns-in-Ok-clause-more : goal.returns-in-Ok-clause-more
returns-in-Ok-clause-more c = let h = c.in-Ok.ensures in (λ none. absurd none, no_more c.in-Ok.rest.now h.1 h.2 refl)

pub returns-in-Ok-clause-bad : goal.returns-in-Ok-clause-bad
returns-in-Ok-clause-bad c = let h = c.in-Ok.ensures in (λ none. absurd none, λ f. not_none c.in-Ok.rest.now h.1 h.2 refl f.0)

pub returns-in-Err-More-clause-whole : goal.returns-in-Err-More-clause-whole
returns-in-Err-More-clause-whole c parts n = grind (arith, common_steps, cut_no_whole)

pub returns-in-Err-Bad-clause-whole : goal.returns-in-Err-Bad-clause-whole
returns-in-Err-Bad-clause-whole c parts n = grind (arith, common_steps, foreign_no_whole)

pub returns-in-Err-Bad-clause-more : goal.returns-in-Err-Bad-clause-more
returns-in-Err-Bad-clause-more c = grind (arith, common_steps, foreign_no_more)

pub returns-in-Err-Bad-clause-bad : goal.returns-in-Err-Bad-clause-bad
returns-in-Err-Bad-clause-bad c = grind (arith, common_steps, foreign_no_whole, foreign_no_more)
