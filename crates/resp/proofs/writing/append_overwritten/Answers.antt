use Rattle.resp.proofs.writing.append_overwritten.Goals as goal
use Rattle.std.proofs.Common.{◌≡◌, ◌*◌, ◌∷◌, ℕ, List, [], length, arith, refl, length-append}
use Rattle.std.proofs.lemmas.Grind.{common_steps}
use Rattle.model.specs.ReplyText.{hex_text}

length-hex_text : (bytes : List ℕ) → length (hex_text bytes) ≡ 2 * length bytes
length-hex_text [] = refl
length-hex_text (b ∷ bytes) = omega (arith, length-hex_text bytes)

pub returns-clause-brief : goal.returns-clause-brief
returns-clause-brief c = grind (arith, common_steps, length-append, length-hex_text)
