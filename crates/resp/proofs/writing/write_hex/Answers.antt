use Rattle.resp.proofs.writing.write_hex.Goals as goal
use Rattle.std.proofs.Common.{arith, ◌≡◌, ◌∷◌, ◌/◌, ◌%◌, ℕ, List, [], ap, refl}
use Rattle.std.proofs.lemmas.Grind.{common_steps}
use Rattle.hex.specs.Hex.{encode_with, lower_digits}
use Rattle.model.specs.ReplyText.{hex_text, hex_digit}

same_hex : (bytes : List ℕ) → encode_with lower_digits bytes ≡ hex_text bytes
unfolding encode_with
same_hex [] = refl
same_hex (b ∷ bytes) = ap (λ (xs : List ℕ). hex_digit (b / 16) ∷ hex_digit (b % 16) ∷ xs) (same_hex bytes)

pub returns : goal.returns
returns c = grind (arith, common_steps, same_hex)
