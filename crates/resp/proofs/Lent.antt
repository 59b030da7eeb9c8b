-- The parts that a request lends.
use Rattle.std.proofs.Common.{◌≡◌, ◌<◌, [], ◌∷◌, List, ℕ, length, take, map, arith, ◌+◌, ◌++◌, set, length-append}
use Rattle.std.proofs.lemmas.Grind.{common_steps}
use Rattle.std.proofs.lemmas.List.{map-set, take_more_set, length-map}
use Rattle.std.specs.Borrow.{Bor}
use Rattle.model.specs.Grammar.{IsPart, IsRequest}

-- the bytes that are lent
abbrev pub lent : Bor (List ℕ) → List ℕ
lent part = part.now

-- one more part behind the first ones
pub lent_more : (parts : List (Bor (List ℕ))) (len : ℕ) (part : Bor (List ℕ)) → len < length parts
    → take (len + 1) (map lent (set parts len part)) ≡ take len (map lent parts) ++ lent part ∷ []
lent_more parts len part room = grind (arith, common_steps, length-map, map-set, take_more_set)

-- and the parts are a request again
pub request_more : (parts : List (List ℕ)) (part : List ℕ) → IsRequest parts → length parts < 4 → IsPart part → IsRequest (parts ++ part ∷ [])
request_more parts part so_far less fits = grind (arith, common_steps, length-append)
