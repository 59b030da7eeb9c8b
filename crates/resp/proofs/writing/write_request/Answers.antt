use Rattle.resp.proofs.writing.write_request.Goals as goal
use Rattle.std.proofs.Common.{◌≡◌, true, arith, length-append, Result, Ok, Err}
use Rattle.std.proofs.lemmas.Grind.{common_steps}
use Rattle.std.proofs.lemmas.List.{length-map}
use Rattle.std.specs.Prelude.{is_err, OnErr}
use Rattle.resp.proofs.Appending.{not_ok, taken_back}
use Rattle.resp.proofs.GivenParts.{parts_more, parts_all, parts_front}

at_err : {T E : Type 0} (P : Type 0) (r : Result T E) → is_err r ≡ true → OnErr r P → P
at_err P (Ok x) e h = absurd cc
at_err P (Err x) e h = h

pub returns-then-is_err : goal.returns-then-is_err
returns-then-is_err c = grind (arith, common_steps, not_ok, at_err, parts_more, length-append, parts_all, length-map, taken_back, parts_front)
