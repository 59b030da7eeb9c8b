use Rattle.resp.proofs.writing.write_request.Given as goal
use Rattle.std.proofs.Common.{take, length}
use Rattle.resp.proofs.Appending.{IsAdded}
use Rattle.resp.proofs.GivenParts.{parts_text}

abbrev pub invariant-loop-part : goal.invariant-loop-part
invariant-loop-part l = IsAdded l.fn.out l.out (parts_text (length l.parts) (take l.part-index l.parts))
