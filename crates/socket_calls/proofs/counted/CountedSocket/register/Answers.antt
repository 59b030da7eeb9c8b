use Rattle.socket_calls.proofs.counted.CountedSocket.register.Goals as goal
use Rattle.std.proofs.Common.{rules}
use Rattle.socket_calls.specs.HappenedCalls.{real_fault, real_register}

pub returns-clause-registered : goal.returns-clause-registered
returns-clause-registered c = search (rules, real_register)

pub returns-clause-error : goal.returns-clause-error
returns-clause-error c = real_fault _
