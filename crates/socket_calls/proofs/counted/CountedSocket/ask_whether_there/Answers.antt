use Rattle.socket_calls.proofs.counted.CountedSocket.ask_whether_there.Goals as goal
use Rattle.std.proofs.Common.{rules}
use Rattle.socket_calls.specs.HappenedCalls.{real_ask_whether_there, real_fault}

pub returns-clause-asks : goal.returns-clause-asks
returns-clause-asks c = search (rules, real_ask_whether_there)

pub returns-clause-error : goal.returns-clause-error
returns-clause-error c = real_fault _

pub returns-in_err-set_option-clause-error : goal.returns-in_err-set_option-clause-error
returns-in_err-set_option-clause-error c = real_fault _

pub returns-in_err-set_option-2-clause-error : goal.returns-in_err-set_option-2-clause-error
returns-in_err-set_option-2-clause-error c = real_fault _

pub returns-in_err-set_option-3-clause-error : goal.returns-in_err-set_option-3-clause-error
returns-in_err-set_option-3-clause-error c = real_fault _
