use Rattle.commit_log.proofs.copying.copy_sectors.Goals as goal
use Rattle.std.proofs.Common.{Option, Some, None, arith, length-drop}
use Rattle.std.proofs.lemmas.Grind.{common_steps}
use Rattle.std.specs.Prelude.{IfNone}
use Rattle.commit_log.proofs.CopyProtocol.{next_set_of}
use Rattle.commit_log.proofs.Putting.{bounds_drop, no_sets, length-write_sets, write_sets_give}

if_none : {A : Type 0} (r : Option A) (P : Type 0) → P → IfNone r P
if_none None P p = p
if_none (Some x) P p = tt

pub returns-in_err-sectors-clause-none : goal.returns-in_err-sectors-clause-none
returns-in_err-sectors-clause-none c = grind (arith, common_steps, next_set_of, if_none)

pub loop-left-preserved : goal.loop-left-preserved
loop-left-preserved c = grind (arith, common_steps, next_set_of, length-drop, bounds_drop)

pub returns-in_err-sectors-clause-lists : goal.returns-in_err-sectors-clause-lists
returns-in_err-sectors-clause-lists c = length-write_sets c.args.map.now

pub returns-in_err-sectors-clause-gives : goal.returns-in_err-sectors-clause-gives
returns-in_err-sectors-clause-gives c = write_sets_give c.args.map.now c.len-left.ensures.is_map

pub returns : goal.returns
returns c = grind (arith, common_steps, no_sets, length-write_sets, write_sets_give)
