use Rattle.engine.proofs.begins.copy_begins.Given as goal
use Rattle.std.proofs.Common.{◌≡◌, ◌≤◌, ◌++◌, map, take, length}
use Rattle.std.specs.BTreeMap.{values}

-- the numbers so far are those of the transactions so far, where these are few
abbrev pub invariant-loop-transaction : goal.invariant-loop-transaction
invariant-loop-transaction l = record {
  few : l.count ≤ 64;
  counted : length l.yielded ≤ 64 → l.count ≡ length l.yielded;
  so_far : length l.yielded ≤ 64 → take l.count l.numbers ≡ map (λ t. t.begin) (map (λ t. t.now) l.yielded);
  all : map (λ t. t.now) l.yielded ++ l.transaction-iterator ≡ values l.running;
}
