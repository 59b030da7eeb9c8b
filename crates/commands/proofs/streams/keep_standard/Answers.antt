use Rattle.commands.proofs.streams.keep_standard.Goals as goal
use Rattle.std.proofs.Common.{◌≡◌, pos, [], ◌∷◌, ◌++◌, Some, rules, arith}
use Rattle.std.proofs.lemmas.Int.{ints}
use Rattle.std.specs.Prelude.{◌≤ℤ◌, ◌<ℤ◌}
use Rattle.commands.proofs.Opening.{keeps_none, keeps_more, is_low, is_above}

pub loop-turn-init : goal.loop-turn-init
loop-turn-init g c = keeps_none g.O.Opener.opens g.O.File.AsRawFd.raw_fd c.args.opener.now c.new-kept.result.items c.new-kept.ensures

pub loop-turn-preserved : goal.loop-turn-preserved
loop-turn-preserved g c =
    let low : c.as_raw_fd.result ≤ℤ pos 2 = grind (arith, ints) in
    let pushed : c.try_push.new.self.items ≡ c.loop-turn.kept.items ++ Some c.in_ok-file.file ∷ [] = search rules in
    keeps_more g.O.Opener.opens g.O.File.AsRawFd.raw_fd c.args.opener.now c.loop-turn.opener c.open.new.self c.loop-turn.kept.items c.try_push.new.self.items
    c.in_ok-file.file
    c.loop-turn.invariant c.in_ok-file.ensures (is_low (g.O.File.AsRawFd.raw_fd c.in_ok-file.file) c.as_raw_fd.result c.as_raw_fd.ensures.number low) pushed

pub returns-then-as_raw_fd-gt-STANDARD_MAX : goal.returns-then-as_raw_fd-gt-STANDARD_MAX
returns-then-as_raw_fd-gt-STANDARD_MAX g c =
    let above : pos 2 <ℤ c.as_raw_fd.result = grind (arith, ints) in (
      c.loop-turn.opener,
      c.in_ok-file.file,
      c.loop-turn.invariant,
      c.in_ok-file.ensures,
      is_above (g.O.File.AsRawFd.raw_fd c.in_ok-file.file) c.as_raw_fd.result c.as_raw_fd.ensures.number above,
    )
