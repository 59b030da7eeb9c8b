-- Commands made step by step.
use Rattle.std.proofs.Common.{◌≡◌, Result, false, subst}
use Rattle.std.specs.declared.alloc.AllocError.{AllocError}
use Rattle.clap.specs.Simple.{App, with_rule}
use Rattle.clap.specs.Walk.{Rule, rule_of}
use Rattle.clap.specs.declared.builder.arg.Arg.{Arg}
use Rattle.clap.specs.declared.builder.command.Command.{Command}
use Rattle.command_line.specs.Making.{Makes}

-- the option that the usage says is added to the command that it says
pub option_added : (a : App) (r : Rule) (option : Arg) (before after : Result Command AllocError)
    → ((b : App) → Makes b before → option.global ≡ false → Makes (with_rule b (rule_of option)) after)
    → Makes a before → rule_of option ≡ r → option.global ≡ false → Makes (with_rule a r) after
option_added a r option before after adds made is local = subst (λ x. Makes (with_rule a x) after) is (adds a made local)
