-- The words that a command line has, and what is answered at them.
use Rattle.std.specs.Prelude.{ℕ, List, map}
pub use Rattle.command_line.specs.Asking.{AnswersTo}
use Rattle.commands.specs.declared.system.CommandLine.{CommandLine}

abbrev pub argument_words : CommandLine → List (List ℕ)
argument_words line = map (λ word. word.now) line.words.now
