-- The versions that a chain keeps.
use Rattle.std.specs.Prelude.{Some, None}
use Rattle.versions.specs.Chains.{ChainValue, fresh_chain, stamped}
use Rattle.versions.specs.declared.chain.Kept.{Kept}
use Rattle.versions.specs.declared.chain.Kept.TheVariants.{Value, Deletion, More}

-- the chain of these versions
abbrev pub kept_chain : Kept → ChainValue
kept_chain (Value number value) = fresh_chain (stamped number (Some value)) 0
kept_chain (Deletion number) = fresh_chain (stamped number None) 0
kept_chain (More versions) = versions
