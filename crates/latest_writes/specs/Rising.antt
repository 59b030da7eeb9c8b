-- The order by rising key.
use Rattle.std.specs.Ordering.{is_lt}
use Rattle.std.specs.Prelude.{Bool}
use Rattle.model.specs.Map.{KeyWrite, key_cmp}

-- whether a write stands before another by rising key
abbrev pub has_lower_key : KeyWrite → KeyWrite → Bool
has_lower_key v w = is_lt (key_cmp v.0 w.0)
