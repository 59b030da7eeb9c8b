-- Flags of the entries of a page: whether their values show.
use Rattle.std.specs.Prelude.{◌≡◌, ◌≤◌, Bool, map}
use Rattle.std.specs.Vec.{vec_capacity}
use Rattle.std.specs.declared.vec.Vec.{Vec}
use Rattle.model.specs.Map.{Bytes}

-- each entry has its flag, and each place of an entry has one of a flag
pub record HaveFlags {X Y Z : Type 0} (shows : X → Bool) (es : Vec (Bytes × X) Y) (fs : Vec Bool Z) : Type 0 where
  pub flags : fs.items ≡ map (λ e. shows e.1) es.items
  pub places : vec_capacity es ≤ vec_capacity fs
