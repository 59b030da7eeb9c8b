use Rattle.versions.proofs.installing.add_all.Given as goal
use Rattle.std.proofs.Common.{◌-◌}
use Rattle.std.specs.Vec.{vec_len, vec_capacity}
use Rattle.std.specs.Vec.Iter.{into_iter_items}
use Rattle.sorted_pages.specs.Pages.{IsLastRaised, entries}
use Rattle.versions.proofs.Calls.{Installing}

abbrev pub invariant-loop-write : goal.invariant-loop-write
invariant-loop-write l = record {
  installing : Installing l.n (entries l.initial.chains.pages) (entries l.chains.pages) l.chains.pages l.listed.items (vec_capacity l.listed
      - vec_len l.listed) (into_iter_items l.initial.write-iterator) (into_iter_items l.write-iterator);
  held : IsLastRaised l.n l.initial.chains l.chains;
}
