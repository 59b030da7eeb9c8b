use Rattle.commit_log.proofs.copying.settle_zeros.Goals as goal
use Rattle.std.proofs.Common.{◌≡◌, ◌∙◌, List, ℕ, Some, slice_get, ap, sym}
use Rattle.commit_log.specs.Copying.{zero_sector}

pub returns-then-is_same-clause-zeros : goal.returns-then-is_same-clause-zeros
unfolding zero_sector
returns-then-is_same-clause-zeros g c keeps crash left =
    let settles = c.in-Ok.ensures.settles keeps in
    let is : crash ≡ settles.image = settles.settled.left crash (c.read.ensures.crash keeps crash left) in
    ap (λ (l : List (List ℕ)). slice_get l 0) is ∙ settles.settled.read 0 c.read.new.into (c.in-Ok-read.ensures.gives keeps)
    ∙ ap (λ (s : List ℕ). Some s) (c.is_same.ensures.yes c.if-is_same.true)

pub returns-then-is_same-clause-first : goal.returns-then-is_same-clause-first
unfolding zero_sector
returns-then-is_same-clause-first g c keeps =
    let settles = c.in-Ok.ensures.settles keeps in
    record {
      empty = (
        settles.image,
        record { size_is = settles.settled.size_is ∙ c.sync.ensures.size; read = λ i s at. settles.was_read i s at; left = settles.was_left },
        settles.settled.read 0 c.read.new.into (c.in-Ok-read.ensures.gives keeps) ∙ ap (λ (s : List ℕ). Some s) (c.is_same.ensures.yes c.if-is_same.true),
      );
      not_empty = λ is_so. absurd cc;
    }

pub returns-else-is_same-clause-first : goal.returns-else-is_same-clause-first
unfolding zero_sector
returns-else-is_same-clause-first g c keeps =
    let settles = c.in-Ok.ensures.settles keeps in
    record {
      empty = tt;
      not_empty = λ is_so. (
        settles.image,
        record { size_is = settles.settled.size_is ∙ c.sync.ensures.size; read = λ i s at. settles.was_read i s at; left = settles.was_left },
        (λ zeros.
            let both : Some c.read.new.into ≡ Some zero_sector = sym (settles.settled.read 0 c.read.new.into (c.in-Ok-read.ensures.gives keeps)) ∙ zeros in
            let same : c.read.new.into ≡ zero_sector = cc both in
            c.is_same.ensures.no c.if-is_same.false same),
      );
    }
