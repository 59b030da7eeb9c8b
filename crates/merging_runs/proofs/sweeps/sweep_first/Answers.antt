use Rattle.merging_runs.proofs.sweeps.sweep_first.Goals as goal
use Rattle.std.proofs.Common.{◌≡◌, ◌*◌, ap, sym, ◌∙◌, arith}
use Rattle.std.proofs.lemmas.Bool.Decides.{nat_tests}
use Rattle.std.specs.Prelude.{◌^◌, min, nat_le}
use Rattle.merging_runs.proofs.KeptRuns.{other_sound}
use Rattle.merging_runs.proofs.RunSteps.{other_agrees, same_run}
use Rattle.merging_runs.proofs.SweptRuns.{found_at, left_swept, partial_at, partial_swept, none_found, whole_swept}
use Rattle.merging_runs.specs.Value.{contents_of}

pub returns-in_err-place-clause-none : goal.returns-in_err-place-clause-none
returns-in_err-place-clause-none g c = λ none.
    (none_found (g.R.Run.above c.args.oldest) (contents_of g.R.Run.from g.R.Run.sizes g.R.Run.elements) c.args.oldest c.args.runs.now.items c.deref.result.now
    (sym c.deref.ensures.value) (g.met.R.Run.later c.args.oldest)
    (sym c.first_from.ensures ∙ c.in_err-place.was)).0

pub returns-in_err-place-clause-looked : goal.returns-in_err-place-clause-looked
returns-in_err-place-clause-looked g c =
    let none = (none_found (g.R.Run.above c.args.oldest) (contents_of g.R.Run.from g.R.Run.sizes g.R.Run.elements) c.args.oldest c.args.runs.now.items
    c.deref.result.now (sym c.deref.ensures.value) (g.met.R.Run.later c.args.oldest)
    (sym c.first_from.ensures ∙ c.in_err-place.was)).1 in
    rw c.from_residual.ensures (none, none)

pub sweep-requires : goal.sweep-requires
sweep-requires g c =
    let f = contents_of g.R.Run.from g.R.Run.sizes g.R.Run.elements in
    let found = found_at f c.args.oldest c.args.runs.now.items c.deref.result.now c.in_ok-place.place c.index_mut.result.now (sym c.deref.ensures.value)
    (sym c.first_from.ensures ∙ c.in_ok-place.was) c.requires c.index_mut.ensures.value (omega arith) in
    record { late = found.last }

pub returns-then-work-most : goal.returns-then-work-most
returns-then-work-most g c =
    let o = c.args.oldest in
    let rs = c.args.runs.now.items in
    let i = c.in_ok-place.place in
    let was = c.index_mut.result.now in
    let at = c.index_mut.ensures.value in
    let is = c.sweep.new.self in
    let swept = c.sweep.ensures.swept in
    let size = g.R.Run.sizes in
    let f = contents_of g.R.Run.from size g.R.Run.elements in
    let found = found_at f o rs c.deref.result.now i was (sym c.deref.ensures.value) (sym c.first_from.ensures
    ∙ c.in_ok-place.was) c.requires at (omega arith) in
    let looked : c.min-work.result ≡ min (8 * (f was).size) (2 ^ 63) =
    omega (
      arith,
      c.min-work.ensures,
      c.saturating_mul.ensures,
      c.size.ensures,
      ap g.R.Run.elements (same_run rs i c.index.result.now was found.within c.index.ensures at),
    ) in
    let partial = partial_swept f o rs i was is found.within at found.from found.last c.sweep.ensures.from in
    record {
      swept = record {
        agree = other_agrees (g.R.Run.agree (nat_le o)) (g.met.R.Run.between (nat_le o)) rs i was is found.within at c.sweep.ensures.agree;
        whole = whole_swept f o rs i was is found.within at found.last swept.last ∙ c.requires;
        left = left_swept size o rs i was is found.within at found.last swept.last swept.left;
      };
      looked = (omega (arith, looked), omega (arith, looked), omega (arith, looked, partial), grind (arith, nat_tests, looked, partial));
      none = λ none. absurd cc;
      kept = λ active. other_sound (g.R.Run.holds active) g.R.Run.from size rs i was is found.within at (record {
        last = swept.last;
        rises = c.sweep.ensures.rises;
        holds = c.sweep.ensures.holds active;
      });
    }

pub returns-else-work-most-clause-looked : goal.returns-else-work-most-clause-looked
returns-else-work-most-clause-looked g c =
    let o = c.args.oldest in
    let rs = c.args.runs.now.items in
    let i = c.in_ok-place.place in
    let r = c.index.result.now in
    let f = contents_of g.R.Run.from g.R.Run.sizes g.R.Run.elements in
    let found = found_at f o rs c.deref.result.now i r (sym c.deref.ensures.value) (sym c.first_from.ensures
    ∙ c.in_ok-place.was) c.requires c.index.ensures (omega arith) in
    let looked : c.min-work.result ≡ min (8 * (f r).size) (2 ^ 63) = omega (arith, c.min-work.ensures, c.saturating_mul.ensures, c.size.ensures) in
    let least = partial_at f o rs i r found.within c.index.ensures found.from found.last in
    (omega (arith, looked), omega (arith, looked), omega (arith, looked, least), grind (arith, nat_tests))
