use Rattle.merging_runs.proofs.merges.open_at.Goals as goal
use Rattle.std.proofs.Common.{◌≡◌, ◌<◌, ◌-◌, length, refl, inl, sym, ap, ◌∙◌, map, take, arith}
use Rattle.std.specs.List.{take-map}
use Rattle.merging_runs.proofs.KeptRuns.{joined_sound}
use Rattle.merging_runs.proofs.RunSteps.{begun, one_agrees, one_of_two, same_run, unlike_at}
use Rattle.merging_runs.specs.RunSizes.{become_one, last_after}

pub returns : goal.returns
returns g c =
    let runs = c.args.runs.now in
    let left = c.remove-second.new.self.items in
    let i = c.args.place in
    let size = g.R.Run.sizes in
    let alike = become_one (g.R.Run.begin_numbers c.args.active.now) c.args.oldest in
    let lt : i < length runs.items = omega (arith, c.requires.within, runs.ok.0) in
    let first = c.index_mut.result.now in
    let second = c.remove-second.result in
    let is = c.join.new.self in
    let of = one_of_two runs.items left i (i
    - 1) c.index.result.now first second is (omega (arith, c.requires.some)) lt c.index.ensures c.remove-second.ensures.items c.remove-second.ensures.value
    c.index_mut.ensures.value in
    let later = same_run runs.items i second c.index-2.result.now lt c.remove-second.ensures.value c.index-2.ensures in
    let before : last_after 0 (map size (take (i - 1) runs.items)) ≡ c.last_before-before.result =
    ap (last_after 0) (sym (take-map size (i - 1) runs.items)) ∙ ap (λ l. last_after 0 (take (i - 1) (map size l))) (sym c.deref.ensures.value)
    ∙ sym c.last_before-before.ensures in
    let asked = ap (λ b. become_one b c.args.oldest c.last_before-before.result (size c.index.result.now) (size c.index-2.result.now)) c.begin_numbers.ensures
    in
    let are = (λ k. alike (before k) (size (of.0 k)) (size (later k))) ∙ sym asked ∙ sym c.are_alike.ensures ∙ c.if-not-are_alike.false in
    record {
      agree = λ begins. one_agrees (g.R.Run.agree begins) (g.met.R.Run.between begins) _ runs.items _ first second is of.1
          (c.join.ensures.agree begins);
      alike = λ t. inl (begun size alike (take (i - 1) runs.items) runs.items _ first second is of.1 are c.join.ensures.sizes, refl);
      none = λ f. absurd cc;
      stays = λ f. absurd cc;
      kept = joined_sound (g.R.Run.holds c.args.active.now) g.R.Run.from size (g.R.Run.since c.args.active.now) _ runs.items _ first second is of.1
          c.join.ensures.sizes c.join.ensures.from (c.join.ensures.holds c.args.active.now);
    }

pub returns-then-not-are_alike-clause-none : goal.returns-then-not-are_alike-clause-none
returns-then-not-are_alike-clause-none g c = λ f.
    let alike = become_one (g.R.Run.begin_numbers c.args.active.now) c.args.oldest in
    let first = g.R.Run.sizes c.index.result.now in
    let second = g.R.Run.sizes c.index-2.result.now in
    let sizes = map g.R.Run.sizes c.args.runs.now.items in
    let before : last_after 0 (take (c.args.place - 1) sizes) ≡ c.last_before-before.result =
    ap (λ l. last_after 0 (take (c.args.place - 1) (map g.R.Run.sizes l))) (sym c.deref.ensures.value) ∙ sym c.last_before-before.ensures in
    let asked = ap (λ b. become_one b c.args.oldest c.last_before-before.result first second) c.begin_numbers.ensures in
    unlike_at g.R.Run.sizes alike _ c.args.runs.now.items c.args.place (c.args.place
    - 1) c.index.result.now c.index-2.result.now (omega (arith, c.requires.some)) (omega (arith, c.requires.within, c.args.runs.now.ok.0)) c.index.ensures
    c.index-2.ensures
    (ap (λ n. alike n first second) before ∙ sym asked ∙ sym c.are_alike.ensures ∙ c.if-not-are_alike.true)
