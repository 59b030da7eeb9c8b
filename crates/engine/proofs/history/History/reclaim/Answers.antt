use Rattle.engine.proofs.history.History.reclaim.Goals as goal
use Rattle.std.proofs.Common.{◌≡◌, ◌∙◌, ℕ, Bool, true, List, ap, subst, sym}
use Rattle.std.specs.List.{AllByRecursion}
use Rattle.std.specs.Prelude.{max}
use Rattle.model.specs.History.{Record}
use Rattle.model.specs.Map.{KeyMap}
use Rattle.pivot_check.specs.FewKept.{KeepsLittle}
use Rattle.pivot_check.specs.Kept.{CommittedValue, may_ask}
use Rattle.engine.specs.HistoryValue.{HistoryValue, HistoryStandsFor}

pub returns-clause-reclaims : goal.returns-clause-reclaims
returns-clause-reclaims c =
    let before = λ (active : ℕ → Bool) (base : KeyMap) (history : List Record) (h : HistoryStandsFor c.args.self.now active base history).
    subst (λ (v : HistoryValue). HistoryStandsFor v active base history) (sym c.self.view_is) h in
    let inside = ap (λ (v : HistoryValue). v.committed) c.self.view_is in
    let asked = subst (λ (v : CommittedValue). AllByRecursion (λ b. may_ask v.facts.reach b ≡ true) c.args.begins.now) (sym inside) in
    let last = ap (λ (v : CommittedValue). v.facts.last) c.keep_active.ensures.asked ∙ ap (λ (v : CommittedValue). v.facts.last) inside in
    record {
      stands = λ active base history h all. record {
        versions = c.reclaim.ensures.stands c.requires.few active base history (before active base history h).versions;
        committed = c.forget.ensures.stands_for history
            (c.keep_active.ensures.stands_for (asked all) history
            (before active base history h).committed);
      };
      last = c.forget.ensures.forgets.last ∙ last;
      oldest = c.forget.ensures.forgets.oldest
          ∙ ap (λ n. max n c.args.oldest) (ap (λ (v : CommittedValue). v.facts.oldest) c.keep_active.ensures.asked
          ∙ ap (λ (v : CommittedValue). v.facts.oldest) inside);
      reach = c.forget.ensures.forgets.reach ∙ ap (λ (v : CommittedValue). v.facts.reach) c.keep_active.ensures.asked
          ∙ ap (λ (v : CommittedValue). record { begins = c.args.begins.now; since = v.facts.last }) inside;
      forgotten = c.forget.ensures.forgets.forgotten;
      classified = λ active base history h among. c.reclaim.ensures.classified c.requires.few active base history (before active base history h).versions among;
      little = λ all little. c.forget.ensures.little (c.keep_active.ensures.little (asked all) (subst KeepsLittle (sym inside) little));
    }
