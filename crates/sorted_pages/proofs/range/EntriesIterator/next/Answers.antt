use Rattle.sorted_pages.proofs.range.EntriesIterator.next.Goals as goal
use Rattle.std.proofs.Common.{◌≡◌, ◌<◌, ◌≤◌, ◌∷◌, ap, sym, ◌∙◌, arith, drop, false, true, get_or, length, refl}
use Rattle.std.proofs.lemmas.Grind.{common_steps}
use Rattle.std.proofs.lemmas.List.{take_rest}
use Rattle.model.specs.KeyBytes.{end_bytes}
use Rattle.model.specs.Map.{is_below}
use Rattle.sorted_pages.proofs.Steps.{goes_on, next_entry, next_page, no_entry}
use Rattle.sorted_pages.specs.Ranges.{looked_at, not_passed}

-- the entry is the next of its page, and is not in the range
pub returns-then-not-is_in-clause-steps : goal.returns-then-not-is_in-clause-steps
returns-then-not-is_in-clause-steps g c =
    let r = c.loop-page.self in
    let ps = r.pages.now in
    let page = c.in-Some.page.now in
    let rest = c.in-Some.rest.now in
    let at = c.next_seen-self.result in
    let e = c.in-Some-get.entry.now in
    let hi = end_bytes r.hi in
    let hides = g.V.Versioned.hides r.reader.number in
    let next : ps ≡ page ∷ rest = grind (arith, common_steps) in
    let lt : at < length page.0 = grind (arith, common_steps) in
    let is : e ≡ get_or page.0 at e = grind (arith, common_steps) in
    let above : is_below e.0 hi ≡ false = grind (arith, common_steps) in
    let seen = c.next_seen-self.ensures in (
      sym c.loop-page.invariant.left ∙ no_entry hides r.reader hi page ps rest r.summaries.now r.at at e next lt is seen.first seen.shown above,
      no_entry hides r.reader hi page ps rest r.summaries.now at at e next lt is seen.first refl above,
    )

-- and is in the range
pub returns-in-Some-get-clause-steps : goal.returns-in-Some-get-clause-steps
returns-in-Some-get-clause-steps g c =
    let r = c.loop-page.self in
    let ps = r.pages.now in
    let page = c.in-Some.page.now in
    let rest = c.in-Some.rest.now in
    let at = c.next_seen-self.result in
    let e = c.in-Some-get.entry.now in
    let hi = end_bytes r.hi in
    let hides = g.V.Versioned.hides r.reader.number in
    let next : ps ≡ page ∷ rest = grind (arith, common_steps) in
    let lt : at < length page.0 = grind (arith, common_steps) in
    let is : e ≡ get_or page.0 at e = grind (arith, common_steps) in
    let below : is_below e.0 hi ≡ true = grind (arith, common_steps) in
    let seen = c.next_seen-self.ensures in
    rw c.lend-key.ensures
    (sym c.loop-page.invariant.left ∙ next_entry hides r.reader hi page ps rest r.summaries.now r.at at e next lt is seen.first seen.shown below)

pub returns-in-Some-get-clause-goes : goal.returns-in-Some-get-clause-goes
returns-in-Some-get-clause-goes g c = let steps = returns-in-Some-get-clause-steps g c in grind (arith, common_steps)

-- the page is done with, and those behind it that the reader passes over
pub loop-page-preserved : goal.loop-page-preserved
loop-page-preserved g c =
    let r = c.loop-page.self in
    let ps = r.pages.now in
    let hides = g.V.Versioned.hides r.reader.number in
    let page = c.in-Some.page.now in
    let rest = c.in-Some.rest.now in
    let ss = c.behind_first-summaries.result.now in
    let at = c.next_seen-self.result in
    let passed = c.passed_pages-passed.result in
    let next : ps ≡ page ∷ rest = grind (arith, common_steps) in
    let none : length page.0 ≤ at = grind (arith, common_steps) in
    let behind = ap (looked_at r.reader _) (take_rest ss passed) ∙ ap (λ l. looked_at r.reader l (drop passed ss)) (take_rest rest passed)
    ∙ c.passed_pages-passed.ensures.rest ∙ ap (not_passed r.reader rest) c.behind_first-summaries.ensures in
    let before = c.loop-page.invariant.ahead in
    record {
      left = next_page hides r.reader (end_bytes r.hi) page ps rest r.summaries.now r.at at _ _ next none c.next_seen-self.ensures.shown behind
          ∙ c.loop-page.invariant.left;
      ahead = goes_on r.reader page ps rest _ _ r.summaries.now _ _ _ _ next behind (grind (arith, common_steps)) before;
    }
