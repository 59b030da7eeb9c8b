use Rattle.pivot_check.proofs.part.Part.least_covered.Goals as goal
use Rattle.std.proofs.Common.{drop, arith, ◌∙◌, ap}
use Rattle.std.proofs.lemmas.Bool.{and_parts}
use Rattle.marks.specs.Marked.{marks_of}
use Rattle.pivot_check.proofs.Passing.{passed_over, all_left}
use Rattle.pivot_check.proofs.PlacedMarks.{next_place, no_place_left, all_places}
use Rattle.pivot_check.specs.Places.{covered_at}
use Rattle.pivot_check.specs.Postings.{least, lesser, covered_of}

pub returns-then-not-can_improve : goal.returns-then-not-can_improve
returns-then-not-can_improve c =
    passed_over c.args.found c.args.begin c.args.flagged (covered_of (marks_of c.args.order.now.marks.now) c.args.begin c.args.flagged)
    (λ p e. (and_parts _ _ e).1) (drop c.args.self.now.start c.args.self.now.written.items)
    (all_left _ c.args.self.now.start c.args.self.now.written.items (c.can_improve.ensures c.if-not-can_improve.true))

pub loop-place-preserved : goal.loop-place-preserved
loop-place-preserved c = (
  next_place (marks_of c.args.order.now.marks.now) c.as_slice-places.result.now c.loop-place.place-index c.args.begin c.args.flagged
      (drop c.args.self.now.start c.args.self.now.written.items) c.loop-place.scan.found c.scan_mark_at-scan.result.found _
      (omega (arith, c.loop-place-test.true)) c.scan_mark_at-scan.ensures.found c.loop-place.invariant.0,
  c.scan_mark_at-scan.ensures.looked,
)

pub returns : goal.returns
returns c =
    let hs = c.args.order.now.marks.now in
    let ps = drop c.args.self.now.start c.args.self.now.written.items in
    no_place_left (marks_of hs) c.as_slice-places.result.now c.loop-place.place-index c.args.begin c.args.flagged ps c.loop-place.scan.found _
    (omega (arith, c.loop-place-test.false)) c.loop-place.invariant.0
    ∙ ap (λ l. lesser c.args.found (least (covered_at (marks_of hs) l c.args.begin c.args.flagged) ps)) c.as_slice-places.ensures.value
    ∙ ap (lesser c.args.found) (all_places (marks_of hs) c.args.order.now.places.items c.args.order.now.all c.args.begin c.args.flagged ps)
