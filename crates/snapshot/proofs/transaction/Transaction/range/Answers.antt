use Rattle.snapshot.proofs.transaction.Transaction.range.Goals as goal
use Rattle.std.proofs.Common.{◌≤◌, IsTrue, Err, refl, sym, ap, subst, ◌∙◌, length, take}
use Rattle.std.specs.Cmp.Lexicographic.{slice_cmp}
use Rattle.std.specs.FinMap.Entries.{where_key}
use Rattle.std.specs.Ordering.{nat_cmp}
use Rattle.model.specs.KeyBytes.{key_bytes, end_bytes}
use Rattle.model.specs.Map.{is_in_range}
use Rattle.versions.specs.Meaning.{map_seen}
use Rattle.snapshot.proofs.Copies.{err_iff, fault_iff, ok_iff, room_of, never_of}
use Rattle.snapshot.proofs.Pages.{taken_few, taken_length, taken_within}
use Rattle.snapshot.proofs.Ranges.{range-reply, range-leaves, range-fault, range-known, looked-rows, rows_now}
use Rattle.snapshot.proofs.Ranges.{page_above, page_now, after_now, unmarked}
use Rattle.snapshot.specs.Ahead.{merged_pairs}
use Rattle.snapshot.specs.Made.{IsFullWhen}
use Rattle.snapshot.specs.declared.first_pairs.Page.{Page}
use Rattle.snapshot.specs.Merged.{is_full_for_page, has_page}
use Rattle.snapshot.specs.View.{View}

pub mark_page-requires : goal.mark_page-requires
mark_page-requires c =
    let t : View = record { begin = c.self.inside.begin; writes = c.self.inside.buffer; marks = c.self.inside.marks } in
    let r = c.args.range in
    let same = looked-rows t c.args.versions.now r c.new-pairs.result c.look.new.self _ _ c.look.ensures.writes c.look.ensures.pairs c.new-pairs.ensures
    (c.within-writes.ensures
    ∙ ap (where_key (slice_cmp nat_cmp) (is_in_range (key_bytes r.lo) (end_bytes r.hi))) c.entries.ensures.writes) c.range.ensures.pairs in
    page_above t c.args.self.now c.args.versions.now r c.args.limit (merged_pairs c.look.new.self) c.self.view_is same

-- as many pairs as were found are there still
pub new-requires-clause-within : goal.new-requires-clause-within
new-requires-clause-within c =
    subst (λ n. n ≤ length (merged_pairs c.look.new.self)) (sym c.in-Ok.ensures.len) (taken_within c.args.limit (merged_pairs c.look.new.self))

pub returns-in-Ok : goal.returns-in-Ok
returns-in-Ok c =
    let now = c.args.self.now in
    let v = c.args.versions.now in
    let r = c.args.range in
    let all = merged_pairs c.look.new.self in
    let t : View = record { begin = c.self.inside.begin; writes = c.self.inside.buffer; marks = c.self.inside.marks } in
    let same = looked-rows t v r c.new-pairs.result c.look.new.self _ _ c.look.ensures.writes c.look.ensures.pairs c.new-pairs.ensures
    (c.within-writes.ensures
    ∙ ap (where_key (slice_cmp nat_cmp) (is_in_range (key_bytes r.lo) (end_bytes r.hi))) c.entries.ensures.writes) c.range.ensures.pairs in
    let room = sym (page_now t now v r c.args.limit all c.self.view_is same is_full_for_page) ∙ room_of c.in-Ok.ensures.faults.full in
    let after = after_now t now v r c.args.limit all c.self.view_is same c.mark_page.new.marks c.in-Ok.ensures.ok in
    let page = c.new.ensures.pairs ∙ ap (λ n. take n all) c.in-Ok.ensures.len ∙ taken_length c.args.limit all in
    let rows = page ∙ rows_now t now v r c.args.limit all c.self.view_is same in (
      (refl, λ _. tt, (after, range-leaves now (map_seen v now.begin) r c.args.limit _ room after)),
      record {
        known = λ m qs is h k. refl;
        full = ok_iff c.new.result room;
        few = rw page (taken_few c.args.limit all);
        in_bounds = rw page c.in-Ok.ensures.in_bounds;
        counts = c.new.ensures.counts;
        reply = λ m qs is h. range-reply now v m qs r c.args.limit is h _ room rows;
        after = tt;
      },
    )

pub returns-in-Err : goal.returns-in-Err
returns-in-Err c =
    let now = c.args.self.now in
    let v = c.args.versions.now in
    let r = c.args.range in
    let all = merged_pairs c.look.new.self in
    let t : View = record { begin = c.self.inside.begin; writes = c.self.inside.buffer; marks = c.self.inside.marks } in
    let same = looked-rows t v r c.new-pairs.result c.look.new.self _ _ c.look.ensures.writes c.look.ensures.pairs c.new-pairs.ensures
    (c.within-writes.ensures
    ∙ ap (where_key (slice_cmp nat_cmp) (is_in_range (key_bytes r.lo) (end_bytes r.hi))) c.entries.ensures.writes) c.range.ensures.pairs in
    let faults = c.in-Err.ensures.faults in
    let full = subst (IsFullWhen {A = Page} (Err c.in-Err.fault)) (page_now t now v r c.args.limit all c.self.view_is same is_full_for_page) faults.full
    in (
      (refl, λ _. tt, unmarked t now v r c.args.limit all c.self.view_is same c.mark_page.new.marks c.in-Err.ensures.err),
      record {
        known = λ m qs is h k. faults.known
            (subst (λ b. IsTrue b) (sym (page_now t now v r c.args.limit all c.self.view_is same has_page)) (range-known now v m qs r c.args.limit is h k));
        full = err_iff full;
        few = tt;
        in_bounds = tt;
        counts = tt;
        reply = λ m qs is h. range-fault now v m qs r c.args.limit is h c.in-Err.fault (never_of faults.never) (fault_iff full);
        after = tt;
      },
    )
