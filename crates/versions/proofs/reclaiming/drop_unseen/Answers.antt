use Rattle.versions.proofs.reclaiming.drop_unseen.Goals as goal
use Rattle.std.proofs.Common.{ℕ, ◌-◌, drop, sym, subst, ◌∙◌, arith}
use Rattle.std.specs.List.{AllByRecursion}
use Rattle.sorted_pages.specs.Pages.{KeepsHeld, PagesValue, entries}
use Rattle.versions.proofs.Groups.{dropping-none, dropping-seen, dropping-stays, dropping-leaves, Dropping}
use Rattle.versions.proofs.Pages.{among-on, held-itself, held-on}
use Rattle.versions.proofs.Stores.{swap_remove-default}
use Rattle.versions.proofs.reclaiming.drop_unseen.Goals.{else-not-is_seen_by-via-then-not-is_seen_by+else-not-reclaim_version}
use Rattle.versions.proofs.reclaiming.drop_unseen.Goals.{else-not-is_seen_by-via-else-not-is_seen_by}
use Rattle.versions.specs.Chains.{ChainValue}
use Rattle.versions.specs.Listings.{IsCollected}

pub reclaim_version-requires-clause-sorted : goal.reclaim_version-requires-clause-sorted
reclaim_version-requires-clause-sorted c = (c.loop-left.invariant.dropping.kept c.requires.kept.last c.requires.kept.kept).sorted

pub reclaim_version-requires-clause-among : goal.reclaim_version-requires-clause-among
reclaim_version-requires-clause-among c = among-on c.args.begins.now c.args.chains.now c.loop-left.chains c.loop-left.invariant.held c.requires.kept.among

pub loop-left-init : goal.loop-left-init
loop-left-init c = record {
  dropping = dropping-none c.args.begins.now (entries c.args.chains.now.pages) c.args.versions.now.items c.len-left.result
      (c.len-left.ensures ∙ c.args.versions.now.ok.0);
  held = held-itself c.args.chains.now;
}

pub loop-left-preserved-then-not-reclaim_version : goal.loop-left-preserved-then-not-reclaim_version
loop-left-preserved-then-not-reclaim_version c =
    let vs = c.loop-left.versions.items in
    let v = c.index-version.result.now in
    record {
      dropping = dropping-leaves c.args.begins.now (entries c.args.chains.now.pages) (entries c.loop-left.chains.pages)
          (entries c.reclaim_version.new.chains.pages) c.args.versions.now.items
          vs (c.loop-left.left - 1) c.loop-left.left c.requires.kept.last v (omega arith) c.index-version.ensures c.requires.kept.kept
          c.if-not-reclaim_version.ensures.reclaimed c.loop-left.invariant.dropping c.swap_remove.new.self.items (c.swap_remove.ensures.items
          ∙ swap_remove-default vs (c.loop-left.left - 1) c.swap_remove.result v (omega (arith, c.loop-left.invariant.dropping.in_range)))
          (sym c.if-not-reclaim_version.ensures.left);
      held = held-on c.args.chains.now c.loop-left.chains c.reclaim_version.new.chains c.loop-left.invariant.held c.if-not-reclaim_version.ensures.held;
    }

pub loop-left-preserved : goal.loop-left-preserved
loop-left-preserved c =
    let vs = c.loop-left.versions.items in
    let v = c.index-version.result.now in
    let olds = entries c.args.chains.now.pages in
    let now = entries c.loop-left.chains.pages in
    let inv = c.loop-left.invariant in
    elim c.else-not-is_seen_by.branch [
      | else-not-is_seen_by-via-then-not-is_seen_by+else-not-reclaim_version w ↦ record {
        dropping = subst (λ (p : PagesValue ChainValue). Dropping c.args.begins.now olds (entries p.pages) c.args.versions.now.items vs (c.loop-left.left - 1))
            (sym w.chains-is)
            (dropping-stays c.args.begins.now olds now (entries w.reclaim_version.new.chains.pages) c.args.versions.now.items vs (c.loop-left.left
            - 1) c.loop-left.left c.requires.kept.last v (omega arith) c.index-version.ensures c.requires.kept.kept
            w.reclaim_version.ensures.reclaimed inv.dropping (sym w.if-not-reclaim_version.ensures.left));
        held = subst (KeepsHeld c.args.chains.now) (sym w.chains-is)
            (held-on c.args.chains.now c.loop-left.chains w.reclaim_version.new.chains inv.held w.reclaim_version.ensures.held);
      }
      | else-not-is_seen_by-via-else-not-is_seen_by w ↦ record {
        dropping = subst (λ (p : PagesValue ChainValue). Dropping c.args.begins.now olds (entries p.pages) c.args.versions.now.items vs (c.loop-left.left - 1))
            (sym w.chains-is)
            (dropping-seen c.args.begins.now olds now c.args.versions.now.items vs (c.loop-left.left
            - 1) c.loop-left.left v c.args.next (omega arith) c.index-version.ensures c.requires.next (sym (w.if-not-is_seen_by.ensures)) inv.dropping);
        held = subst (KeepsHeld c.args.chains.now) (sym w.chains-is) inv.held;
      }
    ]

pub returns-clause-chains : goal.returns-clause-chains
returns-clause-chains c = record {
  chains = record { part = c.loop-left.invariant.dropping.part; kept = c.loop-left.invariant.dropping.kept };
  held = c.loop-left.invariant.held;
}

pub returns-clause-versions : goal.returns-clause-versions
returns-clause-versions c =
    let left = c.loop-left.invariant.dropping in
    let vs = c.loop-left.versions.items in
    let all = λ (n : ℕ). AllByRecursion (IsCollected c.args.begins.now (entries c.loop-left.chains.pages)) (drop n vs) in
    record {
      collected = subst all {x = c.loop-left.left} {y = 0} (omega arith) left.collected;
      left = left.left_out;
      seen = left.seen;
      each = left.each;
    }
