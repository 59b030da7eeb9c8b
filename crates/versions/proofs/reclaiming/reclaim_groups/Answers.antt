use Rattle.versions.proofs.reclaiming.reclaim_groups.Goals as goal
use Rattle.std.proofs.Common.{◌≡◌, ◌-◌, sym, subst, arith}
use Rattle.sorted_pages.specs.Pages.{entries}
use Rattle.versions.proofs.Groups.{Settling, collecting-all, collecting-none, collecting-collected, collecting-step}
use Rattle.versions.proofs.Pages.{among-on, held-itself, held-on}
use Rattle.versions.specs.Groups.{GroupValue}
use Rattle.versions.specs.Listings.{pin_for}
use Rattle.versions.specs.Meaning.{garbage_for}
use Rattle.versions.specs.Reclaiming.{DropsFromGroup}

pub reclaim-most-requires : goal.reclaim-most-requires
reclaim-most-requires c = record {
  kept = record {
    last = c.requires.kept.last;
    kept = c.loop-left.invariant.settling.kept c.requires.kept.last c.requires.kept.kept;
    among = among-on c.args.begins.now c.args.chains.now c.loop-left.chains c.loop-left.invariant.held c.requires.kept.among;
  };
}

pub loop-left-init : goal.loop-left-init
loop-left-init c = record {
  settling = collecting-none c.args.begins.now (entries c.args.chains.now.pages) c.args.groups.now c.requires.listed;
  held = held-itself c.args.chains.now;
}

pub loop-left-preserved : goal.loop-left-preserved
loop-left-preserved c =
    let bs = c.args.begins.now in
    let new = entries c.reclaim-most.new.chains.pages in
    let h = c.reclaim-most.new.self in
    let is = sym c.index-groups-left.is in
    let spare = subst (λ (x : GroupValue). c.reclaim-most.result ≡ c.loop-left.most - garbage_for bs x) is c.reclaim-most.ensures.spare in
    let garbage = subst (λ (x : GroupValue). garbage_for bs h ≡ garbage_for bs x - c.loop-left.most) is c.reclaim-most.ensures.garbage in
    let group = subst (λ (x : GroupValue). DropsFromGroup new (pin_for bs x.pin) x h) is c.reclaim-most.ensures.group in
    record {
      settling = collecting-collected bs (entries c.args.chains.now.pages) (entries c.loop-left.chains.pages) new c.args.groups.now c.loop-left.groups
          (c.loop-left.left - 1) c.loop-left.left c.requires.kept.last c.loop-left.most c.reclaim-most.result c.index-groups-left.result h
          (omega arith) c.index-groups-left.is c.requires.kept.kept spare garbage c.reclaim-most.ensures.chains.chains group
          c.reclaim-most.ensures.looked_after c.loop-left.invariant.settling;
      held = held-on c.args.chains.now c.loop-left.chains c.reclaim-most.new.chains c.loop-left.invariant.held c.reclaim-most.ensures.chains.held;
    }

pub returns : goal.returns
returns c =
    let bs = c.args.begins.now in
    let old = entries c.args.chains.now.pages in
    let now = entries c.loop-left.chains.pages in
    let gs = c.loop-left.groups in
    let most = c.loop-left.most in
    let all = subst (λ n. Settling bs old now c.args.groups.now gs n most) {x = c.loop-left.left} {y = 0} (omega arith) c.loop-left.invariant.settling in
    record {
      step = collecting-step bs c.args.chains.now c.loop-left.chains c.args.groups.now gs most c.loop-left.invariant.held all;
      groups = collecting-all bs old now c.args.groups.now gs most all;
      none_left = all.none_behind;
    }
