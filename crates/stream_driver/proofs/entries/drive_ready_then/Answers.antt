use Rattle.stream_driver.proofs.entries.drive_ready_then.Goals as goal
use Rattle.std.proofs.Common.{◌≡◌, ◌≤◌, ℕ, List, Option, Some, None, set, take, length, get_or, sym, subst, ◌∙◌}
use Rattle.std.proofs.Common.{arith}
use Rattle.std.proofs.lemmas.List.{get_or-set_other, get_or-set_same, length-set, set-set, take_all}
use Rattle.model.proofs.Lookups.{some_same}
use Rattle.stream_driver.proofs.Appends.{appends_last, appends_more, at_most_none}
use Rattle.stream_driver.proofs.OneEntry.{below}
use Rattle.stream_driver.proofs.Waiting.{EntriesBelow, below_all, below_others, below_vacant, each_and_last}
use Rattle.stream_driver.proofs.Turns.{but_last, but_none, driven_numbers, driven_sessions, entries_driven}
use Rattle.stream_driver.proofs.Turns.{entries_none, entries_vacant, entries_wait, none_last, same_slot, then_last}
use Rattle.stream_driver.proofs.entries.drive_ready_then.Goals.{in-Some, in_default}
use Rattle.stream_driver.specs.Appends.{UsesShare}
use Rattle.stream_driver.specs.Entries.{all_but}
use Rattle.stream_driver.specs.Types.{Entry}
use Rattle.stream_driver.specs.Waits.{EachEntry, WaitsSince}

pub drive_entry-requires : goal.drive_entry-requires
drive_entry-requires g c = λ alive. c.loop-key.invariant.so_far.sessions.present c.loop-key.key c.in-Some.entry.now (sym c.in-Some.ensures.value) alive

pub drive_entry-requires-in-Some-get_mut : goal.drive_entry-requires-in-Some-get_mut
drive_entry-requires-in-Some-get_mut g c =
    λ alive. c.loop-key.invariant.so_far.sessions.present c.args.last c.in-Some-get_mut.entry.now (sym c.in-Some-get_mut.ensures.value) alive

pub loop-key-init : goal.loop-key-init
loop-key-init g c =
    record {
      so_far = entries_none _ _ c.args.last c.law_runs_follow.ensures.none c.requires;
      appends = λ keeps. at_most_none c.args.hub.now _;
      shares = λ keeps other was entry lt. absurd (omega (arith, lt));
      waits = λ other was entry lt. absurd (omega (arith, lt));
    }

pub loop-key-preserved-then-key-last : goal.loop-key-preserved-then-key-last
loop-key-preserved-then-key-last g c =
    let key = c.loop-key.key in
    let slots = c.args.table.now.slots in
    let last = c.args.last in
    let none = but_last g.S.Stream.reports g.S.Stream.traffic last key c.loop-key.table.slots c.if-key-last.true in
    record {
      so_far = entries_wait _ _ c.loop-key.invariant.so_far c.if-key-last.true;
      appends = λ keeps. appends_more key (all_but last slots) None
          (but_last g.S.Stream.reports g.S.Stream.traffic last key slots c.if-key-last.true) (c.loop-key.invariant.appends keeps)
          (at_most_none c.loop-key.hub _);
      shares = λ keeps. below_vacant (UsesShare g.S.Stream.reports g.S.Stream.traffic g.S.Stream.share) key (all_but last slots)
          (all_but last c.loop-key.table.slots) (c.loop-key.invariant.shares keeps) none;
      waits = below_vacant (WaitsSince g.S.Stream.is_sound g.S.Stream.waits) key (all_but last slots) (all_but last c.loop-key.table.slots)
          c.loop-key.invariant.waits none;
    }

pub loop-key-preserved : goal.loop-key-preserved
loop-key-preserved g c =
    let key = c.loop-key.key in
    let slots = c.args.table.now.slots in
    let last = c.args.last in
    let was = same_slot g.S.Stream.reports g.S.Stream.traffic key slots c.loop-key.table.slots c.loop-key.invariant.so_far.rest in
    elim c.match-get_mut.branch [
      | in-Some w ↦
          let old = w.in-Some.entry.now in
          let is = was ∙ sym w.in-Some.ensures.value in
          let driven = entries_driven _ _ c.loop-key.invariant.so_far c.law_runs_follow.ensures.follow old c.if-key-last.false (sym w.in-Some.ensures.value)
          w.drive_entry.ensures.session w.drive_entry.ensures.gone w.drive_entry.ensures.driven in
          record {
            so_far = rw (w.hub-is, w.table-is) driven;
            appends = λ keeps. rw w.hub-is (appends_more key (all_but last slots) (Some old)
                (get_or-set_other slots last key None None c.if-key-last.false ∙ is) (c.loop-key.invariant.appends keeps)
                (w.drive_entry.ensures.appends keeps));
            shares = λ keeps. rw w.table-is (below_others (UsesShare g.S.Stream.reports g.S.Stream.traffic g.S.Stream.share) last key slots
                c.loop-key.table.slots (c.loop-key.invariant.shares keeps) old _ c.if-key-last.false is
                (below c.loop-key.table.slots key old (sym w.in-Some.ensures.value)) (w.drive_entry.ensures.shares keeps));
            waits = rw w.table-is (below_others (WaitsSince g.S.Stream.is_sound g.S.Stream.waits) last key slots c.loop-key.table.slots
                c.loop-key.invariant.waits old _ c.if-key-last.false is
                (below c.loop-key.table.slots key old (sym w.in-Some.ensures.value)) w.drive_entry.ensures.waits);
          }
      | in_default w ↦
          let none = but_none g.S.Stream.reports g.S.Stream.traffic last key c.loop-key.table.slots (sym w.in_default.ensures.value) in
          record {
            so_far = rw (w.hub-is, w.table-is) (entries_vacant _ _ c.loop-key.invariant.so_far (sym w.in_default.ensures.value));
            appends = λ keeps. rw w.hub-is (appends_more key (all_but last slots) None
                (but_none g.S.Stream.reports g.S.Stream.traffic last key slots (was ∙ sym w.in_default.ensures.value)) (c.loop-key.invariant.appends keeps)
                (at_most_none c.loop-key.hub _));
            shares = λ keeps. rw w.table-is (below_vacant (UsesShare g.S.Stream.reports g.S.Stream.traffic g.S.Stream.share) key (all_but last slots)
                (all_but last c.loop-key.table.slots) (c.loop-key.invariant.shares keeps) none);
            waits = rw w.table-is (below_vacant (WaitsSince g.S.Stream.is_sound g.S.Stream.waits) key (all_but last slots)
                (all_but last c.loop-key.table.slots) c.loop-key.invariant.waits none);
          }
    ]

pub returns-in-Some-get_mut-clause-driven : goal.returns-in-Some-get_mut-clause-driven
returns-in-Some-get_mut-clause-driven g c =
    let ends = c.loop-key-test.false in
    let slots = c.capacity-key-end.ensures.slots in
    then_last _ _ c.loop-key.invariant.so_far (omega arith) c.law_runs_follow.ensures.follow c.in-Some-get_mut.entry.now _
    (sym c.in-Some-get_mut.ensures.value) c.drive_entry-in-Some-get_mut.ensures.driven

pub returns-in-Some-get_mut-clause-sessions : goal.returns-in-Some-get_mut-clause-sessions
returns-in-Some-get_mut-clause-sessions g c =
    driven_sessions g.S.Stream.reports g.S.Stream.traffic c.loop-key.invariant.so_far c.args.last c.in-Some-get_mut.entry.now
    (sym c.in-Some-get_mut.ensures.value)
    c.drive_entry-in-Some-get_mut.ensures.session c.drive_entry-in-Some-get_mut.ensures.gone c.drive_entry-in-Some-get_mut.ensures.driven

pub returns-in-Some-get_mut-clause-numbers : goal.returns-in-Some-get_mut-clause-numbers
returns-in-Some-get_mut-clause-numbers g c =
    driven_numbers g.S.Stream.reports g.S.Stream.traffic c.loop-key.invariant.so_far c.args.last c.in-Some-get_mut.entry.now
    (sym c.in-Some-get_mut.ensures.value)
    c.drive_entry-in-Some-get_mut.ensures.session c.drive_entry-in-Some-get_mut.ensures.gone c.drive_entry-in-Some-get_mut.ensures.driven

pub returns-in-Some-get_mut-clause-appends : goal.returns-in-Some-get_mut-clause-appends
returns-in-Some-get_mut-clause-appends g c keeps =
    let ends = c.loop-key-test.false in
    let cap = c.capacity-key-end.ensures.slots in
    let last = c.args.last in
    let slots = c.args.table.now.slots in
    let len = length-set slots last None in
    let all : take c.loop-key.key (all_but last slots) ≡ all_but last slots = take_all c.loop-key.key (all_but last slots) (omega arith) in
    appends_last last slots (Some c.in-Some-get_mut.entry.now) (sym c.loop-key.invariant.so_far.waits ∙ sym c.in-Some-get_mut.ensures.value)
    (rw all at c.loop-key.invariant.appends keeps) (c.drive_entry-in-Some-get_mut.ensures.appends keeps)

-- of all entries, once it is so of those that aren't last
last_too : {T : Type 0} (P : Entry T → Entry T → Type 0) (last key : ℕ) (slots mid : List (Option (Entry T))) (old entry : Entry T)
    → length slots ≤ key → EntriesBelow P key (all_but last slots) (all_but last mid) → get_or slots last None ≡ Some old
    → get_or mid last None ≡ Some old → P old entry → EachEntry P slots (set mid last (Some entry))
last_too P last key slots mid old entry le others was is since =
    each_and_last P last slots (set mid last (Some entry))
    (rw (set-set mid last (Some entry) None) (below_all P key (all_but last slots) (all_but last mid) (rw (length-set slots last None) le) others))
    (λ x y e f. subst (λ (a : Entry _). P a y) (some_same (sym was ∙ e))
    (subst (λ (b : Entry _). P old b) (some_same (sym (get_or-set_same mid last (Some entry) None (below mid last old is)) ∙ f)) since))

none_too : {T : Type 0} (P : Entry T → Entry T → Type 0) (last key : ℕ) (slots new : List (Option (Entry T))) → length slots ≤ key
    → EntriesBelow P key (all_but last slots) (all_but last new) → get_or new last None ≡ None → EachEntry P slots new
none_too P last key slots new le others none =
    each_and_last P last slots new (below_all P key (all_but last slots) (all_but last new) (rw (length-set slots last None) le) others)
    (λ x y e f. absurd (let bad : None ≡ Some y = sym none ∙ f in cc))

pub returns-in-Some-get_mut-clause-shares : goal.returns-in-Some-get_mut-clause-shares
returns-in-Some-get_mut-clause-shares g c keeps =
    let ends = c.loop-key-test.false in
    let cap = c.capacity-key-end.ensures.slots in
    last_too (UsesShare g.S.Stream.reports g.S.Stream.traffic g.S.Stream.share) c.args.last c.loop-key.key c.args.table.now.slots c.loop-key.table.slots
    c.in-Some-get_mut.entry.now _ (omega arith) (c.loop-key.invariant.shares keeps)
    (sym c.loop-key.invariant.so_far.waits ∙ sym c.in-Some-get_mut.ensures.value) (sym c.in-Some-get_mut.ensures.value)
    (c.drive_entry-in-Some-get_mut.ensures.shares keeps)

pub returns-in-Some-get_mut-clause-waits : goal.returns-in-Some-get_mut-clause-waits
returns-in-Some-get_mut-clause-waits g c =
    let ends = c.loop-key-test.false in
    let cap = c.capacity-key-end.ensures.slots in
    last_too (WaitsSince g.S.Stream.is_sound g.S.Stream.waits) c.args.last c.loop-key.key c.args.table.now.slots c.loop-key.table.slots
    c.in-Some-get_mut.entry.now _ (omega arith) c.loop-key.invariant.waits
    (sym c.loop-key.invariant.so_far.waits ∙ sym c.in-Some-get_mut.ensures.value) (sym c.in-Some-get_mut.ensures.value)
    c.drive_entry-in-Some-get_mut.ensures.waits

pub returns-in_default-get_mut-clause-driven : goal.returns-in_default-get_mut-clause-driven
returns-in_default-get_mut-clause-driven g c =
    let ends = c.loop-key-test.false in
    let cap = c.capacity-key-end.ensures.slots in
    none_last _ _ c.loop-key.invariant.so_far (omega arith) (sym c.in_default-get_mut.ensures.value)

pub returns-in_default-get_mut-clause-shares : goal.returns-in_default-get_mut-clause-shares
returns-in_default-get_mut-clause-shares g c keeps =
    let ends = c.loop-key-test.false in
    let cap = c.capacity-key-end.ensures.slots in
    none_too (UsesShare g.S.Stream.reports g.S.Stream.traffic g.S.Stream.share) c.args.last c.loop-key.key c.args.table.now.slots c.loop-key.table.slots
    (omega arith) (c.loop-key.invariant.shares keeps) (sym c.in_default-get_mut.ensures.value)

pub returns-in_default-get_mut-clause-waits : goal.returns-in_default-get_mut-clause-waits
returns-in_default-get_mut-clause-waits g c =
    let ends = c.loop-key-test.false in
    let cap = c.capacity-key-end.ensures.slots in
    none_too (WaitsSince g.S.Stream.is_sound g.S.Stream.waits) c.args.last c.loop-key.key c.args.table.now.slots c.loop-key.table.slots
    (omega arith) c.loop-key.invariant.waits (sym c.in_default-get_mut.ensures.value)
