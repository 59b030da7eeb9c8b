use Rattle.stream_driver.proofs.entries.drive_entry.Goals as goal
use Rattle.std.proofs.Common.{◌≡◌, inl, inr, sym, ap, ◌∙◌}
use Rattle.stream_driver.proofs.Appends.{at_most_none, at_most_one}
use Rattle.stream_driver.proofs.Sends.{reports_map}
use Rattle.stream_driver.proofs.Turns.{driven_once, left_alone}
use Rattle.stream_driver.proofs.entries.drive_entry.Goals.{in-Waiting, in-Again, in-Gone}
use Rattle.stream_driver.specs.Entries.{entry_state_after}

pub returns-after-drive_over-clause-driven : goal.returns-after-drive_over-clause-driven
returns-after-drive_over-clause-driven g c =
    let is : c.match-drive_over.entry ≡ entry_state_after c.drive_over.result = elim c.match-drive_over.branch [
      | in-Waiting w ↦ w.entry-is ∙ ap entry_state_after (sym w.in-Waiting.is)
      | in-Again w ↦ w.entry-is ∙ ap entry_state_after (sym w.in-Again.is)
      | in-Gone w ↦ w.entry-is ∙ ap entry_state_after (sym w.in-Gone.is)
    ] in
    reports_map c.drive_over.ensures.driven (λ h k stands x. driven_once _ _ c.in-Ready.is is x)

pub returns-in_default-clause-driven : goal.returns-in_default-clause-driven
returns-in_default-clause-driven g c =
    left_alone g.S.Stream.reports g.S.Stream.traffic c.args.hub.now c.args.entry.now c.law_runs_follow.ensures.none c.in_default.not-Ready

pub returns-after-drive_over-clause-appends : goal.returns-after-drive_over-clause-appends
returns-after-drive_over-clause-appends g c keeps = at_most_one c.in-Ready.is (c.drive_over.ensures.appends keeps)

pub returns-in_default-clause-appends : goal.returns-in_default-clause-appends
returns-in_default-clause-appends g c keeps = at_most_none c.args.hub.now _

pub returns-after-drive_over-clause-shares : goal.returns-after-drive_over-clause-shares
returns-after-drive_over-clause-shares g c keeps ready = elim (c.drive_over.ensures.appends keeps) [
  | inl same ↦ inl same.1
  | inr (inl looked) ↦ inr looked.ended
  | inr (inr added) ↦ inr added.ended
]

pub returns-after-drive_over-clause-waits : goal.returns-after-drive_over-clause-waits
returns-after-drive_over-clause-waits g c ready idle sound =
    c.drive_over.ensures.stays.why sound (elim c.match-drive_over.branch [
      | in-Waiting w ↦ w.in-Waiting.is
      | in-Again w ↦ (let is = w.entry-is in absurd (cc))
      | in-Gone w ↦ (let is = w.entry-is in absurd (cc))
    ])
