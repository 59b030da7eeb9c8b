use Rattle.test_event_loop.proofs.accepts.a_failed_accept.Goals as goal
use Rattle.sessions.specs.Restarts.{IsOpened}
use Rattle.event_loop.proofs.Entries.{no_entry, nobody_entries}
use Rattle.event_loop.proofs.Serving.{opened_nobody, opened_stands}

pub accept_some-backlog-requires : goal.accept_some-backlog-requires
accept_some-backlog-requires g c =
    let start : IsOpened c.expect-hub.result = rw c.expect-hub.ensures at c.new_hub.ensures.opened in
    let nothing = no_entry c.new-table.result.slots c.new-table.ensures.empty in
    record {
      stands = opened_stands c.expect-hub.result start;
      sessions = record {
        present = λ key entry e alive. absurd (nothing key entry e);
        own = λ one two first second e f alive too same. absurd (nothing one first e);
      };
      numbers = λ key entry e. absurd (nothing key entry e);
      entries = nobody_entries c.expect-hub.result c.new-table.result.slots (opened_nobody c.expect-hub.result start);
    }
