-- Parts of a run follow one another.
use Rattle.std.proofs.Common.{◌≡◌, ◌≢◌, ◌⊎◌, inr, ℕ, ◌≤◌, true, List, [], ◌∷◌, ◌++◌, length, Some, refl, sym, ap}
use Rattle.std.proofs.Common.{subst, ◌∙◌, arith, append_assoc}
use Rattle.std.proofs.lemmas.Bool.Decides.{nat_tests}
use Rattle.std.proofs.lemmas.Grind.{common_steps}
use Rattle.std.proofs.lemmas.List.{append-nil, map-append}
use Rattle.std.proofs.lemmas.List.Concat.{flat_map-append}
use Rattle.std.specs.List.{flat_map}
use Rattle.model.proofs.Elements.{all-append}
use Rattle.model.specs.ReplyText.{reply_text}
use Rattle.engine.specs.Meaning.{has_risen}
use Rattle.sessions.specs.Laws.{failures_in}
use Rattle.sessions.specs.SessionStreams.{HubState, SessionStream, HubEvent, Choice, ArePossible, run, hub_step}
use Rattle.stream_driver.proofs.Events.{no_events}
use Rattle.stream_driver.specs.Calls.{Moves}
use Rattle.stream_driver.specs.Drives.{Carried}
use Rattle.stream_driver.specs.Sessions.{Adds, ComeInTurn, Continues, Point, RunsOneSession, session_of, status_at}
use Rattle.stream_driver.specs.Sessions.{IsPresentIn}
use Rattle.stream_driver.specs.Traffic.{Traffic}

-- two lists that grow one after the other
pub grown : {A : Type 0} (a b b' c x y : List A) → b ≡ a ++ x → b' ≡ b → c ≡ b' ++ y → c ≡ a ++ (x ++ y)
grown a b b' c x y e same f = f ∙ ap (λ l. l ++ y) (same ∙ e) ∙ append_assoc a x y

pub texts_then : (gone1 pend1 pend1' pend0 made1 gone2 pend2 made2 : List ℕ) → gone1 ++ pend1 ≡ pend0 ++ made1 → pend1' ≡ pend1
    → gone2 ++ pend2 ≡ pend1' ++ made2
    → (gone1 ++ gone2) ++ pend2 ≡ pend0 ++ (made1 ++ made2)
texts_then gone1 pend1 pend1' pend0 made1 gone2 pend2 made2 e same f =
    grind (arith, common_steps)

abbrev pub history_then : (a b b' c : SessionStream) → b' ≡ b → Continues a b → Continues b' c → Continues a c
history_then a b b' c same p q =
    let received = grown a.received b.received b'.received c.received p.received q.received p.received_is (ap (λ x. x.received) same) q.received_is in
    let served = grown a.served b.served b'.served c.served p.served q.served p.served_is (ap (λ x. x.served) same) q.served_is in
    let replies = grown a.replies b.replies b'.replies c.replies p.replies q.replies p.replies_is (ap (λ x. x.replies) same) q.replies_is in
    let sent = grown a.sent b.sent b'.sent c.sent p.sent q.sent p.sent_is (ap (λ x. x.sent) same) q.sent_is in
    let texts = texts_then p.sent b.now.pending b'.now.pending a.now.pending (flat_map reply_text p.replies) q.sent c.now.pending
    (flat_map reply_text q.replies) p.texts (ap (λ x. x.now.pending) same) q.texts in
    search (received, served, replies, sent, texts ∙ ap (λ l. a.now.pending ++ l) (sym (flat_map-append reply_text p.replies q.replies)))

pub run_then : (h : HubState) (xs ys : List (HubEvent × Choice)) → run h (xs ++ ys) ≡ run (run h xs) ys
run_then h [] ys = refl
run_then h (x ∷ xs) ys = run_then (hub_step h x.0 x.1).0 xs ys

pub adds_then : (a b c : Point) (es fs : List (HubEvent × Choice)) → Adds a es b → Adds b fs c → Adds a (es ++ fs) c
adds_then a b c es fs p q = grind (arith, common_steps, run_then, map-append)

pub possible_then : (h : HubState) (xs ys : List (HubEvent × Choice)) → ArePossible h xs → ArePossible (run h xs) ys → ArePossible h (xs ++ ys)
possible_then h [] ys a b = b
possible_then h (x ∷ xs) ys a b = (a.0, possible_then (hub_step h x.0 x.1).0 xs ys a.1 b)

-- the device failed in an event of the first part or of the second
failed_then : (xs ys : List (HubEvent × Choice)) → 1 ≤ failures_in (xs ++ ys) → (1 ≤ failures_in xs) ⊎ (1 ≤ failures_in ys)
failed_then [] ys some = inr some
failed_then (x ∷ xs) ys some = grind (arith, failed_then xs ys)

pub risen_either : (xs ys : List (HubEvent × Choice)) (a b c : ℕ) → a ≤ b → b ≤ c → (1 ≤ failures_in xs → has_risen a b ≡ true)
    → (1 ≤ failures_in ys → has_risen b c ≡ true)
    → 1 ≤ failures_in (xs ++ ys) → has_risen a c ≡ true
risen_either xs ys a b c ab bc f g some = grind (arith, nat_tests, failed_then xs ys some)

pub one_history : (x y : SessionStream) → Some x ≡ Some y → x ≡ y
one_history x y e = cc

abbrev pub runs_then : (s : ℕ) (a b c : Point) → RunsOneSession s a b → RunsOneSession s b c → RunsOneSession s a c
runs_then s a b c p q =
    let own = all-append (λ e. session_of e.0 ≡ s) p.events q.events p.own q.own in
    let possible = possible_then a.hub p.events q.events p.possible (subst (λ v. ArePossible v q.events) p.adds.run_is q.possible) in
    let counted : a.failures ≤ c.failures = omega (arith, p.counted, q.counted) in
    let risen = risen_either p.events q.events a.failures b.failures c.failures p.counted q.counted p.risen_then q.risen_then in
    let history = history_then p.first p.last q.first q.last (one_history q.first p.last (sym q.first_is ∙ p.last_is)) p.history q.history in
    search (
      own,
      possible,
      adds_then a b c p.events q.events p.adds q.adds,
      risen,
      history,
      p.first_is,
      q.last_is,
      λ (t : ℕ) (apart : t ≢ s). q.others t apart ∙ p.others t apart,
    )

pub in_turn_then : (h : HubState) (xs ys : List (HubEvent × Choice)) → ComeInTurn h xs → ComeInTurn (run h xs) ys → ComeInTurn h (xs ++ ys)
in_turn_then h [] ys a b = b
in_turn_then h (x ∷ xs) ys a b = (a.0, in_turn_then (hub_step h x.0 x.1).0 xs ys a.1 b)

module _ {s : ℕ} {reports : Type 0} where
  -- a run in which nothing was served or replied, over what the stream moved
  abbrev pub moved_by : {h k : Point} {before after : Traffic} (r : RunsOneSession s h k) → ComeInTurn h.hub r.events
      → (reports → after.received ≡ before.received ++ r.history.received) → (reports → after.sent ≡ before.sent ++ r.history.sent)
      → length r.history.served ≡ 0 → r.history.replies ≡ [] → status_at k.hub s ≡ status_at h.hub s → Moves s reports h before k after
  moved_by r turn received sent served replied status =
      record { carried = record { runs = r; in_turn = turn; received = received; sent = sent }; none_served = served; none_replied = replied; status = status }

  -- the stream answered, and the hub stayed
  abbrev pub answered : {h : Point} {before after : Traffic} → IsPresentIn h.hub s → (reports → after.received ≡ before.received ++ [])
      → (reports → after.sent ≡ before.sent ++ []) → Moves s reports h before h after
  answered {h} present received sent = moved_by (no_events s h present) tt received sent refl refl refl

  -- nothing has happened
  abbrev pub nothing : {h : Point} {t : Traffic} → IsPresentIn h.hub s → Moves s reports h t h t
  nothing {h} {t} present = answered present (λ _. sym (append-nil t.received)) (λ _. sym (append-nil t.sent))

  -- the stream stayed, and the hub ran
  abbrev pub alone : {h k : Point} {t : Traffic} (r : RunsOneSession s h k) → ComeInTurn h.hub r.events → [] ≡ r.history.received → [] ≡ r.history.sent
      → Carried s reports h t k t
  alone r in_turn received sent = record { runs = r; in_turn = in_turn; received = λ _. rw (← received, append-nil); sent = λ _. rw (← sent, append-nil) }

  -- one part after another
  abbrev pub and_then : {old : Point} {before : Traffic} {mid : Point} {between : Traffic} {new : Point} {after : Traffic}
      → Carried s reports old before mid between → Carried s reports mid between new after
      → Carried s reports old before new after
  and_then {old} {before} {mid} {between} {new} {after} p q = record {
    runs = runs_then s old mid new p.runs q.runs;
    in_turn = in_turn_then old.hub p.runs.events q.runs.events p.in_turn (subst (λ v. ComeInTurn v q.runs.events) p.runs.adds.run_is q.in_turn);
    received = λ t. grown before.received between.received between.received after.received p.runs.history.received q.runs.history.received (p.received t)
        refl (q.received t);
    sent = λ t. grown before.sent between.sent between.sent after.sent p.runs.history.sent q.runs.history.sent (p.sent t) refl (q.sent t);
  }
