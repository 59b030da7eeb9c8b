-- Sessions that have left stay so, and one that leaves in a drive has received what came in over its stream.
use Rattle.std.proofs.Common.{◌≡◌, ◌≢◌, ℕ, not, nat_le, nat_lt, List, [], ◌∷◌, ◌++◌, length, Option, Some, None, refl}
use Rattle.std.proofs.Common.{sym, ap, append_assoc, subst, ◌∙◌}
use Rattle.std.proofs.lemmas.List.{append-nil}
use Rattle.std.proofs.lemmas.List.Elements.{Contains-append_left, Contains-push}
use Rattle.std.specs.List.{Contains}
use Rattle.model.specs.Map.{Bytes}
use Rattle.sessions.specs.Laws.{IsSessionStream}
use Rattle.sessions.specs.SessionStreams.{HubState, HubEvent, Choice, Joins, Leaves, Receives, Sends, Serves}
use Rattle.sessions.specs.SessionStreams.{SessionStream, disconnect, hub_step, is_open, receive, requests_text, room}
use Rattle.sessions.specs.SessionStreams.{run, send, serve_session, stream_of}
use Rattle.sessions.specs.declared.events.Outcome.{Outcome}
use Rattle.stream_driver.proofs.Carry.{one_history}
use Rattle.stream_driver.specs.Drives.{Disconnects, LeavesIfGone}
use Rattle.stream_driver.specs.Entries.{DrivenAll, DrivenIn, DrivenSlot, entry_state_after}
use Rattle.stream_driver.specs.Sessions.{Adds, Point}
use Rattle.stream_driver.specs.Traffic.{IsBeginning, Traffic}
use Rattle.stream_driver.specs.declared.answers.Progress.{Progress}
use Rattle.stream_driver.specs.declared.answers.Progress.TheVariants.{Again, Gone, Waiting}
use Rattle.stream_driver.specs.declared.entries.Entry.{Entry}
use Rattle.stream_driver.specs.declared.entries.EntryState.{EntryState}
use Rattle.stream_driver.specs.declared.entries.EntryState.TheVariants.{Idle, Ready, Gone as EntryGone}
use Rattle.event_loop.proofs.Present.{by_if, join_step}
use Rattle.event_loop.proofs.Slots.{Slots}
use Rattle.event_loop.specs.TableBytes.{HasItsBytes}

-- who has left by the first state has left by the second
abbrev pub Grows : HubState → HubState → Type 0
Grows h k = (more : List (ℕ × SessionStream)) × (k.gone ≡ h.gone ++ more)

grows_not : (h k : HubState) → k.gone ≡ h.gone → Grows h k
grows_not h k same = ([], same ∙ sym (append-nil h.gone))

grows_then : (h k l : HubState) → Grows h k → Grows k l → Grows h l
grows_then h k l a b = (a.0 ++ b.0, b.1 ∙ ap (λ (x : List (ℕ × SessionStream)). x ++ b.0) a.1 ∙ append_assoc h.gone a.0 b.0)

-- ---- one event

receive_grows : (o : Option SessionStream) (h : HubState) (s : ℕ) (piece : Bytes) → Grows h (receive o h s piece).0
receive_grows None h s piece = grows_not h h refl
receive_grows (Some st) h s piece =
    by_if (λ (r : HubState × Outcome). Grows h r.0) (not (is_open st.now.status)) _ _ (grows_not h h refl)
    (by_if (λ (r : HubState × Outcome). Grows h r.0) (nat_lt (room st.now) (length piece)) _ _ (grows_not h h refl) ([], sym (append-nil h.gone)))

serve_grows : (o : Option SessionStream) (h : HubState) (s : ℕ) (c : Choice) → Grows h (serve_session o h s c).0
serve_grows None h s c = grows_not h h refl
serve_grows (Some st) h s c = ([], sym (append-nil h.gone))

send_grows : (o : Option SessionStream) (h : HubState) (s n : ℕ) → Grows h (send o h s n).0
send_grows None h s n = grows_not h h refl
send_grows (Some st) h s n =
    by_if (λ (r : HubState × Outcome). Grows h r.0) (nat_le n (length st.now.pending)) _ _ ([], sym (append-nil h.gone)) (grows_not h h refl)

disconnect_grows : (o : Option SessionStream) (h : HubState) (s : ℕ) → Grows h (disconnect o h s).0
disconnect_grows None h s = grows_not h h refl
disconnect_grows (Some st) h s = ((s, st) ∷ [], refl)

step_grows : (h : HubState) (e : HubEvent) (c : Choice) → Grows h (hub_step h e c).0
unfolding hub_step
step_grows h (Joins s) c = join_step h s c (λ (r : HubState × Outcome). Grows h r.0) (λ outcome differs. grows_not h h refl) ([], sym (append-nil h.gone))
step_grows h (Receives s piece) c = receive_grows (stream_of h s) h s piece
step_grows h (Serves s) c = serve_grows (stream_of h s) h s c
step_grows h (Sends s n) c = send_grows (stream_of h s) h s n
step_grows h (Leaves s) c = disconnect_grows (stream_of h s) h s

-- a session that was there is one that has left
departed : (h : HubState) (s : ℕ) (st : SessionStream) (c : Choice) → stream_of h s ≡ Some st → Contains (hub_step h (Leaves s) c).0.gone (s, st)
unfolding hub_step
departed h s st c is = subst (λ (o : Option SessionStream). Contains (disconnect o h s).0.gone (s, st)) (sym is) (Contains-push h.gone (s, st))

-- ---- any number of events

pub run_grows : (h : HubState) (es : List (HubEvent × Choice)) → Grows h (run h es)
run_grows h [] = grows_not h h refl
run_grows h (e ∷ es) =
    grows_then h (hub_step h e.0 e.1).0 (run (hub_step h e.0 e.1).0 es) (step_grows h e.0 e.1) (run_grows (hub_step h e.0 e.1).0 es)

adds_grow : (a : Point) (es : List (HubEvent × Choice)) (b : Point) → Adds a es b → Grows a.hub b.hub
adds_grow a es b adds = subst (λ (h : HubState). Grows a.hub h) (sym adds.run_is) (run_grows a.hub es)

pub left_on : (h k : HubState) (s : ℕ) (st : SessionStream) → Grows h k → Contains h.gone (s, st) → Contains k.gone (s, st)
left_on h k s st grows c =
    subst (λ (x : List (ℕ × SessionStream)). Contains x (s, st)) (sym grows.1) (Contains-append_left h.gone grows.0 (s, st) c)

-- ---- a session that has left

-- where its stream is a session's, the spellings of the requests that were served for it begin these bytes
pub record HasLeft (h : HubState) (s : ℕ) (bytes : List ℕ) : Type 0 where
  pub stream : SessionStream
  pub left : Contains h.gone (s, stream)
  pub came : IsSessionStream stream → IsBeginning (requests_text stream) bytes

pub stays_left : (h k : HubState) (s : ℕ) (bytes : List ℕ) → Grows h k → HasLeft h s bytes → HasLeft k s bytes
stays_left h k s bytes grows l = record { stream = l.stream; left = left_on h k s l.stream grows l.left; came = l.came }

-- ---- a drive

ends_grow : (s : ℕ) (last new : Point) (answer : Progress) → LeavesIfGone s last new answer → Grows last.hub new.hub
ends_grow s last new Gone ends = adds_grow last ((Leaves s, ends.choice) ∷ []) new ends.adds
ends_grow s last new Waiting same = subst (λ (p : Point). Grows last.hub p.hub) (sym same) (grows_not last.hub last.hub refl)
ends_grow s last new Again same = subst (λ (p : Point). Grows last.hub p.hub) (sym same) (grows_not last.hub last.hub refl)

departs_if : (s : ℕ) (last new : Point) (answer : Progress) → entry_state_after answer ≡ EntryGone → LeavesIfGone s last new answer → Disconnects s last new
departs_if s last new Gone is ends = ends
departs_if s last new Waiting is ends = absurd (let bad : Idle ≡ EntryGone = is in cc)
departs_if s last new Again is ends = absurd (let bad : Ready ≡ EntryGone = is in cc)

departs_left : (s : ℕ) (last new : Point) (st : SessionStream) → stream_of last.hub s ≡ Some st → Disconnects s last new → Contains new.hub.gone (s, st)
departs_left s last new st is d = subst (λ (h : HubState). Contains h.gone (s, st)) (sym d.adds.run_is) (departed last.hub s st d.choice is)

module _ {T : Type 0} (reports : Type 0) (traffic : T → Traffic) where
  entry_grows : (state : EntryState) (earlier : Point) (old : Entry T) (later : Point) (new : Entry T) → DrivenIn reports traffic state earlier old later new
      → Grows earlier.hub later.hub
  entry_grows Ready earlier old later new d =
      let runs = d.drove.carried.runs in
      grows_then earlier.hub d.drove.last.hub later.hub (adds_grow earlier runs.events d.drove.last runs.adds)
      (ends_grow old.session d.drove.last later d.answer d.drove.ends)
  entry_grows _ earlier old later new d = subst (λ (p : Point). Grows earlier.hub p.hub) (sym d.1) (grows_not earlier.hub earlier.hub refl)

  pub slot_grows : (earlier : Point) (slot : Option (Entry T)) (later : Point) (after : Option (Entry T)) → DrivenSlot reports traffic earlier slot later after
      → Grows earlier.hub later.hub
  slot_grows earlier None later after d = subst (λ (p : Point). Grows earlier.hub p.hub) (sym d.1) (grows_not earlier.hub earlier.hub refl)
  slot_grows earlier (Some old) later after (new, is, d) = entry_grows old.state earlier old later new d

  pub all_grow : (earlier : Point) (slots : Slots T) (later : Point) (new : Slots T) → DrivenAll reports traffic earlier slots later new
      → Grows earlier.hub later.hub
  all_grow earlier [] later new d = subst (λ (p : Point). Grows earlier.hub p.hub) (sym d.1) (grows_not earlier.hub earlier.hub refl)
  all_grow earlier (slot ∷ slots) later new (first, mid, others, is, d, rest) =
      grows_then earlier.hub mid.hub later.hub (slot_grows earlier slot mid first d) (all_grow mid slots later others rest)

  -- an entry that is gone after its drive was gone before, or its session left in it
  pub entry_left : (state : EntryState) (earlier : Point) (old : Entry T) (later : Point) (new : Entry T) → old.state ≡ state
      → DrivenIn reports traffic state earlier old later new → reports → (old.state ≢ EntryGone → HasItsBytes reports traffic earlier.hub old)
      → (old.state ≡ EntryGone → HasLeft earlier.hub old.session (traffic old.stream).received) → new.state ≡ EntryGone
      → HasLeft later.hub new.session (traffic new.stream).received
  entry_left Ready earlier old later new was d t has left gone =
      let runs = d.drove.carried.runs in
      let own = has (λ before. (let bad : Ready ≡ EntryGone = sym was ∙ before in cc)) in
      let same : own.0 ≡ runs.first = one_history own.0 runs.first (sym own.1 ∙ runs.first_is) in
      let departs : Disconnects old.session d.drove.last later = departs_if old.session d.drove.last later d.answer (sym d.state ∙ gone) d.drove.ends in
      let received : (traffic new.stream).received ≡ runs.last.received =
      d.drove.carried.received t ∙ ap (λ (l : List ℕ). l ++ runs.history.received) ((own.2 t).0 ∙ ap (λ (x : SessionStream). x.received) same)
      ∙ sym runs.history.received_is in
      record {
        stream = runs.last;
        left = subst (λ (n : ℕ). Contains later.hub.gone (n, runs.last)) (sym d.session)
            (departs_left old.session d.drove.last later runs.last runs.last_is departs);
        came = λ is. record { rest = is.rest; all_is = received ∙ is.input };
      }
  entry_left Idle earlier old later new was d t has left gone =
      absurd (let bad : Idle ≡ EntryGone = sym was ∙ ap (λ (x : Entry T). x.state) (sym d.0) ∙ gone in cc)
  entry_left EntryGone earlier old later new was d t has left gone =
      subst (λ (p : Point). HasLeft p.hub new.session (traffic new.stream).received) (sym d.1)
      (subst (λ (x : Entry T). HasLeft earlier.hub x.session (traffic x.stream).received) (sym d.0) (left was))
