use Rattle.stream_driver.proofs.buffered.BufferedStreamStream.write.Goals as goal
use Rattle.std.proofs.Common.{◌≡◌, ◌⊎◌, ◌↔◌, inl, inr, true, [], ◌∙◌, ap, refl, subst, sym, arith}
use Rattle.std.proofs.lemmas.List.{append-nil}
use Rattle.std.proofs.lemmas.Grind.{common_steps}
use Rattle.stream_driver.proofs.Buffering.{departed_and_sent, took_same}
use Rattle.stream_driver.proofs.Waiting.{sound_drained, waits_as, why_wrote}
use Rattle.stream_driver.proofs.buffered.BufferedStreamStream.write.Goals.{in-Moved, then-self, else-self, in_default}
use Rattle.stream_driver.specs.Buffers.{WhyTook}
use Rattle.stream_driver.specs.Counts.{Notes}
use Rattle.stream_driver.specs.declared.answers.Call.TheVariants.{Write}
use Rattle.stream_driver.specs.declared.answers.WriteAnswer.TheVariants.{Blocked as WriteBlocked}

pub returns-clause-moved : goal.returns-clause-moved
returns-clause-moved g c = λ t.
    let inner : c.match-answer.self.inner ≡ c.take_in_share-answer.new.self.inner =
    elim c.match-answer.branch [ in-Moved w ↦ ap (λ b. b.inner) (w.self-is ∙ w.note_taken.ensures) | in_default w ↦ ap (λ b. b.inner) w.self-is ] in
    let buffered : c.match-answer.self.buffered ≡ c.take_in_share-answer.new.self.buffered =
    elim c.match-answer.branch [ in-Moved w ↦ ap (λ b. b.buffered) (w.self-is ∙ w.note_taken.ensures) | in_default w ↦ ap (λ b. b.buffered) w.self-is ] in
    let is : c.match-answer.answer ≡ c.take_in_share-answer.result = elim c.match-answer.branch [
      | in-Moved w ↦ w.answer-is ∙ sym w.in-Moved.is
      | in_default w ↦ w.answer-is
    ] in
    let takes = c.take_in_share-answer.ensures.takes in
    rw (inner, buffered, is) (record {
      received = takes.received t;
      sent = takes.sent t;
      departed = departed_and_sent [] refl (sym (append-nil _)) (takes.departed t);
    })

pub returns-clause-answered : goal.returns-clause-answered
returns-clause-answered g c =
    let inner : c.match-answer.self.inner ≡ c.take_in_share-answer.new.self.inner =
    elim c.match-answer.branch [ in-Moved w ↦ ap (λ b. b.inner) (w.self-is ∙ w.note_taken.ensures) | in_default w ↦ ap (λ b. b.inner) w.self-is ] in
    let counts : c.match-answer.self.counts ≡ c.take_in_share-answer.new.self.counts =
    elim c.match-answer.branch [ in-Moved w ↦ ap (λ b. b.counts) (w.self-is ∙ w.note_taken.ensures) | in_default w ↦ ap (λ b. b.counts) w.self-is ] in
    subst (λ k. Notes (Write c.match-answer.answer) k c.note_write.new.self) (counts
    ∙ c.take_in_share-answer.ensures.takes.counts) c.note_write.ensures _ _ [] [] _ [] _ _
    (ap (λ i. (g.S.Stream.traffic i).connection) inner
    ∙ took_same g.S.Stream.traffic c.args.self.now c.take_in_share-answer.new.self c.take_in_share-answer.result c.take_in_share-answer.ensures.why)

pub returns-clause-stays : goal.returns-clause-stays
returns-clause-stays g c =
    let taken = c.take_in_share-answer.new.self in
    let takes = c.take_in_share-answer.ensures.takes in
    let inner : c.match-answer.self.inner ≡ taken.inner =
    elim c.match-answer.branch [ in-Moved w ↦ ap (λ b. b.inner) (w.self-is ∙ w.note_taken.ensures) | in_default w ↦ ap (λ b. b.inner) w.self-is ] in
    let is : c.match-answer.answer ≡ c.take_in_share-answer.result = elim c.match-answer.branch [
      | in-Moved w ↦ w.answer-is ∙ sym w.in-Moved.is
      | in_default w ↦ w.answer-is
    ] in
    let shorter : c.match-answer.self.is_short ≡ taken.is_short =
    elim c.match-answer.branch [ in-Moved w ↦ ap (λ b. b.is_short) (w.self-is ∙ w.note_taken.ensures) | in_default w ↦ ap (λ b. b.is_short) w.self-is ] in
    let on : c.match-answer.self.reads_on ≡ taken.reads_on =
    elim c.match-answer.branch [ in-Moved w ↦ ap (λ b. b.reads_on) (w.self-is ∙ w.note_taken.ensures) | in_default w ↦ ap (λ b. b.reads_on) w.self-is ] in
    let drained : c.match-answer.self.is_drained ≡ true → (c.args.self.now.is_drained ≡ true) ⊎ (c.args.self.now.is_short ≡ true) = λ e.
    elim c.match-answer.branch [
      | in-Moved w ↦ elim w.if-self.branch [
        | then-self w' ↦ inl (sym takes.drained ∙ w'.if-self.true)
        | else-self w' ↦ inr (sym takes.short ∙ sym w'.self-is ∙ sym (ap (λ b. b.is_drained) (w.self-is ∙ w.note_taken.ensures)) ∙ e)
      ]
      | in_default w ↦ inl (sym takes.drained ∙ sym (ap (λ b. b.is_drained) w.self-is) ∙ e)
    ] in
    let share : c.match-answer.answer ≡ WriteBlocked → c.match-answer.self.share ≡ c.args.self.now.share = λ e.
    elim c.match-answer.branch [
      | in-Moved w ↦ absurd (grind (arith, common_steps))
      | in_default w ↦ ap (λ b. b.share) w.self-is ∙ takes.turn.share
    ] in
    let kept = c.take_in_share-answer.ensures.short in
    let short : g.S.Stream.came_short c.args.self.now.inner ↔ g.S.Stream.came_short c.match-answer.self.inner =
    (λ was. subst g.S.Stream.came_short (sym inner) (kept.0 was), λ is. kept.1 (subst g.S.Stream.came_short inner is)) in
    record {
      short = short;
      sound = sound_drained g.S.Stream.came_short c.args.self.now _ short.0 (shorter ∙ takes.short) drained (on ∙ takes.reads_on);
      why = λ was. waits_as g.S.Stream.came_short g.S.Stream.traffic _ (Write c.match-answer.answer) (c.note_write.ensures [] [] [] [] [] [] 0 0 refl).1
          (why_wrote g.S.Stream.came_short g.S.Stream.traffic c.args.self.now taken _ c.match-answer.answer
          (subst (λ a. WhyTook g.S.Stream.traffic c.args.self.now a taken) (sym is) c.take_in_share-answer.ensures.why) share inner);
    }
