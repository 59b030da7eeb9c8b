-- What stands for the same histories.
use Rattle.std.proofs.Common.{◌≡◌, ◌+◌, true, List, refl, sym, ap, subst, ◌∙◌, arith}
use Rattle.model.specs.History.{Record}
use Rattle.last_readers.specs.Readers.{AnswerAlike}
use Rattle.last_readers.specs.Steps.{cut}
use Rattle.snapshot.specs.View.{View}
use Rattle.pivot_check.specs.Kept.{Facts, IsInReach, Reach, may_ask}
use Rattle.pivot_check.specs.Postings.{AnswerAs, Posting}
use Rattle.pivot_check.specs.StandsFor.{AreWriters, IsRecordOf, kept_above, last_reader_in, StandsFor, IsCleared}
use Rattle.pivot_check.specs.StandsFor.{StandForSame}
use Rattle.pivot_check.specs.declared.verdict.Cleared.{Cleared}

-- whoever asks, the answer is the same
abbrev AnswerSame : List Posting → List Posting → Type 0
AnswerSame old new = AnswerAs (λ _. true) new old

-- what answers alike stands for the same histories
alike : (f g : Facts) → AnswerAlike f.readers g.readers → AnswerSame f.postings g.postings
    → g.oldest ≡ f.oldest → g.last ≡ f.last → g.reach ≡ f.reach → (history : List Record) → StandsFor f history → StandsFor g history
alike f g readers postings oldest last reach history s = record {
  numbered = s.numbered;
  begun = s.begun;
  no_pivot = s.no_pivot;
  last = last ∙ s.last;
  readers = λ k. readers.readers k ∙ s.readers k ∙ ap (λ o. cut o (last_reader_in history k)) (sym oldest);
  writers = subst (λ o. AreWriters g.reach o g.postings (kept_above o history)) (sym oldest)
      (subst (λ r. AreWriters r f.oldest g.postings (kept_above f.oldest history)) (sym reach)
      (λ b asks keys flagged. postings b refl keys flagged ∙ s.writers b asks keys flagged));
  now = let since = ap (λ (r : Reach). r.since) reach in let low = s.now in omega (arith, since, last, low);
}

stand_for_same : (f g : Facts) → AnswerAlike f.readers g.readers → AnswerSame f.postings g.postings
    → g.oldest ≡ f.oldest → g.last ≡ f.last → g.reach ≡ f.reach → StandForSame f g
stand_for_same f g readers postings oldest last reach =
    let readers_back : AnswerAlike g.readers f.readers = record { readers = λ k. sym (readers.readers k); oldest = sym readers.oldest } in
    let back : AnswerSame g.postings f.postings = λ b asks keys flagged. sym (postings b asks keys flagged) in
    record {
      stands = λ history. (
        alike f g readers postings oldest last reach history,
        alike g f readers_back back (sym oldest) (sym last) (sym reach) history,
      );
      oldest = oldest;
      last = last;
      reach = reach;
    }

-- where what was kept is a view
pub same_from : (was f g : Facts) → f ≡ was → AnswerAlike f.readers g.readers → AnswerSame f.postings g.postings
    → g.oldest ≡ f.oldest → g.last ≡ f.last → g.reach ≡ f.reach → StandForSame was g
same_from was f g is readers postings oldest last reach =
    subst (λ (h : Facts). StandForSame h g) is (stand_for_same f g readers postings oldest last reach)

-- the other way round
pub stand_back : (f g : Facts) → StandForSame f g → StandForSame g f
stand_back f g same = record {
  stands = λ history. ((same.stands history).1, (same.stands history).0);
  oldest = sym same.oldest;
  last = sym same.last;
  reach = sym same.reach;
}

-- a transaction stays in reach, and cleared
pub in_reach_still : (f g : Facts) (t : View) → StandForSame f g → IsInReach f t → IsInReach g t
in_reach_still f g t same reach =
    let last = same.last in
    let oldest = same.oldest in
    record { begun = omega (arith, last); active = omega (arith, oldest); asks = ap (λ r. may_ask r t.begin) same.reach ∙ reach.asks }

pub still_cleared : (f g : Facts) (t : View) (cleared : Cleared) → StandForSame f g → IsCleared f t cleared → IsCleared g t cleared
still_cleared f g t cleared same is = λ reach history s r own.
    is (in_reach_still g f t (stand_back f g same) reach) history ((same.stands history).1 s) r (subst (λ n. IsRecordOf t (n + 1) r) same.last own)
