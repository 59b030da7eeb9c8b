use Rattle.pivot_check.proofs.committed.Committed.add_record.Goals as goal
use Rattle.std.proofs.Common.{◌∙◌, ◌≡◌, ◌+◌, Bool, length, refl, sym, ap, subst, arith}
use Rattle.last_readers.specs.Readers.{last_reader, IsNoted, HasReadersRoom, ReadersRoom}
use Rattle.std.proofs.lemmas.List.{length-map}
use Rattle.merging_runs.specs.RunSizes.{with_run}
use Rattle.pivot_check.proofs.Judging.{notes}
use Rattle.pivot_check.proofs.LastSources.{noted_upto, noted_above}
use Rattle.pivot_check.proofs.ShortRuns.{commit_by, length_by}
use Rattle.pivot_check.specs.FewKept.{KeepsLittle}
use Rattle.pivot_check.specs.KeptShort.{AreOfCommit}
use Rattle.pivot_check.specs.Inside.{postings_in}
use Rattle.pivot_check.specs.Active.{reach_of}
use Rattle.pivot_check.specs.Kept.{CommittedValue, key_of, keys_of}
use Rattle.pivot_check.specs.Postings.{Posting, postings_by, least, lesser}

-- what was made ready has the keys of the transaction
keys : (c : goal.After-self-1) → c.in-Some.ready.keys.items ≡ keys_of c.args.transaction.now.writes
keys c = grind (arith, c.requires.room.2)

noted : (c : goal.After-self-1) → IsNoted c.args.transaction.now.marks c.args.n c.self.inside.readers.readers c.note.new.self.readers
noted c = c.note.ensures.noted c.args.transaction.now.marks
    (subst (λ (r : ReadersRoom). HasReadersRoom c.args.transaction.now.marks r) (ap (λ (v : CommittedValue). v.room.readers) (sym c.self.view_is))
    c.requires.room.0)

read : (c : goal.After-self-1) → IsNoted c.args.transaction.now.marks c.args.n c.args.self.now.facts.readers c.note.new.self.readers
read c = λ k. grind (arith, noted c k)

added : (c : goal.After-self-1) (t : Posting → Bool) → least t (postings_in c.add_run.new.runs.runs)
    ≡ lesser (least t c.args.self.now.facts.postings) (least t (postings_by c.args.n c.args.cleared.has_earlier_target c.in-Some.ready.keys.items))
added c t =
    grind (arith, c.has_earlier_target.ensures, c.add_run.ensures.same t, c.add_all.ensures)

pub add_run-requires-clause-commit : goal.add_run-requires-clause-commit
add_run-requires-clause-commit c =
    subst (AreOfCommit c.args.n) (sym c.add_all.ensures)
    (commit_by c.args.n c.has_earlier_target.result c.in-Some.ready.keys.items c.in-Some.ready.once)

pub returns-clause-stands_for : goal.returns-clause-stands_for
returns-clause-stands_for c = λ reach h s r own.
    notes c.args.self.now.facts h s c.args.transaction.now reach c.args.n c.requires.next r own
    c.args.cleared c.requires.cleared c.in-Some.ready.keys.items (keys c)
    c.note.new.self.readers (read c) (postings_in c.add_run.new.runs.runs) (added c)
    c.self.inside.oldest (ap (λ (v : CommittedValue). v.facts.oldest) c.self.view_is) (reach_of c.self.inside.active)
    (ap (λ (v : CommittedValue). v.facts.reach) c.self.view_is)

pub invariant_of-self : goal.invariant_of-self
invariant_of-self c =
    let last = ap (λ (v : CommittedValue). v.facts.last) c.self.view_is in
    let n_is : c.args.n ≡ c.self.inside.last + 1 = omega (arith, last, c.requires.next) in
    record {
      order = omega (arith, n_is, c.self.invariant.order);
      forgotten = omega (arith, n_is, c.self.invariant.forgotten, c.note.ensures.oldest);
      together = c.note.ensures.oldest ∙ c.self.invariant.together;
      upto = noted_upto (last_reader c.self.inside.readers.readers) (last_reader c.note.new.self.readers) c.args.transaction.now.marks c.self.inside.last
          c.args.n n_is
          c.self.invariant.upto (noted c);
      above = noted_above (last_reader c.self.inside.readers.readers) (last_reader c.note.new.self.readers) c.args.transaction.now.marks c.self.inside.oldest
          c.args.n
          (omega (arith, n_is, c.self.invariant.order)) c.self.invariant.above (noted c);
      now = omega (arith, n_is, c.self.invariant.now);
    }

pub returns-clause-little : goal.returns-clause-little
returns-clause-little c = λ little.
    let last = ap (λ (v : CommittedValue). v.facts.last) c.self.view_is in
    let was = subst KeepsLittle (sym c.self.view_is) little in
    record {
      postings = refl;
      sizes = c.add_run.ensures.sized was.sizes;
      few = was.few;
      runs = c.add_run.ensures.kept (reach_of c.self.inside.active) c.self.inside.last (omega (arith, last, c.requires.next)) was.runs;
    }

pub returns-clause-run : goal.returns-clause-run
returns-clause-run c =
    let n = c.args.n in
    let inside = c.self.view_is in
    let long : length c.add_all.new.postings.items ≡ length c.args.transaction.now.writes =
    ap length c.add_all.ensures ∙ length_by n c.has_earlier_target.result c.in-Some.ready.keys.items ∙ ap length (keys c)
    ∙ length-map c.args.transaction.now.writes key_of in
    record {
      sizes = c.add_run.ensures.sizes ∙ (λ i. with_run n (long i) (inside i).contents.sizes);
      refused = c.add_run.ensures.refused ∙ (λ i. (inside i).contents.refused);
    }
