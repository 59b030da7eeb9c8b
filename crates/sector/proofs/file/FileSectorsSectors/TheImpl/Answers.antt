use Rattle.sector.proofs.file.FileSectorsSectors.TheImpl.Goals as goal
use Rattle.std.proofs.Common.{rules, arith, ℕ, List, ◌≡◌, true, length, Bool, add-zero, subst, sym, ◌∙◌}
use Rattle.std.proofs.lemmas.Grind.{common_steps}
use Rattle.file_calls.specs.OpenFacts.{may_read, may_leave, file_after_call}
use Rattle.file_calls.specs.declared.counted.CountedFile.{CountedFile}
use Rattle.sector.proofs.OneSector.{sole_sector, one_write}
use Rattle.sector.specs.FileModel.{FileKeepsModel, ReadKeeps, WriteKeeps}
use Rattle.sector.specs.SectorModel.{FollowsWrite}

read_one : (f : CountedFile) (at : ℕ) (bytes : List ℕ) (ok : Bool) → length bytes ≡ 512 → ReadKeeps f at bytes ok → ok ≡ true → may_read f at bytes
read_one f at bytes ok long keeps was = rw (sole_sector bytes long) at (rw add-zero at (keeps.gives was 0 (omega arith)))

written_one : (f : CountedFile) (at : ℕ) (bytes : List ℕ) (ok : Bool) → length bytes ≡ 512 → WriteKeeps f at bytes ok → ok ≡ true → (s : List ℕ)
    → may_read (file_after_call f) at s → s ≡ bytes
written_one f at bytes ok long keeps was s read =
    keeps.written was 0 s (omega arith) (subst (λ (i : ℕ). may_read (file_after_call f) i s) (sym (add-zero at)) read) ∙ sole_sector bytes long

follows_one : (f : CountedFile) (at : ℕ) (bytes : List ℕ) (ok : Bool) → length bytes ≡ 512 → WriteKeeps f at bytes ok
    → FollowsWrite at (may_leave f) (may_leave (file_after_call f))
follows_one f at bytes ok long keeps = one_write at _ (may_leave f) (may_leave (file_after_call f)) (omega arith) keeps.crash

pub read-tells : goal.read-tells
read-tells x c = search (rules, read_one)

pub write-tells : goal.write-tells
write-tells x c =
    let keep : FileKeepsModel → WriteKeeps c.args.self.now.file c.args.at c.args.from.now c.ensures.happened.0 =
    λ keeps. keeps.writes _ _ _ _ c.ensures.happened.1 in
    record {
      counts = record { sectors = search rules; synced = c.ensures.one_call.syncs };
      failures = c.ensures.one_call.failures;
      written = λ keeps. grind (arith, common_steps, written_one _ _ _ _ c.ensures.long (keep keeps));
      others = grind (arith, common_steps);
      crash = λ keeps. rw c.ensures.one_call.file (follows_one _ _ _ _ c.ensures.long (keep keeps));
      time = search rules;
    }
