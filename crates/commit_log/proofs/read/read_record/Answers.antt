use Rattle.commit_log.proofs.read.read_record.Goals as goal
use Rattle.std.proofs.Common.{◌≡◌, ◌∙◌, ℕ, List, ap, sym, length, arith}
use Rattle.std.proofs.lemmas.Grind.{common_steps}
use Rattle.byteorder.specs.Endian.{big_number}
use Rattle.commit_log.proofs.Parsing.{IsRead, first_read, all_read, too_short, no_room, is_record, no_record}
use Rattle.commit_log.proofs.read.read_record.Given.{Over}
use Rattle.commit_log.proofs.read.read_record.Goals.{After-deref-2, then-sectors-body_max-via-then-sectors-body_max}
use Rattle.commit_log.proofs.read.read_record.Goals.{then-sectors-body_max-via-else-sectors-body_max+then-sectors-count}
use Rattle.commit_log.specs.Reading.{ReadsImage}
use Rattle.commit_log.specs.RecordFormat.{sectors_for, padded_body}

pub returns-then-count-at-lt2-clause-found : goal.returns-then-count-at-lt2-clause-found
returns-then-count-at-lt2-clause-found g c keeps image size reads = grind (arith, common_steps, too_short)

pub returns-then-sectors-body_max-clause-found : goal.returns-then-sectors-body_max-clause-found
returns-then-sectors-body_max-clause-found g c keeps image size reads =
    let long : length c.read_sectors.new.bytes.items ≡ 512 = omega (arith, c.in_ok-read_sectors.ensures.grown.long, ap length c.new-body.ensures.items) in
    let there = first_read image c.args.at c.new-body.result.items c.read_sectors.new.bytes.items c.new-body.ensures.items
    c.in_ok-read_sectors.ensures.grown.long
    (c.in_ok-read_sectors.ensures.bytes keeps image reads 0 (omega arith)) in
    let len : big_number 4 c.read_sectors.new.bytes.items ≡ c.read_u32.result =
    ap (λ (l : List ℕ). big_number 4 l) (sym c.deref.ensures.value) ∙ sym c.read_u32.ensures in
    let is : sectors_for (big_number 4 c.read_sectors.new.bytes.items) ≡ c.sectors_for-sectors.result =
    ap sectors_for len ∙ sym c.sectors_for-sectors.ensures in
    no_room c.args.format image c.args.at c.args.count c.sectors_for-sectors.result c.read_sectors.new.bytes.items c.args.index c.args.before.now size there is
    (λ few. elim c.then-sectors-body_max.branch [
      | then-sectors-body_max-via-then-sectors-body_max w ↦ omega (
        arith,
        c.body_max-body_max.ensures,
      )
      | then-sectors-body_max-via-else-sectors-body_max+then-sectors-count w ↦ omega arith
    ])

-- the sectors of the record were read
whole : (g : Over) (c : After-deref-2 g) → g.D.Sectors.keeps_model → (image : List (List ℕ)) → ReadsImage (g.D.Sectors.may_read c.args.device.now) image
    → IsRead image c.args.at c.sectors_for-sectors.result c.read_sectors.new.bytes.items c.read_sectors-2.new.bytes.items
whole g c keeps image reads =
    let long : length c.read_sectors.new.bytes.items ≡ 512 = omega (arith, c.in_ok-read_sectors.ensures.grown.long, ap length c.new-body.ensures.items) in
    let there = first_read image c.args.at c.new-body.result.items c.read_sectors.new.bytes.items c.new-body.ensures.items
    c.in_ok-read_sectors.ensures.grown.long
    (c.in_ok-read_sectors.ensures.bytes keeps image reads 0 (omega arith)) in
    let len : big_number 4 c.read_sectors.new.bytes.items ≡ c.read_u32.result =
    ap (λ (l : List ℕ). big_number 4 l) (sym c.deref.ensures.value) ∙ sym c.read_u32.ensures in
    let mid : ReadsImage (g.D.Sectors.may_read c.read_sectors.new.device) image =
    λ i s read. reads i s ((c.in_ok-read_sectors.ensures.only_reads keeps).reads i s read) in
    record {
      there = there;
      count_is = ap sectors_for len ∙ sym c.sectors_for-sectors.ensures;
      long = omega (arith, long, c.in_ok-read_sectors-2.ensures.grown.long);
      each = all_read image c.args.at c.sectors_for-sectors.result c.read_sectors.new.bytes.items c.read_sectors-2.new.bytes.items long there
          c.in_ok-read_sectors-2.ensures.grown.front (c.in_ok-read_sectors-2.ensures.bytes keeps image mid);
    }

pub returns-in-Some-clause-found : goal.returns-in-Some-clause-found
returns-in-Some-clause-found g c keeps image size reads =
    let read = whole g (goal.at.returns-in-Some-clause-found g c).After-deref-2 keeps image reads in
    let same : padded_body c.args.before.now c.args.index c.in-Some.writes.items ≡ c.read_sectors-2.new.bytes.items =
    (rw c.in-Some.is at c.in_ok-writes.ensures.some) ∙ c.deref-2.ensures.value in
    let found = is_record c.args.format image c.args.at c.args.count c.sectors_for-sectors.result _ _ c.args.index c.args.before.now size read
    c.in-Some.writes.items (omega arith) (rw c.in-Some.is at c.in_ok-writes.ensures.proper) (omega arith) same in
    record { stands = found.0; counted = found.1 }

pub returns-clause-found : goal.returns-clause-found
returns-clause-found g c keeps image size reads =
    let read = whole g (goal.at.returns-clause-found g c).After-deref-2 keeps image reads in
    no_record c.args.format image c.args.at c.args.count _ _ _ c.args.index c.args.before.now size read
    (λ writes proper same. (rw c.in-None.is at c.in_ok-writes.ensures.none) writes proper (same ∙ sym c.deref-2.ensures.value))
