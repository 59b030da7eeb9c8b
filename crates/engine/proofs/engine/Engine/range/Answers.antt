use Rattle.engine.proofs.engine.Engine.range.Goals as goal
use Rattle.std.proofs.Common.{inl, refl, sym, ap, Some}
use Rattle.model.specs.Operations.Response.{Pairs}
use Rattle.model.specs.declared.refusals.Refusal.TheVariants.{NotOpen}
use Rattle.snapshot.specs.Made.{range_read}
use Rattle.snapshot.specs.RowPairs.{row_pairs}
use Rattle.snapshot.specs.View.{View}
use Rattle.engine.proofs.Calls.{own_call, refused_outside}
use Rattle.engine.proofs.Requests.{read_answered, read_refused, begin-after_range, never_range, known_range}
use Rattle.engine.proofs.Requests.{known_nowhere}

pub returns-in-Ok : goal.returns-in-Ok
returns-in-Ok g c =
    let e = c.args.self.now in
    let t = c.in-Some.transaction.now in
    let q = range_read c.args.range c.args.limit in
    let active = c.get_mut.follows.holds _ in
    let is = rw c.in-Ok.is at c.range.follows.holds-at-none in
    let begin = begin-after_range t _ _ c.args.range c.args.limit is.0 in
    let answered = read_answered e t _ c.versions-versions.result.now q (Pairs (row_pairs c.in-Ok.rows)) c.versions-versions.ensures c.in-Ok.ensures.reply is.1
    in (
      (
        refl,
        λ _. tt,
        (
          own_call e _ c.args.s q _ t _ (Some (Pairs (row_pairs c.in-Ok.rows))) (λ b m r. refl) (record { log = refl; history = refl })
              (sym c.in-Some.ensures.value) active.0 active.2 refl begin answered,
          refl,
          refl,
        ),
      ),
      record { known = λ m h t r k. refl; few = c.in-Ok.ensures.few; in_bounds = c.in-Ok.ensures.in_bounds; after = tt },
    )

pub returns-in-Err : goal.returns-in-Err
returns-in-Err g c =
    let e = c.args.self.now in
    let t = c.in-Some.transaction.now in
    let q = range_read c.args.range c.args.limit in
    let active = c.get_mut.follows.holds _ in
    let is = rw c.in-Err.is at c.range.follows.holds-at-none in
    let never = never_range c.args.range c.args.limit in
    let answered = read_refused e t _ c.versions-versions.result.now q (λ rows. Pairs (row_pairs rows)) c.in-Err.fault c.from.result never c.from.ensures
    c.versions-versions.ensures c.in-Err.ensures.reply is in (
      (
        refl,
        λ _. tt,
        (
          own_call e _ c.args.s q _ t _ _ (λ b m r. refl) (record { log = refl; history = refl }) (sym c.in-Some.ensures.value) active.0 active.2
              refl (ap (λ (u : View). u.begin) is) answered,
          refl,
          refl,
        ),
      ),
      record {
        known = known_range e c.args.s t (sym c.in-Some.ensures.value) c.versions-versions.result.now c.args.range c.args.limit
            c.versions-versions.ensures c.in-Err.ensures.known;
        few = tt;
        in_bounds = tt;
        after = tt;
      },
    )

pub returns-in-None : goal.returns-in-None
returns-in-None g c = (
  (
    refl,
    λ _. tt,
    (
      refused_outside c.args.self.now _ c.args.s (range_read c.args.range c.args.limit) _ NotOpen (record { log = refl; history = refl })
          (ap (λ n. n.entries) c.get_mut.follows.holds-at-none) (inl refl) (sym c.in-None.ensures.value) (λ m h. refl),
      refl,
      refl,
    ),
  ),
  record { known = λ m h t r k. known_nowhere c.args.self.now c.args.s (sym c.in-None.ensures.value) m h t r; few = tt; in_bounds = tt; after = tt },
)
