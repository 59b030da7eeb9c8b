use Rattle.engine.proofs.engine.Engine.get.Goals as goal
use Rattle.std.proofs.Common.{inl, refl, sym, ap, Some}
use Rattle.std.specs.Prelude.{option_copied}
use Rattle.model.specs.Operations.Operation.{Get}
use Rattle.model.specs.Operations.Response.{Value}
use Rattle.model.specs.declared.refusals.Refusal.TheVariants.{NotOpen}
use Rattle.snapshot.specs.View.{View}
use Rattle.engine.proofs.Calls.{own_call, refused_outside}
use Rattle.engine.proofs.Requests.{read_answered, read_refused, begin-after_get, never_get, known_key, known_nowhere}

pub returns-in-Ok : goal.returns-in-Ok
returns-in-Ok g c =
    let e = c.args.self.now in
    let t = c.in-Some.transaction.now in
    let active = c.get_mut.follows.holds _ in
    let is = rw c.in-Ok.is at c.get.follows.holds-at-none in
    let begin = begin-after_get t _ c.args.key.bytes.now is.0 in
    let answered = read_answered e t _ c.versions-versions.result.now (Get c.args.key.bytes.now) (Value (option_copied c.in-Ok.value))
    c.versions-versions.ensures c.in-Ok.ensures.reply (is.1 _) in (
      (
        refl,
        λ _. tt,
        (
          own_call e _ c.args.s (Get c.args.key.bytes.now) _ t _ (Some (Value (option_copied c.in-Ok.value))) (λ b m r. refl)
              (record { log = refl; history = refl }) (sym c.in-Some.ensures.value) active.0 active.2 refl begin answered,
          refl,
        ),
      ),
      record { known = λ m h t r k. refl; short = c.in-Ok.ensures.short; after = tt },
    )

pub returns-in-Err : goal.returns-in-Err
returns-in-Err g c =
    let e = c.args.self.now in
    let t = c.in-Some.transaction.now in
    let active = c.get_mut.follows.holds _ in
    let is = rw c.in-Err.is at c.get.follows.holds-at-none in
    let answered = read_refused e t _ c.versions-versions.result.now (Get c.args.key.bytes.now) (λ v. Value (option_copied v)) c.in-Err.fault c.from.result
    (never_get c.args.key.bytes.now) c.from.ensures c.versions-versions.ensures c.in-Err.ensures.reply is in (
      (
        refl,
        λ _. tt,
        (
          own_call e _ c.args.s (Get c.args.key.bytes.now) _ t _ _ (λ b m r. refl) (record { log = refl; history = refl })
              (sym c.in-Some.ensures.value) active.0 active.2 refl (ap (λ (u : View). u.begin) is) answered,
          refl,
        ),
      ),
      record {
        known = λ m h t' r k. c.in-Err.ensures.known (known_key e c.args.s t (sym c.in-Some.ensures.value) c.args.key.bytes.now m h t' r k);
        short = tt;
        after = tt;
      },
    )

pub returns-in-None : goal.returns-in-None
returns-in-None g c = (
  (
    refl,
    λ _. tt,
    (
      refused_outside c.args.self.now _ c.args.s (Get c.args.key.bytes.now) _ NotOpen (record { log = refl; history = refl })
          (ap (λ n. n.entries) c.get_mut.follows.holds-at-none) (inl refl) (sym c.in-None.ensures.value) (λ m h. refl),
      refl,
    ),
  ),
  record { known = λ m h t r k. known_nowhere c.args.self.now c.args.s (sym c.in-None.ensures.value) m h t r; short = tt; after = tt },
)
