use Rattle.engine.proofs.engine.Engine.del.Goals as goal
use Rattle.std.proofs.Common.{inl, refl, sym, ap, Some}
use Rattle.model.specs.Operations.Operation.{Del}
use Rattle.model.specs.Operations.Response.{Done}
use Rattle.model.specs.declared.refusals.Refusal.TheVariants.{NotOpen}
use Rattle.snapshot.specs.View.{View}
use Rattle.engine.proofs.Calls.{own_call, refused_outside}
use Rattle.engine.proofs.Requests.{write_refused}

pub returns-in-Ok-clause-step : goal.returns-in-Ok-clause-step
returns-in-Ok-clause-step g c =
    own_call c.args.self.now _ c.args.s (Del c.args.key.bytes.now) _ c.in-Some.transaction.now c.delete.new.self (Some Done)
    (λ b m r. refl) (record { log = refl; history = refl }) (sym c.in-Some.ensures.value) (c.get_mut.follows.holds _).0 (c.get_mut.follows.holds _).2
    refl (ap (λ (u : View). u.begin) c.in-Ok.ensures.ok) (λ m qs seen made. (c.in-Ok.ensures.reply m qs made, c.in-Ok.ensures.made m qs made))

pub returns-in-Err-clause-step : goal.returns-in-Err-clause-step
returns-in-Err-clause-step g c =
    own_call c.args.self.now _ c.args.s (Del c.args.key.bytes.now) _ c.in-Some.transaction.now c.delete.new.self _
    (λ b m r. refl) (record { log = refl; history = refl }) (sym c.in-Some.ensures.value) (c.get_mut.follows.holds _).0 (c.get_mut.follows.holds _).2
    refl (ap (λ (u : View). u.begin) c.in-Err.ensures.err)
    (write_refused c.args.self.now c.in-Some.transaction.now c.delete.new.self (Del c.args.key.bytes.now) (λ (x : Unit {0}). Done) c.in-Err.fault c.from.result
    c.from.ensures
    (λ m qs seen made. c.in-Err.ensures.reply m qs made) c.in-Err.ensures.err)

pub returns-in-None-clause-step : goal.returns-in-None-clause-step
returns-in-None-clause-step g c =
    refused_outside c.args.self.now _ c.args.s (Del c.args.key.bytes.now) _ NotOpen (record { log = refl; history = refl })
    (ap (λ n. n.entries) c.get_mut.follows.holds-at-none) (inl refl) (sym c.in-None.ensures.value) (λ m h. refl)
