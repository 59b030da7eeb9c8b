use Rattle.sessions.proofs.present.Present.session_at.Goals as goal
use Rattle.std.proofs.Common.{refl, subst, ◌∙◌}
use Rattle.sessions.proofs.Places.{IsRising, put_rising, row_set, row_value}

pub invariant_of-self-lent : goal.invariant_of-self-lent
invariant_of-self-lent c w =
    let es = c.args.self.now in
    put_rising c.args.s es _ (subst IsRising c.self.view_is c.self.invariant) w
    (row_set c.args.s es c.self.inside.rows.items c.args.place c.index_mut-row.result.now c.self.view_is c.requires c.index_mut-row.ensures.value w
    ∙ c.requires.inserted w)

pub returns : goal.returns
returns c =
    let es = c.args.self.now in
    let xs = c.self.inside.rows.items in
    let e = c.index_mut-row.result.now in (
      (refl, λ w. row_set c.args.s es xs c.args.place e c.self.view_is c.requires c.index_mut-row.ensures.value w ∙ c.requires.written w),
      record { writes_back = tt; value = row_value c.args.s es xs c.args.place e c.self.view_is c.requires c.index_mut-row.ensures.value },
    )
