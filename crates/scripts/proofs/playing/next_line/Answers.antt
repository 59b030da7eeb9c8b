use Rattle.scripts.proofs.playing.next_line.Goals as goal
use Rattle.std.proofs.Common.{◌≡◌, ◌<◌, [], ◌∷◌, ◌++◌, length, Option, sym, ap, subst, ◌∙◌, arith}
use Rattle.std.proofs.Math.Dec.{eqb}
use Rattle.std.specs.Io.BufRead.{take_through}
use Rattle.std.specs.List.{ends_with}
use Rattle.std.specs.Prelude.{IfSome}
use Rattle.model.specs.Map.{Bytes}
use Rattle.scripts.proofs.Reading.{unended_line}

pub returns-else-ends_with-clause-read : goal.returns-else-ends_with-clause-read
returns-else-ends_with-clause-read g c =
    let items : Bytes = c.read_until.new.buf.items in
    let left : Option Bytes = g.R.Read.remaining c.args.reader.now in
    let taken : IfSome left (λ xs. items ≡ take_through 10 xs) =
    subst (λ before. IfSome left (λ xs. items ≡ before ++ take_through 10 xs)) c.clear.ensures.items c.in_ok-read_until.ensures.bytes in
    let len = c.read_until.new.buf.ok.0 in
    let long = c.in_ok-read_until.ensures.ok in
    let some : 0 < length items = omega (arith, c.clear.ensures.len, c.if-branch-eq0.false) in
    unended_line left items (g.R.Read.remaining c.read_until.new.self) taken c.in_ok-read_until.ensures.rest some
    (ap (λ bytes. ends_with eqb bytes (10 ∷ [])) (sym c.deref.ensures.value) ∙ sym c.ends_with.ensures.value ∙ c.if-ends_with.false)
