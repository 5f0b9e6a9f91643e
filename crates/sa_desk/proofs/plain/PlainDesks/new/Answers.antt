use Rattle.std.proofs.Common.{◌≡◌, length, replicate, sym, subst, ap, ◌∙◌, arith}
use Rattle.sa_desk.specs.Plain.{world_of}
use Rattle.sa_desk.specs.World.{IsFirst}
use Rattle.sa_desk.proofs.PlainNew.{IsFirst-new}
use Rattle.sa_desk.proofs.plain.PlainDesks.new.Goals as goal

pub returns-clause-first : goal.returns-clause-first
returns-clause-first c =
    let count : c.len.result ≡ length c.args.desks.items = omega (arith, c.len.ensures, c.args.desks.ok.0) in
    let made_is = c.nothing_made-made.ensures ∙ ap (λ count. replicate count 0) count in
    subst (λ made. IsFirst (world_of (record { desks = c.args.desks.items; made = made }))) (sym made_is) (IsFirst-new c.args.desks.items c.requires)
