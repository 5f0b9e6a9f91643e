use Rattle.std.proofs.Common.{◌∙◌, ap, get_or}
use Rattle.sa_query.specs.declared.refusal.ResolveKind.TheVariants.{GroupRule}
use Rattle.sa_resolve.specs.Fault.{least, told}
use Rattle.sa_resolve.specs.inner.Least.{fault_of, sooner}
use Rattle.sa_resolve.specs.declared.mentions.Loose.{Loose}
use Rattle.sa_resolve.proofs.list.Grouping.{loose_more}
use Rattle.sa_resolve.proofs.grouping.loose_among.Goals as goal

abbrev none : Loose
none = record { place = 0; column = record { table = 0; column = 0 } }

pub loop-one-preserved : goal.loop-one-preserved
loop-one-preserved c =
    let one : Loose = get_or c.args.loose.now c.loop-one.one-index none in
    loose_more c.args.slots.now.group.items c.args.loose.now c.loop-one.one-index none
    (fault_of c.loop-one.fault) (fault_of c.sooner-fault.result)
    c.loop-one-test.true c.loop-one.invariant
    (c.sooner-fault.ensures
    ∙ ap (sooner (fault_of c.loop-one.fault)) (c.told.ensures
    ∙ ap (λ stands. least (told stands GroupRule one.place)) c.is_loose-is_loose.ensures))
