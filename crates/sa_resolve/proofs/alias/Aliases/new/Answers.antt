use Rattle.std.proofs.Common.{take, subst}
use Rattle.sa_resolve.specs.Selected.{aliases_of, selected}
use Rattle.sa_resolve.specs.inner.Names.{AreAliases}
use Rattle.sa_resolve.proofs.list.Aliases.{aliases_push, part_stands}
use Rattle.sa_resolve.proofs.list.Parts.{all_taken, part_there}
use Rattle.sa_resolve.proofs.alias.Aliases.new.Goals as goal

pub loop-part-preserved : goal.loop-part-preserved
loop-part-preserved c = λ tables scope sight trees are.
    let index = c.loop-part.part-index in
    let at = part_there tables scope sight 0 c.args.parts.now trees are index c.part-item.result
    c.loop-part-test.true c.part-item.is in
    subst (λ aliases. AreAliases (selected tables scope trees) aliases c.put_part.new.self)
    (aliases_push tables scope sight trees index at.tree at.taken)
    (c.in_ok-put_part.ensures tables scope sight (selected tables scope trees)
    (aliases_of (selected tables scope (take index trees))) _ at.tree at.part_is
    (part_stands tables scope sight trees index at.tree at.left)
    (c.loop-part.invariant tables scope sight trees are))

pub returns : goal.returns
returns c = λ tables scope sight trees are.
    subst (λ taken. AreAliases (selected tables scope trees) (aliases_of (selected tables scope taken))
    c.loop-part.aliases)
    (all_taken tables scope sight 0 c.args.parts.now trees are c.loop-part.part-index c.loop-part-test.false)
    (c.loop-part.invariant tables scope sight trees are)
