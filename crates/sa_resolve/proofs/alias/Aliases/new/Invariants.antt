use Rattle.std.proofs.Common.{List, take}
use Rattle.sa_ast.specs.declared.select.ItemTree.{ItemTree}
use Rattle.sa_table.specs.Table.{Table}
use Rattle.sa_resolve.specs.declared.sight.Sight.{Sight}
use Rattle.sa_resolve.specs.Expression.{Scope}
use Rattle.sa_resolve.specs.Selected.{aliases_of, selected}
use Rattle.sa_resolve.specs.inner.Listing.{AreParts}
use Rattle.sa_resolve.specs.inner.Names.{AreAliases}
use Rattle.sa_resolve.proofs.alias.Aliases.new.Given as goal

abbrev pub invariant-loop-part : goal.invariant-loop-part
invariant-loop-part l =
    (tables : List Table) (scope : Scope) (sight : Sight) (trees : List ItemTree)
    → AreParts tables scope sight 0 l.parts trees
    → AreAliases (selected tables scope trees) (aliases_of (selected tables scope (take l.part-index trees)))
    l.aliases
