-- The first step of simplification: BETWEEN and IN are written out as comparisons.
--
-- `x BETWEEN a AND b` is `x >= a AND x <= b`. `x IN (a, b, ..)` is the OR of `x = a`, `x = b` and
-- so on, and with one member that equality alone.
use Rattle.std.specs.Prelude.{List, [], ◌∷◌, map}
use Rattle.sa_value.specs.declared.truth.CompareOp.TheVariants.{Eq, Le, Ge}
use Rattle.sa_cond.specs.declared.cond.Cond.{Cond, Cond-F, fold-Cond}
use Rattle.sa_cond.specs.declared.cond.Cond.TheVariants.{Compare, And, Or}
use Rattle.sa_simplify.specs.Node.{of_node}

-- the OR of equalities, or the only one
abbrev pub equality_or_any : List Cond → Cond
equality_or_any [] = Or []
equality_or_any (only ∷ []) = only
equality_or_any (first ∷ second ∷ rest) = Or (first ∷ second ∷ rest)

-- One node, with what became of its members in their place.
abbrev pub node_expanded : Cond-F Cond → Cond
node_expanded (Cond-F.Between value low high) = And (Compare Ge value low ∷ Compare Le value high ∷ [])
node_expanded (Cond-F.Among value list) = equality_or_any (map (λ member. Compare Eq value member) list)
node_expanded node = of_node node

-- the whole condition
unfoldable pub expanded : Cond → Cond
expanded = fold-Cond Cond node_expanded
