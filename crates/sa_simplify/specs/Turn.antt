-- The fourth step of simplification: a comparison with a literal on its left and none on its right
-- is turned round.
use Rattle.std.specs.Prelude.{not, ◌&&◌, if◌then◌else◌}
use Rattle.sa_value.specs.declared.truth.CompareOp.{CompareOp}
use Rattle.sa_value.specs.declared.truth.CompareOp.TheVariants.{Eq, NullEq, Ne, Lt, Le, Gt, Ge}
use Rattle.sa_cond.specs.declared.cond.Cond.{Cond, Cond-F, fold-Cond}
use Rattle.sa_cond.specs.declared.cond.Cond.TheVariants.{Compare}
use Rattle.sa_cond.specs.declared.expr.Expr.{Expr}
use Rattle.sa_simplify.specs.Node.{of_node, is_literal}

-- `a op b` is `b (mirrored op) a`.
abbrev pub mirrored : CompareOp → CompareOp
mirrored Eq = Eq
mirrored NullEq = NullEq
mirrored Ne = Ne
mirrored Lt = Gt
mirrored Le = Ge
mirrored Gt = Lt
mirrored Ge = Le

-- a comparison with a literal on its left alone is turned round
abbrev pub comparison_turned : CompareOp → Expr → Expr → Cond
comparison_turned op left right =
    if is_literal left && not (is_literal right) then Compare (mirrored op) right left
    else Compare op left right

-- One node, with what became of its members in their place.
abbrev pub node_turned : Cond-F Cond → Cond
node_turned (Cond-F.Compare op left right) = comparison_turned op left right
node_turned node = of_node node

-- the whole condition
unfoldable pub turned : Cond → Cond
turned = fold-Cond Cond node_turned
