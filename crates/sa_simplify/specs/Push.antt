-- The second step of simplification: NOT is pushed inward.
--
-- NOT over AND is the OR of the members under NOT, and NOT over OR their AND. Under NOT `=` and
-- `<>`, `<` and `>=`, `>` and `<=` change into each other, and so do IS NULL and IS NOT NULL. Two
-- NOTs vanish. NOT over `<=>` stays, and so does NOT over a truth.
use Rattle.std.specs.Prelude.{map}
use Rattle.sa_value.specs.declared.truth.CompareOp.{CompareOp}
use Rattle.sa_value.specs.declared.truth.CompareOp.TheVariants.{Eq, NullEq, Ne, Lt, Le, Gt, Ge}
use Rattle.sa_cond.specs.declared.cond.Cond.{Cond, Cond-F, fold-Cond}
use Rattle.sa_cond.specs.declared.cond.Cond.TheVariants.{Known, Compare, IsNull, NotNull, Between, Among, And, Or, Not}
use Rattle.sa_cond.specs.declared.expr.Expr.{Expr}
use Rattle.sa_simplify.specs.declared.push.Sense.{Sense}
use Rattle.sa_simplify.specs.declared.push.Sense.TheVariants.{Plain, Denied}

-- a comparison under NOT
abbrev pub comparison_denied : CompareOp → Expr → Expr → Cond
comparison_denied Eq left right = Compare Ne left right
comparison_denied NullEq left right = Not (Compare NullEq left right)
comparison_denied Ne left right = Compare Eq left right
comparison_denied Lt left right = Compare Ge left right
comparison_denied Le left right = Compare Gt left right
comparison_denied Gt left right = Compare Le left right
comparison_denied Ge left right = Compare Lt left right

-- One node, plain or under NOT, with both for each of its members in their place.
abbrev pub node_pushed : Cond-F (Sense → Cond) → Sense → Cond
node_pushed (Cond-F.Known truth) Plain = Known truth
node_pushed (Cond-F.Known truth) Denied = Not (Known truth)
node_pushed (Cond-F.Compare op left right) Plain = Compare op left right
node_pushed (Cond-F.Compare op left right) Denied = comparison_denied op left right
node_pushed (Cond-F.IsNull x) Plain = IsNull x
node_pushed (Cond-F.IsNull x) Denied = NotNull x
node_pushed (Cond-F.NotNull x) Plain = NotNull x
node_pushed (Cond-F.NotNull x) Denied = IsNull x
node_pushed (Cond-F.Between value low high) Plain = Between value low high
node_pushed (Cond-F.Between value low high) Denied = Not (Between value low high)
node_pushed (Cond-F.Among value list) Plain = Among value list
node_pushed (Cond-F.Among value list) Denied = Not (Among value list)
node_pushed (Cond-F.And members) Plain = And (map (λ member. member Plain) members)
node_pushed (Cond-F.And members) Denied = Or (map (λ member. member Denied) members)
node_pushed (Cond-F.Or members) Plain = Or (map (λ member. member Plain) members)
node_pushed (Cond-F.Or members) Denied = And (map (λ member. member Denied) members)
node_pushed (Cond-F.Not x) Plain = x Denied
node_pushed (Cond-F.Not x) Denied = x Plain

-- the whole condition, plain or under NOT
unfoldable pub pushed : Cond → Sense → Cond
pushed = fold-Cond (Sense → Cond) node_pushed
