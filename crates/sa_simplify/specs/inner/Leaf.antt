-- What a step asks of a condition that has no other inside, and what becomes of one under NOT.
use Rattle.std.specs.Prelude.{⊤, Option, Some, None}
use Rattle.sa_value.specs.declared.value.Value.{Value}
use Rattle.sa_value.specs.Compare.{CanCompare}
use Rattle.sa_cond.specs.declared.cond.Cond.{Cond, And', Or', Not'}
use Rattle.sa_cond.specs.declared.cond.Cond.TheVariants.{Compare, IsNull, NotNull, Not}
use Rattle.sa_simplify.specs.Push.{comparison_denied}
use Rattle.sa_simplify.specs.Simple.{IsWellTyped}

-- It is well-typed. Of the others nothing is asked.
abbrev pub IsWellTypedLeaf : Cond → Type 0
IsWellTypedLeaf (And' shape members) = ⊤
IsWellTypedLeaf (Or' shape members) = ⊤
IsWellTypedLeaf (Not' shape x) = ⊤
IsWellTypedLeaf leaf = IsWellTyped leaf

-- NOT over a condition that has no other inside
abbrev pub leaf_denied : Cond → Cond
leaf_denied (Compare op left right) = comparison_denied op left right
leaf_denied (IsNull x) = NotNull x
leaf_denied (NotNull x) = IsNull x
leaf_denied leaf = Not leaf

-- Two literals can be compared.
abbrev pub CanDecide : Option Value → Option Value → Type 0
CanDecide (Some value) (Some other) = CanCompare value other
CanDecide (Some value) None = ⊤
CanDecide None other = ⊤
