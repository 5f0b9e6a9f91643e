-- The simplified condition: seven steps, one after another. And the conditions that can be simplified.
use Rattle.std.specs.Prelude.{◌≡◌, true, List}
use Rattle.std.specs.List.{list_all}
use Rattle.sa_cond.specs.declared.cond.Cond.{Cond}
use Rattle.sa_cond.specs.Interval.{CellKinds}
use Rattle.sa_cond.specs.Typed.{is_well_typed}
use Rattle.sa_simplify.specs.declared.push.Sense.TheVariants.{Plain}
use Rattle.sa_simplify.specs.Expand.{expanded}
use Rattle.sa_simplify.specs.Push.{pushed}
use Rattle.sa_simplify.specs.Fold.{folded}
use Rattle.sa_simplify.specs.Turn.{turned}
use Rattle.sa_simplify.specs.Decide.{decided}
use Rattle.sa_simplify.specs.Flatten.{flattened}
use Rattle.sa_simplify.specs.Propagate.{propagated}

-- what the seven steps make of a condition
unfoldable pub simple : Cond → Cond
simple cond = propagated (flattened (decided (turned (folded (pushed (expanded cond) Plain)))))

-- With some kinds of its columns and slots a condition is well-typed, and each arithmetic
-- expression in it has a static interval.
pub record IsWellTyped (cond : Cond) : Type 0 where
  pub kinds : CellKinds
  pub typed : is_well_typed kinds cond ≡ true

-- With some kinds all of these conditions are well-typed.
pub record AreWellTyped (conds : List Cond) : Type 0 where
  pub kinds : CellKinds
  pub typed : list_all (is_well_typed kinds) conds ≡ true
