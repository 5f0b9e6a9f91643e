-- When conditions fit a plan of one table.
use Rattle.std.proofs.Common.{◌≡◌, true, List, [], ◌∷◌, ◌++◌, map, flat_map, All, refl, sym, subst, ◌∙◌, arith}
use Rattle.std.specs.List.{list_all}
use Rattle.std.proofs.lemmas.List.Elements.{All-nil, All-head, All-tail, All-weaker, All-append}
use Rattle.sa_value.specs.declared.truth.CompareOp.{CompareOp}
use Rattle.sa_cond.specs.declared.cond.Cond.{Cond}
use Rattle.sa_cond.specs.declared.cond.Cond.TheVariants as conds
use Rattle.sa_cond.specs.declared.expr.Expr.{Expr}
use Rattle.sa_cond.specs.Cited.{Name, column, slot, IsThere, expr_names, cond_names}
use Rattle.sa_cond.specs.Interval.{CellKinds, expr_kind}
use Rattle.sa_cond.specs.Typed.{can_compare, is_well_typed}
use Rattle.sa_cond.proofs.CondForms.{names-Compare, names-Between, names-And, names-Or, typed-Compare, typed-Between, typed-And, typed-Or}
use Rattle.sa_plan.specs.declared.plan.Level.{Level}
use Rattle.sa_plan.specs.Lawful.{kinds_of, IsInSight, IsLawfulCond}
use Rattle.sa_table.specs.Table.{Table}
use Rattle.sa_plan_fixtures.specs.OnlyTable.{IsColumn, Sees}

module _ (tables : List Table) (level : Level) where
  one_in_sight : (name : Name) → IsThere (IsColumn tables level) (λ number. ⊥) name → IsInSight tables (level ∷ []) name
  one_in_sight (column position index) is = (0, level, omega arith, refl, (sym is.position_is, is.within))
  one_in_sight (slot index) is = absurd is

  -- So it is in sight.
  pub in_sight : (names : List Name) → Sees tables level names → All (IsInSight tables (level ∷ [])) names
  in_sight names sees =
      All-weaker (IsThere (IsColumn tables level) (λ number. ⊥)) (IsInSight tables (level ∷ [])) one_in_sight names sees

  abbrev Lawful : Cond → Type 0
  Lawful = IsLawfulCond tables (level ∷ [])

  abbrev InSight : Name → Type 0
  InSight = IsInSight tables (level ∷ [])

  abbrev kinds : CellKinds
  kinds = kinds_of tables (level ∷ [])

  both : (xs ys : List Name) → Sees tables level xs → Sees tables level ys → All InSight (xs ++ ys)
  both xs ys one other = All-append InSight xs ys (in_sight xs one) (in_sight ys other)

  pub lawful_compare : (op : CompareOp) (left right : Expr) → Sees tables level (expr_names left) → Sees tables level (expr_names right)
      → can_compare (expr_kind kinds left) (expr_kind kinds right) ≡ true → Lawful (conds.Compare op left right)
  lawful_compare op left right one other is = record {
    names = subst (All InSight) (sym (names-Compare op left right)) (both (expr_names left) (expr_names right) one other);
    typed = typed-Compare kinds op left right ∙ is;
  }

  pub lawful_between : (value low high : Expr)
      → Sees tables level (expr_names value) → Sees tables level (expr_names low) → Sees tables level (expr_names high)
      → can_compare (expr_kind kinds value) (expr_kind kinds low) ≡ true
      → can_compare (expr_kind kinds value) (expr_kind kinds high) ≡ true
      → Lawful (conds.Between value low high)
  lawful_between value low high at_value at_low at_high is_low is_high = record {
    names = subst (All InSight) (sym (names-Between value low high))
        (All-append InSight (expr_names value ++ expr_names low) (expr_names high) (both (expr_names value) (expr_names low) at_value at_low) (in_sight (expr_names high) at_high));
    typed = typed-Between kinds value low high ∙ (rw (is_low, is_high));
  }

  names_of_all : (members : List Cond) → All Lawful members → All InSight (flat_map (λ names. names) (map cond_names members))
  names_of_all [] lawful = All-nil InSight
  names_of_all (cond ∷ members) lawful =
      All-append InSight (cond_names cond) (flat_map (λ names. names) (map cond_names members))
      (All-head Lawful cond members lawful).names (names_of_all members (All-tail Lawful cond members lawful))

  typed_of_all : (members : List Cond) → All Lawful members → list_all (λ typed. typed) (map (is_well_typed kinds) members) ≡ true
  typed_of_all [] lawful = refl
  typed_of_all (cond ∷ members) lawful =
      rw (All-head Lawful cond members lawful).typed (typed_of_all members (All-tail Lawful cond members lawful))

  pub lawful_and : (members : List Cond) → All Lawful members → Lawful (conds.And members)
  lawful_and members lawful = record {
    names = subst (All InSight) (sym (names-And members)) (names_of_all members lawful);
    typed = typed-And kinds members ∙ typed_of_all members lawful;
  }

  pub lawful_or : (members : List Cond) → All Lawful members → Lawful (conds.Or members)
  lawful_or members lawful = record {
    names = subst (All InSight) (sym (names-Or members)) (names_of_all members lawful);
    typed = typed-Or kinds members ∙ typed_of_all members lawful;
  }
