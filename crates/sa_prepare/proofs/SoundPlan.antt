-- The plan of a query that is plain and fits the tables is sound.
use Rattle.std.proofs.Common.{◌≡◌, ◌≢◌, ℕ, zero, suc, ◌<◌, ◌==◌, ◌++◌, ◌||◌, not, Bool, true, false, if◌then◌else◌, List, [], ◌∷◌, map, flat_map, length, All, Contains, refl, sym, subst, ap, ◌∙◌, arith}
use Rattle.std.specs.Prelude.{slice_get, slice_index_or, IsSomeAnd}
use Rattle.std.specs.List.{AllByRecursion, list_all}
use mathlib.Core.Path.{fun_ext, ap₂}
use Rattle.std.proofs.lemmas.Bool.Decides.{nat_tests}
use Rattle.std.proofs.lemmas.List.Elements.{All-nil, All-cons, All-contains, All-contains_itself}
use Rattle.sa_cond.specs.declared.cells.CellKind.{CellKind}
use Rattle.sa_cond.specs.declared.cells.CellKind.TheVariants as cells
use Rattle.sa_cond.specs.declared.cond.Cond.{Cond, Cond-F, out-Cond}
use Rattle.sa_cond.specs.declared.cond.Cond.TheVariants.{And}
use Rattle.sa_cond.specs.declared.expr.Expr.{Expr}
use Rattle.sa_cond.specs.Cited.{Name, column, slot, expr_names, cond_names}
use Rattle.sa_cond.specs.Interval.{CellKinds, expr_kind}
use Rattle.sa_cond.specs.Typed.{is_proper, is_well_typed}
use Rattle.sa_cond.proofs.Lists.{All-flat}
use Rattle.sa_simplify.specs.Flatten.{is_true, and_members, conjuncts_of}
use Rattle.sa_simplify.specs.Node.{of_node}
use Rattle.sa_simplify.specs.Simple.{simple}
use Rattle.sa_simplify.proofs.NodeLemmas.{of_node-out}
use Rattle.sa_simplify.proofs.Refines.{typed-of_node, names-of_node, both_true}
use Rattle.sa_simplify.proofs.SimpleLemmas.{simple_typed, simple_named}
use Rattle.sa_table.specs.Sound.{column_at}
use Rattle.sa_table.specs.Table.{Table, table_at, column_count}
use Rattle.sa_query.specs.declared.group.Aggregate.{Aggregate}
use Rattle.sa_query.specs.declared.group.Column.{Column}
use Rattle.sa_query.specs.declared.item.Item.{Item}
use Rattle.sa_query.specs.declared.query.Query.{Query}
use Rattle.sa_query.specs.declared.query.TableUse.{TableUse}
use Rattle.sa_query.specs.Kinds.{cells_of, column_cells, column_kinds, aggregate_cells, slot_cells, query_kinds}
use Rattle.sa_query.specs.Meaning.{is_empty, does_group}
use Rattle.sa_query.specs.WellTyped as query
use Rattle.sa_plan.specs.declared.access.Access.TheVariants as access
use Rattle.sa_plan.specs.declared.plan.Level.{Level}
use Rattle.sa_plan.specs.Lawful.{column_kind, kinds_of, IsInSight, IsLawfulExpr, IsLawfulCond}
use Rattle.sa_prepare.specs.PlanFor.{conditions_of, the_table, scan_level, plan_for, IsPlain}
use Rattle.sa_prepare.specs.Sound.{IsSoundPlan}
use Rattle.sa_prepare.proofs.Fits.{IsFit}

-- The level reads its whole table.
abbrev IsWhole : Level → Type 0
IsWhole level = level.access ≡ access.All

-- the members of an AND and any other condition
module _ (tables : List Table) (levels : List Level) where
  abbrev Lawful : Cond → Type 0
  Lawful = IsLawfulCond tables levels

  abbrev Sees : Name → Type 0
  Sees = IsInSight tables levels

  abbrev kinds : CellKinds
  kinds = kinds_of tables levels

  typed-at : (members : List Cond) → list_all (λ typed. typed) (map (is_well_typed kinds) members) ≡ true → All (λ member. is_well_typed kinds member ≡ true) members
  typed-at [] all = All-nil (λ member. is_well_typed kinds member ≡ true)
  typed-at (member ∷ members) all =
      let both = both_true (is_well_typed kinds member) (list_all (λ typed. typed) (map (is_well_typed kinds) members)) all in
      All-cons (λ member. is_well_typed kinds member ≡ true) member members both.0 (typed-at members both.1)

  lawful-members : (members : List Cond) → is_well_typed kinds (And members) ≡ true → All Sees (cond_names (And members)) → All Lawful members
  lawful-members members typed names =
      let each_typed = typed-at members (sym (typed-of_node kinds (Cond-F.And members)) ∙ typed) in
      let each_named = All-flat Sees cond_names members (subst (All Sees) (names-of_node (Cond-F.And members)) names) in
      λ k d lt. record { names = each_named k d lt; typed = each_typed k d lt }

  by_layer : (layer : Cond-F Cond) (whole : Cond) → of_node layer ≡ whole → is_well_typed kinds whole ≡ true → All Sees (cond_names whole)
      → All Lawful (and_members layer whole)
  by_layer (Cond-F.And members) whole is typed names =
      lawful-members members (subst (λ cond. is_well_typed kinds cond ≡ true) (sym is) typed) (subst (λ cond. All Sees (cond_names cond)) (sym is) names)
  by_layer layer whole is typed names = All-cons Lawful whole [] (record { names = names; typed = typed }) (All-nil Lawful)

  -- A condition's conjuncts are lawful where it is.
  lawful-conjuncts : (cond : Cond) → is_well_typed kinds cond ≡ true → All Sees (cond_names cond) → All Lawful (conjuncts_of cond)
  lawful-conjuncts cond typed names = by_layer (out-Cond cond) cond (sym (of_node-out cond)) typed names

  lawful-conditions : (cond : Cond) → is_well_typed kinds cond ≡ true → All Sees (cond_names cond) → All Lawful (conditions_of cond)
  lawful-conditions cond typed names = at (is_true cond)
    where
      at : (test : Bool) → All Lawful (if test then [] else conjuncts_of cond)
      at true = All-nil Lawful
      at false = lawful-conjuncts cond typed names

module _ (tables : List Table) (asked : Query) (plain : IsPlain asked) (fit : IsFit tables asked) where
  abbrev used : TableUse
  used = the_table asked

  abbrev level : Level
  level = scan_level tables asked used

  only-one : (uses : List TableUse) (other : TableUse) → length uses ≡ 1 → uses ≡ slice_index_or uses 0 other ∷ []
  only-one [] other is = absurd (omega arith)
  only-one (one ∷ []) other is = refl
  only-one (one ∷ two ∷ others) other is = absurd (omega arith)

  is-one : asked.tables ≡ used ∷ []
  is-one = only-one asked.tables _ plain.one

  -- kinds

  column-same : (position number : ℕ) → column_cells tables (slice_get (used ∷ []) position) number ≡ column_kind tables (level ∷ []) position number
  column-same zero number = refl
  column-same (suc position) number =
      let other : (0 == suc position) ≡ false = grind (arith, nat_tests) in
      ap (λ test. if test then cells_of (column_at (table_at tables used.table).def number).kind else cells.Text) (sym other)

  none-there : (slots : List CellKind) (number : ℕ) → slots ≡ [] → slice_index_or slots number cells.Text ≡ cells.Text
  none-there [] zero none = refl
  none-there [] (suc number) none = refl
  none-there (kind ∷ others) number none = absurd cc

  no-slots : slot_cells (column_kinds tables asked.tables) asked ≡ []
  no-slots =
      let columns = column_kinds tables asked.tables in
      ap₂ (λ (group : List Column) (aggregates : List Aggregate).
      map (λ (one : Column). columns.column one.table one.column) group
      ++ map (λ (one : Aggregate). aggregate_cells columns one.call one.argument) aggregates) plain.group plain.aggregates

  slot-same : (number : ℕ) → slice_index_or (slot_cells (column_kinds tables asked.tables) asked) number cells.Text ≡ cells.Text
  slot-same number = none-there (slot_cells (column_kinds tables asked.tables) asked) number no-slots

  kinds-same : query_kinds tables asked ≡ kinds_of tables (level ∷ [])
  kinds-same =
      let make : ((table number : ℕ) → CellKind) → (ℕ → CellKind) → CellKinds = λ columns slots. record { column = columns; slot = slots } in
      ap₂ make
      (ap (λ uses. λ position number. column_cells tables (slice_get uses position) number) is-one
      ∙ fun_ext (λ position. fun_ext (λ number. column-same position number)))
      (fun_ext slot-same)

  -- names

  column-sees : (position number : ℕ) → IsSomeAnd (slice_get (used ∷ []) position) (λ (used : TableUse). number < column_count tables used.table)
      → IsInSight tables (level ∷ []) (column position number)
  column-sees zero number there = (0, level, omega arith, refl, (refl, there))
  column-sees (suc position) number there = absurd there

  sees : (name : Name) → query.IsInSight tables asked false name → IsInSight tables (level ∷ []) name
  sees (column position number) there =
      column-sees position number
      (subst (λ uses. IsSomeAnd (slice_get uses position) (λ (used : TableUse). number < column_count tables used.table)) is-one there)
  sees (slot number) there = there

  all-seen : (names : List Name) → All (query.IsInSight tables asked false) names → All (IsInSight tables (level ∷ [])) names
  all-seen names all = λ k d lt. sees _ (all k d lt)

  -- the filter

  filter-names : All (IsInSight tables (level ∷ [])) (cond_names (simple asked.filter))
  filter-names = λ k d lt.
      sees _ (All-contains (query.IsInSight tables asked false) (cond_names asked.filter) _ fit.filter.names
      (simple_named asked.filter _ (All-contains_itself (cond_names (simple asked.filter)) k d lt)))

  filter-typed : is_well_typed (kinds_of tables (level ∷ [])) (simple asked.filter) ≡ true
  filter-typed =
      subst (λ kinds. is_well_typed kinds (simple asked.filter) ≡ true) kinds-same
      (simple_typed (query_kinds tables asked) asked.filter fit.filter.typed)

  conditions : All (IsLawfulCond tables (level ∷ [])) level.conditions
  conditions = lawful-conditions tables (level ∷ []) (simple asked.filter) filter-typed filter-names

  -- the select list

  no-group : does_group asked ≡ false
  no-group =
      ap₂ (λ (group : List Column) (aggregates : List Aggregate). not (is_empty group) || not (is_empty aggregates)) plain.group plain.aggregates

  lawful-expr : (expr : Expr) → query.IsFitExpr tables asked false expr → IsLawfulExpr tables (level ∷ []) expr
  lawful-expr expr is = record {
    names = all-seen (expr_names expr) is.names;
    typed = subst (λ kinds. is_proper (expr_kind kinds expr) ≡ true) kinds-same is.typed;
  }

  select : All (λ (item : Item). IsLawfulExpr tables (level ∷ []) item.value) asked.select
  select = λ k d lt. lawful-expr _ (fit.select no-group k d lt)

  there : used.table < length tables
  there = subst (λ (uses : List TableUse). All (λ (used : TableUse). used.table < length tables) uses) is-one fit.there 0 used (omega arith)

  pub plan-sound : IsSoundPlan tables (plan_for tables asked)
  unfolding plan_for
  plan-sound = record {
    lawful = record {
      least = omega arith;
      most = omega arith;
      levels = (
        record {
          there = there;
          own_position = All-nil (λ (earlier : Level). earlier.position ≢ 0);
          access = tt;
          conditions = conditions;
        },
        tt,
      );
      select = select;
    };
    runnable = record {
      one = refl;
      whole = All-cons IsWhole level [] refl (All-nil IsWhole);
    };
  }
