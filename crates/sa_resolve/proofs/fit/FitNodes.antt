-- A proper node without faults fits, if its parts do.
use Rattle.std.proofs.Common.{◌≡◌, ◌≢◌, ℕ, Bool, true, false, ◌&&◌, ◌||◌, List, [], ◌∷◌, ◌++◌, map, flat_map, Option, Some, None, is_some, option_map, refl, ap, ◌∙◌, subst}
use Rattle.std.specs.List.{AllByRecursion, list_all, list_any}
use Rattle.std.proofs.lemmas.Bool.{or_parts}
use Rattle.std.proofs.lemmas.List.Elements.{All-from_recursion}
use Rattle.sa_value.specs.Compare.{known}
use Rattle.sa_value.specs.declared.truth.Truth.TheVariants.{Unknown}
use Rattle.sa_value.specs.declared.value.Value.TheVariants.{Null, Int, Text}
use Rattle.sa_ast.specs.declared.expression.AggregateCall.{AggregateCall}
use Rattle.sa_ast.specs.declared.expression.AggregateCall.TheVariants.{CountRows, Count, Sum, Min, Max}
use Rattle.sa_ast.specs.declared.expression.ExprNode.{ExprNode, ExprNode-F}
use Rattle.sa_ast.specs.declared.expression.ExprTree.{ExprTree}
use Rattle.sa_cond.specs.declared.cells.CellKind.{CellKind}
use Rattle.sa_cond.specs.declared.cond.Cond.{Cond}
use Rattle.sa_cond.specs.declared.expr.Expr.{Expr}
use Rattle.sa_cond.specs.declared.expr.Expr.TheVariants as expr
use Rattle.sa_cond.specs.Cited.{Name, expr_names}
use Rattle.sa_cond.specs.Interval.{CellKinds, ExprKind, Interval, sum, text, null, interval_of, static_interval, expr_kind, reached, of_both, negated, added, subtracted, multiplied, kind_of_cell, kind_of_literal}
use Rattle.sa_cond.specs.Typed.{is_proper}
use Rattle.sa_table.specs.Table.{Table}
use Rattle.sa_query.specs.declared.group.Aggregate.{Aggregate}
use Rattle.sa_query.specs.declared.group.Column.{Column}
use Rattle.sa_query.specs.declared.query.Query.{Query}
use Rattle.sa_query.specs.declared.refusal.ResolveKind.TheVariants.{TypeMismatch, ExprRange, GroupRule}
use Rattle.sa_query.specs.Kinds.{column_kinds, cells_in, aggregate_cells, query_kinds}
use Rattle.sa_query.specs.WellTyped.{IsInSight, IsFitExpr}
use Rattle.sa_resolve.specs.Expression.{Scope, Alias, column_reading, name_reading, node_reading, reading}
use Rattle.sa_resolve.specs.Fault.{fault_at}
use Rattle.sa_resolve.specs.Node.{kind_of, expr_of_aggregate, interval_in, arithmetic, aggregate_of, number_value, counted, extreme}
use Rattle.sa_resolve.specs.NodeFaults.{is_condition, no_value, is_text, is_sum, leaves, both_leave, sum_in, clashes}
use Rattle.sa_resolve.specs.Proper.{proper_node, is_proper_expr}
use Rattle.sa_resolve.specs.Reading.{Reading, condition, value, no_expr, no_cond, one_call, named}
use Rattle.sa_resolve.proofs.fit.Faultless.{faultless_node}
use Rattle.sa_resolve.proofs.fit.Fits.{IsCovered, IsFitting, with_slots, InScope, FitsAs, Fits, IsSound, Knows}
use Rattle.sa_resolve.proofs.fit.Kinds.{IsHeld, IsNumeric, interval-numeric, kind-held, extreme-kind, extreme-proper, reached-one, reached-two, literal-proper, literal-unsummed, number-kind, column-proper, column-unsummed}
use Rattle.sa_resolve.proofs.fit.Lists.{none-left, none-right, none-map, each-left, each-right, each-append, untold, both-left, both-right, each-true}
use Rattle.sa_resolve.proofs.fit.Names.{IsSeen, by_name}
use Rattle.sa_resolve.proofs.fit.Parts.{Part, read_over, proper_over, by_parts}
use Rattle.sa_resolve.proofs.fit.Stands.{Stands, Asks, IsProperly, IsMember, stands-Literal, stands-Negate, stands-Add, stands-Subtract, stands-Multiply, asks-Known, asks-Compare, asks-IsNull, asks-Not, asks-turned, asks-Between, asks-Among, asks-And, asks-Or}

no_call : (place : ℕ) (calls : List ℕ) → one_call place calls ≡ [] → calls ≡ []
no_call place [] none = refl
no_call place (call ∷ calls) none = cc

module _ (tables : List Table) (query : Query) (scope : Scope)
    (knows : Knows tables query scope) where
  abbrev Kinds : CellKinds
  Kinds = query_kinds tables query

  abbrev Sees : Name → Type 0
  Sees = InScope tables query scope.slots

  abbrev Fit : Reading → Type 0
  Fit = Fits tables query scope.slots

  abbrev Covered : Reading → Type 0
  Covered one = IsCovered scope.slots one.loose one.aggregates

  abbrev Has : Bool → Reading → Reading → Type 0
  Has proper one other = proper ≡ true → one.faults ≡ [] → Fit one

  abbrev one_of : Part Has → Reading
  one_of part = part.one

  abbrev proper_of : Part Has → Bool
  proper_of part = part.proper

  abbrev loose_in : Reading → List (ℕ × Column)
  loose_in one = one.loose

  abbrev aggregates_in : Reading → List Aggregate
  aggregates_in one = one.aggregates

  abbrev calls_in : Reading → List ℕ
  calls_in one = one.calls

  abbrev faultless : List (Part Has) → Type 0
  faultless parts = AllByRecursion (λ (one : Reading). one.faults ≡ []) (map one_of parts)

  -- parts that fit, and their aggregates
  abbrev FitParts : List (Part Has) → Type 0
  FitParts parts = AllByRecursion (λ (part : Part Has). Fit part.one) parts

  fit_parts : (parts : List (Part Has)) → AllByRecursion (λ (part : Part Has). part.proper ≡ true)
      parts → faultless parts → FitParts parts
  fit_parts [] proper none = tt
  fit_parts (part ∷ parts) proper none = (part.has proper.0 none.0, fit_parts parts proper.1 none.1)

  fitting_parts : (parts : List (Part Has)) → FitParts parts
      → AllByRecursion (IsFitting tables query) (flat_map aggregates_in (map one_of parts))
  fitting_parts [] fits = tt
  fitting_parts (part ∷ parts) fits =
      each-append (IsFitting tables query) part.one.aggregates
      (flat_map aggregates_in (map one_of parts)) fits.0.fitting (fitting_parts parts fits.1)

  covered_parts : (parts : List (Part Has)) → IsCovered scope.slots
      (flat_map loose_in (map one_of parts)) (flat_map aggregates_in (map one_of parts))
      → AllByRecursion (λ (part : Part Has). Covered part.one) parts
  covered_parts [] covered = tt
  covered_parts (part ∷ parts) covered = (
    record {
      grouped = each-left _ part.one.loose (flat_map loose_in (map one_of parts)) covered.grouped;
      slotted =
          each-left _ part.one.aggregates (flat_map aggregates_in (map one_of parts))
          covered.slotted;
    },
    covered_parts parts (record {
      grouped = each-right _ part.one.loose (flat_map loose_in (map one_of parts)) covered.grouped;
      slotted =
          each-right _ part.one.aggregates (flat_map aggregates_in (map one_of parts))
          covered.slotted;
    }),
  )

  uncalled_parts : (parts : List (Part Has)) → flat_map calls_in (map one_of parts) ≡ []
      → AllByRecursion (λ (part : Part Has). part.one.calls ≡ []) parts
  uncalled_parts [] none = tt
  uncalled_parts (part ∷ parts) none = (
    none-left part.one.calls (flat_map calls_in (map one_of parts)) none,
    uncalled_parts parts
        (none-right part.one.calls (flat_map calls_in (map one_of parts)) none),
  )

  abbrev IsValued : Reading → Type 0
  IsValued one = is_condition one.sort ≡ false

  values : (ones : List Reading) → flat_map no_value ones ≡ [] → AllByRecursion IsValued ones
  values [] none = tt
  values (one ∷ ones) none = (
    untold (is_condition one.sort) TypeMismatch one.place
        (none-left (no_value one) (flat_map no_value ones) none),
    values ones (none-right (no_value one) (flat_map no_value ones) none),
  )

  -- a part's value in the query
  value_of : (part : Part Has) → Fit part.one → IsValued part.one → Covered part.one
      → IsProperly Sees Kinds (kind_of part.one) part.one.expr
  value_of part fit valued covered =
      record { stands = fit.in_query covered valued; proper = fit.is_proper valued }

  -- a literal
  leaf : (kind : ExprKind) (one : Expr) (cond : Cond) → is_proper kind ≡ true → is_sum kind ≡ false
      → ((See : Name → Type 0) (kinds : CellKinds) → Stands See kinds kind one)
      → Asks Sees Kinds cond
      → FitsAs tables query scope.slots (value kind) one one cond [] [] []
  leaf kind one cond proper unsummed stands asks = record {
    is_proper = λ valued. proper;
    unsummed = λ none. unsummed;
    over_rows =
        λ none valued slot. stands (IsInSight tables query false) (with_slots tables query slot);
    in_query = λ covered valued. stands Sees Kinds;
    asks = λ covered. asks;
    fitting = tt;
  }

  -- a condition over parts
  a_condition : (parts : List (Part Has)) (cond : Cond) → FitParts parts
      → (AllByRecursion (λ (part : Part Has). Covered part.one) parts → Asks Sees Kinds cond)
      → FitsAs tables query scope.slots condition no_expr no_expr cond
      (flat_map calls_in (map one_of parts)) (flat_map aggregates_in (map one_of parts))
      (flat_map loose_in (map one_of parts))
  a_condition parts cond fits asks = record {
    is_proper = λ valued. cc;
    unsummed = λ none. refl;
    over_rows = λ none valued slot. absurd cc;
    in_query = λ covered valued. absurd cc;
    asks = λ covered. asks (covered_parts parts covered);
    fitting = fitting_parts parts fits;
  }

  -- a value of two parts
  two : (operation : Interval → Interval → Interval) (make : Expr → Expr → Expr)
      (stands : (See : Name → Type 0) (kinds : CellKinds) (kind kind' : ExprKind) (x y : Expr)
      → Stands See kinds kind x → Stands See kinds kind' y
      → Stands See kinds (reached (of_both operation (interval_of kind) (interval_of kind')))
      (make x y))
      (x y : Part Has) → Fit x.one → Fit y.one → flat_map no_value (x.one ∷ y.one ∷ []) ≡ []
      → is_text (kind_of x.one) || is_text (kind_of y.one) ≡ false
      → both_leave operation x.one y.one ≡ false → sum_in x.one ++ sum_in y.one ≡ []
      → FitsAs tables query scope.slots (value (arithmetic operation x.one y.one))
      (make x.one.row y.one.row) (make x.one.expr y.one.expr) no_cond
      (flat_map calls_in (x.one ∷ y.one ∷ [])) (flat_map aggregates_in (x.one ∷ y.one ∷ []))
      (flat_map loose_in (x.one ∷ y.one ∷ []))
  two operation make stands x y fit fit' kinds mixes range sums =
      let valued = values (x.one ∷ y.one ∷ []) kinds in
      let texts = or_parts (is_text (kind_of x.one)) (is_text (kind_of y.one)) mixes in
      let numeric : IsNumeric (kind_of x.one) = record {
        proper = fit.is_proper valued.0;
        no_text = texts.0;
        no_sum =
            untold (is_sum (kind_of x.one)) ExprRange x.one.sums
            (none-left (sum_in x.one) (sum_in y.one) sums);
      } in
      let numeric' : IsNumeric (kind_of y.one) = record {
        proper = fit'.is_proper valued.1.0;
        no_text = texts.1;
        no_sum =
            untold (is_sum (kind_of y.one)) ExprRange y.one.sums
            (none-right (sum_in x.one) (sum_in y.one) sums);
      } in
      let reach = reached-two operation (kind_of x.one) (kind_of y.one) numeric numeric' range in
      record {
        is_proper = λ valued. reach.proper;
        unsummed = λ none. reach.unsummed;
        over_rows = λ none _ slot. let uncalled = uncalled_parts (x ∷ y ∷ []) none in
            stands (IsInSight tables query false) (with_slots tables query slot) (kind_of x.one)
            (kind_of y.one) x.one.row y.one.row
            (fit.over_rows uncalled.0 valued.0 slot) (fit'.over_rows uncalled.1.0 valued.1.0 slot);
        in_query = λ covered _. let each = covered_parts (x ∷ y ∷ []) covered in
            stands Sees Kinds (kind_of x.one) (kind_of y.one) x.one.expr y.one.expr
            (fit.in_query each.0 valued.0) (fit'.in_query each.1.0 valued.1.0);
        asks = λ covered. asks-Known Sees Kinds Unknown;
        fitting = fitting_parts (x ∷ y ∷ []) (fit, (fit', tt));
      }

  -- a value of one part
  negative : (x : Part Has) → Fit x.one → flat_map no_value (x.one ∷ []) ≡ []
      → is_text (kind_of x.one) ≡ false
      → leaves (option_map negated (interval_in x.one)) ≡ false → sum_in x.one ≡ []
      → FitsAs tables query scope.slots (value (reached (option_map negated (interval_in x.one))))
      (expr.Negate x.one.row) (expr.Negate x.one.expr) no_cond
      (flat_map calls_in (x.one ∷ [])) (flat_map aggregates_in (x.one ∷ []))
      (flat_map loose_in (x.one ∷ []))
  negative x fit kinds mixes range sums =
      let valued = values (x.one ∷ []) kinds in
      let numeric : IsNumeric (kind_of x.one) = record {
        proper = fit.is_proper valued.0;
        no_text = mixes;
        no_sum = untold (is_sum (kind_of x.one)) ExprRange x.one.sums sums;
      } in
      let reach = reached-one negated (kind_of x.one) numeric range in
      record {
        is_proper = λ valued. reach.proper;
        unsummed = λ none. reach.unsummed;
        over_rows = λ none _ slot. let uncalled = uncalled_parts (x ∷ []) none in
            stands-Negate (IsInSight tables query false) (with_slots tables query slot)
            (kind_of x.one) x.one.row (fit.over_rows uncalled.0 valued.0 slot);
        in_query = λ covered _. let each = covered_parts (x ∷ []) covered in
            stands-Negate Sees Kinds (kind_of x.one) x.one.expr (fit.in_query each.0 valued.0);
        asks = λ covered. asks-Known Sees Kinds Unknown;
        fitting = fitting_parts (x ∷ []) (fit, tt);
      }

  pub fit_column : (place : ℕ) (column : Column) → IsSeen tables scope.sources column
      → Fit (column_reading tables scope place column)
  fit_column place column seen = record {
    is_proper = λ valued. column-proper _;
    unsummed = λ uncalled. column-unsummed _;
    over_rows = λ uncalled valued slot. knows.at_row column seen slot;
    in_query = λ covered valued. knows.at_column column seen covered.grouped.0;
    asks = λ covered. asks-Known Sees Kinds Unknown;
    fitting = tt;
  }

  pub fit_named : (place : ℕ) (item : Reading) → IsSound tables query scope.slots item
      → Fit (named place item)
  fit_named place item sound = record {
    is_proper = sound.fits.is_proper;
    unsummed = λ uncalled. sound.fits.unsummed (no_call place item.calls uncalled);
    over_rows =
        λ uncalled valued slot. sound.fits.over_rows (no_call place item.calls uncalled) valued
        slot;
    in_query = λ covered valued. sound.fits.in_query sound.covered valued;
    asks = λ covered. sound.fits.asks sound.covered;
    fitting = tt;
  }

  fit_name : (place : ℕ) (table : Option (List ℕ)) (name : List ℕ)
      → (name_reading tables scope place table name).faults ≡ []
      → Fit (name_reading tables scope place table name)
  fit_name =
      by_name tables scope (λ one. one.faults ≡ [] → Fit one)
      (λ (alias : Alias). IsSound tables query scope.slots alias.item)
      (λ place column seen. λ none. fit_column place column seen)
      (λ kind place. λ none. cc)
      (λ place alias sound. λ none. fit_named place alias.item sound) knows.aliases

  -- members of a list that a value is compared with
  members_of : (x : Part Has) (list : List (Part Has)) → FitParts list → AllByRecursion IsValued
      (map one_of list) → list_any (clashes x.one) (map one_of list) ≡ false
      → AllByRecursion (λ (part : Part Has). Covered part.one) list
      → AllByRecursion (IsMember Sees Kinds (kind_of x.one))
      (map (λ (part : Reading). part.expr) (map one_of list))
  members_of x [] fits valued mixes covered = tt
  members_of x (part ∷ list) fits valued mixes covered =
      let apart =
      or_parts (clashes x.one part.one) (list_any (clashes x.one) (map one_of list)) mixes in (
        record {
          kind = kind_of part.one;
          of = value_of part fits.0 valued.0 covered.0;
          agree =
              apart.0;
        },
        members_of x list fits.1 valued.1 apart.1 covered.1,
      )

  conds_of : (parts : List (Part Has)) → FitParts parts
      → AllByRecursion (λ (part : Part Has). Covered part.one) parts
      → AllByRecursion (Asks Sees Kinds) (map (λ (part : Reading). part.cond) (map one_of parts))
  conds_of [] fits covered = tt
  conds_of (part ∷ parts) fits covered = (fits.0.asks covered.0, conds_of parts fits.1 covered.1)

  -- an aggregate whose argument fits
  a_call : (place : ℕ) (calls : List ℕ) (kind : ExprKind) (one : Aggregate) → is_proper kind ≡ true
      → kind_of_cell (aggregate_cells (column_kinds tables query.tables) one.call one.argument)
      ≡ kind → IsFitting tables query one
      → FitsAs tables query scope.slots (value kind) no_expr (expr_of_aggregate scope.slots one)
      no_cond (place ∷ calls) (one ∷ []) []
  a_call place calls kind one proper is fitting = record {
    is_proper = λ valued. proper;
    unsummed = λ none. cc;
    over_rows = λ none valued slot. absurd cc;
    in_query =
        λ covered valued. subst (λ kind. Stands Sees Kinds kind (expr_of_aggregate scope.slots one))
        is (knows.at_aggregate one covered.slotted.0);
    asks = λ covered. asks-Known Sees Kinds Unknown;
    fitting = (fitting, tt);
  }

  -- an argument without aggregates
  abbrev Argument : Reading → Type 0
  Argument x =
      (slot : ℕ → CellKind) → Stands (IsInSight tables query false) (with_slots tables query slot)
      (kind_of x) x.row

  fit_argument : (x : Reading) → is_proper (kind_of x) ≡ true → Argument x
      → IsFitExpr tables query false x.row
  fit_argument x proper stands =
      let one = stands Kinds.slot in
      record {
        names = All-from_recursion (IsInSight tables query false) (expr_names x.row) one.names;
        typed = ap is_proper one.is ∙ proper;
      }

  no_interval : (interval : Option Interval) → is_some interval ≡ true → interval ≡ None → ⊥
  no_interval None some is = cc
  no_interval (Some interval) some is = cc

  argument-interval : (x : Reading) → IsNumeric (kind_of x) → Argument x
      → static_interval Kinds x.row ≢ None
  argument-interval x numeric stands =
      no_interval (static_interval Kinds x.row)
      (ap (λ kind. is_some (interval_of kind)) (stands Kinds.slot).is ∙ interval-numeric
      (kind_of x) numeric)

  argument-extreme : (x : Reading) → is_proper (kind_of x) ≡ true → Argument x
      → kind_of_cell (cells_in (expr_kind (column_kinds tables query.tables) x.row))
      ≡ extreme (Some (kind_of x))
  argument-extreme x proper stands =
      let one = stands (column_kinds tables query.tables).slot in
      ap (λ kind. kind_of_cell (cells_in kind)) one.is
      ∙ extreme-kind (kind_of x)
      (subst IsHeld one.is (kind-held (column_kinds tables query.tables) x.row)) proper

  fit_call : (call : AggregateCall) (x : Part Has) (place : ℕ) → proper_node {A = Bool}
      (ExprNode-F.Aggregate call (Some x.proper)) ≡ true
      → (node_reading tables scope (ExprNode-F.Aggregate call (Some x.one)) place).faults ≡ []
      → Fit (node_reading tables scope (ExprNode-F.Aggregate call (Some x.one)) place)
  fit_call CountRows x place proper none = cc
  fit_call Count x place proper none =
      let none = faultless_node (ExprNode-F.Aggregate Count (Some x.one)) place none in
      let fit = x.has proper none.parts.0 in
      let valued = values (x.one ∷ []) none.kinds in
      let uncalled = none-map (fault_at GroupRule) x.one.calls none.calls in
      a_call place x.one.calls counted (aggregate_of Count (Some x.one)) refl refl
      (fit_argument x.one (fit.is_proper valued.0) (fit.over_rows uncalled valued.0))
  fit_call Sum x place proper none =
      let none = faultless_node (ExprNode-F.Aggregate Sum (Some x.one)) place none in
      let fit = x.has proper none.parts.0 in
      let valued = values (x.one ∷ []) none.kinds in
      let uncalled = none-map (fault_at GroupRule) x.one.calls none.calls in
      let numeric : IsNumeric (kind_of x.one) =
      record {
        proper = fit.is_proper valued.0;
        no_text = none.mixes;
        no_sum = fit.unsummed
            uncalled;
      } in
      a_call place x.one.calls sum (aggregate_of Sum (Some x.one)) refl refl (
        fit_argument x.one (fit.is_proper valued.0) (fit.over_rows uncalled valued.0),
        argument-interval x.one numeric (fit.over_rows uncalled valued.0),
      )
  fit_call Min x place proper none =
      let none = faultless_node (ExprNode-F.Aggregate Min (Some x.one)) place none in
      let fit = x.has proper none.parts.0 in
      let valued = values (x.one ∷ []) none.kinds in
      let uncalled = none-map (fault_at GroupRule) x.one.calls none.calls in
      a_call place x.one.calls (extreme (Some (kind_of x.one))) (aggregate_of Min (Some x.one))
      (extreme-proper (kind_of x.one) (fit.is_proper valued.0))
      (argument-extreme x.one (fit.is_proper valued.0) (fit.over_rows uncalled valued.0))
      (fit_argument x.one (fit.is_proper valued.0) (fit.over_rows uncalled valued.0))
  fit_call Max x place proper none =
      let none = faultless_node (ExprNode-F.Aggregate Max (Some x.one)) place none in
      let fit = x.has proper none.parts.0 in
      let valued = values (x.one ∷ []) none.kinds in
      let uncalled = none-map (fault_at GroupRule) x.one.calls none.calls in
      a_call place x.one.calls (extreme (Some (kind_of x.one))) (aggregate_of Max (Some x.one))
      (extreme-proper (kind_of x.one) (fit.is_proper valued.0))
      (argument-extreme x.one (fit.is_proper valued.0) (fit.over_rows uncalled valued.0))
      (fit_argument x.one (fit.is_proper valued.0) (fit.over_rows uncalled valued.0))

  abbrev read : ExprNode-F ExprNode (Part Has) → (place : ℕ) → Reading
  read node place = node_reading tables scope (read_over tables scope one_of node) place

  at_node : (node : ExprNode-F ExprNode (Part Has)) (place : ℕ)
      → proper_node (proper_over proper_of node) ≡ true → (read node place).faults ≡ []
      → Fit (read node place)
  at_node (ExprNode-F.Number literal) place proper none =
      let range = (faultless_node (ExprNode-F.Number literal) place none).range in
      leaf (kind_of_literal (Int literal)) (expr.Literal (number_value literal)) no_cond
      (literal-proper (Int literal) range) (literal-unsummed literal)
      (λ See kinds. stands-Literal See kinds (number_value literal) (kind_of_literal (Int literal))
      (number-kind literal)) (asks-Known Sees Kinds Unknown)
  at_node (ExprNode-F.Text literal) place proper none =
      leaf text (expr.Literal (Text literal)) no_cond refl refl
      (λ See kinds. stands-Literal See kinds (Text literal) text refl)
      (asks-Known Sees Kinds Unknown)
  at_node ExprNode-F.Null place proper none =
      leaf null (expr.Literal Null) no_cond refl refl
      (λ See kinds. stands-Literal See kinds Null null refl) (asks-Known Sees Kinds Unknown)
  at_node (ExprNode-F.Known holds) place proper none =
      a_condition [] _ tt (λ covered. asks-Known Sees Kinds (known holds))
  at_node (ExprNode-F.Name table column) place proper none = fit_name place table column none
  at_node (ExprNode-F.Aggregate CountRows None) place proper none =
      a_call place [] counted (aggregate_of CountRows None) refl refl tt
  at_node (ExprNode-F.Aggregate Count None) place proper none = cc
  at_node (ExprNode-F.Aggregate Sum None) place proper none = cc
  at_node (ExprNode-F.Aggregate Min None) place proper none = cc
  at_node (ExprNode-F.Aggregate Max None) place proper none = cc
  at_node (ExprNode-F.Aggregate call (Some x)) place proper none = fit_call call x place proper none
  at_node (ExprNode-F.Negate x) place proper none =
      let none = faultless_node (ExprNode-F.Negate x.one) place none in
      negative x (x.has proper none.parts.0) none.kinds none.mixes none.range none.sums
  at_node (ExprNode-F.Compare op x y) place proper none =
      let none = faultless_node (ExprNode-F.Compare op x.one y.one) place none in
      let fit = x.has (both-left x.proper y.proper proper) none.parts.0 in
      let fit' = y.has (both-right x.proper y.proper proper) none.parts.1.0 in
      let valued = values (x.one ∷ y.one ∷ []) none.kinds in
      a_condition (x ∷ y ∷ []) _ (fit, (fit', tt))
      (λ covered. asks-Compare Sees Kinds op (kind_of x.one) (kind_of y.one) x.one.expr
      y.one.expr
      (value_of x fit valued.0 covered.0) (value_of y fit' valued.1.0 covered.1.0) none.mixes)
  at_node (ExprNode-F.IsNull x negated) place proper none =
      let none = faultless_node (ExprNode-F.IsNull x.one negated) place none in
      let fit = x.has proper none.parts.0 in
      let valued = values (x.one ∷ []) none.kinds in
      a_condition (x ∷ []) _ (fit, tt)
      (λ covered. asks-IsNull Sees Kinds negated (kind_of x.one) x.one.expr
      (value_of x fit valued.0 covered.0))
  at_node (ExprNode-F.Between x low high negated) place proper none =
      let none = faultless_node (ExprNode-F.Between x.one low.one high.one negated) place none in
      let both = both-left (x.proper && low.proper) high.proper proper in
      let fit = x.has (both-left x.proper low.proper both) none.parts.0 in
      let fit' = low.has (both-right x.proper low.proper both) none.parts.1.0 in
      let fit'' =
      high.has (both-right (x.proper && low.proper) high.proper proper) none.parts.1.1.0 in
      let valued = values (x.one ∷ low.one ∷ high.one ∷ []) none.kinds in
      let apart = or_parts (clashes x.one low.one) (clashes x.one high.one) none.mixes in
      a_condition (x ∷ low ∷ high ∷ []) _ (fit, (fit', (fit'', tt)))
      (λ covered. asks-turned Sees Kinds negated _
      (asks-Between Sees Kinds (kind_of x.one) (kind_of low.one) (kind_of high.one) x.one.expr
      low.one.expr high.one.expr
      (value_of x fit valued.0 covered.0) (value_of low fit' valued.1.0 covered.1.0)
      (value_of high fit'' valued.1.1.0 covered.1.1.0) apart.0 apart.1))
  at_node (ExprNode-F.Among x list negated) place proper none =
      let none = faultless_node (ExprNode-F.Among x.one (map one_of list) negated) place none in
      let fit =
      x.has (both-left x.proper (list_all (λ (proper : Bool). proper) (map proper_of list))
      proper) none.parts.0 in
      let fits =
      fit_parts list
      (each-true proper_of list
      (both-right x.proper (list_all (λ (proper : Bool). proper) (map proper_of list))
      proper)) none.parts.1 in
      let valued = values (x.one ∷ map one_of list) none.kinds in
      a_condition (x ∷ list) _ (fit, fits) (λ covered. asks-turned Sees Kinds negated _
      (asks-Among Sees Kinds (kind_of x.one) x.one.expr
      (map (λ (part : Reading). part.expr) (map one_of list)) (value_of x fit valued.0 covered.0)
      (members_of x list fits valued.1 none.mixes covered.1)))
  at_node (ExprNode-F.And members) place proper none =
      let none = faultless_node (ExprNode-F.And (map one_of members)) place none in
      let fits = fit_parts members (each-true proper_of members proper) none.parts in
      a_condition members _ fits
      (λ covered. asks-And Sees Kinds (map (λ (part : Reading). part.cond) (map one_of members))
      (conds_of members fits covered))
  at_node (ExprNode-F.Or members) place proper none =
      let none = faultless_node (ExprNode-F.Or (map one_of members)) place none in
      let fits = fit_parts members (each-true proper_of members proper) none.parts in
      a_condition members _ fits
      (λ covered. asks-Or Sees Kinds (map (λ (part : Reading). part.cond) (map one_of members))
      (conds_of members fits covered))
  at_node (ExprNode-F.Not x) place proper none =
      let none = faultless_node (ExprNode-F.Not x.one) place none in
      let fit = x.has proper none.parts.0 in
      a_condition (x ∷ []) _ (fit, tt)
      (λ covered. asks-Not Sees Kinds x.one.cond (fit.asks covered.0))
  at_node (ExprNode-F.Add x y) place proper none =
      let none = faultless_node (ExprNode-F.Add x.one y.one) place none in
      two added expr.Add stands-Add x y (x.has (both-left x.proper y.proper proper) none.parts.0)
      (y.has (both-right x.proper y.proper proper) none.parts.1.0)
      none.kinds none.mixes none.range none.sums
  at_node (ExprNode-F.Subtract x y) place proper none =
      let none = faultless_node (ExprNode-F.Subtract x.one y.one) place none in
      two subtracted expr.Subtract stands-Subtract x y
      (x.has (both-left x.proper y.proper proper) none.parts.0)
      (y.has (both-right x.proper y.proper proper) none.parts.1.0)
      none.kinds none.mixes none.range none.sums
  at_node (ExprNode-F.Multiply x y) place proper none =
      let none = faultless_node (ExprNode-F.Multiply x.one y.one) place none in
      two multiplied expr.Multiply stands-Multiply x y
      (x.has (both-left x.proper y.proper proper) none.parts.0)
      (y.has (both-right x.proper y.proper proper) none.parts.1.0)
      none.kinds none.mixes none.range none.sums

  -- A proper expression without faults fits.
  pub fit-reading : (tree : ExprTree) → is_proper_expr tree ≡ true
      → (reading tables scope tree).faults ≡ [] → Fit (reading tables scope tree)
  fit-reading = by_parts tables scope scope Has at_node
