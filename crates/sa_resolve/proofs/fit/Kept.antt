-- The numbers of a reading without faults are kept as `Int`.
use Rattle.std.proofs.Common.{◌≡◌, ℕ, ℤ, Bool, true, false, ◌&&◌, List, [], ◌∷◌, map, flat_map, Option, Some, None, refl, sym, ap, ◌∙◌, subst}
use Rattle.std.specs.List.{AllByRecursion}
use Rattle.sa_value.specs.declared.value.Value.{Value}
use Rattle.sa_value.specs.declared.value.Value.TheVariants.{Null, Int, Text}
use Rattle.sa_ast.specs.declared.expression.ExprNode.{ExprNode, ExprNode-F}
use Rattle.sa_ast.specs.declared.expression.ExprTree.{ExprTree}
use Rattle.sa_cond.specs.declared.expr.Expr.{Expr, the_lemmas}
use Rattle.sa_cond.specs.declared.expr.Expr.TheVariants as expr
use Rattle.sa_cond.specs.Interval.{is_bigint, kind_of_literal}
use Rattle.sa_table.specs.Table.{Table}
use Rattle.sa_query.specs.declared.group.Aggregate.{Aggregate}
use Rattle.sa_query.specs.declared.group.Column.{Column}
use Rattle.sa_resolve.specs.Expression.{Scope, Alias, column_reading, name_reading, node_reading, reading}
use Rattle.sa_resolve.specs.Node.{Slots, expr_of_column, expr_of_aggregate, number_value, aggregate_of}
use Rattle.sa_resolve.specs.NodeFaults.{is_faulty}
use Rattle.sa_resolve.specs.Reading.{Reading, no_expr}
use Rattle.sa_resolve.proofs.fit.Equal.{is_kept, is_plain, IsPlainArgument}
use Rattle.sa_resolve.proofs.fit.Faultless.{faultless_node}
use Rattle.sa_resolve.proofs.fit.Lists.{both-true, each-append}
use Rattle.sa_resolve.proofs.fit.Names.{by_name}
use Rattle.sa_resolve.proofs.fit.Parts.{Part, read_over, by_parts}

abbrev pub IsPlainAggregate : Aggregate → Type 0
IsPlainAggregate one = IsPlainArgument one.argument

-- What stands for a reading keeps its numbers as `Int`, and so do its aggregates.
pub record IsKept (one : Reading) : Type 0 where
  pub row : is_plain one.row ≡ true
  pub expr : is_plain one.expr ≡ true
  pub aggregates : AllByRecursion IsPlainAggregate one.aggregates

plain-Column : (table column : ℕ) → is_plain (expr.Column table column) ≡ true
plain-Column table column = simp the_lemmas

plain-Slot : (slot : ℕ) → is_plain (expr.Slot slot) ≡ true
plain-Slot slot = simp the_lemmas

plain-Literal : (value : Value) → is_plain (expr.Literal value) ≡ is_kept value
plain-Literal value = simp the_lemmas

plain-Negate : (x : Expr) → is_plain (expr.Negate x) ≡ is_plain x
plain-Negate x = simp the_lemmas

plain-Add : (x y : Expr) → is_plain (expr.Add x y) ≡ is_plain x && is_plain y
plain-Add x y = simp the_lemmas

plain-Subtract : (x y : Expr) → is_plain (expr.Subtract x y) ≡ is_plain x && is_plain y
plain-Subtract x y = simp the_lemmas

plain-Multiply : (x y : Expr) → is_plain (expr.Multiply x y) ≡ is_plain x && is_plain y
plain-Multiply x y = simp the_lemmas

plain-column : (slots : Option Slots) (column : Column) → is_plain (expr_of_column slots column)
    ≡ true
plain-column None column = plain-Column column.table column.column
plain-column (Some slots) column = plain-Slot _

plain-aggregate : (slots : Option Slots) (aggregate : Aggregate)
    → is_plain (expr_of_aggregate slots aggregate) ≡ true
plain-aggregate None aggregate = plain-Literal Null
plain-aggregate (Some slots) aggregate = plain-Slot _

literal_by : (literal : ℤ) (small : Bool) → is_bigint literal ≡ small
    → is_faulty (kind_of_literal (Int literal)) ≡ false → is_kept (number_value literal) ≡ true
literal_by literal true is faultless = rw is refl
literal_by literal false is faultless = let bad : true ≡ false = rw is at faultless in cc

plain-number : (literal : ℤ) → is_faulty (kind_of_literal (Int literal)) ≡ false
    → is_plain (expr.Literal (number_value literal)) ≡ true
plain-number literal faultless =
    plain-Literal (number_value literal) ∙ literal_by literal (is_bigint literal) refl faultless

module _ (tables : List Table) (scope : Scope)
    (aliases : AllByRecursion (λ (alias : Alias). IsKept alias.item) scope.aliases) where
  abbrev Has : Bool → Reading → Reading → Type 0
  Has proper one other = one.faults ≡ [] → IsKept one

  abbrev one_of : Part Has → Reading
  one_of part = part.one

  abbrev aggregates_in : Reading → List Aggregate
  aggregates_in one = one.aggregates

  parts_kept : (parts : List (Part Has)) → AllByRecursion (λ (one : Reading). one.faults ≡ [])
      (map one_of parts)
      → AllByRecursion IsPlainAggregate (flat_map aggregates_in (map one_of parts))
  parts_kept [] all = tt
  parts_kept (part ∷ parts) all =
      each-append IsPlainAggregate part.one.aggregates (flat_map aggregates_in (map one_of parts))
      (part.has all.0).aggregates (parts_kept parts all.1)

  abbrev read : ExprNode-F ExprNode (Part Has) → (place : ℕ) → Reading
  read node place = node_reading tables scope (read_over tables scope one_of node) place

  pub column-kept : (place : ℕ) (column : Column)
      → IsKept (column_reading tables scope place column)
  column-kept place column =
      record {
        row = plain-Column column.table column.column;
        expr = plain-column scope.slots
            column;
        aggregates = tt;
      }

  name-kept : (place : ℕ) (table : Option (List ℕ)) (name : List ℕ)
      → (name_reading tables scope place table name).faults ≡ []
      → IsKept (name_reading tables scope place table name)
  name-kept =
      by_name tables scope (λ one. one.faults ≡ [] → IsKept one)
      (λ (alias : Alias). IsKept alias.item)
      (λ place column seen. λ faultless. column-kept place column)
      (λ kind place. λ faultless. cc)
      (λ place alias has. λ faultless. record { row = has.row; expr = has.expr; aggregates = tt })
      aliases

  -- a node that is a condition has no value
  valueless : (parts : List (Part Has)) (one : Reading)
      → AllByRecursion (λ (one : Reading). one.faults ≡ []) (map one_of parts)
      → one.row ≡ no_expr → one.expr ≡ no_expr → one.aggregates ≡ flat_map aggregates_in
      (map one_of parts) → IsKept one
  valueless parts one all row is aggregates = record {
    row = ap is_plain row ∙ plain-Literal Null;
    expr = ap is_plain is ∙ plain-Literal Null;
    aggregates = subst (AllByRecursion IsPlainAggregate) (sym aggregates) (parts_kept parts all);
  }

  two_kept : (make : Expr → Expr → Expr) (is : (x y : Expr) → is_plain (make x y)
      ≡ is_plain x && is_plain y) (x y : Part Has) (one : Reading)
      → AllByRecursion (λ (one : Reading). one.faults ≡ []) (x.one ∷ y.one ∷ [])
      → one.row ≡ make x.one.row y.one.row → one.expr ≡ make x.one.expr y.one.expr → one.aggregates
      ≡ flat_map aggregates_in (x.one ∷ y.one ∷ []) → IsKept one
  two_kept make is x y one all row expr aggregates = record {
    row =
        ap is_plain row ∙ is x.one.row y.one.row ∙ both-true (x.has all.0).row (y.has all.1.0).row;
    expr =
        ap is_plain expr ∙ is x.one.expr y.one.expr ∙ both-true (x.has all.0).expr
        (y.has all.1.0).expr;
    aggregates =
        subst (AllByRecursion IsPlainAggregate) (sym aggregates) (parts_kept (x ∷ y ∷ []) all);
  }

  at_node : (node : ExprNode-F ExprNode (Part Has)) (place : ℕ) → (read node place).faults ≡ []
      → IsKept (read node place)
  at_node (ExprNode-F.Number literal) place faultless =
      let kept =
      plain-number literal (faultless_node (ExprNode-F.Number literal) place faultless).range in
      record { row = kept; expr = kept; aggregates = tt }
  at_node (ExprNode-F.Text literal) place faultless =
      record {
        row = plain-Literal (Text literal);
        expr = plain-Literal (Text literal);
        aggregates =
            tt;
      }
  at_node ExprNode-F.Null place faultless =
      record { row = plain-Literal Null; expr = plain-Literal Null; aggregates = tt }
  at_node (ExprNode-F.Known holds) place faultless = valueless [] _ tt refl refl refl
  at_node (ExprNode-F.Name table column) place faultless = name-kept place table column faultless
  at_node (ExprNode-F.Aggregate call None) place faultless = record {
    row = plain-Literal Null;
    expr = plain-aggregate scope.slots (aggregate_of call None);
    aggregates = (tt, tt);
  }
  at_node (ExprNode-F.Aggregate call (Some part)) place faultless =
      let all =
      (faultless_node (ExprNode-F.Aggregate call (Some part.one)) place faultless).parts in
      record {
        row = plain-Literal Null;
        expr = plain-aggregate scope.slots (aggregate_of call (Some part.one));
        aggregates = ((part.has all.0).row, tt);
      }
  at_node (ExprNode-F.Negate x) place faultless =
      let all = (faultless_node (ExprNode-F.Negate x.one) place faultless).parts in
      record {
        row = plain-Negate x.one.row ∙ (x.has all.0).row;
        expr = plain-Negate x.one.expr ∙ (x.has all.0).expr;
        aggregates = parts_kept (x ∷ []) all;
      }
  at_node (ExprNode-F.Compare op x y) place faultless =
      valueless (x ∷ y ∷ []) _
      (faultless_node (ExprNode-F.Compare op x.one y.one) place faultless).parts refl refl refl
  at_node (ExprNode-F.IsNull x negated) place faultless =
      valueless (x ∷ []) _ (faultless_node (ExprNode-F.IsNull x.one negated) place faultless).parts
      refl refl refl
  at_node (ExprNode-F.Between x low high negated) place faultless =
      valueless (x ∷ low ∷ high ∷ []) _
      (faultless_node (ExprNode-F.Between x.one low.one high.one negated) place faultless).parts
      refl refl refl
  at_node (ExprNode-F.Among x list negated) place faultless =
      valueless (x ∷ list) _ (faultless_node (ExprNode-F.Among x.one (map one_of list) negated)
      place faultless).parts refl refl refl
  at_node (ExprNode-F.And members) place faultless =
      valueless members _ (faultless_node (ExprNode-F.And (map one_of members)) place
      faultless).parts refl refl refl
  at_node (ExprNode-F.Or members) place faultless =
      valueless members _
      (faultless_node (ExprNode-F.Or (map one_of members)) place faultless).parts refl refl refl
  at_node (ExprNode-F.Not x) place faultless =
      valueless (x ∷ []) _ (faultless_node (ExprNode-F.Not x.one) place faultless).parts refl refl
      refl
  at_node (ExprNode-F.Add x y) place faultless =
      two_kept expr.Add plain-Add x y _
      (faultless_node (ExprNode-F.Add x.one y.one) place faultless).parts refl refl refl
  at_node (ExprNode-F.Subtract x y) place faultless =
      two_kept expr.Subtract plain-Subtract x y _
      (faultless_node (ExprNode-F.Subtract x.one y.one) place faultless).parts refl refl refl
  at_node (ExprNode-F.Multiply x y) place faultless =
      two_kept expr.Multiply plain-Multiply x y _
      (faultless_node (ExprNode-F.Multiply x.one y.one) place faultless).parts refl refl refl

  -- The numbers of a reading without faults are kept as `Int`, if those of all aliases are.
  pub reading-kept : (tree : ExprTree) → (reading tables scope tree).faults ≡ []
      → IsKept (reading tables scope tree)
  reading-kept = by_parts tables scope scope Has at_node
