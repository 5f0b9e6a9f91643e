-- Readings with aggregates, and with places of aggregates.
use Rattle.std.proofs.Common.{◌≡◌, ℕ, Bool, true, ◌&&◌, List, [], ◌∷◌, ◌++◌, map, flat_map, Option, Some, None, refl, ap, ◌∙◌}
use Rattle.std.specs.Prelude.{⊤}
use mathlib.Core.Path.{ap₂}
use Rattle.std.specs.List.{AllByRecursion, list_all}
use Rattle.sa_ast.specs.declared.expression.ExprNode.{ExprNode, ExprNode-F}
use Rattle.sa_ast.specs.declared.expression.ExprTree.{ExprTree}
use Rattle.sa_table.specs.Table.{Table}
use Rattle.sa_query.specs.declared.group.Aggregate.{Aggregate}
use Rattle.sa_resolve.specs.Expression.{Scope, Alias, node_reading, reading, name_reading}
use Rattle.sa_resolve.specs.Proper.{proper_node, is_proper_expr}
use Rattle.sa_resolve.specs.Reading.{Reading, one_call}
use Rattle.sa_resolve.proofs.fit.Lists.{none-left, none-right, each-always, both-true as both}
use Rattle.sa_resolve.proofs.fit.Names.{by_name}
use Rattle.sa_resolve.proofs.fit.Parts.{Part, read_over, proper_over, by_parts}

abbrev pub calls_in : Reading → List ℕ
calls_in one = one.calls

abbrev pub aggregates_in : Reading → List Aggregate
aggregates_in one = one.aggregates

-- Where no aggregate is called, all is proper, and there is no aggregate.
pub record IsPlainly (proper : Bool) (one : Reading) : Type 0 where
  pub is_proper : proper ≡ true
  pub none : one.aggregates ≡ []

abbrev Uncalled : Bool → Reading → Reading → Type 0
Uncalled proper one other = one.calls ≡ [] → IsPlainly proper one

abbrev one_of : Part Uncalled → Reading
one_of part = part.one

abbrev proper_of : Part Uncalled → Bool
proper_of part = part.proper

-- the parts of a node without calls
record AllPlain (parts : List (Part Uncalled)) : Type 0 where
  proper : AllByRecursion (λ (part : Part Uncalled). part.proper ≡ true) parts
  none : flat_map aggregates_in (map one_of parts) ≡ []

plain_parts : (parts : List (Part Uncalled)) → flat_map calls_in (map one_of parts) ≡ []
    → AllPlain parts
plain_parts [] none = record { proper = tt; none = refl }
plain_parts (part ∷ parts) none =
    let this = part.has (none-left part.one.calls (flat_map calls_in (map one_of parts)) none) in
    let others =
    plain_parts parts (none-right part.one.calls (flat_map calls_in (map one_of parts)) none) in
    record {
      proper = (this.is_proper, others.proper);
      none = ap₂ (λ one others. one ++ others) this.none others.none;
    }

all_true : (parts : List (Part Uncalled)) → AllByRecursion (λ (part : Part Uncalled). part.proper
    ≡ true) parts
    → list_all (λ proper. proper) (map proper_of parts) ≡ true
all_true [] all = refl
all_true (part ∷ parts) all =
    ap (λ proper. proper && list_all (λ proper. proper) (map proper_of parts)) all.0
    ∙ all_true parts all.1

module _ (tables : List Table) (scope : Scope) where
  name-none : (place : ℕ) (table : Option (List ℕ)) (name : List ℕ)
      → (name_reading tables scope place table name).aggregates ≡ []
  name-none place table name =
      by_name tables scope (λ one. one.aggregates ≡ []) (λ alias. ⊤) (λ place column seen. refl)
      (λ kind place. refl) (λ place alias has. refl)
      (each-always (λ (alias : Alias). ⊤) (λ alias. tt) scope.aliases) place table name

  at_node : (node : ExprNode-F ExprNode (Part Uncalled)) (place : ℕ)
      → (node_reading tables scope (read_over tables scope one_of node) place).calls ≡ []
      → IsPlainly (proper_node (proper_over proper_of node))
      (node_reading tables scope (read_over tables scope one_of node) place)
  at_node (ExprNode-F.Number literal) place none = record { is_proper = refl; none = refl }
  at_node (ExprNode-F.Text literal) place none = record { is_proper = refl; none = refl }
  at_node ExprNode-F.Null place none = record { is_proper = refl; none = refl }
  at_node (ExprNode-F.Known holds) place none = record { is_proper = refl; none = refl }
  at_node (ExprNode-F.Name table column) place none =
      record { is_proper = refl; none = name-none place table column }
  at_node (ExprNode-F.Aggregate call None) place none = cc
  at_node (ExprNode-F.Aggregate call (Some part)) place none = cc
  at_node (ExprNode-F.Negate x) place none =
      let all = plain_parts (x ∷ []) none in record { is_proper = all.proper.0; none = all.none }
  at_node (ExprNode-F.Compare op x y) place none =
      let all =
      plain_parts (x ∷ y ∷ []) none in record {
        is_proper = both all.proper.0 all.proper.1.0;
        none = all.none;
      }
  at_node (ExprNode-F.IsNull x negated) place none =
      let all = plain_parts (x ∷ []) none in record { is_proper = all.proper.0; none = all.none }
  at_node (ExprNode-F.Between x low high negated) place none =
      let all = plain_parts (x ∷ low ∷ high ∷ []) none in
      record {
        is_proper = both (both all.proper.0 all.proper.1.0) all.proper.1.1.0;
        none =
            all.none;
      }
  at_node (ExprNode-F.Among x list negated) place none =
      let all =
      plain_parts (x ∷ list) none in record {
        is_proper = both all.proper.0
            (all_true list all.proper.1);
        none = all.none;
      }
  at_node (ExprNode-F.And members) place none =
      let all =
      plain_parts members none in record {
        is_proper = all_true members all.proper;
        none =
            all.none;
      }
  at_node (ExprNode-F.Or members) place none =
      let all =
      plain_parts members none in record {
        is_proper = all_true members all.proper;
        none =
            all.none;
      }
  at_node (ExprNode-F.Not x) place none =
      let all = plain_parts (x ∷ []) none in record { is_proper = all.proper.0; none = all.none }
  at_node (ExprNode-F.Add x y) place none =
      let all =
      plain_parts (x ∷ y ∷ []) none in record {
        is_proper = both all.proper.0 all.proper.1.0;
        none = all.none;
      }
  at_node (ExprNode-F.Subtract x y) place none =
      let all =
      plain_parts (x ∷ y ∷ []) none in record {
        is_proper = both all.proper.0 all.proper.1.0;
        none = all.none;
      }
  at_node (ExprNode-F.Multiply x y) place none =
      let all =
      plain_parts (x ∷ y ∷ []) none in record {
        is_proper = both all.proper.0 all.proper.1.0;
        none = all.none;
      }

  -- Without calls an expression is proper, and has no aggregate.
  pub without_calls : (tree : ExprTree) → (reading tables scope tree).calls ≡ []
      → IsPlainly (is_proper_expr tree) (reading tables scope tree)
  without_calls = by_parts tables scope scope Uncalled at_node

module _ (tables : List Table) (scope : Scope)
    (aliases : AllByRecursion (λ (alias : Alias). alias.item.calls ≡ []) scope.aliases) where
  abbrev Without : Bool → Reading → Reading → Type 0
  Without proper one other = one.aggregates ≡ [] → one.calls ≡ []

  abbrev part_of : Part Without → Reading
  part_of part = part.one

  none_parts : (parts : List (Part Without)) → flat_map aggregates_in (map part_of parts) ≡ []
      → flat_map calls_in (map part_of parts) ≡ []
  none_parts [] none = refl
  none_parts (part ∷ parts) none =
      ap₂ (λ one others. one ++ others)
      (part.has (none-left part.one.aggregates (flat_map aggregates_in (map part_of parts))
      none))
      (none_parts parts (none-right part.one.aggregates (flat_map aggregates_in (map part_of parts))
      none))

  bare-node : (node : ExprNode-F ExprNode (Part Without)) (place : ℕ)
      → (node_reading tables scope (read_over tables scope part_of node) place).aggregates ≡ []
      → (node_reading tables scope (read_over tables scope part_of node) place).calls ≡ []
  bare-node (ExprNode-F.Number literal) place none = refl
  bare-node (ExprNode-F.Text literal) place none = refl
  bare-node ExprNode-F.Null place none = refl
  bare-node (ExprNode-F.Known holds) place none = refl
  bare-node (ExprNode-F.Name table column) place none =
      by_name tables scope (λ one. one.calls ≡ []) (λ (alias : Alias). alias.item.calls ≡ [])
      (λ place column seen. refl) (λ kind place. refl)
      (λ place alias has. ap (one_call place) has) aliases place table column
  bare-node (ExprNode-F.Aggregate call argument) place none = cc
  bare-node (ExprNode-F.Negate x) place none = none_parts (x ∷ []) none
  bare-node (ExprNode-F.Compare op x y) place none = none_parts (x ∷ y ∷ []) none
  bare-node (ExprNode-F.IsNull x negated) place none = none_parts (x ∷ []) none
  bare-node (ExprNode-F.Between x low high negated) place none =
      none_parts (x ∷ low ∷ high ∷ []) none
  bare-node (ExprNode-F.Among x list negated) place none = none_parts (x ∷ list) none
  bare-node (ExprNode-F.And members) place none = none_parts members none
  bare-node (ExprNode-F.Or members) place none = none_parts members none
  bare-node (ExprNode-F.Not x) place none = none_parts (x ∷ []) none
  bare-node (ExprNode-F.Add x y) place none = none_parts (x ∷ y ∷ []) none
  bare-node (ExprNode-F.Subtract x y) place none = none_parts (x ∷ y ∷ []) none
  bare-node (ExprNode-F.Multiply x y) place none = none_parts (x ∷ y ∷ []) none

  -- Without aggregates an expression has no calls, if no alias in its sight has.
  pub without_aggregates : (tree : ExprTree) → (reading tables scope tree).aggregates ≡ []
      → (reading tables scope tree).calls ≡ []
  without_aggregates = by_parts tables scope scope Without bare-node
