-- Where the select list is right its items are values, which stand for no condition.
use Rattle.std.proofs.Common.{◌≡◌, ℕ, suc, zero, List, [], ◌∷◌, ◌++◌, map, Option, Some, refl, sym, ap, subst, ◌∙◌}
use Rattle.std.specs.Prelude.{⊤}
use Rattle.std.specs.List.{enumerate_from, flat_map, slice_get}
use Rattle.sa_ast.specs.declared.select.ItemNode.{ItemNode}
use Rattle.sa_ast.specs.declared.select.ItemNode.TheVariants.{Star, TableStar, Value}
use Rattle.sa_ast.specs.declared.select.ItemTree.{ItemTree}
use Rattle.sa_ast.specs.declared.select.SelectTree.{SelectTree}
use Rattle.sa_table.specs.declared.def.ColumnDef.{ColumnDef}
use Rattle.sa_table.specs.Table.{Table}
use Rattle.sa_cond.specs.Interval.{ExprKind}
use Rattle.sa_resolve.specs.Clauses.{clauses_with, select_scope}
use Rattle.sa_resolve.specs.Expression.{Scope, never}
use Rattle.sa_resolve.specs.Faults.{list_faults, loose_faults, select_faults}
use Rattle.sa_resolve.specs.Node.{Slots}
use Rattle.sa_resolve.specs.NodeFaults.{no_value}
use Rattle.sa_resolve.specs.Reading.{Reading, Sort, condition, value, no_cond}
use Rattle.sa_resolve.specs.Selected.{Selected, column_item, items_at, selected, star_of}
use Rattle.sa_resolve.specs.Sight.{Source, as_list, columns_of, source_named}
use Rattle.sa_resolve.specs.inner.Walking.{AreValues}
use Rattle.sa_resolve.proofs.walk.Values.{value_cond}

-- parts of nothing are nothing
pub none_first : {A : Type 0} (xs ys : List A) → xs ++ ys ≡ [] → xs ≡ []
none_first [] ys is = refl
none_first (x ∷ xs) ys is = cc

pub none_last : {A : Type 0} (xs ys : List A) → xs ++ ys ≡ [] → ys ≡ []
none_last [] ys is = is
none_last (x ∷ xs) ys is = cc

none_at : {A B : Type 0} (f : A → List B) (xs : List A) (i : ℕ) (x : A) → flat_map f xs ≡ [] → slice_get xs i ≡ Some x → f x ≡ []
none_at f [] i x none is = cc
none_at f (y ∷ xs) zero x none is =
    let same : y ≡ x = cc in ap f (sym same) ∙ none_first (f y) (flat_map f xs) none
none_at f (y ∷ xs) (suc i) x none is = none_at f xs i x (none_last (f y) (flat_map f xs) none) is

-- a reading that isn't told to be no value is one
value_of : (one : Reading) (sort : Sort) → one.sort ≡ sort → no_value one ≡ [] → (kind : ExprKind) × (one.sort ≡ value kind)
value_of one condition is none = let no : no_value (record one { sort = condition }) ≡ [] = ap (λ (sort : Sort). no_value (record one { sort = sort })) (sym is) ∙ none in cc
value_of one (value kind) is none = (kind, is)

-- Where it is a value it stands for no condition.
abbrev IsFine : Selected → Type 0
IsFine one = (kind : ExprKind) → one.item.sort ≡ value kind → one.item.cond ≡ no_cond

abbrev AreFine : List Selected → Type 0
AreFine [] = ⊤
AreFine (one ∷ items) = IsFine one × AreFine items

AreFine-append : (items others : List Selected) → AreFine items → AreFine others → AreFine (items ++ others)
AreFine-append [] others first second = second
AreFine-append (one ∷ items) others first second = (first.0, AreFine-append items others first.1 second)

fine_at : (items : List Selected) (number : ℕ) (one : Selected) → AreFine items → slice_get items number ≡ Some one → IsFine one
fine_at [] number one are is = cc
fine_at (other ∷ items) zero one are is = let same : other ≡ one = cc in subst IsFine same are.0
fine_at (other ∷ items) (suc number) one are is = fine_at items number one are.1 is

module _ (tables : List Table) (scope : Scope) (never_is : scope.seeks ≡ never) where
  fine-columns : (place number : ℕ) (columns : List (ℕ × ColumnDef)) → AreFine (map (column_item tables scope place number) columns)
  fine-columns place number [] = tt
  fine-columns place number (column ∷ columns) = (λ kind is. refl, fine-columns place number columns)

  fine-stars : (place : ℕ) (sources : List (ℕ × Source)) → AreFine (flat_map (star_of tables scope place) sources)
  fine-stars place [] = tt
  fine-stars place (source ∷ sources) =
      AreFine-append (star_of tables scope place source) (flat_map (star_of tables scope place) sources)
      (fine-columns place source.0 (enumerate_from 0 (columns_of tables source.1))) (fine-stars place sources)

  fine-items : (place : ℕ) (item : ItemNode) → AreFine (items_at tables scope place item)
  fine-items place Star = fine-stars place (enumerate_from 0 scope.sources)
  fine-items place (TableStar table) = fine-stars place (as_list (source_named scope.sources table.name))
  fine-items place (Value tree alias) = (λ kind is. value_cond tables scope tree kind never_is is, tt)

  fine-selected : (trees : List ItemTree) → AreFine (selected tables scope trees)
  fine-selected [] = tt
  fine-selected (tree ∷ trees) =
      AreFine-append (items_at tables scope tree.place tree.item) (selected tables scope trees)
      (fine-items tree.place tree.item) (fine-selected trees)

-- the items of a select list that is right
pub values_right : (tables : List Table) (tree : SelectTree) (slots : Option Slots)
    → list_faults tables tree (clauses_with tables tree slots) ≡ [] → AreValues (clauses_with tables tree slots).select
values_right tables tree slots right number one is =
    let faults : one.item.faults ++ no_value one.item ++ loose_faults (clauses_with tables tree slots) one.item ≡ [] =
    none_at (λ (one : Selected). one.item.faults ++ no_value one.item ++ loose_faults (clauses_with tables tree slots) one.item)
    (clauses_with tables tree slots).select number one
    (none_first (flat_map (λ (one : Selected). one.item.faults ++ no_value one.item ++ loose_faults (clauses_with tables tree slots) one.item)
    (clauses_with tables tree slots).select) _
    (none_last _ (select_faults (clauses_with tables tree slots)) right)) is in
    let found = value_of one.item one.item.sort refl
    (none_last one.item.faults (no_value one.item)
    (none_first (one.item.faults ++ no_value one.item) (loose_faults (clauses_with tables tree slots) one.item) faults)) in
    fine_at (clauses_with tables tree slots).select number one
    (fine-selected tables (select_scope tables tree slots) refl tree.items) is found.0 found.1
