-- The items of a select list that is right are values.
use Rattle.std.proofs.Common.{◌≡◌, ℕ, zero, suc, List, [], ◌∷◌, ◌++◌, map, flat_map, refl, sym, ap, subst, ◌∙◌}
use Rattle.sa_ast.specs.declared.select.ItemNode.{ItemNode}
use Rattle.sa_ast.specs.declared.select.ItemNode.TheVariants.{Star, TableStar, Value}
use Rattle.sa_ast.specs.declared.select.ItemTree.{ItemTree}
use Rattle.sa_cond.specs.Interval.{ExprKind}
use Rattle.sa_table.specs.Table.{Table}
use Rattle.sa_query.specs.declared.refusal.ResolveKind.TheVariants.{TypeMismatch}
use Rattle.sa_resolve.specs.Expression.{Scope, never, reading}
use Rattle.sa_resolve.specs.Fault.{Fault, told}
use Rattle.sa_resolve.specs.NodeFaults.{is_condition, no_value}
use Rattle.sa_resolve.specs.Reading.{Reading, Sort, condition, value, no_cond}
use Rattle.sa_resolve.specs.Selected.{Selected, column_item, items_at, selected, star_of}
use Rattle.sa_resolve.specs.Sight.{as_list, source_named}
use Rattle.std.specs.List.{enumerate_from}
use Rattle.sa_resolve.specs.inner.Walking.{AreValues}
use Rattle.sa_resolve.proofs.walk.Values.{value_cond}

-- If it is a value, it stands for no condition.
abbrev pub IsFine : Selected → Type 0
IsFine one = no_value one.item ≡ [] → one.item.cond ≡ no_cond

abbrev pub AreFine : List Selected → Type 0
AreFine [] = Unit {0}
AreFine (one ∷ others) = IsFine one × AreFine others

fine-append : (ones others : List Selected) → AreFine ones → AreFine others → AreFine (ones ++ others)
fine-append [] others fine more = more
fine-append (one ∷ ones) others fine more = (fine.0, fine-append ones others fine.1 more)

fine-map : {A : Type 0} (f : A → Selected) → ((x : A) → IsFine (f x)) → (xs : List A) → AreFine (map f xs)
fine-map f each [] = tt
fine-map f each (x ∷ xs) = (each x, fine-map f each xs)

fine-flat : {A : Type 0} (f : A → List Selected) → ((x : A) → AreFine (f x)) → (xs : List A)
    → AreFine (flat_map f xs)
fine-flat f each [] = tt
fine-flat f each (x ∷ xs) = fine-append (f x) (flat_map f xs) (each x) (fine-flat f each xs)

by_sort : (one : Reading) (sort : Sort) → one.sort ≡ sort
    → ((kind : ExprKind) → one.sort ≡ value kind → one.cond ≡ no_cond)
    → no_value one ≡ [] → one.cond ≡ no_cond
by_sort one condition is values none =
    let Told : Sort → Type 0 = λ sort. told (is_condition sort) TypeMismatch one.place ≡ [] in
    let wrong = subst Told is none in (cc)
by_sort one (value kind) is values none = values kind is

module _ (tables : List Table) (scope : Scope) (seeks : scope.seeks ≡ never) where
  fine-items : (place : ℕ) (node : ItemNode) → AreFine (items_at tables scope place node)
  fine-items place Star =
      fine-flat (star_of tables scope place)
      (λ numbered. fine-map (column_item tables scope place numbered.0) (λ column none. refl) _)
      (enumerate_from 0 scope.sources)
  fine-items place (TableStar table) =
      fine-flat (star_of tables scope place)
      (λ numbered. fine-map (column_item tables scope place numbered.0) (λ column none. refl) _)
      (as_list (source_named scope.sources table.name))
  fine-items place (Value tree alias) = (
    by_sort (reading tables scope tree) (reading tables scope tree).sort refl
        (λ kind is. value_cond tables scope tree kind seeks is),
    tt,
  )

  fine-selected : (trees : List ItemTree) → AreFine (selected tables scope trees)
  fine-selected trees = fine-flat (λ (tree : ItemTree). items_at tables scope tree.place tree.item)
      (λ tree. fine-items tree.place tree.item) trees

no_front : (xs ys : List Fault) → xs ++ ys ≡ [] → (xs ≡ []) × (ys ≡ [])
no_front [] ys none = (refl, none)
no_front (x ∷ xs) ys none = (cc)

values-at : (ones : List Selected) → AreFine ones → flat_map (λ (one : Selected). no_value one.item) ones ≡ []
    → AreValues ones
values-at [] fine none number one is = (cc)
values-at (first ∷ ones) fine none zero one is =
    let same : first ≡ one = (cc) in
    ap (λ (one : Selected). one.item.cond) (sym same)
    ∙ fine.0 (no_front (no_value first.item) (flat_map (λ (one : Selected). no_value one.item) ones) none).0
values-at (first ∷ ones) fine none (suc number) one is =
    values-at ones fine.1 (no_front (no_value first.item)
    (flat_map (λ (one : Selected). no_value one.item) ones) none).1 number one is

-- Where nothing is wrong with the kinds of a select list, its items stand for no condition.
pub are_values : (tables : List Table) (scope : Scope) (trees : List ItemTree) → scope.seeks ≡ never
    → flat_map (λ (one : Selected). no_value one.item) (selected tables scope trees) ≡ []
    → AreValues (selected tables scope trees)
are_values tables scope trees seeks none = values-at (selected tables scope trees)
    (fine-selected tables scope seeks trees) none
