-- A reading but for what stands for it in the query is the same whatever the slots are.
use Rattle.std.proofs.Common.{◌≡◌, ℕ, Bool, true, false, ◌||◌, if◌then◌else◌, List, [], ◌∷◌, map, Option, Some, None, refl, sym, ap, ◌∙◌}
use Rattle.std.specs.List.{filter, list_any}
use mathlib.Core.Path.{ap₂}
use Rattle.std.proofs.lemmas.List.Folds.{flat_map-map}
use Rattle.sa_ast.specs.declared.expression.AggregateCall.TheVariants.{CountRows, Count, Sum, Min, Max}
use Rattle.sa_ast.specs.declared.expression.ExprNode.{ExprNode, ExprNode-F}
use Rattle.sa_ast.specs.declared.expression.ExprTree.{ExprTree}
use Rattle.sa_table.specs.Table.{Table}
use Rattle.sa_query.specs.declared.group.Column.{Column}
use Rattle.sa_query.specs.declared.refusal.ResolveKind.TheVariants.{UnknownColumn}
use Rattle.sa_resolve.specs.Expression.{Scope, Alias, Seeks, never, first, last, by_column, by_alias, unless_none, aliases_named, plain_reading, name_reading, node_reading, reading}
use Rattle.sa_resolve.specs.Reading.{Reading, no_expr, no_cond, faulty_name}
use Rattle.sa_resolve.specs.Sight.{Found, one as found, none, several, only_one, plain, qualified}
use Rattle.sa_table.specs.Create.{same_name}
use Rattle.sa_resolve.proofs.fit.Parts.{Part, read_over, by_parts}

abbrev pub erased : Reading → Reading
erased one = record one { expr = no_expr; cond = no_cond }

abbrev pub erased_alias : Alias → Alias
erased_alias alias = record alias { item = erased alias.item }

abbrev pub erased_scope : Scope → Scope
erased_scope scope = record scope { slots = None; aliases = map erased_alias scope.aliases }

abbrev Like : Bool → Reading → Reading → Type 0
Like proper one other = erased one ≡ erased other

found_map : {A B : Type 0} → (A → B) → Found A → Found B
found_map f (found x) = found (f x)
found_map f none = none
found_map f several = several

only_one-map : {A B : Type 0} (f : A → B) (xs : List A) → only_one (map f xs) ≡ found_map f
    (only_one xs)
unfolding found_map
only_one-map f [] = refl
only_one-map f (x ∷ []) = refl
only_one-map f (x ∷ y ∷ xs) = refl

kept_by : {A B : Type 0} (f : A → B) (here : Bool) (x : A) (xs : List A) (ys : List B)
    → ys ≡ map f xs
    → (if here then f x ∷ ys else ys) ≡ map f (if here then x ∷ xs else xs)
kept_by f true x xs ys is = ap (λ list. f x ∷ list) is
kept_by f false x xs ys is = is

filter-map : {A B : Type 0} (f : A → B) (test : B → Bool) (xs : List A) → filter test (map f xs)
    ≡ map f (filter (λ x. test (f x)) xs)
filter-map f test [] = refl
filter-map f test (x ∷ xs) =
    kept_by f (test (f x)) x (filter (λ x. test (f x)) xs) (filter test (map f xs))
    (filter-map f test xs)

pub list_any-map : {A B : Type 0} (f : A → B) (test : B → Bool) (xs : List A)
    → list_any test (map f xs) ≡ list_any (λ x. test (f x)) xs
list_any-map f test [] = refl
list_any-map f test (x ∷ xs) = ap (λ others. test (f x) || others) (list_any-map f test xs)

-- the parts of a list, without what stands for them
same_parts : (parts : List (Part Like)) → map erased (map (λ (part : Part Like). part.one) parts)
    ≡ map erased (map (λ (part : Part Like). part.other) parts)
same_parts [] = refl
same_parts (part ∷ parts) = ap₂ (λ one others. one ∷ others) part.has (same_parts parts)

module _ (tables : List Table) (scope : Scope) where
  by_found : (place : ℕ) (seen : Found Column)
      → erased (by_column tables scope place seen)
      ≡ erased (by_column tables (erased_scope scope) place seen)
  by_found place (found column) = refl
  by_found place none = refl
  by_found place several = refl

  alias_by : (place : ℕ) (one other : Reading) (seen : Found Alias) → erased one ≡ erased other
      → erased (by_alias tables scope place one seen)
      ≡ erased (by_alias tables (erased_scope scope) place other (found_map erased_alias seen))
  unfolding found_map
  alias_by place some other (found alias) same = refl
  alias_by place some other none same = same
  alias_by place some other several same = refl

  named_is : (name : List ℕ) → aliases_named tables (erased_scope scope) name
      ≡ found_map erased_alias (aliases_named tables scope name)
  named_is name =
      ap only_one (filter-map erased_alias (λ alias. same_name alias.name name) scope.aliases)
      ∙ only_one-map erased_alias (filter (λ alias. same_name alias.name name) scope.aliases)

  alias_is : (place : ℕ) (one other : Reading) (name : List ℕ) → erased one ≡ erased other
      → erased (by_alias tables scope place one (aliases_named tables scope name))
      ≡ erased (by_alias tables (erased_scope scope) place other
      (aliases_named tables (erased_scope scope) name))
  alias_is place one other name same =
      alias_by place one other (aliases_named tables scope name) same
      ∙ ap (λ seen. erased (by_alias tables (erased_scope scope) place other seen))
      (sym (named_is name))

  unless_by : (place : ℕ) (other other' : Reading) (seen : Found Column) → erased other
      ≡ erased other'
      → erased (unless_none tables scope place other seen)
      ≡ erased (unless_none tables (erased_scope scope) place other' seen)
  unless_by place other other' none same = same
  unless_by place other other' (found column) same = refl
  unless_by place other other' several same = refl

  plain_is : (seeks : Seeks) (place : ℕ) (name : List ℕ)
      → erased (plain_reading tables scope seeks place name)
      ≡ erased (plain_reading tables (erased_scope scope) seeks place name)
  plain_is never place name = by_found place (plain tables scope.sources name)
  plain_is first place name =
      alias_is place (by_column tables scope place (plain tables scope.sources name))
      (by_column tables (erased_scope scope) place (plain tables scope.sources name)) name
      (by_found place (plain tables scope.sources name))
  plain_is last place name =
      unless_by place _ _ (plain tables scope.sources name)
      (alias_is place (faulty_name UnknownColumn place) (faulty_name UnknownColumn place) name
      refl)

  erased-name : (table : Option (List ℕ)) (column : List ℕ) (place : ℕ)
      → erased (name_reading tables scope place table column)
      ≡ erased (name_reading tables (erased_scope scope) place table column)
  erased-name None column place = plain_is scope.seeks place column
  erased-name (Some table) column place =
      by_found place (qualified tables scope.sources table column)

  abbrev one_of : Part Like → Reading
  one_of part = part.one

  abbrev other_of : Part Like → Reading
  other_of part = part.other

  -- a node's reading over readings without what stands for them
  abbrev bare : ExprNode-F (ℕ → Reading) Reading → (place : ℕ) → Reading
  bare node place = erased (node_reading tables (erased_scope scope) node place)

  among_is : (x : Reading) (list : List Reading) (negated : Bool) (place : ℕ)
      → bare (ExprNode-F.Among (erased x) (map erased list) negated) place
      ≡ bare (ExprNode-F.Among x list negated) place
  among_is x list negated place = simp (flat_map-map, list_any-map)

  and_is : (list : List Reading) (place : ℕ) → bare (ExprNode-F.And (map erased list)) place
      ≡ bare (ExprNode-F.And list) place
  and_is list place = simp flat_map-map

  or_is : (list : List Reading) (place : ℕ) → bare (ExprNode-F.Or (map erased list)) place
      ≡ bare (ExprNode-F.Or list) place
  or_is list place = simp flat_map-map

  at_node : (node : ExprNode-F ExprNode (Part Like)) (place : ℕ)
      → erased (node_reading tables scope (read_over tables scope one_of node) place)
      ≡ erased
      (node_reading tables (erased_scope scope)
      (read_over tables (erased_scope scope) other_of node) place)
  at_node (ExprNode-F.Number literal) place = refl
  at_node (ExprNode-F.Text literal) place = refl
  at_node ExprNode-F.Null place = refl
  at_node (ExprNode-F.Known holds) place = refl
  at_node (ExprNode-F.Name table column) place = erased-name table column place
  at_node (ExprNode-F.Aggregate call None) place = refl
  at_node (ExprNode-F.Aggregate CountRows (Some part)) place =
      ap (λ x. bare (ExprNode-F.Aggregate CountRows (Some x)) place) part.has
  at_node (ExprNode-F.Aggregate Count (Some part)) place =
      ap (λ x. bare (ExprNode-F.Aggregate Count (Some x)) place) part.has
  at_node (ExprNode-F.Aggregate Sum (Some part)) place =
      ap (λ x. bare (ExprNode-F.Aggregate Sum (Some x)) place) part.has
  at_node (ExprNode-F.Aggregate Min (Some part)) place =
      ap (λ x. bare (ExprNode-F.Aggregate Min (Some x)) place) part.has
  at_node (ExprNode-F.Aggregate Max (Some part)) place =
      ap (λ x. bare (ExprNode-F.Aggregate Max (Some x)) place) part.has
  at_node (ExprNode-F.Negate x) place = ap (λ x. bare (ExprNode-F.Negate x) place) x.has
  at_node (ExprNode-F.Compare op x y) place =
      ap₂ (λ x y. bare (ExprNode-F.Compare op x y) place) x.has y.has
  at_node (ExprNode-F.IsNull x negated) place =
      ap (λ x. bare (ExprNode-F.IsNull x negated) place) x.has
  at_node (ExprNode-F.Between x low high negated) place =
      ap₂ (λ x low. bare (ExprNode-F.Between x low (erased high.one) negated) place) x.has low.has
      ∙ ap (λ high. bare (ExprNode-F.Between (erased x.other) (erased low.other) high negated)
      place) high.has
  at_node (ExprNode-F.Among x list negated) place =
      sym (among_is x.one (map one_of list) negated place)
      ∙ ap₂ (λ x list. bare (ExprNode-F.Among x list negated) place) x.has (same_parts list)
      ∙ among_is x.other (map other_of list) negated place
  at_node (ExprNode-F.And members) place =
      sym (and_is (map one_of members) place)
      ∙ ap (λ list. bare (ExprNode-F.And list) place) (same_parts members)
      ∙ and_is (map other_of members) place
  at_node (ExprNode-F.Or members) place =
      sym (or_is (map one_of members) place)
      ∙ ap (λ list. bare (ExprNode-F.Or list) place) (same_parts members)
      ∙ or_is (map other_of members) place
  at_node (ExprNode-F.Not x) place = ap (λ x. bare (ExprNode-F.Not x) place) x.has
  at_node (ExprNode-F.Add x y) place = ap₂ (λ x y. bare (ExprNode-F.Add x y) place) x.has y.has
  at_node (ExprNode-F.Subtract x y) place =
      ap₂ (λ x y. bare (ExprNode-F.Subtract x y) place) x.has y.has
  at_node (ExprNode-F.Multiply x y) place =
      ap₂ (λ x y. bare (ExprNode-F.Multiply x y) place) x.has y.has

  pub erased-reading : (tree : ExprTree) → erased (reading tables scope tree)
      ≡ erased (reading tables (erased_scope scope) tree)
  erased-reading = by_parts tables scope (erased_scope scope) Like at_node
