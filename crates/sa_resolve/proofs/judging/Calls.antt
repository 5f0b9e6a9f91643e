-- Whether a SELECT has an aggregate, clause by clause.
use Rattle.std.proofs.Common.{◌≡◌, ℕ, nat_eq, ◌+◌, Bool, true, false, not, ◌||◌, List, [], ◌∷◌, ◌++◌, map, length, Option, Some, None, refl, sym, ap, ◌∙◌, arith}
use Rattle.std.proofs.lemmas.Bool.Decides.{nat_tests}
use Rattle.std.specs.List.{list_any}
use Rattle.std.specs.Option.{is_some}
use Rattle.sa_ast.specs.declared.select.ItemTree.{ItemTree}
use Rattle.sa_table.specs.Table.{Table}
use Rattle.sa_query.specs.declared.group.Column.{Column}
use Rattle.sa_query.specs.Meaning.{is_empty}
use Rattle.sa_resolve.specs.declared.look.Looked.{Looked}
use Rattle.sa_resolve.specs.declared.select.Chosen.{Chosen}
use Rattle.sa_resolve.specs.declared.select.Chosen.TheVariants.{Columns, Value}
use Rattle.sa_resolve.specs.declared.select.Part.{Part}
use Rattle.sa_resolve.specs.declared.sight.Sight.{Sight}
use Rattle.sa_resolve.specs.Clauses.{Clauses, groups}
use Rattle.sa_resolve.specs.Expression.{Scope}
use Rattle.sa_resolve.specs.Reading.{Reading}
use Rattle.sa_resolve.specs.Selected.{Selected, items_at, selected}
use Rattle.sa_resolve.specs.inner.Gist.{Gist}
use Rattle.sa_resolve.specs.inner.Judging.{chosen_call, has_calls, part_call}
use Rattle.sa_resolve.specs.inner.Knowing.{AreLooked}
use Rattle.sa_resolve.specs.inner.Least.{nearer, nearest}
use Rattle.sa_resolve.specs.inner.Listing.{AreParts, IsChosen, columns_in, starred}
use Rattle.sa_resolve.specs.inner.Looking.{IsLooked}

is_some-nearer : (place : ℕ) (other : Option ℕ) → is_some (nearer (Some place) other) ≡ true
is_some-nearer place None = refl
is_some-nearer place (Some other) = refl

some_call : (places : List ℕ) → is_some (nearest places) ≡ not (is_empty places)
some_call [] = refl
some_call (place ∷ places) = is_some-nearer place (nearest places)

-- the code knows whether an expression has one
pub call_known : (looked : Looked) (one : Reading) → IsLooked looked one → is_some looked.facts.call ≡ has_calls one
call_known looked one is = ap (λ (gist : Gist). is_some gist.call) is.gist ∙ some_call one.calls

pub calls_known : (looked : List Looked) (ones : List Reading) → AreLooked looked ones
    → list_any (λ (one : Looked). is_some one.facts.call) looked ≡ list_any has_calls ones
calls_known [] [] are = refl
calls_known [] (one ∷ ones) are = absurd are
calls_known (x ∷ looked) [] are = absurd are
calls_known (x ∷ looked) (one ∷ ones) are =
    ap (λ (first : Bool). first || list_any (λ (one : Looked). is_some one.facts.call) looked) (call_known x one are.0)
    ∙ ap (λ (rest : Bool). has_calls one || rest) (calls_known looked ones are.1)

pub list_any-append : {A : Type 0} (test : A → Bool) (xs ys : List A) → list_any test (xs ++ ys) ≡ (list_any test xs || list_any test ys)
list_any-append test [] ys = refl
list_any-append test (x ∷ xs) ys = either_by (test x) (list_any test xs) (list_any test (xs ++ ys)) (list_any test ys) (list_any-append test xs ys)
  where
    either_by : (a b c d : Bool) → c ≡ (b || d) → (a || c) ≡ ((a || b) || d)
    either_by true b c d is = refl
    either_by false b c d is = is

list_any-map : {A B : Type 0} (test : B → Bool) (f : A → B) (xs : List A) → list_any test (map f xs) ≡ list_any (λ x. test (f x)) xs
list_any-map test f [] = refl
list_any-map test f (x ∷ xs) = ap (λ (rest : Bool). test (f x) || rest) (list_any-map test f xs)

or_false : (holds : Bool) → (holds || false) ≡ holds
or_false true = refl
or_false false = refl

module _ (tables : List Table) (scope : Scope) (sight : Sight) where
  no_calls : (place : ℕ) (columns : List Column)
      → list_any (λ (one : Selected). has_calls one.item) (map (starred tables scope sight place) columns) ≡ false
  no_calls place [] = refl
  no_calls place (column ∷ columns) = no_calls place columns

  chosen_calls : (place : ℕ) (chosen : Chosen) (items : List Selected) → IsChosen tables scope sight place chosen items
      → chosen_call chosen ≡ list_any (λ (one : Selected). has_calls one.item) items
  chosen_calls place (Columns run) items is =
      sym (ap (list_any (λ (one : Selected). has_calls one.item)) is.items_are ∙ no_calls place (columns_in sight run))
  chosen_calls place (Value valued) [] is = absurd is
  chosen_calls place (Value valued) (one ∷ []) is =
      call_known valued.looked one.item is.1.looked ∙ sym (or_false (has_calls one.item))
  chosen_calls place (Value valued) (one ∷ other ∷ items) is = absurd is

  pub parts_calls : (first : ℕ) (parts : List Part) (trees : List ItemTree) → AreParts tables scope sight first parts trees
      → list_any part_call parts ≡ list_any (λ (one : Selected). has_calls one.item) (selected tables scope trees)
  parts_calls first [] [] are = refl
  parts_calls first [] (tree ∷ trees) are = absurd are
  parts_calls first (part ∷ parts) [] are = absurd are
  parts_calls first (part ∷ parts) (tree ∷ trees) are =
      ap (λ (one : Bool). one || list_any part_call parts)
      (chosen_calls tree.place part.chosen (items_at tables scope tree.place tree.item) are.0.chosen)
      ∙ ap (λ (rest : Bool). list_any (λ (one : Selected). has_calls one.item) (items_at tables scope tree.place tree.item) || rest)
      (parts_calls (first + length (items_at tables scope tree.place tree.item)) parts trees are.1)
      ∙ sym (list_any-append (λ (one : Selected). has_calls one.item) (items_at tables scope tree.place tree.item) (selected tables scope trees))

-- the clauses besides GROUP BY are asked in another order
other_order : (s f o h : Bool) → (s || (f || (o || h))) ≡ ((((f || s) || false) || h) || o)
other_order true true o h = refl
other_order true false o h = refl
other_order false true o h = refl
other_order false false true true = refl
other_order false false true false = refl
other_order false false false true = refl
other_order false false false false = refl

by_group : (group : List Reading) (p s f o h : Bool) → p ≡ not (is_empty group)
    → (p || (s || (f || (o || h)))) ≡ (not (is_empty group) || ((((f || s) || list_any has_calls group) || h) || o))
by_group [] true s f o h is = cc
by_group [] false s f o h is = other_order s f o h
by_group (one ∷ group) true s f o h is = refl
by_group (one ∷ group) false s f o h is = cc

pub any_in_all : (on filter items group having order : List Reading)
    → list_any has_calls (on ++ filter ++ items ++ group ++ having ++ order)
    ≡ ((((list_any has_calls (on ++ filter) || list_any has_calls items) || list_any has_calls group) || list_any has_calls having)
    || list_any has_calls order)
any_in_all on filter items group having order =
    list_any-append has_calls (on ++ filter ++ items ++ group ++ having) order
    ∙ ap (λ (first : Bool). first || list_any has_calls order) (list_any-append has_calls (on ++ filter ++ items ++ group) having)
    ∙ ap (λ (first : Bool). (first || list_any has_calls having) || list_any has_calls order)
    (list_any-append has_calls (on ++ filter ++ items) group)
    ∙ ap (λ (first : Bool). ((first || list_any has_calls group) || list_any has_calls having) || list_any has_calls order)
    (list_any-append has_calls (on ++ filter) items)

-- whether a SELECT groups, by the aggregates of its clauses
pub groups_by : (clauses : Clauses) (p s f o h : Bool)
    → p ≡ not (is_empty clauses.group)
    → s ≡ list_any (λ (one : Selected). has_calls one.item) clauses.select
    → f ≡ list_any has_calls (clauses.on ++ clauses.filter)
    → o ≡ list_any has_calls clauses.order
    → h ≡ list_any has_calls clauses.having
    → (p || (s || (f || (o || h)))) ≡ groups clauses
groups_by clauses p s f o h p_is s_is f_is o_is h_is =
    by_group clauses.group p s f o h p_is
    ∙ ap (λ (any : Bool). not (is_empty clauses.group) || any)
    (rw (f_is, s_is, h_is, o_is) (
    ap (λ (select : Bool). (((list_any has_calls (clauses.on ++ clauses.filter) || select) || list_any has_calls clauses.group)
    || list_any has_calls clauses.having) || list_any has_calls clauses.order)
    (sym (list_any-map has_calls (λ (one : Selected). one.item) clauses.select))
    ∙ sym (any_in_all clauses.on clauses.filter (map (λ (one : Selected). one.item) clauses.select) clauses.group clauses.having clauses.order)))

-- whether there is no item, by the number of what is kept
pub same_empty : (looked : List Looked) (ones : List Reading) (none : Bool) → AreLooked looked ones → none ≡ nat_eq (length looked) 0
    → not none ≡ not (is_empty ones)
same_empty [] [] none are is = ap (λ (none : Bool). not none) is
same_empty [] (one ∷ ones) none are is = absurd are
same_empty (x ∷ looked) [] none are is = absurd are
same_empty (x ∷ looked) (one ∷ ones) none are is =
    let some : none ≡ false = grind (arith, nat_tests) in ap (λ (none : Bool). not none) some
