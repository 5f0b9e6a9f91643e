-- What DISTINCT says of an item of ORDER BY.
use Rattle.std.proofs.Common.{◌≡◌, Bool, true, false, not, ◌&&◌, ◌||◌, List, [], ◌∷◌, map, Option, Some, None, refl, sym, ap, subst, ◌∙◌, Bor}
use Rattle.std.specs.List.{list_any}
use Rattle.std.specs.Option.{IfSome, is_some}
use Rattle.sa_ast.specs.declared.select.OrderTree.{OrderTree}
use Rattle.sa_cond.specs.declared.expr.Expr.{Expr}
use Rattle.sa_query.specs.declared.item.Item.{Item}
use Rattle.sa_query.specs.declared.refusal.ResolveKind.TheVariants.{GroupRule}
use Rattle.sa_query.specs.Meaning.{is_empty}
use Rattle.sa_resolve.specs.Clauses.{Clauses}
use Rattle.sa_resolve.specs.Fault.{Fault, earlier, least, told}
use Rattle.sa_resolve.specs.Faults.{distinct_faults, is_selected, own_faults}
use Rattle.sa_resolve.specs.Reading.{Reading}
use Rattle.sa_resolve.specs.Resolved.{query_item}
use Rattle.sa_resolve.specs.Same.{same_expr}
use Rattle.sa_resolve.proofs.judging.Items.{any_item}

some_earlier : (fault : Fault) (other : Option Fault) → is_some (earlier fault other) ≡ true
some_earlier fault None = refl
some_earlier fault (Some other) = refl

-- some fault is told where there is one
pub some_least : (faults : List Fault) → is_some (least faults) ≡ not (is_empty faults)
some_least [] = refl
some_least (fault ∷ faults) = some_earlier fault (least faults)

module _ (clauses : Clauses) (is_right : Bool) (tree : OrderTree) (item : Reading) (own result : Option Fault) (own_is : own ≡ least (own_faults clauses item)) where
  wrong_by : (wrong stands : Bool) → not (is_empty (own_faults clauses item)) ≡ wrong → (wrong || (is_right && not (is_selected clauses item))) ≡ stands
      → result ≡ least (told stands GroupRule tree.place) → result ≡ least (distinct_faults clauses is_right (tree, item))
  wrong_by wrong stands wrong_is stands_is is =
      is
      ∙ ap (λ (stands : Bool). least (told stands GroupRule tree.place)) (sym stands_is)
      ∙ ap (λ (wrong : Bool). least (told (wrong || (is_right && not (is_selected clauses item))) GroupRule tree.place)) (sym wrong_is)

  -- it is wrong in itself
  pub distinct_own : is_some own ≡ true → result ≡ least (told true GroupRule tree.place)
      → result ≡ least (distinct_faults clauses is_right (tree, item))
  distinct_own wrong is =
      wrong_by true true (sym (some_least (own_faults clauses item)) ∙ ap (λ (own : Option Fault). is_some own) (sym own_is) ∙ wrong) refl is

  -- it is right in itself
  pub distinct_other : (other : Bool) → is_some own ≡ false → other ≡ (is_right && not (is_selected clauses item))
      → result ≡ least (told other GroupRule tree.place)
      → result ≡ least (distinct_faults clauses is_right (tree, item))
  distinct_other other right other_is is =
      wrong_by false other (sym (some_least (own_faults clauses item)) ∙ ap (λ (own : Option Fault). is_some own) (sym own_is) ∙ right) (sym other_is) is

-- whether it is another item than those of the select list, which are there
pub other_is : (clauses : Clauses) (one : Reading) (items : Option (Bor (List Item))) (values : Bor (List Item)) (value : Expr) (has : Bool) → items ≡ Some values
    → IfSome items (λ (values : Bor (List Item)). map query_item clauses.select ≡ values.now)
    → value ≡ one.expr → has ≡ list_any (λ (item : Item). same_expr item.value value) values.now
    → not has ≡ (is_some items && not (is_selected clauses one))
other_is clauses one items values value has there are value_is has_is =
    let list : map query_item clauses.select ≡ values.now = subst (λ (items : Option (Bor (List Item))). IfSome items (λ (values : Bor (List Item)). map query_item clauses.select ≡ values.now)) there are in
    ap (λ (has : Bool). not has) (has_is ∙ any_item value clauses.select values.now list
    ∙ ap (λ (value : Expr). is_selected clauses (record one { expr = value })) value_is)
    ∙ ap (λ (items : Option (Bor (List Item))). is_some items && not (is_selected clauses one)) (sym there)

pub none_other : {A : Type 0} (items : Option A) (right : Bool) → items ≡ None → false ≡ (is_some items && right)
none_other {A = A} items right none = ap (λ (items : Option A). is_some items && right) (sym none)
