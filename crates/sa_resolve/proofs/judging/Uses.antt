-- The trees of a query, one after another.
use Rattle.std.proofs.Common.{◌≡◌, ℕ, ◌+◌, ◌<◌, ◌≤◌, List, [], ◌∷◌, ◌++◌, length, get_or, map, take, Option, Some, None, append-nil, refl, sym, ap, ◌∙◌}
use Rattle.std.proofs.lemmas.List.{map-append, map_more, take_all}
use Rattle.sa_ast.specs.declared.expression.ExprTree.{ExprTree}
use Rattle.sa_ast.specs.declared.select.OrderTree.{OrderTree}
use Rattle.sa_ast.specs.declared.select.TableTree.{TableTree}
use Rattle.sa_table.specs.Table.{Table}
use Rattle.sa_cond.specs.declared.cond.Cond.{Cond}
use Rattle.sa_cond.specs.declared.expr.Expr.{Expr}
use Rattle.sa_resolve.specs.declared.sight.Source.{Source as Item}
use Rattle.sa_resolve.specs.declared.sight.Sight.{Sight}
use Rattle.sa_resolve.specs.Clauses.{option_list}
use Rattle.sa_resolve.specs.Expression.{reading}
use Rattle.sa_resolve.specs.Reading.{Reading}
use Rattle.sa_resolve.specs.Resolved.{order_key, table_use}
use Rattle.sa_resolve.specs.Tables.{on_reading, over_rows, sources_of}
use Rattle.sa_resolve.specs.inner.Names.{IsSight, source_at}
use Rattle.sa_resolve.specs.inner.Walking.{AreValues}

map-map : {A B C : Type 0} (f : B → C) (g : A → B) (xs : List A) → map f (map g xs) ≡ map (λ x. f (g x)) xs
map-map f g [] = refl
map-map f g (x ∷ xs) = ap (λ rest. f (g x) ∷ rest) (map-map f g xs)

-- the tables of FROM
pub uses_are : (tables : List Table) (from : List TableTree) (sight : Sight) → IsSight tables from sight
    → map (λ (item : Item). table_use (source_at item)) sight.sources.items ≡ map table_use (sources_of tables from)
uses_are tables from sight is = sym (map-map table_use source_at sight.sources.items) ∙ ap (map table_use) is.sources

-- one turn of a loop that makes so many of a list
pub push_more : {A B : Type 0} (f : A → B) (xs : List A) (i : ℕ) (x : A) (made : List B) (one : B) → i < length xs → x ≡ get_or xs i x
    → made ≡ map f (take i xs) → one ≡ f x → made ++ one ∷ [] ≡ map f (take (i + 1) xs)
push_more f xs i x made one within is before one_is =
    ap (λ made. made ++ one ∷ []) before
    ∙ ap (λ one. map f (take i xs) ++ one ∷ []) (one_is ∙ ap f is)
    ∙ sym (map_more f xs i x within)

pub all_made : {A B : Type 0} (f : A → B) (xs : List A) (i : ℕ) (made : List B) → length xs ≤ i → made ≡ map f (take i xs) → made ≡ map f xs
all_made f xs i made all is = is ∙ ap (map f) (take_all i xs all)

module _ (tables : List Table) (from : List TableTree) (number : ℕ) (conds : List Cond) where
  -- a table without ON
  pub no_on_cond : (on : Option ExprTree) → on ≡ None
      → conds ≡ conds ++ map (λ (one : Reading). one.cond) (on_reading tables from number on)
  no_on_cond on none =
      sym (append-nil conds)
      ∙ ap (λ (on : Option ExprTree). conds ++ map (λ (one : Reading). one.cond) (on_reading tables from number on)) (sym none)

  -- a table with one
  pub one_on_cond : (on : Option ExprTree) (tree : ExprTree) (cond : Cond) (others : List Cond) → on ≡ Some tree
      → cond ≡ (reading tables (over_rows (sources_of tables (take (number + 1) from))) tree).cond → others ≡ conds ++ cond ∷ []
      → others ≡ conds ++ map (λ (one : Reading). one.cond) (on_reading tables from number on)
  one_on_cond on tree cond others some is are =
      are
      ∙ ap (λ (cond : Cond). conds ++ cond ∷ []) is
      ∙ ap (λ (on : Option ExprTree). conds ++ map (λ (one : Reading). one.cond) (on_reading tables from number on)) (sym some)

module _ (tables : List Table) (from : List TableTree) (conds : List Cond) where
  -- a SELECT without WHERE
  pub no_where_cond : (filter : Option ExprTree) → filter ≡ None
      → conds ≡ conds ++ map (λ (one : Reading). one.cond) (option_list (reading tables (over_rows (sources_of tables from))) filter)
  no_where_cond filter none =
      sym (append-nil conds)
      ∙ ap (λ (filter : Option ExprTree). conds ++ map (λ (one : Reading). one.cond) (option_list (reading tables (over_rows (sources_of tables from))) filter)) (sym none)

  -- a SELECT with one
  pub one_where_cond : (filter : Option ExprTree) (tree : ExprTree) (cond : Cond) (others : List Cond) → filter ≡ Some tree
      → cond ≡ (reading tables (over_rows (sources_of tables from)) tree).cond → others ≡ conds ++ cond ∷ []
      → others ≡ conds ++ map (λ (one : Reading). one.cond) (option_list (reading tables (over_rows (sources_of tables from))) filter)
  one_where_cond filter tree cond others some is are =
      are
      ∙ ap (λ (cond : Cond). conds ++ cond ∷ []) is
      ∙ ap (λ (filter : Option ExprTree). conds ++ map (λ (one : Reading). one.cond) (option_list (reading tables (over_rows (sources_of tables from))) filter)) (sym some)

-- of one table more
pub conds_more : (ons others : List Reading) (conds next : List Cond) → next ≡ conds ++ map (λ (one : Reading). one.cond) others
    → conds ≡ map (λ (one : Reading). one.cond) ons → next ≡ map (λ (one : Reading). one.cond) (ons ++ others)
conds_more ons others conds next is before =
    is ∙ ap (λ (conds : List Cond). conds ++ map (λ (one : Reading). one.cond) others) before
    ∙ sym (map-append (λ (one : Reading). one.cond) ons others)

-- a key of ORDER BY
pub key_is : (tree : OrderTree) (value : Expr) (one : Reading) → value ≡ one.expr → order_key tree (record one { expr = value }) ≡ order_key tree one
key_is tree value one is = ap (λ (value : Expr). order_key tree (record one { expr = value })) is

-- a list of no items
pub no_values : AreValues []
no_values number one is = cc
