-- What a key holds of all that several trees name.
use Rattle.std.proofs.Common.{◌≡◌, Bool, true, false, ◌&&◌, List, [], ◌∷◌, ◌++◌, map, flat_map, refl, sym, ap, ap₂, ◌∙◌}
use Rattle.std.specs.List.{list_all}
use Rattle.std.proofs.lemmas.List.Folds.{list_all-append, list_all-map}
use Rattle.sa_cond.specs.Cited.{Name, column, cond_names, cond_node_names, expr_names}
use Rattle.sa_cond.specs.declared.cond.Cond.{Cond, Cond-F, fold_out-Cond, map-Cond, out-Cond}
use Rattle.sa_cond.specs.declared.cond.Cond.TheVariants as node
use Rattle.sa_cond.specs.declared.expr.Expr.{Expr}
use Rattle.sa_query.specs.declared.group.Aggregate.{Aggregate}
use Rattle.sa_query.specs.declared.group.Column.{Column}
use Rattle.sa_query.specs.declared.item.Item.{Item}
use Rattle.sa_query.specs.declared.order.OrderKey.{OrderKey}
use Rattle.sa_query.specs.declared.query.Query.{Query}
use Rattle.sa_access.specs.Offered.{names_in, used_names}

pub list_all-flat_map : {A B : Type 0} (p : A → Bool) (f : B → List A) (xs : List B) → list_all p (flat_map f xs) ≡ list_all (λ x. list_all p (f x)) xs
list_all-flat_map p f [] = refl
list_all-flat_map p f (x ∷ xs) =
    list_all-append p (f x) (flat_map f xs) ∙ ap (λ (rest : Bool). list_all p (f x) && rest) (list_all-flat_map p f xs)

pub list_all-members : {A B : Type 0} (p : A → Bool) (f : B → List A) (xs : List B)
    → list_all p (flat_map (λ (one : List A). one) (map f xs)) ≡ list_all (λ x. list_all p (f x)) xs
list_all-members p f [] = refl
list_all-members p f (x ∷ xs) =
    list_all-append p (f x) (flat_map (λ (one : List _). one) (map f xs)) ∙ ap (λ (rest : Bool). list_all p (f x) && rest) (list_all-members p f xs)

names-out : (cond : Cond) (node : Cond-F Cond) → out-Cond cond ≡ node → cond_names cond ≡ cond_node_names (map-Cond Cond (List Name) cond_names node)
names-out cond node is =
    fold_out-Cond (List Name) cond_node_names cond ∙ ap (λ (one : Cond-F Cond). cond_node_names (map-Cond Cond (List Name) cond_names one)) is

module _ (p : Name → Bool) where
  pub among_held : (cond : Cond) (value : Expr) (list : List Expr) → cond ≡ node.Among value list
      → list_all p (cond_names cond) ≡ (list_all p (expr_names value) && list_all (λ expr. list_all p (expr_names expr)) list)
  among_held cond value list is =
      ap (list_all p) (names-out cond (Cond-F.Among value list) (ap out-Cond is ∙ node.outs-Among value list)) ∙ list_all-append p (expr_names value) (flat_map expr_names list)
      ∙ ap (λ (rest : Bool). list_all p (expr_names value) && rest) (list_all-flat_map p expr_names list)

  pub and_held : (cond : Cond) (members : List Cond) → cond ≡ node.And members
      → list_all p (cond_names cond) ≡ list_all (λ member. list_all p (cond_names member)) members
  and_held cond members is = ap (list_all p) (names-out cond (Cond-F.And members) (ap out-Cond is ∙ node.outs-And members)) ∙ list_all-members p cond_names members

  pub or_held : (cond : Cond) (members : List Cond) → cond ≡ node.Or members
      → list_all p (cond_names cond) ≡ list_all (λ member. list_all p (cond_names member)) members
  or_held cond members is = ap (list_all p) (names-out cond (Cond-F.Or members) (ap out-Cond is ∙ node.outs-Or members)) ∙ list_all-members p cond_names members

  module _ (query : Query) where
    abbrev pub filter_held : Bool
    filter_held = list_all p (cond_names query.filter)

    abbrev pub select_held : Bool
    select_held = list_all (λ (item : Item). list_all p (expr_names item.value)) query.select

    abbrev pub group_held : Bool
    group_held = list_all (λ (one : Column). p (column one.table one.column)) query.group

    abbrev pub aggregates_held : Bool
    aggregates_held = list_all (λ (one : Aggregate). list_all p (names_in expr_names one.argument)) query.aggregates

    abbrev pub having_held : Bool
    having_held = list_all p (names_in cond_names query.having)

    abbrev pub order_held : Bool
    order_held = list_all (λ (key : OrderKey). list_all p (expr_names key.value)) query.order

    pub each_held : list_all p (used_names query) ≡ (((((filter_held && select_held) && group_held) && aggregates_held) && having_held) && order_held)
    each_held =
        list_all-append p (before ++ select ++ group ++ aggregates ++ having) (flat_map (λ (key : OrderKey). expr_names key.value) query.order)
        ∙ ap₂ (λ (x y : Bool). x && y)
        (list_all-append p (before ++ select ++ group ++ aggregates) having
        ∙ ap (λ (x : Bool). x && having_held)
        (list_all-append p (before ++ select ++ group) aggregates
        ∙ ap₂ (λ (x y : Bool). x && y)
        (list_all-append p (before ++ select) group
        ∙ ap₂ (λ (x y : Bool). x && y)
        (list_all-append p before select
        ∙ ap (λ (x : Bool). filter_held && x) (list_all-flat_map p (λ (item : Item). expr_names item.value) query.select))
        (list_all-map p (λ (one : Column). column one.table one.column) query.group))
        (list_all-flat_map p (λ (one : Aggregate). names_in expr_names one.argument) query.aggregates)))
        (list_all-flat_map p (λ (key : OrderKey). expr_names key.value) query.order)
      where
        before : List Name
        before = cond_names query.filter

        select : List Name
        select = flat_map (λ (item : Item). expr_names item.value) query.select

        group : List Name
        group = map (λ (one : Column). column one.table one.column) query.group

        aggregates : List Name
        aggregates = flat_map (λ (one : Aggregate). names_in expr_names one.argument) query.aggregates

        having : List Name
        having = names_in cond_names query.having

    pub no_filter : filter_held ≡ false → false ≡ list_all p (used_names query)
    no_filter filter = sym (each_held ∙ ap (λ (f : Bool). ((((f && select_held) && group_held) && aggregates_held) && having_held) && order_held) filter)

    pub no_select : filter_held ≡ true → select_held ≡ false → false ≡ list_all p (used_names query)
    no_select filter select = sym (each_held ∙ ap₂ (λ (f s : Bool). ((((f && s) && group_held) && aggregates_held) && having_held) && order_held) filter select)

    two : filter_held ≡ true → select_held ≡ true → (filter_held && select_held) ≡ true
    two filter select = ap₂ (λ (f s : Bool). f && s) filter select

    pub no_group : filter_held ≡ true → select_held ≡ true → group_held ≡ false → false ≡ list_all p (used_names query)
    no_group filter select group =
        sym (each_held ∙ ap₂ (λ (f g : Bool). (((f && g) && aggregates_held) && having_held) && order_held) (two filter select) group)

    three : filter_held ≡ true → select_held ≡ true → group_held ≡ true → ((filter_held && select_held) && group_held) ≡ true
    three filter select group = ap₂ (λ (f g : Bool). f && g) (two filter select) group

    pub no_aggregates : filter_held ≡ true → select_held ≡ true → group_held ≡ true → aggregates_held ≡ false → false ≡ list_all p (used_names query)
    no_aggregates filter select group aggregates =
        sym (each_held ∙ ap₂ (λ (f a : Bool). ((f && a) && having_held) && order_held) (three filter select group) aggregates)

    pub all_but : filter_held ≡ true → select_held ≡ true → group_held ≡ true → aggregates_held ≡ true → list_all p (used_names query) ≡ (having_held && order_held)
    all_but filter select group aggregates =
        each_held ∙ ap₂ (λ (f a : Bool). ((f && a) && having_held) && order_held) (three filter select group) aggregates
