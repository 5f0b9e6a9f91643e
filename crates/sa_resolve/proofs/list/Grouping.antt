-- The columns that a query groups by and its aggregates, one after another, and columns that are none of them.
use Rattle.std.proofs.Common.{◌≡◌, ℕ, zero, suc, ◌+◌, ◌<◌, ◌≤◌, ◌&&◌, ◌||◌, not, Bool, true, false, cond, eqb, List, [], ◌∷◌, ◌++◌, length, take, drop, get_or, Option, Some, None, if◌then◌else◌, refl, sym, ap, subst, ◌∙◌, arith}
use Rattle.std.proofs.lemmas.Bool.Decides.{nat_tests}
use Rattle.std.proofs.lemmas.List.{append-nil, append_assoc, drop_more, map_more, take-append-drop, take_all, take_more}
use Rattle.std.proofs.lemmas.List.Concat.{flat_map-append}
use Rattle.std.proofs.lemmas.List.Elements.{filter-append}
use Rattle.std.proofs.lemmas.Option.{none-some}
use Rattle.std.specs.List.{filter, flat_map, list_any, position, position_or_len}
use Rattle.std.specs.Prelude.{nat_lt}
use Rattle.sa_cond.specs.declared.expr.Expr.{Expr, Expr-F, out-Expr}
use Rattle.sa_query.specs.declared.group.Aggregate.{Aggregate}
use Rattle.sa_query.specs.declared.group.Column.{Column}
use Rattle.sa_query.specs.declared.refusal.ResolveKind.{ResolveKind}
use Rattle.sa_query.specs.declared.refusal.ResolveKind.TheVariants.{GroupRule}
use Rattle.sa_query.specs.Groups.{firsts}
use Rattle.sa_resolve.specs.declared.look.Looked.{Looked}
use Rattle.sa_resolve.specs.declared.mentions.Loose.{Loose}
use Rattle.sa_resolve.specs.Clauses.{Clauses, aggregates_of, column_at, column_of, group_columns, groups, slots_of}
use Rattle.sa_resolve.specs.Fault.{Fault, comes_first, earlier, fault_at, least, told}
use Rattle.sa_resolve.specs.Faults.{loose_faults}
use Rattle.sa_resolve.specs.Node.{Slots}
use Rattle.sa_resolve.specs.Reading.{Reading}
use Rattle.sa_resolve.specs.Same.{same_aggregate, same_column}
use Rattle.sa_resolve.specs.Sight.{as_list}
use Rattle.sa_resolve.specs.inner.Gist.{first}
use Rattle.sa_resolve.specs.inner.Grouped.{loose_among, loose_by}
use Rattle.sa_resolve.specs.inner.Knowing.{AreLooked}
use Rattle.sa_resolve.specs.inner.Least.{sooner}
use Rattle.sa_resolve.specs.inner.Looking.{IsLooked, loose_at}
use Rattle.sa_resolve.proofs.list.Faults.{least-push}
use Rattle.sa_resolve.proofs.list.Lists.{any-push}

eqb-flip : (x y : ℕ) → eqb x y ≡ eqb y x
eqb-flip x y = grind (arith, nat_tests)

flip : (x y : Column) → same_column x y ≡ same_column y x
flip x y =
    ap (λ b. b && eqb x.column y.column) (eqb-flip x.table y.table)
    ∙ ap (λ b. eqb y.table x.table && b) (eqb-flip x.column y.column)

or-cond : (a b : Bool) → cond a true b ≡ (b || a)
or-cond true true = refl
or-cond true false = refl
or-cond false true = refl
or-cond false false = refl

pub column_more : (columns : List Column) (i : ℕ) (d column : Column) (before after : Bool)
    → i < length columns
    → before ≡ list_any (same_column column) (take i columns)
    → after ≡ cond (same_column (get_or columns i d) column) true before
    → after ≡ list_any (same_column column) (take (i + 1) columns)
column_more columns i d column before after there so_far is =
    is
    ∙ or-cond (same_column (get_or columns i d) column) before
    ∙ ap (λ b. before || b) (flip (get_or columns i d) column)
    ∙ ap (λ b. b || same_column column (get_or columns i d)) so_far
    ∙ sym (any-push (same_column column) (take i columns) (get_or columns i d))
    ∙ ap (list_any (same_column column)) (sym (take_more columns i d there))

-- What is kept of an expression at an index.
pub record LookedAt (readings : List Reading) (index : ℕ) (looked : Looked) : Type 0 where
  pub one : Reading
  pub is : IsLooked looked one
  pub taken : take (index + 1) readings ≡ take index readings ++ one ∷ []

next_looked : (first : Reading) (readings : List Reading) (index : ℕ) (looked : Looked)
    → LookedAt readings index looked
    → LookedAt (first ∷ readings) (suc index) looked
next_looked first readings index looked at = record {
  one = at.one;
  is = at.is;
  taken = ap (λ n. take n (first ∷ readings)) next ∙ ap (λ rest. first ∷ rest) at.taken;
}
  where
    next : suc index + 1 ≡ suc (index + 1)
    next = omega arith

pub looked_there : (looked : List Looked) (readings : List Reading) → AreLooked looked readings
    → (index : ℕ) (one : Looked)
    → index < length looked → one ≡ get_or looked index one → LookedAt readings index one
looked_there [] readings are index one there is = absurd (omega arith)
looked_there (first ∷ looked) [] are index one there is = absurd are
looked_there (first ∷ looked) (reading ∷ readings) are zero one there is = record {
  one = reading;
  is = subst (λ (kept : Looked). IsLooked kept reading) (sym is) are.0;
  taken = refl;
}
looked_there (first ∷ looked) (reading ∷ readings) are (suc index) one there is =
    next_looked reading readings index one (looked_there looked readings are.1 index one (omega arith) is)

pub looked_length : (looked : List Looked) (readings : List Reading) → AreLooked looked readings
    → length looked ≡ length readings
looked_length [] [] are = refl
looked_length (first ∷ looked) [] are = absurd are
looked_length [] (reading ∷ readings) are = absurd are
looked_length (first ∷ looked) (reading ∷ readings) are = ap suc (looked_length looked readings are.1)

pub looked_all : (looked : List Looked) (readings : List Reading) → AreLooked looked readings → (index : ℕ)
    → length looked ≤ index → take index readings ≡ readings
looked_all looked readings are index all =
    take_all index readings (let n = looked_length looked readings are in omega arith)

first_list : (layer : Expr-F Expr) → as_list (first (column_at layer)) ≡ column_at layer
first_list (Expr-F.Column table column) = refl
first_list layer = refl

-- the columns of one item of GROUP BY more
pub columns_more : (readings : List Reading) (index : ℕ) (looked : Looked) (before after : List Column)
    → LookedAt readings index looked → before ≡ flat_map column_of (take index readings)
    → after ≡ before ++ as_list looked.facts.column → after ≡ flat_map column_of (take (index + 1) readings)
columns_more readings index looked before after at so_far more =
    more
    ∙ ap (λ all. all ++ as_list looked.facts.column) so_far
    ∙ ap (λ rest. flat_map column_of (take index readings) ++ rest)
    (ap (λ gist. as_list gist.column) at.is.gist ∙ first_list (out-Expr at.one.row)
    ∙ sym (append-nil (column_of at.one)))
    ∙ sym (flat_map-append column_of (take index readings) (at.one ∷ []))
    ∙ ap (flat_map column_of) (sym at.taken)

-- an aggregate more, which stands before the others
pub firsts_more : (whole before left others kept retained after : List Aggregate) (one : Aggregate)
    → whole ≡ before ++ others → before ≡ left ++ one ∷ [] → kept ≡ firsts same_aggregate others
    → retained ≡ filter (λ other. not (same_aggregate one other)) kept → after ≡ one ∷ retained
    → (whole ≡ left ++ one ∷ others) × (after ≡ firsts same_aggregate (one ∷ others))
firsts_more whole before left others kept retained after one whole_is before_is kept_is retained_is after_is = (
  whole_is ∙ ap (λ all. all ++ others) before_is ∙ append_assoc left (one ∷ []) others,
  after_is ∙ ap (λ rest. one ∷ rest) (retained_is ∙ ap (filter (λ other. not (same_aggregate one other)))
      kept_is),
)

-- a column more outside aggregates
pub loose_more : (group : List Column) (loose : List Loose) (i : ℕ) (d : Loose) (before after : Option Fault)
    → i < length loose
    → before ≡ least (loose_among group (loose_at (take i loose)))
    → after ≡ sooner before (least (told (not (list_any (same_column (get_or loose i d).column) group))
    GroupRule (get_or loose i d).place))
    → after ≡ least (loose_among group (loose_at (take (i + 1) loose)))
loose_more group loose i d before after there so_far is =
    is
    ∙ ap (λ one. sooner one (least (told (not (list_any (same_column (get_or loose i d).column) group))
    GroupRule (get_or loose i d).place))) so_far
    ∙ sym (least-push (λ (placed : ℕ × Column). told (not (list_any (same_column placed.1) group)) GroupRule
    placed.0) (loose_at (take i loose))
    ((get_or loose i d).place, (get_or loose i d).column))
    ∙ ap (λ all. least (loose_among group all)) (sym (map_more (λ (one : Loose). (one.place, one.column))
    loose i d there))

loose_cases : (stands : Bool) (group : List Column) (aggregates : List Aggregate) (held : Option Slots)
    (loose : List (ℕ × Column))
    → held ≡ (if stands then Some (record { group = group; aggregates = aggregates }) else None)
    → (if stands then loose_among group loose else []) ≡ loose_by held loose
loose_cases true group aggregates held loose is = ap (λ held. loose_by held loose) (sym is)
loose_cases false group aggregates held loose is = ap (λ held. loose_by held loose) (sym is)

-- What is wrong with the columns of a reading, by the slots of its query.
pub loose_is : (clauses : Clauses) (held : Option Slots) (one : Reading) → held ≡ slots_of clauses
    → loose_faults clauses one ≡ loose_by held one.loose
loose_is clauses held one is =
    loose_cases (groups clauses) (group_columns clauses) (aggregates_of clauses) held one.loose is

told_once : (fault : Fault) (stands : Bool) (others : List Fault)
    → least (told stands fault.kind fault.place) ≡ least others → Some fault ≡ least (fault ∷ others)
told_once fault true others is = same_or (comes_first fault fault) ∙ ap (earlier fault) is
  where
    same_or : (b : Bool) → Some fault ≡ Some (if b then fault else fault)
    same_or true = refl
    same_or false = refl
told_once fault false others is = ap (earlier fault) is

more_told : (kind : ResolveKind) (place : ℕ) (stands rest : Bool) (others : List Fault)
    → least (told rest kind place) ≡ least others
    → least (told (stands || rest) kind place) ≡ least ((told stands kind place ++ []) ++ others)
more_told kind place true rest others is = told_once (fault_at kind place) rest others is
more_told kind place false rest others is = is

pub any_told : {A : Type 0} (test : A → Bool) (kind : ResolveKind) (place : ℕ) (xs : List A)
    → least (told (list_any test xs) kind place) ≡ least (flat_map (λ x. told (test x) kind place ++ []) xs)
any_told test kind place [] = refl
any_told test kind place (x ∷ xs) =
    more_told kind place (test x) (list_any test xs) (flat_map (λ x. told (test x) kind place ++ []) xs)
    (any_told test kind place xs)

pub none_told : {A : Type 0} (xs : List A) → None ≡ least (flat_map (λ (x : A). []) xs)
none_told [] = refl
none_told (x ∷ xs) = none_told xs

grouped : (clauses : Clauses) (stands : Bool) → groups clauses ≡ stands
    → (if stands then Some (record { group = group_columns clauses; aggregates = aggregates_of clauses }) else
    None) ≡ slots_of clauses
grouped clauses stands is =
    ap (λ (stands : Bool). if stands then Some (record {
      group = group_columns clauses;
      aggregates =
          aggregates_of clauses;
    }) else None) (sym is)

pub not_grouped : (clauses : Clauses) → groups clauses ≡ false
    → ◌≡◌ {A = Option Slots} None (slots_of clauses)
not_grouped clauses is = grouped clauses false is

slots_with : List Column → List Aggregate → Option Slots
slots_with group aggregates = Some (record { group = group; aggregates = aggregates })

pub slots_made : (clauses : Clauses) (group : List Column) (aggregates : List Aggregate)
    → groups clauses ≡ true
    → group ≡ group_columns clauses → aggregates ≡ aggregates_of clauses
    → ◌≡◌ {A = Option Slots} (Some (record { group = group; aggregates = aggregates })) (slots_of clauses)
unfolding slots_with
slots_made clauses group aggregates is group_is aggregates_is =
    ap (λ group. slots_with group aggregates) group_is
    ∙ ap (slots_with (group_columns clauses)) aggregates_is
    ∙ grouped clauses true is

-- What is removed is filtered out too.
pub filter_remove : {A : Type 0} (same : A → Bool) (xs : List A) (i : ℕ) (d : A) → i < length xs
    → same (get_or xs i d) ≡ true
    → filter (λ x. not (same x)) (take i xs ++ drop (suc i) xs) ≡ filter (λ x. not (same x)) xs
filter_remove same xs i d there is =
    let next : i + 1 ≡ suc i = omega arith in
    filter-append (λ x. not (same x)) (take i xs) (drop (suc i) xs)
    ∙ ap (λ n. filter (λ x. not (same x)) (take i xs) ++ filter (λ x. not (same x)) (drop n xs)) (sym next)
    ∙ ap (λ (stands : Bool). filter (λ x. not (same x)) (take i xs)
    ++ cond (not stands) (get_or xs i d ∷ filter (λ x. not (same x)) (drop (i + 1) xs))
    (filter (λ x. not (same x)) (drop (i + 1) xs))) (sym is)
    ∙ ap (λ rest. filter (λ x. not (same x)) (take i xs) ++ filter (λ x. not (same x)) rest)
    (sym (drop_more xs i d there))
    ∙ sym (filter-append (λ x. not (same x)) (take i xs) (drop i xs))
    ∙ ap (filter (λ x. not (same x))) (take-append-drop i xs)

rest_by : {A : Type 0} (stands : Bool) (x : A) (xs rest : List A) (n : ℕ)
    → suc (length xs) ≤ cond (not stands) (1 + n) 0
    → (length xs ≤ n → rest ≡ xs) → cond (not stands) (x ∷ rest) rest ≡ x ∷ xs
rest_by true x xs rest n all later = absurd (omega arith)
rest_by false x xs rest n all later = ap (λ rest. x ∷ rest) (later (omega arith))

rest_all : {A : Type 0} (same : A → Bool) (xs : List A) → length xs ≤ position_or_len same xs
    → filter (λ x. not (same x)) xs ≡ xs
rest_all same [] all = refl
rest_all same (x ∷ xs) all =
    rest_by (same x) x xs (filter (λ x. not (same x)) xs) (position_or_len same xs) all (rest_all same xs)

none_below : (n all : ℕ) (stands : Bool) → nat_lt n all ≡ stands → cond stands (Some n) None ≡ None → all ≤ n
none_below n all true less is = absurd (none-some n (sym is))
none_below n all false less is = grind (arith, nat_tests)

-- Where none is the same, nothing is filtered out.
pub rest_of : {A : Type 0} (same : A → Bool) (xs : List A) → position same xs ≡ None
    → filter (λ x. not (same x)) xs ≡ xs
rest_of same xs none =
    rest_all same xs (none_below (position_or_len same xs) (length xs)
    (nat_lt (position_or_len same xs) (length xs)) refl none)
