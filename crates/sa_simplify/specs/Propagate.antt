-- The seventh step of simplification: equalities with literals are handed on over equalities of
-- columns.
--
-- Let the conjuncts be the members of the outermost AND, or the one condition. While there are two
-- of them, `x = y` of two different columns and an equality of one of these two with a literal c
-- that isn't NULL, such that the other column's equality with c isn't a conjunct, that equality is
-- put at the end: for the first such `x = y`, and then the first such equality.
use Rattle.std.specs.Prelude.{◌≡◌, ℕ, zero, suc, ◌*◌, ◌==◌, Bool, false, ◌&&◌, Option, Some, None, List, [], ◌∷◌, ◌++◌, length, if◌then◌else◌}
use Rattle.std.specs.List.{list_any}
use Rattle.std.specs.Option.{option_map_or}
use Rattle.sa_value.specs.declared.truth.CompareOp.TheVariants.{Eq}
use Rattle.sa_value.specs.declared.value.Value.{Value}
use Rattle.sa_value.specs.declared.value.Value.TheVariants.{Null}
use Rattle.sa_value.specs.Compare.{holds_at, order_of}
use Rattle.sa_cond.specs.declared.cond.Cond.{Cond, Cond-F, out-Cond}
use Rattle.sa_cond.specs.declared.cond.Cond.TheVariants.{Compare, And}
use Rattle.sa_cond.specs.declared.expr.Expr.{Expr}
use Rattle.sa_cond.specs.declared.expr.Expr.TheVariants.{Column, Literal}
use Rattle.sa_simplify.specs.declared.equality.Place.{Place}

abbrev pub is_same_place : Place → Place → Bool
is_same_place x y = x.table == y.table && x.column == y.column

-- An equality of two columns, and one of a column with a literal.
pub record Join : Type 0 where
  pub left : Place
  pub right : Place

pub record Fix : Type 0 where
  pub place : Place
  pub literal : Value

abbrev pub join_of : Place → Place → Option Join
join_of x y = if is_same_place x y then None else Some (record { left = x; right = y })

abbrev pub join_between : Expr → Expr → Option Join
join_between (Column table column) (Column table' column') =
    join_of (record { table = table; column = column }) (record { table = table'; column = column' })
join_between left right = None

-- the two different columns that a condition says are equal
abbrev pub join_in : Cond → Option Join
join_in (Compare Eq left right) = join_between left right
join_in cond = None

abbrev pub fix_of : Place → Value → Option Fix
fix_of x Null = None
fix_of x literal = Some (record { place = x; literal = literal })

abbrev pub fix_between : Expr → Expr → Option Fix
fix_between (Column table column) (Literal value) =
    fix_of (record { table = table; column = column }) value
fix_between left right = None

-- the column that a condition says equals a literal other than NULL
abbrev pub fix_in : Cond → Option Fix
fix_in (Compare Eq left right) = fix_between left right
fix_in cond = None

abbrev pub fix_condition : Fix → Cond
fix_condition fix = Compare Eq (Column fix.place.table fix.place.column) (Literal fix.literal)

-- whether a condition is this equality
abbrev pub is_fix : Fix → Option Fix → Bool
is_fix fix None = false
is_fix fix (Some other) =
    is_same_place fix.place other.place && holds_at Eq (order_of fix.literal other.literal)

abbrev pub is_there : List Cond → Fix → Bool
is_there conjuncts fix = list_any (λ conjunct. is_fix fix (fix_in conjunct)) conjuncts

-- the other one of the two columns that are equal
abbrev pub other_place : Join → Place → Option Place
other_place join x = if is_same_place x join.left then Some join.right
    else (if is_same_place x join.right then Some join.left else None)

abbrev pub unless_there : List Cond → Fix → Option Fix
unless_there conjuncts fix = if is_there conjuncts fix then None else Some fix

abbrev pub handed_to : List Cond → Option Place → Value → Option Fix
handed_to conjuncts None literal = None
handed_to conjuncts (Some x) literal = unless_there conjuncts (record { place = x; literal = literal })

-- the equality that two conjuncts hand on, unless it is there
abbrev pub handed_by : List Cond → Option Join → Option Fix → Option Fix
handed_by conjuncts None fix = None
handed_by conjuncts (Some join) None = None
handed_by conjuncts (Some join) (Some fix) =
    handed_to conjuncts (other_place join fix.place) fix.literal

-- the first thing that a list's members give
abbrev pub or_else : {A : Type 0} → Option A → Option A → Option A
or_else None other = other
or_else (Some x) other = Some x

abbrev pub first_given : {A B : Type 0} → (A → Option B) → List A → Option B
first_given f [] = None
first_given f (x ∷ xs) = or_else (f x) (first_given f xs)

-- what the first conjunct that hands on something hands on first
unfoldable pub next_handed : List Cond → Option Fix
next_handed conjuncts =
    first_given
    (λ first. first_given
    (λ second. handed_by conjuncts (join_in first) (fix_in second)) conjuncts) conjuncts

-- Equalities are put at the end, one after another, until there is none.
pub data HandsOn : List Cond → List Cond → Type 0 where
  ends : {conjuncts : List Cond} → next_handed conjuncts ≡ None → HandsOn conjuncts conjuncts
  hands : {conjuncts whole : List Cond} {fix : Fix} → next_handed conjuncts ≡ Some fix →
      HandsOn (conjuncts ++ fix_condition fix ∷ []) whole → HandsOn conjuncts whole

-- the same as a function: at most so many equalities are put at the end
abbrev pub handed_at_most : ℕ → List Cond → List Cond
handed_at_most zero conjuncts = conjuncts
handed_at_most (suc n) conjuncts =
    option_map_or (λ fix. handed_at_most n (conjuncts ++ fix_condition fix ∷ []))
    (next_handed conjuncts) conjuncts

-- Each two conjuncts can hand on two equalities, and what was handed on brings no new literal.
unfoldable pub handed_all : List Cond → List Cond
handed_all conjuncts = handed_at_most (2 * (length conjuncts * length conjuncts)) conjuncts

-- The outermost node, of which an AND has its conjuncts; any other, `whole`, hands on nothing.
abbrev pub node_propagated : Cond-F Cond → Cond → Cond
node_propagated (Cond-F.And members) whole = And (handed_all members)
node_propagated node whole = whole

-- the whole condition
unfoldable pub propagated : Cond → Cond
propagated cond = node_propagated (out-Cond cond) cond
