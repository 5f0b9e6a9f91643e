-- By which equalities of a query's filter the parts of a key are sought.
use Rattle.std.specs.Prelude.{ℕ, Bool, true, false, ◌&&◌, ◌==◌, List, [], ◌∷◌, Option, Some, None, if◌then◌else◌}
use Rattle.std.specs.List.{list_any}
use Rattle.std.specs.Option.{option_or}
use Rattle.sa_value.specs.declared.truth.CompareOp.TheVariants.{Eq}
use Rattle.sa_value.specs.declared.value.Value.TheVariants.{Null}
use Rattle.sa_cond.specs.declared.cond.Cond.{Cond, Cond-F, out-Cond}
use Rattle.sa_cond.specs.declared.expr.Expr.{Expr, Expr-F, out-Expr}
use Rattle.sa_plan.specs.declared.access.RefPart.{RefPart}
use Rattle.sa_plan.specs.declared.access.RefPart.TheVariants.{Literal, Column}
use Rattle.sa_simplify.specs.Flatten.{conjuncts_of}
use Rattle.sa_index.specs.Indexed.{parts_of}
use Rattle.sa_access.specs.Asked.{Asked, asked_table}

-- whether an expression is this column of the table in this position
abbrev pub is_column : (position number : ℕ) → Expr-F Expr → Bool
is_column position number (Expr-F.Column other column) = other == position && column == number
is_column position number node = false

-- what an expression seeks by: a literal that isn't NULL, or a column of an earlier table
abbrev pub seeks_by : (earlier : List ℕ) → Expr-F Expr → Option RefPart
seeks_by earlier (Expr-F.Literal Null) = None
seeks_by earlier (Expr-F.Literal value) = Some (Literal value)
seeks_by earlier (Expr-F.Column position number) =
    if list_any (λ one. one == position) earlier then Some (Column position number) else None
seeks_by earlier node = None

-- what the column of the table in this position is sought by where these two are equal
abbrev pub equal_to : (earlier : List ℕ) → (position number : ℕ) → (left right : Expr-F Expr)
    → Option RefPart
equal_to earlier position number left right =
    if is_column position number left then seeks_by earlier right
    else if is_column position number right then seeks_by earlier left
    else None

-- what a condition seeks the column by, if it is an equality of it
abbrev pub sought_in : (earlier : List ℕ) → (position number : ℕ) → Cond-F Cond → Option RefPart
sought_in earlier position number (Cond-F.Compare Eq left right) =
    equal_to earlier position number (out-Expr left) (out-Expr right)
sought_in earlier position number node = None

-- the first of these conditions that seeks the column says by what
abbrev pub first_sought : (earlier : List ℕ) → (position number : ℕ) → List Cond → Option RefPart
first_sought earlier position number [] = None
first_sought earlier position number (cond ∷ conds) =
    option_or (sought_in earlier position number (out-Cond cond))
    (first_sought earlier position number conds)

-- what stands first where nothing follows on None
abbrev pub cons_some : Option RefPart → List RefPart → List RefPart
cons_some None behind = []
cons_some (Some part) behind = part ∷ behind

-- what these columns are sought by, from the first on, as long as each is
abbrev pub sought_parts : Asked → List ℕ → List RefPart
sought_parts asked [] = []
sought_parts asked (number ∷ numbers) =
    cons_some
    (first_sought asked.earlier asked.position number (conjuncts_of asked.query.filter))
    (sought_parts asked numbers)

-- what the parts of a key are
abbrev pub sought_of : Asked → (key : ℕ) → List RefPart
sought_of asked key = sought_parts asked (parts_of asked.tables (asked_table asked) key)

abbrev pub is_literal : RefPart → Bool
is_literal (Literal value) = true
is_literal (Column position number) = false
