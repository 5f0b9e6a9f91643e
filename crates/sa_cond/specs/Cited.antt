-- Which columns and slots a tree names.
use Rattle.std.specs.Prelude.{◌≡◌, ℕ, List, [], ◌∷◌, ◌++◌, All, true}
use Rattle.std.specs.List.{flat_map}
use Rattle.sa_cond.specs.declared.cond.Cond.{Cond, Cond-F, fold-Cond}
use Rattle.sa_cond.specs.declared.expr.Expr.{Expr, Expr-F, fold-Expr}
use Rattle.sa_cond.specs.Choice.{Choice}
use Rattle.sa_cond.specs.Interval.{CellKinds, expr_kind}
use Rattle.sa_cond.specs.Typed.{MeetsKind, is_proper, is_well_typed}

-- A column by its table's position and its number, or a slot by its number.
pub data Name : Type 0 where
  column : (table column : ℕ) → Name
  slot : (number : ℕ) → Name

-- One node, with what each expression below names in its place.
abbrev pub node_names : Expr-F (List Name) → List Name
node_names (Expr-F.Column table number) = column table number ∷ []
node_names (Expr-F.Slot number) = slot number ∷ []
node_names (Expr-F.Literal value) = []
node_names (Expr-F.Negate x) = x
node_names (Expr-F.Add x y) = x ++ y
node_names (Expr-F.Subtract x y) = x ++ y
node_names (Expr-F.Multiply x y) = x ++ y

-- what an expression names, from left to right
abbrev pub expr_names : Expr → List Name
expr_names = fold-Expr (List Name) node_names

abbrev pub cond_node_names : Cond-F (List Name) → List Name
cond_node_names (Cond-F.Known truth) = []
cond_node_names (Cond-F.Compare op left right) = expr_names left ++ expr_names right
cond_node_names (Cond-F.IsNull x) = expr_names x
cond_node_names (Cond-F.NotNull x) = expr_names x
cond_node_names (Cond-F.Between value low high) = expr_names value ++ expr_names low ++ expr_names high
cond_node_names (Cond-F.Among value list) = expr_names value ++ flat_map expr_names list
cond_node_names (Cond-F.And members) = flat_map (λ names. names) members
cond_node_names (Cond-F.Or members) = flat_map (λ names. names) members
cond_node_names (Cond-F.Not x) = x

-- what a condition names, from left to right
abbrev pub cond_names : Cond → List Name
cond_names = fold-Cond (List Name) cond_node_names

-- What is named is there.
abbrev pub IsThere : ((table column : ℕ) → Type 0) → ((number : ℕ) → Type 0) → Name → Type 0
IsThere has_column has_slot (column table number) = has_column table number
IsThere has_column has_slot (slot number) = has_slot number

-- A cell that is named meets its kind.
abbrev pub MeetsName : CellKinds → Choice → Name → Type 0
MeetsName kinds choice (column table number) =
    MeetsKind (kinds.column table number) (choice.cell table number)
MeetsName kinds choice (slot number) = MeetsKind (kinds.slot number) (choice.slot number)

-- An expression can be evaluated: with kinds that its cells meet it is well-typed, and its
-- arithmetic stays in the range of BIGINT.
pub record CanEvaluate (choice : Choice) (expr : Expr) : Type 0 where
  pub kinds : CellKinds
  pub met : All (MeetsName kinds choice) (expr_names expr)
  pub typed : is_proper (expr_kind kinds expr) ≡ true

-- A condition can be evaluated, in the same sense.
pub record CanTest (choice : Choice) (cond : Cond) : Type 0 where
  pub kinds : CellKinds
  pub met : All (MeetsName kinds choice) (cond_names cond)
  pub typed : is_well_typed kinds cond ≡ true
