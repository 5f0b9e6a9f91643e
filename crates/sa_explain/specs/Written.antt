-- How a document writes a condition of a plan: as a statement would, each column after the alias of
-- its table.
use Rattle.std.specs.Prelude.{ℕ, true, false, ◌==◌, List, [], ◌∷◌, map, Some, if◌then◌else◌}
use Rattle.sa_value.specs.declared.truth.Truth.{Truth}
use Rattle.sa_value.specs.declared.truth.Truth.TheVariants.{False, Unknown, True}
use Rattle.sa_value.specs.declared.value.Value.{Value}
use Rattle.sa_value.specs.declared.value.Value.TheVariants.{Null, Int, Big, Text}
use Rattle.sa_ast.specs.declared.expression.ExprNode.{ExprNode-F}
use Rattle.sa_print.specs.Expression.{node_text}
use Rattle.sa_cond.specs.declared.cond.Cond.{Cond, Cond-F, fold-Cond}
use Rattle.sa_cond.specs.declared.expr.Expr.{Expr, Expr-F, fold-Expr}
use Rattle.sa_plan.specs.declared.names.TableNames.{TableNames}
use Rattle.sa_plan.specs.declared.plan.Level.{Level}
use Rattle.sa_plan.specs.Names.{column_name}

-- A node of a statement's expression, with the text of each expression below in its place.
abbrev pub Node : Type 0
Node = ExprNode-F (List ℕ) (List ℕ)

abbrev pub literal_node : Value → Node
literal_node Null = ExprNode-F.Null
literal_node (Int number) = ExprNode-F.Number number
literal_node (Big number) = ExprNode-F.Number number
literal_node (Text text) = ExprNode-F.Text text

-- the truth literals are TRUE, FALSE and NULL
abbrev pub truth_node : Truth → Node
truth_node True = ExprNode-F.Known true
truth_node False = ExprNode-F.Known false
truth_node Unknown = ExprNode-F.Null

-- what stands for the column of the table with this position in FROM; NULL where no level has it
abbrev pub column_node : List TableNames → List Level → (position column : ℕ) → Node
column_node names [] position column = ExprNode-F.Null
column_node names (level ∷ levels) position column =
    if level.position == position
    then ExprNode-F.Name (Some level.alias) (column_name names level.table column)
    else column_node names levels position column

-- One node of a plan's expression as one of a statement's. Without groups no slot is there.
abbrev pub expr_node : List TableNames → List Level → Expr-F (List ℕ) → Node
expr_node names levels (Expr-F.Column position column) = column_node names levels position column
expr_node names levels (Expr-F.Slot number) = ExprNode-F.Null
expr_node names levels (Expr-F.Literal value) = literal_node value
expr_node names levels (Expr-F.Negate x) = ExprNode-F.Negate x
expr_node names levels (Expr-F.Add x y) = ExprNode-F.Add x y
expr_node names levels (Expr-F.Subtract x y) = ExprNode-F.Subtract x y
expr_node names levels (Expr-F.Multiply x y) = ExprNode-F.Multiply x y

abbrev pub expr_text : List TableNames → List Level → Expr → List ℕ
expr_text names levels = fold-Expr (List ℕ) (λ node. node_text (expr_node names levels node))

-- One node of a plan's condition as one of a statement's.
abbrev pub cond_node : List TableNames → List Level → Cond-F (List ℕ) → Node
cond_node names levels (Cond-F.Known truth) = truth_node truth
cond_node names levels (Cond-F.Compare op left right) =
    ExprNode-F.Compare op (expr_text names levels left) (expr_text names levels right)
cond_node names levels (Cond-F.IsNull x) = ExprNode-F.IsNull (expr_text names levels x) false
cond_node names levels (Cond-F.NotNull x) = ExprNode-F.IsNull (expr_text names levels x) true
cond_node names levels (Cond-F.Between value low high) =
    ExprNode-F.Between (expr_text names levels value) (expr_text names levels low)
    (expr_text names levels high) false
cond_node names levels (Cond-F.Among value list) =
    ExprNode-F.Among (expr_text names levels value) (map (expr_text names levels) list) false
cond_node names levels (Cond-F.And members) = ExprNode-F.And members
cond_node names levels (Cond-F.Or members) = ExprNode-F.Or members
cond_node names levels (Cond-F.Not x) = ExprNode-F.Not x

abbrev pub cond_text : List TableNames → List Level → Cond → List ℕ
cond_text names levels = fold-Cond (List ℕ) (λ node. node_text (cond_node names levels node))
