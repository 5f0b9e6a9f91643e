-- What is a value where no alias is sought stands for no condition.
use Rattle.std.proofs.Common.{◌≡◌, ℕ, List, Option, Some, None, refl, sym, ap, ◌∙◌}
use Rattle.sa_ast.specs.declared.expression.ExprNode.{ExprNode, ExprNode-F, fold_out-ExprNode, map-ExprNode, out-ExprNode}
use Rattle.sa_ast.specs.declared.expression.ExprTree.{ExprTree}
use Rattle.sa_cond.specs.Interval.{ExprKind}
use Rattle.sa_table.specs.Table.{Table}
use Rattle.sa_query.specs.declared.group.Column.{Column}
use Rattle.sa_resolve.specs.Expression.{Scope, by_column, name_reading, never, node_reading, plain_reading, reading}
use Rattle.sa_resolve.specs.Reading.{Reading, value, no_cond}
use Rattle.sa_resolve.specs.Sight.{Found, one, none, several, plain, qualified}
use Rattle.sa_resolve.proofs.walk.Readings.{at, read, reading-at}

module _ (tables : List Table) (scope : Scope) where
  abbrev pub layer_at : ExprNode-F ExprNode ExprTree → ExprNode-F (ℕ → Reading) Reading
  layer_at layer = map-ExprNode ExprNode ExprTree (ℕ → Reading) Reading (at tables scope) (read tables scope)
      layer

  -- the reading of an expression, by its node
  pub reading-layer : (tree : ExprTree) → reading tables scope tree
      ≡ node_reading tables scope (layer_at (out-ExprNode tree.node)) tree.place
  reading-layer tree =
      reading-at tables scope tree
      ∙ ap (λ (reading_at : ℕ → Reading). reading_at tree.place)
      (fold_out-ExprNode (ℕ → Reading) Reading (node_reading tables scope) (λ tree. tree.node tree.place)
      tree.node)

  pub column_cond : (place : ℕ) (found : Found Column) → (by_column tables scope place found).cond ≡ no_cond
  column_cond place (one column) = refl
  column_cond place none = refl
  column_cond place several = refl

  name_cond : (place : ℕ) (table : Option (List ℕ)) (name : List ℕ) → scope.seeks ≡ never
      → (name_reading tables scope place table name).cond ≡ no_cond
  name_cond place None name seeks =
      ap (λ seeks. (plain_reading tables scope seeks place name).cond) seeks
      ∙ column_cond place (plain tables scope.sources name)
  name_cond place (Some alias) name seeks = column_cond place (qualified tables scope.sources alias name)

  layer_cond : (layer : ExprNode-F ExprNode ExprTree) (place : ℕ) (kind : ExprKind) → scope.seeks ≡ never
      → (node_reading tables scope (layer_at layer) place).sort ≡ value kind
      → (node_reading tables scope (layer_at layer) place).cond ≡ no_cond
  layer_cond (ExprNode-F.Number number) place kind seeks is = refl
  layer_cond (ExprNode-F.Text literal) place kind seeks is = refl
  layer_cond ExprNode-F.Null place kind seeks is = refl
  layer_cond (ExprNode-F.Known holds) place kind seeks is = (cc)
  layer_cond (ExprNode-F.Name table column) place kind seeks is = name_cond place table column seeks
  layer_cond (ExprNode-F.Aggregate call argument) place kind seeks is = refl
  layer_cond (ExprNode-F.Negate x) place kind seeks is = refl
  layer_cond (ExprNode-F.Compare op x y) place kind seeks is = (cc)
  layer_cond (ExprNode-F.IsNull x negated) place kind seeks is = (cc)
  layer_cond (ExprNode-F.Between x low high negated) place kind seeks is = (cc)
  layer_cond (ExprNode-F.Among x list negated) place kind seeks is = (cc)
  layer_cond (ExprNode-F.And members) place kind seeks is = (cc)
  layer_cond (ExprNode-F.Or members) place kind seeks is = (cc)
  layer_cond (ExprNode-F.Not x) place kind seeks is = (cc)
  layer_cond (ExprNode-F.Add x y) place kind seeks is = refl
  layer_cond (ExprNode-F.Subtract x y) place kind seeks is = refl
  layer_cond (ExprNode-F.Multiply x y) place kind seeks is = refl

  -- Such an item of the select list stands for no condition.
  pub value_cond : (tree : ExprTree) (kind : ExprKind) → scope.seeks ≡ never
      → (reading tables scope tree).sort ≡ value kind → (reading tables scope tree).cond ≡ no_cond
  value_cond tree kind seeks is =
      ap (λ (one : Reading). one.cond) (reading-layer tree)
      ∙ layer_cond (out-ExprNode tree.node) tree.place kind seeks
      (sym (ap (λ (one : Reading). one.sort) (reading-layer tree)) ∙ is)
