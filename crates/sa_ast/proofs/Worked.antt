-- Trees without places, by their definition at examples.
use Rattle.std.proofs.Common.{◌≡◌, ℕ, ◌∷◌, [], codes, refl, Some, None, false, pos}
use Rattle.sa_ast.specs.declared.expression.ExprNode.{ExprNode}
use Rattle.sa_ast.specs.declared.expression.ExprNode.TheVariants as node
use Rattle.sa_ast.specs.declared.expression.ExprTree.{ExprTree, roll-ExprTree, the_lemmas}
use Rattle.sa_ast.specs.declared.select.ItemNode.TheVariants.{Star}
use Rattle.sa_ast.specs.declared.select.SelectTree.{SelectTree}
use Rattle.sa_ast.specs.declared.statement.Statement.TheVariants.{Select, Wait}
use Rattle.sa_ast.specs.Place.{unplaced_expr, unplaced}

-- a node that stands somewhere
abbrev at : ℕ → ExprNode → ExprTree
at place node = roll-ExprTree (record { node = node; place = place })

-- NOT a AND (b IN (1, c)), with these places
abbrev condition : ℕ → ℕ → ℕ → ℕ → ℕ → ℕ → ℕ → ExprTree
condition and not a among b one c =
    at and (node.And
    (at not (node.Not (at a (node.Name None (codes "a"))))
    ∷ at among (node.Among (at b (node.Name None (codes "b"))) (at one (node.Number (pos 1)) ∷ at c (node.Name None (codes "c")) ∷ []) false) ∷ []))

-- each expression in it is put at 0
pub condition-unplaced : unplaced_expr (condition 6 0 4 13 11 17 20) ≡ condition 0 0 0 0 0 0 0
condition-unplaced = simp the_lemmas

-- a query with each place of its own
abbrev query : ℕ → ℕ → ℕ → ℕ → ℕ → ℕ → SelectTree
query item table having_place having group order =
    record {
      distinct = false;
      items = record { item = Star; place = item } ∷ [];
      from = record { name = record { name = codes "t"; place = table }; alias = None; joined = false; on = None } ∷ [];
      filter = None;
      group = record { value = at group (node.Name None (codes "a")); place = group } ∷ [];
      having = Some (at having node.Null);
      having_place = having_place;
      order = record { value = at order (node.Name None (codes "a")); down = false; place = order } ∷ [];
      limit = None;
      offset = 3;
    }

pub query-unplaced : unplaced (Select (query 7 14 29 36 27 50)) ≡ Select (query 0 0 0 0 0 0)
query-unplaced = simp the_lemmas

-- what has no place stays
pub wait-unplaced : unplaced (Wait 1 4) ≡ Wait 1 4
wait-unplaced = refl
