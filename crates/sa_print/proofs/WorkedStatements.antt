-- The canonical texts of statements, by their definition at examples.
use Rattle.std.proofs.Common.{◌≡◌, ℕ, List, ◌∷◌, [], pos, codes, refl, Some, None, false, true}
use Rattle.std.specs.Fmt.{digits}
use Rattle.sa_value.specs.declared.truth.CompareOp.TheVariants.{Eq, Gt, Ge}
use Rattle.sa_ast.specs.declared.name.NameTree.{NameTree}
use Rattle.sa_ast.specs.declared.expression.AggregateCall.TheVariants.{CountRows}
use Rattle.sa_ast.specs.declared.expression.ExprNode.{ExprNode}
use Rattle.sa_ast.specs.declared.expression.ExprNode.TheVariants as node
use Rattle.sa_ast.specs.declared.expression.ExprTree.{ExprTree, roll-ExprTree, the_lemmas}
use Rattle.sa_ast.specs.declared.kind.AskKind.TheVariants as ask
use Rattle.sa_ast.specs.declared.kind.KillKind.TheVariants as killed
use Rattle.sa_ast.specs.declared.select.ItemTree.{ItemTree}
use Rattle.sa_ast.specs.declared.select.ItemNode.{ItemNode}
use Rattle.sa_ast.specs.declared.select.ItemNode.TheVariants.{Star, TableStar, Value}
use Rattle.sa_ast.specs.declared.select.TableTree.{TableTree}
use Rattle.sa_ast.specs.declared.select.SelectTree.{SelectTree}
use Rattle.sa_ast.specs.declared.statement.Statement.{Statement}
use Rattle.sa_ast.specs.declared.statement.Statement.TheVariants.{Select, Explain, Analyze, Show, Kill, SetTrace, SetLimit, TraceRows, Wait}
use Rattle.sa_print.specs.Name.{canonical_name}
use Rattle.sa_lexer.specs.Reserved.{is_reserved}
use Rattle.sa_print.specs.Statement.{canonical_statement}

abbrev texts : List Statement → List (List ℕ)
texts [] = []
texts (statement ∷ statements) = canonical_statement statement ∷ texts statements

pub short :
    texts (Show ask.Explain 1 ∷ Show ask.Analyze 12 ∷ Kill killed.Query 3 ∷ Kill killed.Connection 1 ∷ SetTrace true ∷ SetTrace false ∷ SetLimit 5 ∷ TraceRows ∷ Wait 1 4 ∷ [])
    ≡ codes "SHOW EXPLAIN FOR 1" ∷ codes "SHOW ANALYZE FOR 12" ∷ codes "KILL QUERY 3" ∷ codes "KILL CONNECTION 1" ∷ codes "SET optimizer_trace = 'enabled=on'"
    ∷ codes "SET optimizer_trace = 'enabled=off'" ∷ codes "SET max_row_steps = 5" ∷ codes "SELECT * FROM information_schema.optimizer_trace" ∷ codes "WAIT FOR 1 AT 4" ∷ []
unfolding digits
short = refl

-- trees, with each place 0

abbrev at : ExprNode → ExprTree
at node = roll-ExprTree (record { node = node; place = 0 })

abbrev column : List ℕ → ExprTree
column name = at (node.Name None name)

abbrev column_of : List ℕ → List ℕ → ExprTree
column_of table name = at (node.Name (Some table) name)

abbrev number : ℕ → ExprTree
number n = at (node.Number (pos n))

abbrev name : List ℕ → NameTree
name text = record { name = text; place = 0 }

abbrev item : ItemNode → ItemTree
item node = record { item = node; place = 0 }

abbrev table : List ℕ → TableTree
table text = record { name = name text; alias = None; joined = false; on = None }

-- SELECT * FROM t
abbrev plain : SelectTree
plain =
    record {
      distinct = false;
      items = item Star ∷ [];
      from = table (codes "t") ∷ [];
      filter = None;
      group = [];
      having = None;
      having_place = 0;
      order = [];
      limit = None;
      offset = 0;
    }

-- the query of the README, with a filter
abbrev filtered : SelectTree
filtered =
    record plain {
      items = item (Value (column (codes "a")) None) ∷ [];
      filter = Some (at (node.Compare Ge (column (codes "a")) (number 2)));
    }

-- each clause of a query
abbrev whole : SelectTree
whole =
    record {
      distinct = true;
      items = item (TableStar (name (codes "t"))) ∷ item (Value (at (node.Add (column (codes "a")) (number 1))) (Some (name (codes "b")))) ∷ [];
      from =
          record (table (codes "t")) { alias = Some (name (codes "x")) }
          ∷ record (table (codes "u")) { joined = true; on = Some (at (node.Compare Eq (column_of (codes "x") (codes "a")) (column_of (codes "u") (codes "a")))) }
          ∷ table (codes "v") ∷ [];
      filter = Some (at (node.And (at (node.Compare Eq (column (codes "a")) (number 1)) ∷ at (node.Compare Eq (column (codes "b")) (number 2)) ∷ [])));
      group = record { value = column (codes "a"); place = 0 } ∷ [];
      having = Some (at (node.Compare Gt (at (node.Aggregate CountRows None)) (number 1)));
      having_place = 0;
      order = record { value = column (codes "a"); down = true; place = 0 } ∷ record { value = column (codes "b"); down = false; place = 0 } ∷ [];
      limit = Some 10;
      offset = 5;
    }

pub queries :
    texts (Select plain ∷ Select filtered ∷ Explain filtered ∷ Analyze plain ∷ Select (record plain { limit = Some 0 }) ∷ [])
    ≡ codes "SELECT * FROM t" ∷ codes "SELECT a FROM t WHERE (a >= 2)" ∷ codes "EXPLAIN SELECT a FROM t WHERE (a >= 2)" ∷ codes "ANALYZE SELECT * FROM t"
    ∷ codes "SELECT * FROM t LIMIT 0" ∷ []
unfolding canonical_name is_reserved digits
queries = simp the_lemmas

pub query-whole :
    canonical_statement (Select whole)
    ≡ codes "SELECT DISTINCT t.*, (a + 1) AS b FROM t AS x JOIN u ON (x.a = u.a), v WHERE ((a = 1) AND (b = 2)) GROUP BY a HAVING (COUNT(*) > 1) ORDER BY a DESC, b LIMIT 10 OFFSET 5"
unfolding canonical_name is_reserved digits
query-whole = simp the_lemmas
