-- A query of all columns of a table that is named like the place of the trace.
use Rattle.std.proofs.Common.{codes, [], ◌∷◌, refl}
use Rattle.sa_ast.specs.declared.expression.ExprTree.{ExprTree}
use Rattle.sa_parser.specs.Form.{Form, Name}
use Rattle.sa_parser.specs.Token.{name_in}
use Rattle.sa_parser.specs.SelectGrammar.{Alias, Item, Table, Joined, Tables, Distinct, Where, Group, Having, Order, Limit, Select}
use Rattle.sa_parser.proofs.Heads.{has, apart, only_word}
use Rattle.sa_parser.proofs.LooksAhead.{Suffices}
use Rattle.sa_parser.proofs.laws.Begins.{one-Suffices, word-Suffices, sign-Suffices, made-Suffices, then-Suffices, first-Suffices, none-Suffices, no_parts-Suffices}
use Rattle.sa_parser.proofs.rules.Names.{free-name, given-name}
use Rattle.sa_parser.proofs.rules.TraceRows.{trace_start}

schema_name-Suffices : Suffices (has (only_word (codes "information_schema")) ∷ []) Name
unfolding apart
schema_name-Suffices =
    one-Suffices name_in (has (only_word (codes "information_schema")))
    (λ token h. given-name token (free-name (codes "information_schema" ∷ []) refl token.kind h))

module _ (Expr : Form ExprTree) where
  pub trace_query-Suffices : Suffices trace_start (Select Expr)
  unfolding Select Distinct Item Tables Joined Table Alias Where Group Having Order Limit
  trace_query-Suffices =
      then-Suffices
      (then-Suffices
      (then-Suffices
      (then-Suffices
      (then-Suffices
      (then-Suffices
      (then-Suffices
      (then-Suffices
      (then-Suffices (made-Suffices _ (word-Suffices (codes "SELECT"))) (made-Suffices _ (none-Suffices _)))
      (then-Suffices (made-Suffices _ (made-Suffices _ (first-Suffices _ (made-Suffices _ (sign-Suffices _))))) (no_parts-Suffices _)))
      (word-Suffices (codes "FROM")))
      (then-Suffices
      (made-Suffices _
      (then-Suffices (made-Suffices _ (made-Suffices _ (then-Suffices (made-Suffices _ schema_name-Suffices) (none-Suffices _)))) (no_parts-Suffices _)))
      (no_parts-Suffices _)))
      (none-Suffices _))
      (made-Suffices _ (none-Suffices _)))
      (none-Suffices _))
      (made-Suffices _ (none-Suffices _)))
      (none-Suffices _)
