-- Which rows answer the text of a SELECT.
use Rattle.std.specs.Prelude.{◌≡◌, ℕ, List, map}
use Rattle.sa_value.specs.declared.value.Value.{Value}
use Rattle.sa_lexer.specs.declared.token.Token.{Token}
use Rattle.sa_lexer.specs.Grammar.{AreTokens}
use Rattle.sa_ast.specs.declared.select.SelectTree.{SelectTree}
use Rattle.sa_ast.specs.declared.statement.Statement.TheVariants as tree
use Rattle.sa_parser.specs.Parse.{IsStatement}
use Rattle.sa_table.specs.Table.{Table}
use Rattle.sa_query.specs.declared.item.Item.{Item}
use Rattle.sa_query.specs.declared.query.Query.{Query}
use Rattle.sa_query.specs.Answers.{AnswersQuery}
use Rattle.sa_resolve.specs.Resolved.{IsQueryOf}

-- The text spells a SELECT, which stands for a query over the tables. The columns have the names of
-- its select list, and the rows answer it.
pub record AnswersText (tables : List Table) (text : List ℕ) (names : List (List ℕ))
    (rows : List (List Value)) : Type 0 where
  pub tokens : List Token
  pub are : AreTokens 0 text tokens
  pub select : SelectTree
  pub read : IsStatement tokens (tree.Select select)
  pub query : Query
  pub resolved : IsQueryOf tables select query
  pub names_are : names ≡ map (λ (item : Item). item.name) query.select
  pub answered : AnswersQuery query tables rows
