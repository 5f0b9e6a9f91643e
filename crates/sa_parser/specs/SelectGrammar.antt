-- The grammar of a query, a definition for each rule, over the form of its expressions.
-- Source: MariaDB Knowledge Base, "SELECT", "JOIN Syntax", "LIMIT".
use Rattle.std.specs.Prelude.{ℕ, ◌^◌, Bool, true, false, List, [], ◌∷◌, ◌++◌, codes, Option}
use Rattle.sa_lexer.specs.declared.sign.Sign.TheVariants as signs
use Rattle.sa_ast.specs.declared.name.NameTree.{NameTree}
use Rattle.sa_ast.specs.declared.expression.ExprTree.{ExprTree}
use Rattle.sa_ast.specs.declared.select.ItemTree.{ItemTree}
use Rattle.sa_ast.specs.declared.select.TableTree.{TableTree}
use Rattle.sa_ast.specs.declared.select.GroupTree.{GroupTree}
use Rattle.sa_ast.specs.declared.select.OrderTree.{OrderTree}
use Rattle.sa_ast.specs.declared.select.SelectTree.{SelectTree}
use Rattle.sa_parser.specs.declared.limits.Limits.{Limits}
use Rattle.sa_parser.specs.SelectTree.{star_item, table_star_item, value_item, table_tree, joined_table, group_item, order_item, or_else, listed, limits, select_tree}
use Rattle.sa_parser.specs.Form.{Form, Perhaps, Chain, Placed, ◌<$>◌, ◌<*>◌, ◌<|>◌, Word, Sign, Name, NumberBelow, Commas, After}

-- an alias, with AS or without it
unfoldable pub Alias : Form (Option NameTree)
Alias = Perhaps (After (codes "AS") Name <|> Name)

-- `*`, `t.*`, or an expression with its alias
unfoldable pub Item : Form ExprTree → Form ItemTree
Item Expr =
    star_item <$> Sign signs.Star
    <|> (table_star_item <$> Name <*> Sign signs.Dot <*> Sign signs.Star
    <|> Placed value_item ((λ value alias. (value, alias)) <$> Expr <*> Alias))

unfoldable pub Table : Form TableTree
Table = table_tree <$> Name <*> Alias

-- INNER and CROSS say nothing more.
unfoldable pub Join : Form ℕ
Join = (λ _ join. join) <$> Perhaps (Word (codes "INNER") <|> Word (codes "CROSS")) <*> Word
    (codes "JOIN")

unfoldable pub Joined : Form ExprTree → Form (List TableTree)
Joined Expr =
    Chain ((λ table. table ∷ []) <$> Table) (λ tables next. tables ++ next ∷ [])
    (joined_table <$> Join <*> Table <*> Perhaps (After (codes "ON") Expr))

unfoldable pub Tables : Form ExprTree → Form (List TableTree)
Tables Expr = Chain (Joined Expr) (λ tables next. tables ++ next)
    ((λ _ next. next) <$> Sign signs.Comma <*> Joined Expr)

unfoldable pub Distinct : Form Bool
Distinct = or_else false <$> Perhaps
    ((λ _. false) <$> Word (codes "ALL") <|> (λ _. true) <$> Word (codes "DISTINCT"))

unfoldable pub Where : Form ExprTree → Form (Option ExprTree)
Where Expr = Perhaps (After (codes "WHERE") Expr)

unfoldable pub Group : Form ExprTree → Form (List GroupTree)
Group Expr = listed <$> Perhaps
    ((λ _ _ items. items) <$> Word (codes "GROUP") <*> Word (codes "BY") <*> Commas
    (Placed group_item Expr))

unfoldable pub Having : Form ExprTree → Form (Option (ℕ × ExprTree))
Having Expr = Perhaps ((λ place value. (place, value)) <$> Word (codes "HAVING") <*> Expr)

-- Rising is what nothing says.
unfoldable pub Direction : Form Bool
Direction = or_else false <$> Perhaps
    ((λ _. false) <$> Word (codes "ASC") <|> (λ _. true) <$> Word (codes "DESC"))

unfoldable pub OrderItem : Form ExprTree → Form OrderTree
OrderItem Expr = Placed order_item ((λ value down. (value, down)) <$> Expr <*> Direction)

unfoldable pub Order : Form ExprTree → Form (List OrderTree)
Order Expr = listed <$> Perhaps
    ((λ _ _ items. items) <$> Word (codes "ORDER") <*> Word (codes "BY") <*> Commas
    (OrderItem Expr))

-- A number of rows is below 2^64.
unfoldable pub Limit : Form (Option Limits)
Limit =
    Perhaps ((λ _ found. found) <$> Word (codes "LIMIT") <*> (limits <$> NumberBelow (2 ^ 64) <*>
    Perhaps ((λ _ second. (true, second)) <$> Sign signs.Comma <*> NumberBelow (2 ^ 64)
    <|> (λ _ second. (false, second)) <$> Word (codes "OFFSET") <*> NumberBelow (2 ^ 64))))

-- a query
unfoldable pub Select : Form ExprTree → Form SelectTree
Select Expr =
    select_tree <$> Word (codes "SELECT") <*> Distinct <*> Commas (Item Expr) <*> Word
    (codes "FROM") <*> Tables Expr
    <*> Where Expr <*> Group Expr <*> Having Expr <*> Order Expr <*> Limit
