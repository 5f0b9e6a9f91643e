-- How a query is read, a definition for each rule of its grammar.
use Rattle.std.specs.Prelude.{ℕ, ◌^◌, Bool, true, false, ◌&&◌, ◌||◌, List, [], ◌∷◌, ◌++◌, codes, is_some, Option}
use Rattle.sa_lexer.specs.declared.sign.Sign.TheVariants as signs
use Rattle.sa_lexer.specs.declared.token.Token.{Token}
use Rattle.sa_ast.specs.declared.name.NameTree.{NameTree}
use Rattle.sa_ast.specs.declared.expression.ExprTree.{ExprTree}
use Rattle.sa_ast.specs.declared.select.ItemTree.{ItemTree}
use Rattle.sa_ast.specs.declared.select.TableTree.{TableTree}
use Rattle.sa_ast.specs.declared.select.GroupTree.{GroupTree}
use Rattle.sa_ast.specs.declared.select.OrderTree.{OrderTree}
use Rattle.sa_ast.specs.declared.select.SelectTree.{SelectTree}
use Rattle.sa_parser.specs.declared.limits.Limits.{Limits}
use Rattle.sa_parser.specs.Token.{is_sign, name_of}
use Rattle.sa_parser.specs.SelectTree.{star_item, table_star_item, value_item, table_tree, joined_table, group_item, order_item, or_else, listed, limits, select_tree}
use Rattle.sa_parser.specs.inner.Reading.{Reader, either, perhaps, chain, placed, ◌<$>◌, ◌<*>◌, word, sign, name, number_below, sees_word, sees_sign, sees_name, commas, after}

-- whether an alias comes next
abbrev pub sees_alias : List Token → Bool
sees_alias tokens = sees_word (codes "AS") tokens || sees_name tokens

unfoldable pub alias : Reader (Option NameTree)
alias = perhaps sees_alias (either (sees_word (codes "AS")) (after (codes "AS") name) name)

-- whether a name, a dot and a star come next
unfoldable pub sees_table_star : List Token → Bool
sees_table_star (first ∷ second ∷ third ∷ rest) =
    is_some (name_of first.kind) && (is_sign signs.Dot second.kind && is_sign signs.Star third.kind)
sees_table_star tokens = false

unfoldable pub item : Reader ExprTree → Reader ItemTree
item expr =
    either (sees_sign signs.Star) (star_item <$> sign signs.Star)
    (either sees_table_star (table_star_item <$> name <*> sign signs.Dot <*> sign signs.Star)
    (placed value_item ((λ value alias. (value, alias)) <$> expr <*> alias)))

unfoldable pub table : Reader TableTree
table = table_tree <$> name <*> alias

-- whether INNER or CROSS comes next
abbrev pub sees_side : List Token → Bool
sees_side tokens = sees_word (codes "INNER") tokens || sees_word (codes "CROSS") tokens

abbrev pub sees_join : List Token → Bool
sees_join tokens = sees_side tokens || sees_word (codes "JOIN") tokens

unfoldable pub join : Reader ℕ
join = (λ _ join. join) <$> perhaps sees_side
    (either (sees_word (codes "INNER")) (word (codes "INNER")) (word (codes "CROSS"))) <*> word
    (codes "JOIN")

unfoldable pub joined : Reader ExprTree → Reader (List TableTree)
joined expr =
    chain ((λ table. table ∷ []) <$> table) sees_join (λ tables next. tables ++ next ∷ [])
    (joined_table <$> join <*> table <*> perhaps (sees_word (codes "ON")) (after (codes "ON") expr))

unfoldable pub tables : Reader ExprTree → Reader (List TableTree)
tables expr = chain (joined expr) (sees_sign signs.Comma) (λ tables next. tables ++ next)
    ((λ _ next. next) <$> sign signs.Comma <*> joined expr)

-- whether ALL or DISTINCT comes next
abbrev pub sees_distinct : List Token → Bool
sees_distinct tokens = sees_word (codes "ALL") tokens || sees_word (codes "DISTINCT") tokens

unfoldable pub distinct : Reader Bool
distinct =
    or_else false <$> perhaps sees_distinct
    (either (sees_word (codes "ALL")) ((λ _. false) <$> word (codes "ALL"))
    ((λ _. true) <$> word (codes "DISTINCT")))

unfoldable pub where_part : Reader ExprTree → Reader (Option ExprTree)
where_part expr = perhaps (sees_word (codes "WHERE")) (after (codes "WHERE") expr)

unfoldable pub group : Reader ExprTree → Reader (List GroupTree)
group expr =
    listed <$> perhaps (sees_word (codes "GROUP"))
    ((λ _ _ items. items) <$> word (codes "GROUP") <*> word (codes "BY") <*> commas
    (placed group_item expr))

unfoldable pub having : Reader ExprTree → Reader (Option (ℕ × ExprTree))
having expr = perhaps (sees_word (codes "HAVING"))
    ((λ place value. (place, value)) <$> word (codes "HAVING") <*> expr)

-- whether ASC or DESC comes next
abbrev pub sees_direction : List Token → Bool
sees_direction tokens = sees_word (codes "ASC") tokens || sees_word (codes "DESC") tokens

unfoldable pub direction : Reader Bool
direction =
    or_else false <$> perhaps sees_direction
    (either (sees_word (codes "ASC")) ((λ _. false) <$> word (codes "ASC"))
    ((λ _. true) <$> word (codes "DESC")))

unfoldable pub order_item_read : Reader ExprTree → Reader OrderTree
order_item_read expr = placed order_item ((λ value down. (value, down)) <$> expr <*> direction)

unfoldable pub order : Reader ExprTree → Reader (List OrderTree)
order expr =
    listed <$> perhaps (sees_word (codes "ORDER"))
    ((λ _ _ items. items) <$> word (codes "ORDER") <*> word (codes "BY") <*> commas
    (order_item_read expr))

-- whether a second number of a LIMIT comes next
abbrev pub sees_second : List Token → Bool
sees_second tokens = sees_sign signs.Comma tokens || sees_word (codes "OFFSET") tokens

unfoldable pub second_limit : Reader (Bool × ℕ)
second_limit =
    either (sees_sign signs.Comma)
    ((λ _ second. (true, second)) <$> sign signs.Comma <*> number_below (2 ^ 64))
    ((λ _ second. (false, second)) <$> word (codes "OFFSET") <*> number_below (2 ^ 64))

unfoldable pub limit : Reader (Option Limits)
limit =
    perhaps (sees_word (codes "LIMIT"))
    ((λ _ found. found) <$> word (codes "LIMIT") <*>
    (limits <$> number_below (2 ^ 64) <*> perhaps sees_second second_limit))

unfoldable pub select : Reader ExprTree → Reader SelectTree
select expr =
    select_tree <$> word (codes "SELECT") <*> distinct <*> commas (item expr) <*> word
    (codes "FROM") <*> tables expr
    <*> where_part expr <*> group expr <*> having expr <*> order expr <*> limit
