-- Each query that the tokens of a text spell is read back from its canonical text.
use Rattle.std.proofs.Common.{◌≡◌, ℕ, ◌^◌, ◌<◌, Bool, true, false, List, [], ◌∷◌, ◌++◌, codes, Option, Some, None, refl, lit<}
use Rattle.std.specs.List.{AllByRecursion}
use Rattle.std.proofs.lemmas.Bool.{true≢false}
use Rattle.sa_lexer.specs.declared.sign.Sign.TheVariants as signs
use Rattle.sa_ast.specs.declared.name.NameTree.{NameTree}
use Rattle.sa_ast.specs.declared.expression.ExprTree.{ExprTree}
use Rattle.sa_ast.specs.declared.select.ItemTree.{ItemTree}
use Rattle.sa_ast.specs.declared.select.TableTree.{TableTree}
use Rattle.sa_ast.specs.declared.select.GroupTree.{GroupTree}
use Rattle.sa_ast.specs.declared.select.OrderTree.{OrderTree}
use Rattle.sa_ast.specs.declared.select.SelectTree.{SelectTree}
use Rattle.sa_parser.specs.declared.limits.Limits.{Limits}
use Rattle.sa_parser.specs.SelectTree.{star_item, table_star_item, value_item, table_tree, joined_table, group_item, order_item, listed, limits, limit_of, offset_of, having_of, select_tree}
use Rattle.sa_parser.specs.Form.{Form, Perhaps, Placed, Sign, Word, Name, NumberBelow, Commas, After, ◌<$>◌, ◌<*>◌, ◌<|>◌}
use Rattle.sa_parser.specs.SelectGrammar.{Alias, Item, Table, Join, Joined, Tables, Distinct, Where, Group, Having, Direction, OrderItem, Order, Limit, Select}
use Rattle.sa_parser.proofs.canonical_text.Each.{Each, Any, Makes, IfThere, each-any, each-made, each-then, each-either, each-perhaps, each-placed, each-chain}
use Rattle.sa_parser.proofs.canonical_text.EachPart.{IsNamed, each-name, each-behind, each-both, AllOf, all-append, each-commas, each-number_below}
use Rattle.sa_parser.proofs.canonical_text.EachRule.{Second, each_pair}
use Rattle.sa_parser.proofs.canonical_text.Ends.{IsGroup, AreGroups, IsOrder, AreOrders, AreLimits}
use Rattle.sa_parser.proofs.canonical_text.Fine.{Fine}
use Rattle.sa_parser.proofs.canonical_text.Items.{IsItem, item-Star, item-TableStar, item-Value}
use Rattle.sa_parser.proofs.canonical_text.Query.{AreFrom, IsQuery}
use Rattle.sa_parser.proofs.canonical_text.Tables.{IsTable, AreTables}

each_alias : Each (IfThere IsNamed) Alias
unfolding Alias
each_alias = each-perhaps IsNamed (After (codes "AS") Name <|> Name) (each-either IsNamed (After (codes "AS") Name) Name (each-behind IsNamed Name each-name (Word (codes "AS"))) each-name)

-- tables

-- a table that stands alone
abbrev IsAlone : TableTree → Type 0
IsAlone table = IsTable table × (table.joined ≡ false)

table_made : (name : NameTree) → IsNamed name → Makes (IfThere IsNamed) IsAlone (table_tree name)
table_made name is alias there = (record { named = is; alias = there; on = tt; alone = λ plain. refl }, refl)

each_table : Each IsAlone Table
unfolding Table
each_table =
    each-then (IfThere IsNamed) IsAlone (table_tree <$> Name) Alias
    (each-made table_tree IsNamed (Makes (IfThere IsNamed) IsAlone) Name each-name table_made) each_alias

further_made : (join : ℕ) (table : TableTree) → IsAlone table → Makes (IfThere Fine) IsTable (joined_table join table)
further_made join table is on there = record { named = is.0.named; alias = is.0.alias; on = there; alone = λ plain. absurd (true≢false plain) }

from-append : (before after : List TableTree) → AreFrom before → AreTables after → AreFrom (before ++ after)
from-append [] after is are = absurd is
from-append (first ∷ rest) after is are = (all-append IsTable (first ∷ rest) after is.0 are, is.1)

are_tables : (tables : List TableTree) → AreFrom tables → AreTables tables
are_tables [] is = absurd is
are_tables (first ∷ rest) is = is.0

-- numbers of rows

abbrev IsLimits : Option Limits → Type 0
IsLimits found = AreLimits (limit_of found) (offset_of found)

abbrev IsRows : ℕ → Type 0
IsRows number = number < 2 ^ 64

abbrev IsSecond : Bool × ℕ → Type 0
IsSecond second = IsRows second.1

limits_made : (first : ℕ) → IsRows first → (second : Option (Bool × ℕ)) → IfThere IsSecond second → IsLimits (Some (limits first second))
limits_made first small None there = (small, lit< tt)
limits_made first small (Some (true, second)) there = (there, small)
limits_made first small (Some (false, second)) there = (small, there)

abbrev AreRows : Limits → Type 0
AreRows found = IsLimits (Some found)

is_limits : (found : Option Limits) → IfThere AreRows found → IsLimits found
is_limits None there = refl
is_limits (Some found) there = there

all_listed : {A : Type 0} (Fact : A → Type 0) (found : Option (List A)) → IfThere (AllOf Fact) found → AllByRecursion Fact (listed found)
all_listed Fact None there = tt
all_listed Fact (Some items) there = there.0

abbrev HasHaving : Option (ℕ × ExprTree) → Type 0
HasHaving having = IfThere Fine (having_of having)

has_having : (having : Option (ℕ × ExprTree)) → IfThere Second having → HasHaving having
has_having None there = tt
has_having (Some having) there = there

each_offset : (Mark : Form ℕ) (comma : Bool) → Each IsSecond ((λ _ second. (comma, second)) <$> Mark <*> NumberBelow (2 ^ 64))
each_offset Mark comma =
    let second : ℕ → ℕ → Bool × ℕ = λ mark number. (comma, number) in
    each-then IsRows IsSecond (second <$> Mark) (NumberBelow (2 ^ 64))
    (each-made second Any (Makes IsRows IsSecond) Mark (each-any Mark) (λ mark there number small. small)) (each-number_below (2 ^ 64))

each_limit : Each IsLimits Limit
unfolding Limit
each_limit =
    let Offset =
    (λ _ second. (true, second)) <$> Sign signs.Comma <*> NumberBelow (2 ^ 64)
    <|> (λ _ second. (false, second)) <$> Word (codes "OFFSET") <*> NumberBelow (2 ^ 64) in
    let Found = limits <$> NumberBelow (2 ^ 64) <*> Perhaps Offset in
    let offset = each-either IsSecond _ _ (each_offset (Sign signs.Comma) true) (each_offset (Word (codes "OFFSET")) false) in
    let found =
    each-then (IfThere IsSecond) AreRows (limits <$> NumberBelow (2 ^ 64)) (Perhaps Offset)
    (each-made limits IsRows (Makes (IfThere IsSecond) AreRows) (NumberBelow (2 ^ 64)) (each-number_below (2 ^ 64)) limits_made)
    (each-perhaps IsSecond Offset offset) in
    let behind = each-perhaps AreRows _ (each-behind AreRows Found found (Word (codes "LIMIT"))) in
    λ tokens value are is. is_limits value (behind tokens value are is)

-- what makes a query of the parts that are still to come

abbrev ForLimit : (Option Limits → SelectTree) → Type 0
ForLimit = Makes IsLimits IsQuery

abbrev ForOrder : (List OrderTree → Option Limits → SelectTree) → Type 0
ForOrder = Makes AreOrders ForLimit

abbrev ForHaving : (Option (ℕ × ExprTree) → List OrderTree → Option Limits → SelectTree) → Type 0
ForHaving = Makes HasHaving ForOrder

abbrev ForGroup : (List GroupTree → Option (ℕ × ExprTree) → List OrderTree → Option Limits → SelectTree) → Type 0
ForGroup = Makes AreGroups ForHaving

abbrev ForFilter : (Option ExprTree → List GroupTree → Option (ℕ × ExprTree) → List OrderTree → Option Limits → SelectTree) → Type 0
ForFilter = Makes (IfThere Fine) ForGroup

abbrev ForTables : (List TableTree → Option ExprTree → List GroupTree → Option (ℕ × ExprTree) → List OrderTree → Option Limits → SelectTree) → Type 0
ForTables = Makes AreFrom ForFilter

abbrev ForFrom : (ℕ → List TableTree → Option ExprTree → List GroupTree → Option (ℕ × ExprTree) → List OrderTree → Option Limits → SelectTree) → Type 0
ForFrom = Makes Any ForTables

abbrev ForItems : (List ItemTree → ℕ → List TableTree → Option ExprTree → List GroupTree → Option (ℕ × ExprTree) → List OrderTree → Option Limits → SelectTree) → Type 0
ForItems = Makes (AllOf IsItem) ForFrom

module _ (Expr : Form ExprTree) (each : Each Fine Expr) where
  each_item : Each IsItem (Item Expr)
  unfolding Item
  each_item =
      each-either IsItem (star_item <$> Sign signs.Star) _
      (each-made star_item Any IsItem (Sign signs.Star) (each-any (Sign signs.Star)) (λ place there. item-Star place))
      (each-either IsItem (table_star_item <$> Name <*> Sign signs.Dot <*> Sign signs.Star) _
      (each-then Any IsItem (table_star_item <$> Name <*> Sign signs.Dot) (Sign signs.Star)
      (each-then Any (Makes Any IsItem) (table_star_item <$> Name) (Sign signs.Dot)
      (each-made table_star_item IsNamed (Makes Any (Makes Any IsItem)) Name each-name (λ table is dot there star also. item-TableStar table dot star is))
      (each-any (Sign signs.Dot)))
      (each-any (Sign signs.Star)))
      (each-placed _ _ (each-both Fine (IfThere IsNamed) Expr Alias each each_alias) value_item IsItem
      (λ place named is. item-Value place named.0 named.1 is.0 is.1)))

  each_further : Each IsTable (joined_table <$> Join <*> Table <*> Perhaps (After (codes "ON") Expr))
  each_further =
      each-then (IfThere Fine) IsTable (joined_table <$> Join <*> Table) (Perhaps (After (codes "ON") Expr))
      (each-then IsAlone (Makes (IfThere Fine) IsTable) (joined_table <$> Join) Table
      (each-made joined_table Any (Makes IsAlone (Makes (IfThere Fine) IsTable)) Join (each-any Join) (λ join there. further_made join)) each_table)
      (each-perhaps Fine (After (codes "ON") Expr) (each-behind Fine Expr each (Word (codes "ON"))))

  each_joined : Each AreFrom (Joined Expr)
  unfolding Joined
  each_joined =
      each-chain AreFrom IsTable ((λ table. table ∷ []) <$> Table) (λ tables next. tables ++ next ∷ [])
      (joined_table <$> Join <*> Table <*> Perhaps (After (codes "ON") Expr))
      (each-made (λ table. table ∷ []) IsAlone AreFrom Table each_table (λ table is. ((is.0, tt), is.1)))
      each_further (λ tables are table is. from-append tables (table ∷ []) are (is, tt))

  each_tables : Each AreFrom (Tables Expr)
  unfolding Tables
  each_tables =
      each-chain AreFrom AreFrom (Joined Expr) (λ tables next. tables ++ next) ((λ _ next. next) <$> Sign signs.Comma <*> Joined Expr)
      each_joined (each-behind AreFrom (Joined Expr) each_joined (Sign signs.Comma))
      (λ tables are next also. from-append tables next are (are_tables next also))

  each_where : Each (IfThere Fine) (Where Expr)
  unfolding Where
  each_where = each-perhaps Fine (After (codes "WHERE") Expr) (each-behind Fine Expr each (Word (codes "WHERE")))

  -- a list behind two words
  each_listed : {A : Type 0} (Fact : A → Type 0) (word : List ℕ) (Is : Form A) → Each Fact Is
      → Each (AllByRecursion Fact) (listed <$> Perhaps ((λ _ _ items. items) <$> Word word <*> Word (codes "BY") <*> Commas Is))
  each_listed {A} Fact word Is known =
      let items : ℕ → ℕ → List A → List A = λ one other items. items in
      let Behind = items <$> Word word <*> Word (codes "BY") <*> Commas Is in
      let All : List A → Type 0 = AllOf Fact in
      let behind =
      each-then All All (items <$> Word word <*> Word (codes "BY")) (Commas Is)
      (each-then Any (Makes All All) (items <$> Word word) (Word (codes "BY"))
      (each-made items Any (Makes Any (Makes All All)) (Word word) (each-any (Word word)) (λ one there other also items are. are))
      (each-any (Word (codes "BY"))))
      (each-commas Fact Is known) in
      each-made listed (IfThere All) (AllByRecursion Fact) (Perhaps Behind) (each-perhaps All Behind behind) (all_listed Fact)

  each_group : Each AreGroups (Group Expr)
  unfolding Group
  each_group = each_listed IsGroup (codes "GROUP") (Placed group_item Expr) (each-placed Fine Expr each group_item IsGroup (λ place value is. is))

  each_having : Each HasHaving (Having Expr)
  unfolding Having
  each_having =
      let pairs = each-perhaps Second _ (each_pair (Word (codes "HAVING")) Expr each) in
      λ tokens value are is. has_having value (pairs tokens value are is)

  each_order : Each AreOrders (Order Expr)
  unfolding Order OrderItem
  each_order =
      each_listed IsOrder (codes "ORDER") (OrderItem Expr)
      (each-placed _ _ (each-both Fine Any Expr Direction each (each-any Direction)) order_item IsOrder (λ place directed is. is.0))

  each_begun : Each ForItems (select_tree <$> Word (codes "SELECT") <*> Distinct)
  each_begun =
      each-then Any ForItems (select_tree <$> Word (codes "SELECT")) Distinct
      (each-made select_tree Any (Makes Any ForItems) (Word (codes "SELECT")) (each-any (Word (codes "SELECT")))
      (λ select there distinct also items are_items from behind tables are_from filter is_filter group are_group having is_having order are_order limit is_limit.
      record { items = are_items; from = are_from; filter = is_filter; group = are_group; having = is_having; order = are_order; limits = is_limit }))
      (each-any Distinct)

  each_with_tables : Each ForFilter (select_tree <$> Word (codes "SELECT") <*> Distinct <*> Commas (Item Expr) <*> Word (codes "FROM") <*> Tables Expr)
  each_with_tables =
      let To_items = select_tree <$> Word (codes "SELECT") <*> Distinct in
      each-then AreFrom ForFilter (To_items <*> Commas (Item Expr) <*> Word (codes "FROM")) (Tables Expr)
      (each-then Any ForTables (To_items <*> Commas (Item Expr)) (Word (codes "FROM"))
      (each-then (AllOf IsItem) ForFrom To_items (Commas (Item Expr)) each_begun (each-commas IsItem (Item Expr) each_item))
      (each-any (Word (codes "FROM"))))
      each_tables

  pub each_select : Each IsQuery (Select Expr)
  unfolding Select
  each_select =
      let To_tables = select_tree <$> Word (codes "SELECT") <*> Distinct <*> Commas (Item Expr) <*> Word (codes "FROM") <*> Tables Expr in
      each-then IsLimits IsQuery (To_tables <*> Where Expr <*> Group Expr <*> Having Expr <*> Order Expr) Limit
      (each-then AreOrders ForLimit (To_tables <*> Where Expr <*> Group Expr <*> Having Expr) (Order Expr)
      (each-then HasHaving ForOrder (To_tables <*> Where Expr <*> Group Expr) (Having Expr)
      (each-then AreGroups ForHaving (To_tables <*> Where Expr) (Group Expr)
      (each-then (IfThere Fine) ForGroup To_tables (Where Expr) each_with_tables each_where) each_group)
      each_having)
      each_order)
      each_limit
