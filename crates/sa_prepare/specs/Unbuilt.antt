-- What of a SELECT isn't built yet, and at which places it is told.
use Rattle.std.specs.Prelude.{ℕ, Bool, not, ◌||◌, ◌==◌, List, [], ◌∷◌, ◌++◌, map, min, codes, Option, Some, None, is_some, if◌then◌else◌}
use Rattle.std.specs.List.{flat_map}
use Rattle.sa_lexer.specs.declared.token.Token.{Token}
use Rattle.sa_ast.specs.declared.expression.ExprNode.{ExprNode-F}
use Rattle.sa_ast.specs.declared.expression.ExprTree.{ExprTree, fold-ExprTree}
use Rattle.sa_ast.specs.declared.select.GroupTree.{GroupTree}
use Rattle.sa_ast.specs.declared.select.ItemNode.{ItemNode}
use Rattle.sa_ast.specs.declared.select.ItemNode.TheVariants.{Value}
use Rattle.sa_ast.specs.declared.select.ItemTree.{ItemTree}
use Rattle.sa_ast.specs.declared.select.OrderTree.{OrderTree}
use Rattle.sa_ast.specs.declared.select.SelectTree.{SelectTree}
use Rattle.sa_ast.specs.declared.select.TableTree.{TableTree}
use Rattle.sa_parser.specs.Token.{is_word}
use Rattle.sa_query.specs.Meaning.{is_empty}

-- where a word stands first among these tokens
abbrev pub word_place : (word : List ℕ) → List Token → ℕ
word_place word [] = 0
word_place word (token ∷ tokens) =
    if is_word word token.kind then token.start else word_place word tokens

-- the place, where what is told there stands
abbrev pub told_at : Bool → (place : ℕ) → List ℕ
told_at stands place = if stands then place ∷ [] else []

-- the name of the second table of FROM
abbrev pub second_table : List TableTree → List ℕ
second_table (first ∷ second ∷ others) = second.name.place ∷ []
second_table tables = []

-- the names of the aggregates in one node, with those in each expression below in its place
abbrev pub node_calls : ExprNode-F (ℕ → List ℕ) (List ℕ) → (place : ℕ) → List ℕ
node_calls (ExprNode-F.Aggregate call None) place = place ∷ []
node_calls (ExprNode-F.Aggregate call (Some argument)) place = place ∷ argument
node_calls (ExprNode-F.Negate x) place = x
node_calls (ExprNode-F.Compare op x y) place = x ++ y
node_calls (ExprNode-F.IsNull x negated) place = x
node_calls (ExprNode-F.Between x low high negated) place = x ++ low ++ high
node_calls (ExprNode-F.Among x list negated) place = x ++ flat_map (λ one. one) list
node_calls (ExprNode-F.And members) place = flat_map (λ one. one) members
node_calls (ExprNode-F.Or members) place = flat_map (λ one. one) members
node_calls (ExprNode-F.Not x) place = x
node_calls (ExprNode-F.Add x y) place = x ++ y
node_calls (ExprNode-F.Subtract x y) place = x ++ y
node_calls (ExprNode-F.Multiply x y) place = x ++ y
node_calls node place = []

-- the names of the aggregates in an expression
abbrev pub calls_in : ExprTree → List ℕ
calls_in = fold-ExprTree (ℕ → List ℕ) (List ℕ) node_calls (λ tree. tree.node tree.place)

abbrev pub calls_in_option : Option ExprTree → List ℕ
calls_in_option None = []
calls_in_option (Some tree) = calls_in tree

abbrev pub calls_in_item : ItemNode → List ℕ
calls_in_item (Value value alias) = calls_in value
calls_in_item item = []

-- the names of all aggregates of a SELECT
abbrev pub all_calls : SelectTree → List ℕ
all_calls tree =
    flat_map (λ (one : ItemTree). calls_in_item one.item) tree.items
    ++ flat_map (λ (one : TableTree). calls_in_option one.on) tree.from
    ++ calls_in_option tree.filter
    ++ flat_map (λ (one : GroupTree). calls_in one.value) tree.group
    ++ calls_in_option tree.having
    ++ flat_map (λ (one : OrderTree). calls_in one.value) tree.order

-- The places of what isn't built: the words DISTINCT, GROUP, HAVING, ORDER and LIMIT, the name of
-- the second table, and the names of aggregates.
unfoldable pub unbuilt_places : List Token → SelectTree → List ℕ
unbuilt_places tokens tree =
    told_at tree.distinct (word_place (codes "DISTINCT") tokens)
    ++ second_table tree.from
    ++ told_at (not (is_empty tree.group)) (word_place (codes "GROUP") tokens)
    ++ told_at (is_some tree.having) tree.having_place
    ++ told_at (not (is_empty tree.order)) (word_place (codes "ORDER") tokens)
    ++ told_at (is_some tree.limit || not (tree.offset == 0)) (word_place (codes "LIMIT") tokens)
    ++ all_calls tree

-- the least of these places, if there is one
abbrev pub earlier_of : ℕ → Option ℕ → Option ℕ
earlier_of place None = Some place
earlier_of place (Some other) = Some (min place other)

abbrev pub least_place : List ℕ → Option ℕ
least_place [] = None
least_place (place ∷ places) = earlier_of place (least_place places)
