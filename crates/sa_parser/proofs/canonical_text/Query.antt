-- Queries are read back.
use Rattle.std.proofs.Common.{◌≡◌, ℕ, ◌+◌, ◌≤◌, false, List, [], ◌∷◌, ◌++◌, map, length, codes, cond, refl, arith}
use Rattle.sa_ast.specs.declared.select.ItemTree.{ItemTree}
use Rattle.sa_ast.specs.declared.select.TableTree.{TableTree}
use Rattle.sa_ast.specs.declared.select.SelectTree.{SelectTree}
use Rattle.sa_ast.specs.Place.{unplaced_item, unplaced_table, unplaced_select}
use Rattle.sa_print.specs.Lists.{listed, list_clause}
use Rattle.sa_print.specs.Select.{item_text, tables_text, group_text, order_text, canonical_select}
use Rattle.sa_parser.specs.SelectTree.{select_tree}
use Rattle.sa_parser.specs.Form.{Word, Commas}
use Rattle.sa_parser.specs.SelectGrammar.{Item, Tables, Where, Select}
use Rattle.sa_parser.proofs.canonical_text.Build.{made, then}
use Rattle.sa_parser.proofs.canonical_text.Clauses.{expression, levels_for, all_back, levels_in, clause_of, clause_mild, clause_reads}
use Rattle.sa_parser.proofs.canonical_text.Each.{IfThere}
use Rattle.sa_parser.proofs.canonical_text.EachPart.{AllOf}
use Rattle.sa_parser.proofs.canonical_text.Ends.{distinct_reads, AreGroups, group_levels, group_mild, group_reads, having_reads, AreOrders, order_levels, order_mild, order_reads, AreLimits, limit_mild, limit_reads}
use Rattle.sa_parser.proofs.canonical_text.Fine.{Reads, Fine}
use Rattle.sa_parser.proofs.canonical_text.Items.{IsItem}
use Rattle.sa_parser.proofs.canonical_text.Lexed.{Quiet, quiet_at, joined-Lexed}
use Rattle.sa_parser.proofs.canonical_text.Lists.{commas_reads}
use Rattle.sa_parser.proofs.canonical_text.Pieces.{word_space-Lexed, spaced_word-Lexed}
use Rattle.sa_parser.proofs.canonical_text.Tables.{AreTables, table_levels, tables_reads}
use Rattle.sa_parser.proofs.canonical_text.Tokens.{word_is}

-- tables of which no JOIN stands before the first
abbrev pub AreFrom : List TableTree → Type 0
AreFrom [] = ⊥
AreFrom (first ∷ rest) = AreTables (first ∷ rest) × (first.joined ≡ false)

-- a query whose parts are read back
pub record IsQuery (tree : SelectTree) : Type 0 where
  pub items : AllOf IsItem tree.items
  pub from : AreFrom tree.from
  pub filter : IfThere Fine tree.filter
  pub group : AreGroups tree.group
  pub having : IfThere Fine tree.having
  pub order : AreOrders tree.order
  pub limits : AreLimits tree.limit tree.offset

items_levels : (items : List ItemTree) → AllOf IsItem items → ℕ
items_levels items are = levels_for Item unplaced_item item_text items are.0

items_reads : (items : List ItemTree) (are : AllOf IsItem items) (deep place : ℕ) → items_levels items are ≤ deep
    → Reads (Commas (Item (expression deep))) (map unplaced_item) Quiet place (listed (map item_text items)) (map unplaced_item items)
unfolding items_levels
items_reads [] are deep place enough = absurd are.1
items_reads (item ∷ items) are deep place enough =
    commas_reads (Item (expression deep)) unplaced_item item_text unplaced_item item items (all_back Item unplaced_item item_text (item ∷ items) are.0 deep enough) place

from_levels : (tables : List TableTree) → AreFrom tables → ℕ
from_levels [] are = absurd are
from_levels (first ∷ rest) are = table_levels (first ∷ rest) are.0

from_reads : (tables : List TableTree) (are : AreFrom tables) (deep place : ℕ) → from_levels tables are ≤ deep
    → Reads (Tables (expression deep)) (map unplaced_table) Quiet place (tables_text tables) (map unplaced_table tables)
unfolding from_levels
from_reads [] are deep place enough = absurd are
from_reads (first ∷ rest) are deep place enough = tables_reads first rest are.0 are.1 deep place enough

-- so many levels are enough
pub query_levels : (tree : SelectTree) → IsQuery tree → ℕ
query_levels tree is =
    items_levels tree.items is.items + (from_levels tree.from is.from + (levels_in tree.filter is.filter
    + (group_levels tree.group is.group + (levels_in tree.having is.having + order_levels tree.order is.order))))

pub query_reads : (tree : SelectTree) (is : IsQuery tree) (deep place : ℕ) → query_levels tree is ≤ deep
    → Reads (Select (expression deep)) unplaced_select Quiet place (canonical_select tree) (unplaced_select tree)
unfolding Select Where query_levels
query_reads tree is deep place enough =
    let distinct_text = cond tree.distinct (codes "DISTINCT ") [] in
    let to_items = codes "SELECT " ++ distinct_text in
    let to_from = to_items ++ listed (map item_text tree.items) in
    let to_tables = to_from ++ codes " FROM " in
    let to_filter = to_tables ++ tables_text tree.from in
    let to_group = to_filter ++ clause_of (codes "WHERE") tree.filter in
    let to_having = to_group ++ list_clause (codes " GROUP BY ") (map group_text tree.group) in
    let to_order = to_having ++ clause_of (codes "HAVING") tree.having in
    let to_limit = to_order ++ list_clause (codes " ORDER BY ") (map order_text tree.order) in
    let distinct = distinct_reads tree.distinct (place + 7) in
    let items = items_reads tree.items is.items deep (place + length to_items) (omega (arith, enough)) in
    let from = from_reads tree.from is.from deep (place + length to_tables) (omega (arith, enough)) in
    let filter = clause_reads (codes "WHERE") refl tree.filter is.filter deep (place + length to_filter) (omega (arith, enough)) in
    let group = group_reads tree.group is.group deep (place + length to_group) (omega (arith, enough)) in
    let having = having_reads tree.having is.having deep (place + length to_having) (omega (arith, enough)) in
    let order = order_reads tree.order is.order deep (place + length to_order) (omega (arith, enough)) in
    let limit = limit_reads tree.limit tree.offset is.limits (place + length to_limit) in
    let begun = joined-Lexed (word_space-Lexed place (codes "SELECT") refl) distinct.lexed (λ after free. tt) in
    let listed_items = joined-Lexed begun items.lexed (λ after quiet. tt) in
    let with_word = joined-Lexed listed_items (spaced_word-Lexed (place + length to_from) (codes "FROM") refl) (λ after free. quiet_at 32 _ refl) in
    let with_tables = joined-Lexed with_word from.lexed (λ after quiet. tt) in
    let with_filter = joined-Lexed with_tables filter.lexed (clause_mild (codes "WHERE") tree.filter) in
    let with_group = joined-Lexed with_filter group.lexed (group_mild tree.group) in
    let with_having = joined-Lexed with_group having.lexed (clause_mild (codes "HAVING") tree.having) in
    let with_order = joined-Lexed with_having order.lexed (order_mild tree.order) in
    let selected = then _ _ (made (Word (codes "SELECT")) select_tree (word_is (codes "SELECT") place 6)) distinct.is in
    let items_is = then _ _ (then _ _ selected items.is) (word_is (codes "FROM") ((place + length to_from) + 1) 4) in
    let filter_is = then _ _ (then _ _ items_is from.is) filter.is in
    let order_is = then _ _ (then _ _ (then _ _ filter_is group.is) having.is) order.is in
    record {
      tokens = _;
      again = _;
      lexed = joined-Lexed with_order limit.lexed (limit_mild tree.limit tree.offset);
      is = then _ _ order_is limit.is;
      same = λ i. record {
        distinct = distinct.same i;
        items = items.same i;
        from = from.same i;
        filter = filter.same i;
        group = group.same i;
        having = having.same i;
        having_place = 0;
        order = order.same i;
        limit = (limit.same i).0;
        offset = (limit.same i).1;
      };
    }
