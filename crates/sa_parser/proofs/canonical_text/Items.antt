-- The parts of a select list are read back.
use Rattle.std.proofs.Common.{ℕ, ◌+◌, ◌≤◌, ◌++◌, length, codes, Option, refl, append_assoc}
use Rattle.sa_lexer.specs.declared.sign.Sign.TheVariants as signs
use Rattle.sa_ast.specs.declared.name.NameTree.{NameTree}
use Rattle.sa_ast.specs.declared.expression.ExprTree.{ExprTree}
use Rattle.sa_ast.specs.declared.select.ItemNode.TheVariants.{Star, TableStar, Value}
use Rattle.sa_ast.specs.declared.select.ItemTree.{ItemTree}
use Rattle.sa_ast.specs.Place.{unplaced_item}
use Rattle.sa_print.specs.Expression.{canonical_expr}
use Rattle.sa_print.specs.Name.{canonical_name}
use Rattle.sa_print.specs.Select.{item_text}
use Rattle.sa_parser.specs.SelectTree.{star_item, table_star_item, value_item}
use Rattle.sa_parser.specs.Form.{Form, Sign, Name}
use Rattle.sa_parser.specs.SelectGrammar.{Item}
use Rattle.sa_parser.proofs.canonical_text.Build.{made, then, first, second, placed}
use Rattle.sa_parser.proofs.canonical_text.Clauses.{expression, IsBack, expression_reads, alias_of, alias_mild, alias_reads}
use Rattle.sa_parser.proofs.canonical_text.Each.{IfThere}
use Rattle.sa_parser.proofs.canonical_text.EachPart.{IsNamed}
use Rattle.sa_parser.proofs.canonical_text.Fine.{Reads, Fine, rewritten}
use Rattle.sa_parser.proofs.canonical_text.Lexed.{Quiet, quiet_at, joined-Lexed, narrowed-Lexed}
use Rattle.sa_parser.proofs.canonical_text.Pieces.{name-Lexed, dot-Lexed, star-Lexed}
use Rattle.sa_parser.proofs.canonical_text.Tokens.{name_is, sign_is}

-- a part of the select list that is read back
abbrev pub IsItem : ItemTree → Type 0
IsItem item = IsBack Item unplaced_item item_text item

star_reads : (Expr : Form ExprTree) (place : ℕ) → Reads (Item Expr) unplaced_item Quiet place (codes "*") (record { item = Star; place = 0 })
unfolding Item
star_reads Expr place = record {
  tokens = _;
  again = star_item place;
  lexed = narrowed-Lexed (λ after quiet. tt) (star-Lexed place);
  is = first _ _ (made (Sign signs.Star) star_item (sign_is signs.Star place 1));
  same = refl;
}

table_star_reads : (Expr : Form ExprTree) (place : ℕ) (table : NameTree) → IsNamed table
    → Reads (Item Expr) unplaced_item Quiet place (canonical_name table.name ++ codes "." ++ codes "*") (record { item = TableStar (record table { place = 0 }); place = 0 })
unfolding Item
table_star_reads Expr place table is =
    let dot = place + length (canonical_name table.name) in
    let star = place + length (canonical_name table.name ++ codes ".") in
    let name = made Name table_star_item (name_is table.name place (length (canonical_name table.name))) in
    record {
      tokens = _;
      again = table_star_item (record table { place = place }) dot star;
      lexed =
          narrowed-Lexed (λ after quiet. tt)
          (joined-Lexed (joined-Lexed (name-Lexed place table.name is) (dot-Lexed dot) (λ after free. quiet_at 46 _ refl)) (star-Lexed star) (λ after free. tt));
      is = second _ _ (first _ _ (then _ _ (then _ _ name (sign_is signs.Dot dot 1)) (sign_is signs.Star star 1)));
      same = refl;
    }

value_reads : (more place : ℕ) (value : ExprTree) (alias : Option NameTree) (is : Fine value) → IfThere IsNamed alias → is.levels ≤ more
    → Reads (Item (expression more)) unplaced_item Quiet place (canonical_expr value ++ alias_of alias) (unplaced_item (record { item = Value value alias; place = 0 }))
unfolding Item
value_reads more place value alias is there enough =
    let inner = expression_reads value is more place enough in
    let named = alias_reads alias (place + length (canonical_expr value)) there in
    let pair = then _ _ (made (expression more) (λ value alias. (value, alias)) inner.is) named.is in
    record {
      tokens = inner.tokens ++ named.tokens;
      again = _;
      lexed = joined-Lexed inner.lexed named.lexed (alias_mild alias);
      is = second _ _ (second _ _ (placed _ value_item (inner.tokens ++ named.tokens) pair));
      same = λ i. record { item = Value (inner.same i) (named.same i); place = 0 };
    }

pub item-Star : (place : ℕ) → IsItem (star_item place)
item-Star place = record { levels = 0; reads = λ more there enough. star_reads (expression more) there }

pub item-TableStar : (table : NameTree) (dot star : ℕ) → IsNamed table → IsItem (table_star_item table dot star)
item-TableStar table dot star is = record {
  levels = 0;
  reads = λ more there enough. rewritten (append_assoc (canonical_name table.name) (codes ".") (codes "*")) (table_star_reads (expression more) there table is);
}

pub item-Value : (place : ℕ) (value : ExprTree) (alias : Option NameTree) → Fine value → IfThere IsNamed alias → IsItem (value_item place (value, alias))
item-Value place value alias is there = record { levels = is.levels; reads = λ more at enough. value_reads more at value alias is there enough }
