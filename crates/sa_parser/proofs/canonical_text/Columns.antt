-- Columns are read back.
use Rattle.std.proofs.Common.{◌≡◌, ◌≢◌, ℕ, ◌+◌, ◌<◌, List, ◌++◌, length, codes, Option, Some, None, refl, sym, append_assoc, subst}
use Rattle.std.specs.Prelude.{slice_index}
use Rattle.sa_lexer.specs.declared.sign.Sign.TheVariants as signs
use Rattle.sa_lexer.specs.declared.token.Token.{Token}
use Rattle.sa_ast.specs.declared.expression.ExprNode.{ExprNode-F}
use Rattle.sa_ast.specs.declared.expression.ExprNode.TheVariants as node
use Rattle.sa_ast.specs.declared.expression.ExprTree.{ExprTree}
use Rattle.sa_ast.specs.Place.{unplaced_expr}
use Rattle.sa_print.specs.Name.{canonical_name, canonical_column}
use Rattle.sa_parser.specs.declared.rule.Rule.{Rule}
use Rattle.sa_parser.specs.Tree.{tree, column_tree}
use Rattle.sa_parser.specs.Form.{Form, Sign, Name}
use Rattle.sa_parser.specs.ExprGrammar.{Column, Primary, Factor, nested}
use Rattle.sa_parser.proofs.canonical_text.Build.{made, then, first, second, nothing, some}
use Rattle.sa_parser.proofs.canonical_text.Each.{IfThere}
use Rattle.sa_parser.proofs.canonical_text.Fine.{Reads, Fine}
use Rattle.sa_parser.proofs.canonical_text.Leaves.{fine}
use Rattle.sa_parser.proofs.canonical_text.Lexed.{Quiet, quiet_at, joined-Lexed}
use Rattle.sa_parser.proofs.canonical_text.Lift.{primary-Factor}
use Rattle.sa_parser.proofs.canonical_text.Nodes.{text-Name, bare-Name}
use Rattle.sa_parser.proofs.canonical_text.Pieces.{name-Lexed, name_begins, dot-Lexed}
use Rattle.sa_parser.proofs.canonical_text.Tokens.{name_is, sign_is}

-- a name that isn't empty
abbrev pub IsName : List ℕ → Type 0
IsName name = 0 < length name

module _ (inner : Rule → Form ExprTree) (tokens : List Token) (tree : ExprTree) where
  column-Factor : Column tokens tree → Factor inner tokens tree
  unfolding Primary
  column-Factor is = primary-Factor inner tokens tree (second _ _ (second _ _ (first _ _ is)))

column_reads : (inner : Rule → Form ExprTree) (place : ℕ) (table : Option (List ℕ)) (column : List ℕ) → IfThere IsName table → IsName column
    → Reads (Factor inner) unplaced_expr Quiet place (canonical_column table column) (tree 0 (node.Name table column))
unfolding Column
column_reads inner place None column there some_column =
    let is = then _ _ (made Name column_tree (name_is column place (length (canonical_name column)))) (nothing _) in
    record {
      tokens = _;
      again = tree place (node.Name None column);
      lexed = name-Lexed place column some_column;
      is = column-Factor inner _ _ is;
      same = bare-Name place None column;
    }
column_reads inner place (Some table) column there some_column =
    let dot = place + length (canonical_name table) in
    let behind = place + length (canonical_name table ++ codes ".") in
    let part = then _ _ (made (Sign signs.Dot) (λ _ name. name) (sign_is signs.Dot dot 1)) (name_is column behind (length (canonical_name column))) in
    let is = then _ _ (made Name column_tree (name_is table place (length (canonical_name table)))) (some _ part) in
    record {
      tokens = _;
      again = tree place (node.Name (Some table) column);
      lexed =
          joined-Lexed (joined-Lexed (name-Lexed place table there) (dot-Lexed dot) (λ after free. quiet_at 46 after refl))
          (name-Lexed behind column some_column) (λ after quiet. tt);
      is = column-Factor inner _ _ is;
      same = bare-Name place (Some table) column;
    }

column_begins : (table : Option (List ℕ)) (column after : List ℕ) → slice_index (canonical_column table column ++ after) 0 ≢ 45
column_begins None column after = name_begins column after
column_begins (Some table) column after =
    let Begins : List ℕ → Type 0 = λ text. slice_index text 0 ≢ 45 in
    let parts : (canonical_name table ++ codes "." ++ canonical_name column) ++ after ≡ canonical_name table ++ (codes "." ++ (canonical_name column ++ after)) = simp append_assoc in
    subst Begins (sym parts) (name_begins table (codes "." ++ (canonical_name column ++ after)))

pub fine-Name : (place : ℕ) (table : Option (List ℕ)) (column : List ℕ) → IfThere IsName table → IsName column → Fine (tree place (node.Name table column))
fine-Name place table column some_table some_column =
    fine place (node.Name table column) (record {
      layer = ExprNode-F.Name table column;
      opens = node.outs-Name table column;
      text = canonical_column table column;
      written = λ there. text-Name there table column;
      value = tree 0 (node.Name table column);
      bare = λ there. bare-Name there table column;
      short = tt;
      begins = λ other. column_begins table column;
      levels = 0;
      reads = λ more there enough. column_reads (nested more) there table column some_table some_column;
    })
