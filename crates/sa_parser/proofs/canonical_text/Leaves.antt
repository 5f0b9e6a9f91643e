-- Expressions without parts are read back.
use Rattle.std.proofs.Common.{◌≡◌, ◌≢◌, ℕ, zero, suc, ℤ, pos, negsuc, ◌+◌, ◌^◌, ◌<◌, ◌≤◌, Bool, true, false, List, [], ◌∷◌, ◌++◌, length, get_or, codes, Some, None, cond, refl, sym, ap, ◌∙◌, subst, arith}
use Rattle.std.specs.Prelude.{slice_index}
use Rattle.std.specs.Fmt.{decimal, signed_decimal}
use Rattle.std.proofs.lemmas.Bool.{lt-ltb, true≢false}
use Rattle.std.proofs.lemmas.Fmt.{decimal_is_IsNumeral_wide}
use Rattle.std.proofs.lemmas.List.{get_or_append_left}
use Rattle.std.proofs.lemmas.Str.Parse.{not_in_digits}
use Rattle.std.proofs.Math.IntN.{+ℤ_idl}
use Rattle.sa_lexer.specs.declared.sign.Sign.TheVariants as signs
use Rattle.sa_lexer.specs.declared.token.TokenKind.{TokenKind}
use Rattle.sa_lexer.specs.declared.token.TokenKind.TheVariants as kinds
use Rattle.sa_ast.specs.declared.expression.ExprNode.{ExprNode, ExprNode-F, out-ExprNode}
use Rattle.sa_ast.specs.declared.expression.ExprNode.TheVariants as node
use Rattle.sa_ast.specs.declared.expression.ExprTree.{ExprTree}
use Rattle.sa_ast.specs.Place.{unplaced_expr}
use Rattle.sa_print.specs.Expression.{canonical_expr, truth_text}
use Rattle.sa_print.specs.Quoted.{canonical_literal}
use Rattle.sa_parser.specs.declared.rule.Rule.{Rule}
use Rattle.sa_parser.specs.Token.{is_word}
use Rattle.sa_parser.specs.Tree.{tree, atom_of, atom_in, minus_tree}
use Rattle.sa_parser.specs.Form.{Form}
use Rattle.sa_parser.specs.ExprGrammar.{Primary, Factor, nested}
use Rattle.sa_parser.proofs.canonical_text.Build.{one, made, then, first, second}
use Rattle.sa_parser.proofs.canonical_text.Fine.{Reads, Fine, HasShort, IsShort, is_number}
use Rattle.sa_parser.proofs.canonical_text.Lexed.{Quiet, Lexed, token_at, joined-Lexed}
use Rattle.sa_parser.proofs.canonical_text.Lift.{primary-Factor}
use Rattle.sa_parser.proofs.canonical_text.Nodes.{text-Number, text-Text, text-Null, text-Known, bare-Number, bare-Text, bare-Null, bare-Known}
use Rattle.sa_parser.proofs.canonical_text.Pieces.{word-Lexed, text-Lexed, number-Lexed, minus-Lexed}
use Rattle.sa_parser.proofs.canonical_text.Read.{numerals}
use Rattle.sa_parser.proofs.canonical_text.Tokens.{sign_is}

-- a node that is read back from its text
pub record IsNode (made : ExprNode) : Type 0 where
  pub layer : ExprNode-F ExprNode ExprTree
  pub opens : out-ExprNode made ≡ layer
  pub text : List ℕ
  pub written : (place : ℕ) → canonical_expr (tree place made) ≡ text
  pub value : ExprTree
  pub bare : (place : ℕ) → unplaced_expr (tree place made) ≡ value
  pub short : HasShort layer
  pub begins : is_number layer ≡ false → (after : List ℕ) → slice_index (text ++ after) 0 ≢ 45
  pub levels : ℕ
  pub reads : (more place : ℕ) → levels ≤ more → Reads (Factor (nested more)) unplaced_expr Quiet place text value

pub fine : (place : ℕ) (made : ExprNode) → IsNode made → Fine (tree place made)
fine place made is = record {
  levels = is.levels;
  reads = λ more there enough.
      let Written : List ℕ → ExprTree → Type 0 = λ text value. Reads (Factor (nested more)) unplaced_expr Quiet there text value in
      subst (λ text. Written text (unplaced_expr (tree place made))) (sym (is.written place))
      (subst (Written is.text) (sym (is.bare place)) (is.reads more there enough));
  short = subst HasShort (sym is.opens) is.short;
  begins = λ other after. subst (λ (text : List ℕ). slice_index (text ++ after) 0 ≢ 45) (sym (is.written place)) (is.begins (ap is_number (sym is.opens) ∙ other) after);
}

-- an expression of one token
atom_is : (inner : Rule → Form ExprTree) (made : ExprNode) (kind : TokenKind) (place len : ℕ) → atom_of kind ≡ Some made → Factor inner (token_at kind place len ∷ []) (tree place made)
unfolding Primary
atom_is inner made kind place len is =
    let token = token_at kind place len in
    let told : atom_in token ≡ Some (tree place made) = rw is refl in
    primary-Factor inner (token ∷ []) (tree place made) (second _ _ (second _ _ (second _ _ (one atom_in token (tree place made) told))))

atom_reads : (inner : Rule → Form ExprTree) (made : ExprNode) (kind : TokenKind) (text : List ℕ) (place : ℕ) (value : ExprTree) → atom_of kind ≡ Some made
    → Lexed Quiet place text (token_at kind place (length text) ∷ []) → unplaced_expr (tree place made) ≡ value
    → Reads (Factor inner) unplaced_expr Quiet place text value
atom_reads inner made kind text place value is lexed bare =
    record { tokens = _; again = _; lexed = lexed; is = atom_is inner made kind place (length text) is; same = bare }

pub fine-Text : (place : ℕ) (text : List ℕ) → length text ≤ 255 → Fine (tree place (node.Text text))
unfolding atom_of
fine-Text place text short =
    fine place (node.Text text) (record {
      layer = ExprNode-F.Text text;
      opens = node.outs-Text text;
      text = canonical_literal text;
      written = λ there. text-Text there text;
      value = tree 0 (node.Text text);
      bare = λ there. bare-Text there text;
      short = tt;
      begins = λ other after same. omega (arith, same);
      levels = 0;
      reads = λ more there enough. atom_reads (nested more) (node.Text text) (kinds.Text text) (canonical_literal text) there _ refl (text-Lexed there text short) (bare-Text there text);
    })

pub fine-Null : (place : ℕ) → Fine (tree place node.Null)
unfolding atom_of is_word
fine-Null place =
    fine place node.Null (record {
      layer = ExprNode-F.Null;
      opens = node.outs-Null;
      text = codes "NULL";
      written = text-Null;
      value = tree 0 node.Null;
      bare = bare-Null;
      short = tt;
      begins = λ other after same. omega (arith, same);
      levels = 0;
      reads = λ more there enough. atom_reads (nested more) node.Null (kinds.Word (codes "NULL")) (codes "NULL") there _ refl (word-Lexed there (codes "NULL") refl) (bare-Null there);
    })

known_reads : (inner : Rule → Form ExprTree) (place : ℕ) (holds : Bool) → Reads (Factor inner) unplaced_expr Quiet place (truth_text holds) (tree 0 (node.Known holds))
unfolding atom_of is_word
known_reads inner place true =
    atom_reads inner (node.Known true) (kinds.Word (codes "TRUE")) (codes "TRUE") place _ refl (word-Lexed place (codes "TRUE") refl) (bare-Known place true)
known_reads inner place false =
    atom_reads inner (node.Known false) (kinds.Word (codes "FALSE")) (codes "FALSE") place _ refl (word-Lexed place (codes "FALSE") refl) (bare-Known place false)

known_begins : (holds : Bool) (after : List ℕ) → slice_index (truth_text holds ++ after) 0 ≢ 45
known_begins true after same = omega (arith, same)
known_begins false after same = omega (arith, same)

pub fine-Known : (place : ℕ) (holds : Bool) → Fine (tree place (node.Known holds))
fine-Known place holds =
    fine place (node.Known holds) (record {
      layer = ExprNode-F.Known holds;
      opens = node.outs-Known holds;
      text = truth_text holds;
      written = λ there. text-Known there holds;
      value = tree 0 (node.Known holds);
      bare = λ there. bare-Known there holds;
      short = tt;
      begins = λ other. known_begins holds;
      levels = 0;
      reads = λ more there enough. known_reads (nested more) there holds;
    })

positive_told : (number : ℕ) → number < 10 ^ 38 → atom_of (kinds.Number number) ≡ Some (node.Number (pos number))
unfolding atom_of
positive_told number small =
    ap (λ test. cond test (Some (node.Number (pos number))) None) (lt-ltb number (2 ^ 127) (omega (arith, small)))

-- a minus gives a number its other sign
negative : (place there number : ℕ) → minus_tree place (tree there (node.Number (pos (suc number)))) ≡ tree place (node.Number (negsuc number))
unfolding minus_tree
negative place there number = rw (node.outs-Number (pos (suc number))) (ap (λ z. tree place (node.Number z)) (+ℤ_idl (negsuc number)))

no_minus : (number : ℕ) (after : List ℕ) → number < 10 ^ 38 → slice_index (decimal number ++ after) 0 ≢ 45
no_minus number after small =
    let (some, digits) = (decimal_is_IsNumeral_wide number (omega (arith, small))).0 in
    let first : get_or (decimal number ++ after) 0 0 ≡ get_or (decimal number) 0 0 = get_or_append_left (decimal number) after 0 0 some in
    λ same. not_in_digits numerals (decimal number) 45 (numerals.from (decimal number) digits) (λ within. omega (arith, within)) 0 some (sym first ∙ same)

negative_reads : (more place number : ℕ) → suc number < 10 ^ 38 → 1 ≤ more
    → Reads (Factor (nested more)) unplaced_expr Quiet place (45 ∷ decimal (suc number)) (tree 0 (node.Number (negsuc number)))
unfolding Factor nested
negative_reads zero place number small enough = absurd (omega (arith, enough))
negative_reads (suc more) place number small enough =
    let made_of = node.Number (pos (suc number)) in
    let inner = atom_is (nested more) made_of (kinds.Number (suc number)) (place + 1) (length (decimal (suc number))) (positive_told (suc number) small) in
    record {
      tokens = _;
      again = minus_tree place (tree (place + 1) made_of);
      lexed = joined-Lexed (minus-Lexed place) (number-Lexed (place + 1) (suc number) small) (λ after quiet. no_minus (suc number) after small);
      is = first _ _ (then _ _ (made _ minus_tree (sign_is signs.Minus place 1)) inner);
      same = ap unplaced_expr (negative place (place + 1) number) ∙ bare-Number place (negsuc number);
    }

number_reads : (number : ℤ) → IsShort number → (more place : ℕ) → 1 ≤ more
    → Reads (Factor (nested more)) unplaced_expr Quiet place (signed_decimal number) (tree 0 (node.Number number))
number_reads (pos number) small more place enough =
    atom_reads (nested more) (node.Number (pos number)) (kinds.Number number) (decimal number) place _ (positive_told number small)
    (number-Lexed place number small) (bare-Number place (pos number))
number_reads (negsuc number) small more place enough = negative_reads more place number small enough

pub fine-Number : (place : ℕ) (number : ℤ) → IsShort number → Fine (tree place (node.Number number))
fine-Number place number small =
    fine place (node.Number number) (record {
      layer = ExprNode-F.Number number;
      opens = node.outs-Number number;
      text = signed_decimal number;
      written = λ there. text-Number there number;
      value = tree 0 (node.Number number);
      bare = λ there. bare-Number there number;
      short = small;
      begins = λ other. absurd (true≢false other);
      levels = 1;
      reads = number_reads number small;
    })
