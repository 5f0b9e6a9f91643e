-- Each expression that the tokens of a text spell is read back from its canonical text.
use Rattle.std.proofs.Common.{◌≡◌, ℕ, zero, suc, ℤ, pos, negsuc, ◌^◌, ◌-◌, ◌<◌, Bool, true, false, codes, Some, None, option_map, cond, refl, sym, ap, subst, arith, nat_lt}
use Rattle.std.specs.Ordering.{int_eq}
use Rattle.std.proofs.Math.IntN.{◌-ℤ◌, +ℤ_idl}
use Rattle.std.proofs.lemmas.Bool.{false_from_ne_true}
use Rattle.std.proofs.lemmas.Bool.Decides.{Decides-int_eq}
use Rattle.sa_lexer.specs.declared.sign.Sign.TheVariants as signs
use Rattle.sa_lexer.specs.declared.token.TokenKind.{TokenKind}
use Rattle.sa_lexer.specs.declared.token.TokenKind.TheVariants as kinds
use Rattle.sa_ast.specs.declared.name.NameTree.{NameTree}
use Rattle.sa_ast.specs.declared.expression.AggregateCall.{AggregateCall}
use Rattle.sa_ast.specs.declared.expression.AggregateCall.TheVariants.{Count, Sum, Min, Max}
use Rattle.sa_ast.specs.declared.expression.ExprNode.{ExprNode, ExprNode-F}
use Rattle.sa_ast.specs.declared.expression.ExprNode.TheVariants as node
use Rattle.sa_ast.specs.declared.expression.ExprTree.{ExprTree}
use Rattle.sa_parser.specs.declared.rule.Rule.{Rule}
use Rattle.sa_parser.specs.declared.rule.Rule.TheVariants as rule
use Rattle.sa_parser.specs.Token.{is_word}
use Rattle.sa_parser.specs.Tree.{tree, atom_of, atom_in, column_tree, aggregate_of, aggregate_in, aggregate_tree, count_tree, minus_node, minus_tree, plus_tree}
use Rattle.sa_parser.specs.Form.{Form, One, Perhaps, Sign, Word, Name, Brackets, ◌<$>◌, ◌<*>◌, ◌<|>◌}
use Rattle.sa_parser.specs.ExprGrammar.{Column, Call, Primary, Factor}
use Rattle.sa_parser.proofs.canonical_text.Calls.{HasArgument, fine-Rows, fine-Call}
use Rattle.sa_parser.proofs.canonical_text.Columns.{fine-Name}
use Rattle.sa_parser.proofs.canonical_text.Each.{Each, IsRead, Any, Makes, IfThere, each-any, each-one, each-made, each-then, each-either, each-perhaps}
use Rattle.sa_parser.proofs.canonical_text.EachPart.{same_some, IsNamed, each-name, each-brackets, each-behind}
use Rattle.sa_parser.proofs.canonical_text.Fine.{Fine, IsShort, HasShort, is_number, layer_of}
use Rattle.sa_parser.proofs.canonical_text.Leaves.{fine-Text, fine-Null, fine-Known, fine-Number}
use Rattle.sa_parser.proofs.canonical_text.Prefixes.{fine-Negate}

-- one token

told : (node : ExprNode) (place : ℕ) (value : ExprTree) → Fine (tree place node) → option_map (tree place) (Some node) ≡ Some value → Fine value
told node place value is e = subst Fine (same_some (tree place node) value e) is

number_told : (fits : Bool) (number place : ℕ) (value : ExprTree) → number < 10 ^ 38
    → option_map (tree place) (cond fits (Some (node.Number (pos number))) None) ≡ Some value → Fine value
number_told true number place value small e = told (node.Number (pos number)) place value (fine-Number place (pos number) small) e
number_told false number place value small e = absurd cc

word_told : (null true_word false_word : Bool) (place : ℕ) (value : ExprTree)
    → option_map (tree place) (cond null (Some node.Null) (cond true_word (Some (node.Known true)) (cond false_word (Some (node.Known false)) None))) ≡ Some value → Fine value
word_told true true_word false_word place value e = told node.Null place value (fine-Null place) e
word_told false true false_word place value e = told (node.Known true) place value (fine-Known place true) e
word_told false false true place value e = told (node.Known false) place value (fine-Known place false) e
word_told false false false place value e = absurd cc

atom_told : (kind : TokenKind) (place : ℕ) (value : ExprTree) → IsRead kind → option_map (tree place) (atom_of kind) ≡ Some value → Fine value
unfolding atom_of
atom_told (kinds.Number number) place value small e = number_told (nat_lt number (2 ^ 127)) number place value small e
atom_told (kinds.Text text) place value short e = told (node.Text text) place value (fine-Text place text short) e
atom_told (kinds.Word word) place value is e =
    word_told (is_word (codes "NULL") (kinds.Word word)) (is_word (codes "TRUE") (kinds.Word word)) (is_word (codes "FALSE") (kinds.Word word)) place value e
atom_told (kinds.QuotedName name) place value is e = absurd cc
atom_told (kinds.Sign sign) place value is e = absurd cc

each_atom : Each Fine (One atom_in)
each_atom = each-one atom_in Fine (λ token value is e. atom_told token.kind token.start value is e)

-- columns

column_made : (first : NameTree) → IsNamed first → Makes (IfThere IsNamed) Fine (column_tree first)
column_made first is None there = fine-Name first.place None first.name tt is
column_made first is (Some second) there = fine-Name first.place (Some first.name) second.name is there

each_column : Each Fine Column
unfolding Column
each_column =
    each-then (IfThere IsNamed) Fine (column_tree <$> Name) (Perhaps ((λ _ name. name) <$> Sign signs.Dot <*> Name))
    (each-made column_tree IsNamed (Makes (IfThere IsNamed) Fine) Name each-name column_made)
    (each-perhaps IsNamed ((λ _ name. name) <$> Sign signs.Dot <*> Name) (each-behind IsNamed Name each-name (Sign signs.Dot)))

-- aggregates

count_made : (place : ℕ) → Makes (IfThere Fine) Fine (count_tree place)
count_made place None there = fine-Rows place
count_made place (Some argument) there = fine-Call place Count argument tt there

abbrev Called : ℕ × AggregateCall → Type 0
Called called = HasArgument called.1

aggregate_told : (sum min max : Bool) (place : ℕ) (value : ℕ × AggregateCall)
    → option_map (λ call. (place, call)) (cond sum (Some Sum) (cond min (Some Min) (cond max (Some Max) None))) ≡ Some value → Called value
aggregate_told true min max place value e = subst Called (same_some (place, Sum) value e) tt
aggregate_told false true max place value e = subst Called (same_some (place, Min) value e) tt
aggregate_told false false true place value e = subst Called (same_some (place, Max) value e) tt
aggregate_told false false false place value e = absurd cc

each_aggregate : Each Called (One aggregate_in)
unfolding aggregate_of
each_aggregate =
    each-one aggregate_in Called (λ token value is e. aggregate_told (is_word (codes "SUM") token.kind) (is_word (codes "MIN") token.kind) (is_word (codes "MAX") token.kind) token.start value e)

module _ (inner : Rule → Form ExprTree) (each : (which : Rule) → Each Fine (inner which)) where
  each_call : Each Fine (Call inner)
  unfolding Call
  each_call =
      let Rows = (λ _. None) <$> Sign signs.Star in
      let Counted = Some <$> inner rule.Sum in
      each-either Fine _ _
      (each-then (IfThere Fine) Fine (count_tree <$> Word (codes "COUNT")) (Brackets (Rows <|> Counted))
      (each-made count_tree Any (Makes (IfThere Fine) Fine) (Word (codes "COUNT")) (each-any (Word (codes "COUNT"))) (λ place there. count_made place))
      (each-brackets (IfThere Fine) (Rows <|> Counted)
      (each-either (IfThere Fine) Rows Counted
      (each-made (λ _. None) Any (IfThere Fine) (Sign signs.Star) (each-any (Sign signs.Star)) (λ place there. tt))
      (each-made Some Fine (IfThere Fine) (inner rule.Sum) (each rule.Sum) (λ value is. is)))))
      (each-then Fine Fine (aggregate_tree <$> One aggregate_in) (Brackets (inner rule.Sum))
      (each-made aggregate_tree Called (Makes Fine Fine) (One aggregate_in) each_aggregate
      (λ called has argument is. fine-Call called.0 called.1 argument has is))
      (each-brackets Fine (inner rule.Sum) (each rule.Sum)))

  each_primary : Each Fine (Primary inner)
  unfolding Primary
  each_primary =
      each-either Fine _ _ (each-brackets Fine (inner rule.Expression) (each rule.Expression))
      (each-either Fine _ _ each_call (each-either Fine _ _ each_column each_atom))

-- a sign before it

short-negated : (number : ℤ) → IsShort number → IsShort (pos 0 -ℤ number)
short-negated (pos zero) small = small
short-negated (pos (suc number)) small = subst IsShort (sym (+ℤ_idl (negsuc number))) small
short-negated (negsuc number) small = subst IsShort (sym (+ℤ_idl (pos (suc number)))) small

-- no number of up to 38 digits is the least of 128 bits
not_least : (number : ℤ) → IsShort number → int_eq number (negsuc (2 ^ 127 - 1)) ≡ false
not_least (pos number) small = refl
not_least (negsuc number) small =
    false_from_ne_true (int_eq (negsuc number) (negsuc (2 ^ 127 - 1))) (λ test.
    let same : negsuc number ≡ negsuc (2 ^ 127 - 1) = (Decides-int_eq (negsuc number) (negsuc (2 ^ 127 - 1))).0 test in
    let also : number ≡ 2 ^ 127 - 1 = cc in
    omega (arith, also, small))

minus_made : (place : ℕ) (x : ExprTree) (layer : ExprNode-F ExprNode ExprTree) → HasShort layer → (is_number layer ≡ false → Fine (tree place (node.Negate x)))
    → Fine (tree place (minus_node x layer))
minus_made place x (ExprNode-F.Number number) short other =
    let made : cond (int_eq number (negsuc (2 ^ 127 - 1))) (node.Negate x) (node.Number (pos 0 -ℤ number)) ≡ node.Number (pos 0 -ℤ number) =
    ap (λ least. cond least (node.Negate x) (node.Number (pos 0 -ℤ number))) (not_least number short) in
    subst (λ some. Fine (tree place some)) (sym made) (fine-Number place (pos 0 -ℤ number) (short-negated number short))
minus_made place x _ short other = other refl

fine_minus : (place : ℕ) → Makes Fine Fine (minus_tree place)
unfolding minus_tree
fine_minus place x is = minus_made place x (layer_of x) is.short (λ other. fine-Negate x is place other)

module _ (inner : Rule → Form ExprTree) (each : (which : Rule) → Each Fine (inner which)) where
  pub each_factor : Each Fine (Factor inner)
  unfolding Factor
  each_factor =
      each-either Fine _ _
      (each-then Fine Fine (minus_tree <$> Sign signs.Minus) (inner rule.Factor)
      (each-made minus_tree Any (Makes Fine Fine) (Sign signs.Minus) (each-any (Sign signs.Minus)) (λ place there. fine_minus place))
      (each rule.Factor))
      (each-either Fine _ _
      (each-then Fine Fine (plus_tree <$> Sign signs.Plus) (inner rule.Factor)
      (each-made plus_tree Any (Makes Fine Fine) (Sign signs.Plus) (each-any (Sign signs.Plus)) (λ place there x is. is))
      (each rule.Factor))
      (each_primary inner each))
