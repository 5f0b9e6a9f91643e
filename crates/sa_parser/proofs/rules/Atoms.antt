-- The rules of one token that are an operator, an aggregate or a value.
use Rattle.std.proofs.Common.{◌≡◌, Bool, true, false, ◌||◌, is_some, codes, [], ◌∷◌, Some, None, if◌then◌else◌, refl, sym, ap, ◌∙◌}
use Rattle.std.proofs.Math.Bool.{or-false}
use Rattle.std.proofs.lemmas.Bool.{false≢true}
use Rattle.sa_lexer.specs.declared.sign.Sign.TheVariants as signs
use Rattle.sa_lexer.specs.declared.token.Token.{Token}
use Rattle.sa_lexer.specs.declared.token.TokenKind.{TokenKind}
use Rattle.sa_lexer.specs.declared.token.TokenKind.TheVariants as kinds
use Rattle.sa_ast.specs.declared.expression.AggregateCall.TheVariants.{Sum, Min, Max}
use Rattle.sa_ast.specs.declared.expression.ExprNode.TheVariants as node
use Rattle.sa_parser.specs.Form.{One}
use Rattle.sa_parser.specs.inner.Reading.{one}
use Rattle.sa_parser.specs.Token.{is_word, is_sign}
use Rattle.sa_parser.specs.Tree.{tree, atom_of, atom_in, aggregate_of, aggregate_in, additive_in, comparison_of, comparison_in}
use Rattle.sa_parser.specs.inner.ExprReading.{sees_comparison, sees_additive}
use Rattle.sa_parser.proofs.Heads.{Heads, has, starts}
use Rattle.sa_parser.proofs.Law.{Law}
use Rattle.sa_parser.proofs.Looks.{Looks, or-Looks, sees_sign-Looks}
use Rattle.sa_parser.proofs.laws.One.{one_shape, one-Law}
use Rattle.sa_parser.proofs.rules.Examples.{first_token, is_there}

-- the values of one token
abbrev pub atoms : Heads
atoms = record {
  names = false;
  numbers = true;
  texts = true;
  words = codes "NULL" ∷ codes "TRUE" ∷ codes "FALSE" ∷ [];
  signs = [];
}

abbrev pub aggregates : Heads
aggregates = record { names = false; numbers = false; texts = false; words = codes "SUM" ∷ codes "MIN" ∷ codes "MAX" ∷ []; signs = [] }

abbrev pub additives : Heads
additives = record { names = false; numbers = false; texts = false; words = []; signs = signs.Plus ∷ signs.Minus ∷ [] }

abbrev pub comparisons : Heads
comparisons = record {
  names = false;
  numbers = false;
  texts = false;
  words = [];
  signs = signs.Equal ∷ signs.NullSafeEqual ∷ signs.NotEqual ∷ signs.BangEqual ∷ signs.Less ∷ signs.LessEqual ∷ signs.Greater ∷ signs.GreaterEqual ∷ [];
}

comparison_of-has : (kind : TokenKind) → is_some (comparison_of kind) ≡ has comparisons kind
unfolding has is_word is_sign
comparison_of-has (kinds.Word word) = refl
comparison_of-has (kinds.QuotedName name) = refl
comparison_of-has (kinds.Text text) = refl
comparison_of-has (kinds.Number number) = refl
comparison_of-has (kinds.Sign signs.NullSafeEqual) = refl
comparison_of-has (kinds.Sign signs.NotEqual) = refl
comparison_of-has (kinds.Sign signs.BangEqual) = refl
comparison_of-has (kinds.Sign signs.LessEqual) = refl
comparison_of-has (kinds.Sign signs.GreaterEqual) = refl
comparison_of-has (kinds.Sign signs.AndAnd) = refl
comparison_of-has (kinds.Sign signs.OrOr) = refl
comparison_of-has (kinds.Sign signs.LeftParen) = refl
comparison_of-has (kinds.Sign signs.RightParen) = refl
comparison_of-has (kinds.Sign signs.Comma) = refl
comparison_of-has (kinds.Sign signs.Dot) = refl
comparison_of-has (kinds.Sign signs.Star) = refl
comparison_of-has (kinds.Sign signs.Plus) = refl
comparison_of-has (kinds.Sign signs.Minus) = refl
comparison_of-has (kinds.Sign signs.Slash) = refl
comparison_of-has (kinds.Sign signs.Percent) = refl
comparison_of-has (kinds.Sign signs.Equal) = refl
comparison_of-has (kinds.Sign signs.Less) = refl
comparison_of-has (kinds.Sign signs.Greater) = refl

pub sees_comparison-Looks : Looks comparisons sees_comparison
unfolding sees_comparison starts
sees_comparison-Looks = record { is = elim [ [] ↦ refl | token ∷ rest ↦ comparison_of-has token.kind ] }

pub comparison-Law : Law (One comparison_in) (One comparison_in) (one_shape comparisons) (one comparison_in)
comparison-Law =
    one-Law comparison_in comparisons (λ token value e. sym (comparison_of-has token.kind) ∙ is_there _ (comparison_of token.kind) value e)
    (first_token (kinds.Sign signs.Equal)) _ refl

pub sees_additive-Looks : Looks additives sees_additive
sees_additive-Looks = or-Looks (sees_sign-Looks signs.Plus) (sees_sign-Looks signs.Minus)

-- a choice by one test after another tells whether one of them holds
two_tests : {X : Type 0} (first second : Bool) (x y : X) → is_some (if first then Some x else (if second then Some y else None)) ≡ (first || second)
two_tests true second x y = refl
two_tests false true x y = refl
two_tests false false x y = refl

three_tests : {X : Type 0} (first second third : Bool) (x y z : X)
    → is_some (if first then Some x else (if second then Some y else (if third then Some z else None))) ≡ (first || (second || third))
three_tests true second third x y z = refl
three_tests false second third x y z = two_tests second third y z

additive_in-has : (token : Token) → is_some (additive_in token) ≡ has additives token.kind
unfolding additive_in has
additive_in-has token = simp or-false (two_tests (is_sign signs.Plus token.kind) (is_sign signs.Minus token.kind) (false, token.start) (true, token.start))

pub additive-Law : Law (One additive_in) (One additive_in) (one_shape additives) (one additive_in)
unfolding additive_in is_sign
additive-Law =
    one-Law additive_in additives (λ token value e. sym (additive_in-has token) ∙ ap is_some e) (first_token (kinds.Sign signs.Plus)) (false, 0) refl

pub aggregate_of-has : (kind : TokenKind) → is_some (aggregate_of kind) ≡ has aggregates kind
unfolding aggregate_of has
aggregate_of-has kind = simp or-false (three_tests (is_word (codes "SUM") kind) (is_word (codes "MIN") kind) (is_word (codes "MAX") kind) Sum Min Max)

pub aggregate-Law : Law (One aggregate_in) (One aggregate_in) (one_shape aggregates) (one aggregate_in)
unfolding aggregate_of is_word
aggregate-Law =
    one-Law aggregate_in aggregates (λ token value e. sym (aggregate_of-has token.kind) ∙ is_there _ (aggregate_of token.kind) value e)
    (first_token (kinds.Word (codes "SUM"))) (0, Sum) refl

atom_of-has : (kind : TokenKind) → is_some (atom_of kind) ≡ true → has atoms kind ≡ true
unfolding atom_of has is_word
atom_of-has (kinds.Number number) e = refl
atom_of-has (kinds.Text text) e = refl
atom_of-has (kinds.Word word) e =
    simp or-false (sym (three_tests (is_word (codes "NULL") (kinds.Word word)) (is_word (codes "TRUE") (kinds.Word word)) (is_word (codes "FALSE") (kinds.Word word)) node.Null (node.Known true) (node.Known false)) ∙ e)
atom_of-has (kinds.QuotedName name) e = absurd (false≢true e)
atom_of-has (kinds.Sign sign) e = absurd (false≢true e)

pub atom-Law : Law (One atom_in) (One atom_in) (one_shape atoms) (one atom_in)
unfolding atom_of is_word
atom-Law =
    one-Law atom_in atoms (λ token value e. atom_of-has token.kind (is_there _ (atom_of token.kind) value e))
    (first_token (kinds.Word (codes "NULL"))) (tree 0 node.Null) refl
