-- The shapes of expressions: what each rule begins with, and what can't stand behind it.
use Rattle.std.proofs.Common.{ℕ, true, false, codes, List, [], ◌∷◌, ◌++◌}
use Rattle.sa_lexer.specs.declared.sign.Sign.{Sign}
use Rattle.sa_lexer.specs.declared.sign.Sign.TheVariants as signs
use Rattle.sa_ast.specs.declared.expression.ExprTree.{ExprTree}
use Rattle.sa_parser.specs.declared.rule.Rule.{Rule}
use Rattle.sa_parser.specs.declared.rule.Rule.TheVariants as rule
use Rattle.sa_parser.specs.Form.{Form}
use Rattle.sa_parser.specs.inner.Reading.{Reader}
use Rattle.sa_parser.proofs.Law.{Shape}
use Rattle.sa_parser.proofs.rules.Agrees.{Agrees}
use Rattle.sa_parser.proofs.rules.Atoms.{comparisons}

-- A shape of these words and signs, with names, numbers and texts.
abbrev pub value_shape : List (List ℕ) → List Sign → List (List ℕ) → List Sign → Shape
value_shape words signs following_words following_signs = record {
  opens = record {
    names = true;
    numbers = true;
    texts = true;
    words = words ++ codes "NULL" ∷ codes "TRUE" ∷ codes "FALSE" ∷ codes "COUNT" ∷ codes "SUM" ∷ codes "MIN" ∷ codes "MAX" ∷ [];
    signs = signs;
  };
  blank = false;
  goes_on = record { names = false; numbers = false; texts = false; words = following_words; signs = following_signs };
}

-- A name goes on with a dot or, as an aggregate, with a bracket.
abbrev pub after_primary : List Sign
after_primary = signs.Dot ∷ signs.LeftParen ∷ []

abbrev pub primary_shape : Shape
primary_shape = value_shape [] (signs.LeftParen ∷ []) [] after_primary

abbrev pub signed : List Sign
signed = signs.LeftParen ∷ signs.Minus ∷ signs.Plus ∷ []

abbrev pub factor_shape : Shape
factor_shape = value_shape [] signed [] after_primary

abbrev pub after_term : List Sign
after_term = signs.Star ∷ after_primary

abbrev pub term_shape : Shape
term_shape = value_shape [] signed [] after_term

abbrev pub after_sum : List Sign
after_sum = signs.Plus ∷ signs.Minus ∷ after_term

abbrev pub sum_shape : Shape
sum_shape = value_shape [] signed [] after_sum

-- A predicate goes on with a comparison or with one of these words.
abbrev pub predicate_words : List (List ℕ)
predicate_words = codes "IS" ∷ codes "NOT" ∷ codes "BETWEEN" ∷ codes "IN" ∷ []

abbrev pub after_predicate : List Sign
after_predicate = comparisons.signs ++ after_sum

-- what a sum is a predicate with
abbrev pub tail_shape : Shape
tail_shape = record {
  opens = record { names = false; numbers = false; texts = false; words = predicate_words; signs = comparisons.signs };
  blank = false;
  goes_on = record { names = false; numbers = false; texts = false; words = []; signs = after_sum };
}

abbrev pub predicate_shape : Shape
predicate_shape = value_shape [] signed predicate_words after_predicate

abbrev pub negation_shape : Shape
negation_shape = value_shape (codes "NOT" ∷ []) signed predicate_words after_predicate

abbrev pub conjunction_shape : Shape
conjunction_shape = value_shape (codes "NOT" ∷ []) signed (codes "AND" ∷ predicate_words) (signs.AndAnd ∷ after_predicate)

abbrev pub disjunction_shape : Shape
disjunction_shape =
    value_shape (codes "NOT" ∷ []) signed (codes "OR" ∷ codes "AND" ∷ predicate_words) (signs.AndAnd ∷ after_predicate)

abbrev pub shape_of : Rule → Shape
shape_of rule.Expression = disjunction_shape
shape_of rule.Negation = negation_shape
shape_of rule.Sum = sum_shape
shape_of rule.Factor = factor_shape

-- What is inside agrees, rule by rule.
abbrev pub Inside : (inner wide : Rule → Form ExprTree) → ℕ → (read deeper : Rule → Reader ExprTree) → Type 0
Inside inner wide levels read deeper = (which : Rule) → Agrees (inner which) (wide which) (shape_of which) levels (read which) (deeper which)
