-- A name, a dot and a star are no expression.
use Rattle.std.proofs.Common.{◌≡◌, ℕ, zero, suc, Bool, true, false, ◌&&◌, codes, List, [], ◌∷◌, length, refl, ◌∙◌}
use Rattle.std.proofs.lemmas.Bool.{false≢true, and_parts, and_left, and_right}
use Rattle.sa_lexer.specs.declared.sign.Sign.TheVariants as signs
use Rattle.sa_lexer.specs.declared.token.Token.{Token}
use Rattle.sa_lexer.specs.declared.token.TokenKind.{TokenKind}
use Rattle.sa_ast.specs.declared.expression.ExprTree.{ExprTree}
use Rattle.sa_lexer.specs.Reserved.{is_reserved}
use Rattle.sa_parser.specs.declared.rule.Rule.{Rule}
use Rattle.sa_parser.specs.declared.rule.Rule.TheVariants as rule
use Rattle.sa_parser.specs.inner.Reading.{Reader}
use Rattle.sa_parser.specs.inner.ExprReading.{column, primary, factor, term, sum, predicate, negation, conjunction, disjunction, nested_read, sees_call}
use Rattle.sa_parser.proofs.Heads.{has, only_names, only_sign, apart, within, apart-has}
use Rattle.sa_parser.proofs.Looks.{sees_sign-Looks}
use Rattle.sa_parser.proofs.Matches.{matches}
use Rattle.sa_parser.proofs.laws.Begins.{name-Suffices, sign-Suffices, made-Suffices}
use Rattle.sa_parser.proofs.laws.Made.{made-Law}
use Rattle.sa_parser.proofs.laws.Words.{word-Law, sign-Law, name-Law}
use Rattle.sa_parser.proofs.rules.Atoms.{atom-Law}
use Rattle.sa_parser.proofs.rules.Call.{called, sees_call-LooksAhead}
use Rattle.sa_parser.proofs.rules.Refuses.{Refuses, Law-Refuses, made-Refuses, then-Refuses, then_second-Refuses, chain-Refuses, either-Refuses, unseen-Refuses, perhaps-Refuses}

abbrev pub table_star : List (TokenKind → Bool)
table_star = has only_names ∷ has (only_sign signs.Dot) ∷ has (only_sign signs.Star) ∷ []

column-Refuses : Refuses table_star column
unfolding column apart within
column-Refuses =
    then_second-Refuses (made-Suffices _ name-Suffices) (made-Law _ name-Law)
    (perhaps-Refuses (only_sign signs.Dot) (sees_sign-Looks signs.Dot) refl
    (then_second-Refuses (made-Suffices _ (sign-Suffices signs.Dot)) (made-Law _ (sign-Law signs.Dot))
    (Law-Refuses (only_sign signs.Star) [] name-Law refl refl)))

-- a dot is no bracket
no_call : (tokens : List Token) → matches table_star tokens ≡ true → sees_call tokens ≡ false
unfolding apart
no_call [] m = absurd (false≢true m)
no_call (first ∷ []) m = absurd (false≢true (and_parts (has only_names first.kind) false m).1)
no_call (first ∷ second ∷ rest) m =
    let (name, behind) = and_parts (has only_names first.kind) (has (only_sign signs.Dot) second.kind && matches (has (only_sign signs.Star) ∷ []) rest) m in
    let (dot, star) = and_parts (has (only_sign signs.Dot) second.kind) (matches (has (only_sign signs.Star) ∷ []) rest) behind in
    let no = apart-has (only_sign signs.Dot) (only_sign signs.LeftParen) second.kind refl dot in
    sees_call-LooksAhead.is (first ∷ second ∷ rest)
    ∙ and_right (has called first.kind) (has (only_sign signs.LeftParen) second.kind && true) (and_left (has (only_sign signs.LeftParen) second.kind) true no)

module _ (read : Rule → Reader ExprTree) where
  primary-Refuses : Refuses table_star (primary read)
  unfolding primary apart is_reserved
  primary-Refuses =
      either-Refuses _ (then-Refuses _ (then-Refuses _ (made-Refuses _ (Law-Refuses only_names _ (sign-Law signs.LeftParen) refl refl))))
      (unseen-Refuses _ _ no_call (either-Refuses _ column-Refuses (Law-Refuses only_names _ atom-Law refl refl)))

  factor-Refuses : Refuses table_star (factor read)
  unfolding factor apart
  factor-Refuses =
      either-Refuses _ (then-Refuses _ (made-Refuses _ (Law-Refuses only_names _ (sign-Law signs.Minus) refl refl)))
      (either-Refuses _ (then-Refuses _ (made-Refuses _ (Law-Refuses only_names _ (sign-Law signs.Plus) refl refl))) primary-Refuses)

  sum-Refuses : Refuses table_star (sum read)
  unfolding sum term
  sum-Refuses = chain-Refuses _ _ _ (chain-Refuses _ _ _ factor-Refuses)

  negation-Refuses : Refuses table_star (negation read)
  unfolding negation predicate apart is_reserved
  negation-Refuses =
      either-Refuses _ (then-Refuses _ (made-Refuses _ (Law-Refuses only_names _ (word-Law (codes "NOT")) refl refl)))
      (then-Refuses _ (made-Refuses _ sum-Refuses))

  disjunction-Refuses : Refuses table_star (disjunction read)
  unfolding disjunction conjunction
  disjunction-Refuses =
      made-Refuses _ (chain-Refuses _ _ _ (made-Refuses _ (made-Refuses _ (chain-Refuses _ _ _ (made-Refuses _ negation-Refuses)))))

pub nested-Refuses : (levels : ℕ) → Refuses table_star (nested_read levels rule.Expression)
unfolding nested_read
nested-Refuses zero = record { is = λ tokens m. (length tokens, refl) }
nested-Refuses (suc levels) = disjunction-Refuses (nested_read levels)
