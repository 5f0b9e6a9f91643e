-- Calls of aggregates.
use Rattle.std.proofs.Common.{◌≡◌, ℕ, suc, Bool, true, false, ◌&&◌, ◌||◌, is_some, codes, List, [], ◌∷◌, length, Option, Some, None, Err, refl, sym, ap₂, ◌∙◌, inl, inr}
use Rattle.std.proofs.Math.Bool.{and-false, and-true}
use Rattle.std.proofs.lemmas.Bool.{both_ways, or_cases}
use Rattle.sa_lexer.specs.declared.sign.Sign.TheVariants as signs
use Rattle.sa_lexer.specs.declared.token.Token.{Token}
use Rattle.sa_lexer.specs.declared.token.TokenKind.{TokenKind}
use Rattle.sa_ast.specs.declared.expression.ExprTree.{ExprTree}
use Rattle.sa_parser.specs.declared.rule.Rule.{Rule}
use Rattle.sa_parser.specs.declared.rule.Rule.TheVariants as rule
use Rattle.sa_parser.specs.Form.{Form, One, Made, Either, Sign, Brackets}
use Rattle.sa_parser.specs.inner.Reading.{Reader, made, either, sign, brackets, sees_sign}
use Rattle.sa_parser.specs.Token.{is_word}
use Rattle.sa_parser.specs.Tree.{aggregate_of, aggregate_in}
use Rattle.sa_parser.specs.ExprGrammar.{Call}
use Rattle.sa_parser.specs.inner.ExprReading.{call, sees_call}
use Rattle.sa_parser.proofs.Heads.{Heads, none, or, only_word, only_sign, apart, within, has, starts, only_word-has, only_sign-has, or-has}
use Rattle.sa_parser.proofs.Law.{Shape}
use Rattle.sa_parser.proofs.Looks.{sees_word-Looks, sees_sign-Looks}
use Rattle.sa_parser.proofs.LooksAhead.{LooksAhead, Suffices, Passes}
use Rattle.sa_parser.proofs.laws.Begins.{one-Suffices, word-Suffices}
use Rattle.sa_parser.proofs.laws.Either.{either-cases}
use Rattle.sa_parser.proofs.laws.Exactly.{one-Exactly, made-Exactly, then-Passes, either-Passes, Law-Passes}
use Rattle.sa_parser.proofs.laws.Made.{made-Law, made-faulty}
use Rattle.sa_parser.proofs.laws.Reshaped.{reshaped-Law}
use Rattle.sa_parser.proofs.laws.Words.{word-Law}
use Rattle.sa_parser.proofs.rules.Agrees.{Agrees, one-Agrees, word-Agrees, sign-Agrees, made-Agrees, then-Agrees, either-Agrees, brackets_shape, brackets-Agrees_inside}
use Rattle.sa_parser.proofs.rules.Atoms.{aggregates, aggregate-Law, aggregate_of-has}
use Rattle.sa_parser.proofs.rules.Examples.{there}
use Rattle.sa_parser.proofs.rules.FirstToken.{fails-first, one-fails_not}
use Rattle.sa_parser.proofs.rules.Shapes.{Inside}

-- the names of aggregates
abbrev pub called : Heads
called = or (only_word (codes "COUNT")) aggregates

abbrev pub call_shape : Shape
call_shape = record { opens = called; blank = false; goes_on = none }

-- what stands behind COUNT
abbrev Counted : (Rule → Form ExprTree) → Form (Option ExprTree)
Counted inner = Brackets (Either (Made (λ _. None) (Sign signs.Star)) (Made Some (inner rule.Sum)))

abbrev counted : (Rule → Reader ExprTree) → Reader (Option ExprTree)
counted read = brackets (either (sees_sign signs.Star) (made (λ _. None) (sign signs.Star)) (made Some (read rule.Sum)))

-- a call is a name and a bracket, at least
abbrev pub call_tests : List (TokenKind → Bool)
call_tests = has called ∷ has (only_sign signs.LeftParen) ∷ []

called-is : (kind : TokenKind) → (is_word (codes "COUNT") kind || is_some (aggregate_of kind)) ≡ has called kind
called-is kind =
    ap₂ ◌||◌ (sym (only_word-has (codes "COUNT") kind)) (aggregate_of-has kind) ∙ sym (or-has (only_word (codes "COUNT")) aggregates kind)

pub sees_call-LooksAhead : LooksAhead call_tests sees_call
unfolding sees_call
sees_call-LooksAhead = record {
  is = elim [
    | [] ↦ refl
    | first ∷ [] ↦ sym (and-false (has called first.kind))
    | first ∷ second ∷ rest ↦
        ap₂ ◌&&◌ (called-is first.kind) (sym (only_sign-has signs.LeftParen second.kind) ∙ sym (and-true (has (only_sign signs.LeftParen) second.kind)))
  ];
}

one_or_other : (kind : TokenKind) → has called kind ≡ true → has (only_word (codes "COUNT")) kind ≡ false → has aggregates kind ≡ true
one_or_other kind h not_count =
    elim (or_cases _ _ (sym (or-has (only_word (codes "COUNT")) aggregates kind) ∙ h)) [ inl e ↦ absurd (both_ways _ not_count e) | inr e ↦ e ]

aggregate-Suffices : Suffices (has aggregates ∷ []) (One aggregate_in)
aggregate-Suffices =
    one-Suffices aggregate_in (has aggregates) (λ token h. there (λ call. (token.start, call)) (aggregate_of token.kind) (aggregate_of-has token.kind ∙ h))

module _ {inner wide : Rule → Form ExprTree} {levels : ℕ} {read deeper : Rule → Reader ExprTree} (inside : Inside inner wide levels read deeper) where
  counted-Agrees : Agrees (Counted inner) (Counted wide) brackets_shape (suc levels) (counted read) (counted deeper)
  unfolding apart within
  counted-Agrees =
      brackets-Agrees_inside
      (either-Agrees (sees_sign-Looks signs.Star) (made-Agrees _ (sign-Agrees signs.Star)) (made-Agrees _ (inside rule.Sum)) refl refl refl refl) refl

  argument-Agrees : Agrees (Brackets (inner rule.Sum)) (Brackets (wide rule.Sum)) brackets_shape (suc levels) (brackets (read rule.Sum)) (brackets (deeper rule.Sum))
  unfolding apart
  argument-Agrees = brackets-Agrees_inside (inside rule.Sum) refl

  pub call-Agrees : Agrees (Call inner) (Call wide) call_shape (suc levels) (call read) (call deeper)
  unfolding Call call apart within
  call-Agrees =
      either-Agrees (sees_word-Looks (codes "COUNT"))
      (then-Agrees (made-Agrees _ (word-Agrees (codes "COUNT"))) counted-Agrees refl)
      (then-Agrees (made-Agrees _ (one-Agrees aggregate_in aggregate-Law)) argument-Agrees refl)
      refl refl refl refl

  pub call-Passes : Passes call_tests (Call inner)
  unfolding Call within
  call-Passes =
      either-Passes
      (then-Passes (made-Exactly _ (one-Exactly _ (reshaped-Law call_shape (word-Law (codes "COUNT")) refl refl refl) refl))
      (Law-Passes (only_sign signs.LeftParen) counted-Agrees.law refl refl))
      (then-Passes (made-Exactly _ (one-Exactly _ (reshaped-Law call_shape aggregate-Law refl refl refl) refl))
      (Law-Passes (only_sign signs.LeftParen) argument-Agrees.law refl refl))

  -- A call doesn't fail at its name.
  pub call-fails_not : (token : Token) (behind : List Token) → has called token.kind ≡ true
      → call read (token ∷ behind) ≡ Err (suc (length behind)) → ⊥
  unfolding call starts
  call-fails_not token behind h e =
      elim (either-cases _ _ _ (token ∷ behind) _ e) [
        | inl (sees, fails) ↦
            one-fails_not _ (word-Law (codes "COUNT")) (word-Suffices (codes "COUNT")) token behind _
            (sym ((sees_word-Looks (codes "COUNT")).is (token ∷ behind)) ∙ sees)
            (made-faulty _ _ _ _ (fails-first (made-Law _ (word-Law (codes "COUNT"))) refl counted-Agrees.law (token ∷ behind) fails))
        | inr (sees, fails) ↦
            one-fails_not _ aggregate-Law aggregate-Suffices token behind _
            (one_or_other token.kind h (sym ((sees_word-Looks (codes "COUNT")).is (token ∷ behind)) ∙ sees))
            (made-faulty _ _ _ _ (fails-first (made-Law _ aggregate-Law) refl argument-Agrees.law (token ∷ behind) fails))
      ]
