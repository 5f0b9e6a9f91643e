-- Looks at the first token alone.
use Rattle.std.proofs.Common.{◌≡◌, ℕ, Bool, ◌||◌, List, [], ◌∷◌, ◌++◌, refl, sym, ap₂, ◌∙◌}
use Rattle.sa_lexer.specs.declared.sign.Sign.{Sign}
use Rattle.sa_lexer.specs.declared.token.Token.{Token}
use Rattle.sa_parser.specs.inner.Reading.{sees_word, sees_sign, sees_name}
use Rattle.sa_parser.proofs.Heads.{Heads, or, starts, only_word, only_sign, only_names, only_word-has, only_sign-has, only_names-has}
use Rattle.sa_parser.proofs.Starts.{starts-or, starts-other}

-- A look tells whether the first token is in the set.
pub record Looks (heads : Heads) (looks : List Token → Bool) : Type 0 where
  pub is : (tokens : List Token) → looks tokens ≡ starts heads tokens

pub sees_word-Looks : (text : List ℕ) → Looks (only_word text) (sees_word text)
unfolding sees_word starts
sees_word-Looks text = record { is = elim [ [] ↦ refl | token ∷ rest ↦ sym (only_word-has text token.kind) ] }

pub sees_sign-Looks : (which : Sign) → Looks (only_sign which) (sees_sign which)
unfolding sees_sign starts
sees_sign-Looks which = record { is = elim [ [] ↦ refl | token ∷ rest ↦ sym (only_sign-has which token.kind) ] }

pub sees_name-Looks : Looks only_names sees_name
unfolding sees_name starts
sees_name-Looks = record { is = elim [ [] ↦ refl | token ∷ rest ↦ sym (only_names-has token.kind) ] }

pub or-Looks : {first second : Heads} {looks also : List Token → Bool} → Looks first looks → Looks second also
    → Looks (or first second) (λ tokens. looks tokens || also tokens)
or-Looks {first} {second} one other = record {
  is = λ tokens. ap₂ ◌||◌ (one.is tokens) (other.is tokens) ∙ sym (starts-or first second tokens);
}

-- a look at tokens of which one is left doesn't see what stands behind that token
pub Looks-other : {heads : Heads} {looks : List Token → Bool} → Looks heads looks → (before : List Token) (token : Token) (behind other : List Token)
    → looks (before ++ token ∷ behind) ≡ looks (before ++ token ∷ other)
Looks-other {heads} look before token behind other =
    look.is (before ++ token ∷ behind) ∙ starts-other heads before token behind other ∙ sym (look.is (before ++ token ∷ other))
