-- When a faulty word asks for something that the product has not.
use Rattle.std.proofs.Common.{◌≡◌, ◌↔◌, inl, inr, ℕ, Bool, true, false, List, IsTrue, refl, sym, ◌∙◌}
use Rattle.std.proofs.lemmas.Bool.{true≢false}
use Rattle.std.specs.List.{list_any}
use Rattle.sa_lexer.specs.declared.token.Token.{Token}
use Rattle.sa_lexer.specs.declared.token.TokenKind.TheVariants.{Word}
use Rattle.sa_parser.specs.Token.{is_word}
use Rattle.sa_parser.specs.Form.{Form}
use Rattle.sa_parser.specs.Fault.{unsupported_words, StandsForKind, AsksForMore}

-- a word of the list does
pub word-listed : {A : Type 0} (Is : Form A) (before : List Token) (token : Token) (word : List ℕ) → list_any (λ other. is_word other (Word word)) unsupported_words ≡ true
    → IsTrue true ↔ AsksForMore Is before token (Word word)
word-listed Is before token word listed = (λ _. inl listed, λ _. refl)

-- another one does where it stands for a kind
pub word-other : {A : Type 0} (Is : Form A) (before : List Token) (token : Token) (word : List ℕ) (found : Bool) → list_any (λ other. is_word other (Word word)) unsupported_words ≡ false
    → IsTrue found ↔ StandsForKind Is before token → IsTrue found ↔ AsksForMore Is before token (Word word)
word-other Is before token word found other stands =
    (λ is. inr (stands.0 is), λ asks. elim asks [ inl listed ↦ absurd (true≢false (sym listed ∙ other)) | inr kind ↦ stands.1 kind ])
