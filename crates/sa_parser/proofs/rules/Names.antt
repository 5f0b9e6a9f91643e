-- Words that aren't reserved are names.
use Rattle.std.proofs.Common.{◌≡◌, ℕ, Bool, true, false, is_some, List, [], ◌∷◌, Some, None, if◌then◌else◌, refl, sym, ◌∙◌}
use Rattle.std.proofs.lemmas.Bool.{false≢true, true≢false, or_parts}
use Rattle.std.specs.List.{list_any}
use Rattle.sa_lexer.specs.declared.token.Token.{Token}
use Rattle.sa_lexer.specs.declared.token.TokenKind.{TokenKind}
use Rattle.sa_lexer.specs.declared.token.TokenKind.TheVariants as kinds
use Rattle.sa_ast.specs.declared.name.NameTree.{NameTree}
use Rattle.sa_lexer.specs.Reserved.{is_reserved, reserved_words}
use Rattle.sa_parser.specs.Token.{is_word, is_sign, name_of, name_in}
use Rattle.sa_parser.proofs.Heads.{Heads, has, apart, only_names, apart-has, only_names-has}
use Rattle.sa_parser.proofs.rules.Examples.{there}

-- the words that are no names
abbrev pub reserved : Heads
reserved = record { names = false; numbers = false; texts = false; words = reserved_words; signs = [] }

not_reserved : (word : List ℕ) → has reserved (kinds.Word word) ≡ false → is_reserved word ≡ false
unfolding has is_word is_reserved
not_reserved word free = (or_parts _ _ free).0

named : (is : Bool) (word : List ℕ) → is ≡ false → is_some (if is then None else Some word) ≡ true
named false word free = refl
named true word free = absurd (true≢false free)

free_word : (word : List ℕ) → is_reserved word ≡ false → has only_names (kinds.Word word) ≡ true
unfolding name_of
free_word word free = only_names-has (kinds.Word word) ∙ named (is_reserved word) word free

-- words of which none is reserved
abbrev pub only_words : List (List ℕ) → Heads
only_words words = record { names = false; numbers = false; texts = false; words = words; signs = [] }

never : (words : List (List ℕ)) → list_any (λ word. false) words ≡ false
never [] = refl
never (word ∷ words) = never words

-- A token that is one of them is a name.
pub free-name : (words : List (List ℕ)) → apart (only_words words) reserved ≡ true → (kind : TokenKind) → has (only_words words) kind ≡ true
    → has only_names kind ≡ true
unfolding has is_word is_sign
free-name words a (kinds.Word word) h = free_word word (not_reserved word (apart-has (only_words words) reserved (kinds.Word word) a h))
free-name words a (kinds.QuotedName name) h = absurd (false≢true (simp never at h))
free-name words a (kinds.Text text) h = absurd (false≢true (simp never at h))
free-name words a (kinds.Number number) h = absurd (false≢true (simp never at h))
free-name words a (kinds.Sign sign) h = absurd (false≢true (simp never at h))

-- A token that is a name has one.
pub given-name : (token : Token) → has only_names token.kind ≡ true → (name : NameTree) × (name_in token ≡ Some name)
given-name token h = there _ (name_of token.kind) (sym (only_names-has token.kind) ∙ h)
