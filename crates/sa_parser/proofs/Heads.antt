-- Sets of tokens: which can begin a form, and which can't follow one.
use Rattle.std.proofs.Common.{◌≡◌, ℕ, Bool, true, false, not, is_some, ◌&&◌, ◌||◌, ◌⊎◌, List, [], ◌∷◌, ◌++◌, Some, None, if◌then◌else◌, ap, ap₂, ◌∙◌, sym, refl, inl, inr}
use Rattle.std.proofs.Math.Bool.{and-false, and-true, or-false}
use Rattle.std.proofs.lemmas.Bool.{false≢true, both_ways, not-true, false_from_ne_true, and_parts, and_from, or_cases, or_left, or_right}
use Rattle.std.proofs.lemmas.List.Folds.{list_any-append}
use Rattle.std.specs.List.{list_any, list_all}
use Rattle.std.specs.Str.{str_eq_ignore_ascii_case}
use Rattle.sa_lexer.specs.declared.sign.Sign.{Sign}
use Rattle.sa_lexer.specs.declared.token.Token.{Token}
use Rattle.sa_lexer.specs.declared.token.TokenKind.{TokenKind}
use Rattle.sa_lexer.specs.declared.token.TokenKind.TheVariants as kinds
use Rattle.sa_lexer.specs.Reserved.{is_reserved, reserved_words}
use Rattle.sa_parser.specs.Token.{is_word, is_sign, same_sign, name_of}
use Rattle.sa_parser.proofs.Alike.{words_alike, signs_alike, any-apart, any-within, any-all_moved}

-- names, numbers, texts, and these words and signs
pub record Heads : Type 0 where
  pub names : Bool
  pub numbers : Bool
  pub texts : Bool
  pub words : List (List ℕ)
  pub signs : List Sign

abbrev pub none : Heads
none = record { names = false; numbers = false; texts = false; words = []; signs = [] }

abbrev pub only_names : Heads
only_names = record { names = true; numbers = false; texts = false; words = []; signs = [] }

abbrev pub only_numbers : Heads
only_numbers = record { names = false; numbers = true; texts = false; words = []; signs = [] }

abbrev pub only_texts : Heads
only_texts = record { names = false; numbers = false; texts = true; words = []; signs = [] }

abbrev pub only_word : List ℕ → Heads
only_word text = record { names = false; numbers = false; texts = false; words = text ∷ []; signs = [] }

abbrev pub only_sign : Sign → Heads
only_sign sign = record { names = false; numbers = false; texts = false; words = []; signs = sign ∷ [] }

abbrev pub or : Heads → Heads → Heads
or first second = record {
  names = first.names || second.names;
  numbers = first.numbers || second.numbers;
  texts = first.texts || second.texts;
  words = first.words ++ second.words;
  signs = first.signs ++ second.signs;
}

abbrev pub is_name : TokenKind → Bool
is_name kind = is_some (name_of kind)

abbrev pub is_number : TokenKind → Bool
is_number (kinds.Number number) = true
is_number kind = false

abbrev pub is_text : TokenKind → Bool
is_text (kinds.Text text) = true
is_text kind = false

unfoldable pub has : Heads → TokenKind → Bool
has heads kind =
    list_any (λ word. is_word word kind) heads.words || (list_any (λ sign. is_sign sign kind) heads.signs
    || ((heads.names && is_name kind) || ((heads.numbers && is_number kind) || (heads.texts && is_text kind))))

-- whether the first token is in the set
unfoldable pub starts : Heads → List Token → Bool
starts heads [] = false
starts heads (token ∷ rest) = has heads token.kind

-- whether a test shows that no token is in both sets: no word and no sign is in both lists, and a word beside names is reserved
unfoldable pub apart : Heads → Heads → Bool
apart first second =
    not (first.names && second.names) && (not (first.numbers && second.numbers) && (not (first.texts && second.texts)
    && (list_all (λ word. not (list_any (str_eq_ignore_ascii_case word) second.words)) first.words
    && (list_all (λ sign. not (list_any (same_sign sign) second.signs)) first.signs
    && ((not first.names || list_all is_reserved second.words) && (not second.names || list_all is_reserved first.words))))))

-- whether a test shows that each token of the first set is in the second
unfoldable pub within : Heads → Heads → Bool
within first second =
    (not first.names || second.names) && ((not first.numbers || second.numbers) && ((not first.texts || second.texts)
    && (list_all (λ word. list_any (str_eq_ignore_ascii_case word) second.words) first.words
    && list_all (λ sign. list_any (same_sign sign) second.signs) first.signs)))

list_any-never : {X : Type 0} (xs : List X) → list_any (λ x. false) xs ≡ false
list_any-never [] = refl
list_any-never (x ∷ xs) = list_any-never xs

-- What the set says of each kind of token.
abbrev says : Heads → TokenKind → Bool
says heads (kinds.Word word) = list_any (λ text. str_eq_ignore_ascii_case text word) heads.words || (heads.names && not (is_reserved word))
says heads (kinds.QuotedName name) = heads.names
says heads (kinds.Text text) = heads.texts
says heads (kinds.Number number) = heads.numbers
says heads (kinds.Sign sign) = list_any (λ other. same_sign other sign) heads.signs

named : (reserved : Bool) (word : List ℕ) → is_some (if reserved then None else Some word) ≡ not reserved
named true word = refl
named false word = refl

has-says : (heads : Heads) (kind : TokenKind) → has heads kind ≡ says heads kind
unfolding has is_word is_sign name_of
has-says heads (kinds.Word word) = simp (list_any-never, and-false, or-false, named)
has-says heads (kinds.QuotedName name) = simp (list_any-never, and-false, and-true, or-false)
has-says heads (kinds.Text text) = simp (list_any-never, and-false, and-true)
has-says heads (kinds.Number number) = simp (list_any-never, and-false, and-true, or-false)
has-says heads (kinds.Sign sign) = simp (list_any-never, and-false, or-false)

-- a word that is spelled like a reserved word is reserved
reserved-like : (words : List (List ℕ)) (word : List ℕ) → list_all is_reserved words ≡ true
    → list_any (λ text. str_eq_ignore_ascii_case text word) words ≡ true → is_reserved word ≡ true
unfolding is_reserved
reserved-like words word all here = any-all_moved str_eq_ignore_ascii_case words_alike reserved_words words word all here

-- of a condition that says what follows from a test
so : (test : Bool) {fact : Bool} → (not test || fact) ≡ true → test ≡ true → fact ≡ true
so true h e = h
so false h e = absurd (false≢true e)

-- What a word is to a set: one of its words, or a name.
word_cases : (heads : Heads) (word : List ℕ) → says heads (kinds.Word word) ≡ true
    → (list_any (λ text. str_eq_ignore_ascii_case text word) heads.words ≡ true) ⊎ ((heads.names ≡ true) × (is_reserved word ≡ false))
word_cases heads word h =
    elim (or_cases (list_any (λ text. str_eq_ignore_ascii_case text word) heads.words) (heads.names && not (is_reserved word)) h) [
      | inl e ↦ inl e
      | inr e ↦ let parts = and_parts heads.names (not (is_reserved word)) e in inr (parts.0, not-true (is_reserved word) parts.1)
    ]

never-both : (b c : Bool) → not (b && c) ≡ true → b ≡ true → c ≡ true → ⊥
never-both b c n e f = both_ways (b && c) (not-true (b && c) n) (and_from b c e f)

-- the parts of the test `apart`
record IsApart (first second : Heads) : Type 0 where
  names : not (first.names && second.names) ≡ true
  numbers : not (first.numbers && second.numbers) ≡ true
  texts : not (first.texts && second.texts) ≡ true
  words : list_all (λ word. not (list_any (str_eq_ignore_ascii_case word) second.words)) first.words ≡ true
  signs : list_all (λ sign. not (list_any (same_sign sign) second.signs)) first.signs ≡ true
  other_words : (not first.names || list_all is_reserved second.words) ≡ true
  own_words : (not second.names || list_all is_reserved first.words) ≡ true

seven : (a b c d e f g : Bool) → (a && (b && (c && (d && (e && (f && g)))))) ≡ true
    → (a ≡ true) × (b ≡ true) × (c ≡ true) × (d ≡ true) × (e ≡ true) × (f ≡ true) × (g ≡ true)
seven a b c d e f g h =
    let h1 = and_parts a (b && (c && (d && (e && (f && g))))) h in
    let h2 = and_parts b (c && (d && (e && (f && g)))) h1.1 in
    let h3 = and_parts c (d && (e && (f && g))) h2.1 in
    let h4 = and_parts d (e && (f && g)) h3.1 in
    let h5 = and_parts e (f && g) h4.1 in
    let h6 = and_parts f g h5.1 in
    (h1.0, h2.0, h3.0, h4.0, h5.0, h6.0, h6.1)

apart-parts : (first second : Heads) → apart first second ≡ true → IsApart first second
unfolding apart
apart-parts first second a =
    let parts = seven _ _ _ _ _ _ _ a in
    record { names = parts.0; numbers = parts.1; texts = parts.2; words = parts.3; signs = parts.4; other_words = parts.5; own_words = parts.6 }

apart-says : (first second : Heads) (kind : TokenKind) → IsApart first second → says first kind ≡ true → says second kind ≡ true → ⊥
apart-says first second (kinds.Word word) a h k =
    elim (word_cases first word h) [
      | inl e ↦ elim (word_cases second word k) [
        | inl f ↦ any-apart str_eq_ignore_ascii_case words_alike first.words second.words word a.words e f
        | inr f ↦ both_ways _ f.1 (reserved-like first.words word (so second.names a.own_words f.0) e)
      ]
      | inr e ↦ elim (word_cases second word k) [
        | inl f ↦ both_ways _ e.1 (reserved-like second.words word (so first.names a.other_words e.0) f)
        | inr f ↦ never-both first.names second.names a.names e.0 f.0
      ]
    ]
apart-says first second (kinds.QuotedName name) a h k = never-both first.names second.names a.names h k
apart-says first second (kinds.Text text) a h k = never-both first.texts second.texts a.texts h k
apart-says first second (kinds.Number number) a h k = never-both first.numbers second.numbers a.numbers h k
apart-says first second (kinds.Sign sign) a h k = any-apart same_sign signs_alike first.signs second.signs sign a.signs h k

pub apart-has : (first second : Heads) (kind : TokenKind) → apart first second ≡ true → has first kind ≡ true → has second kind ≡ false
apart-has first second kind a h =
    false_from_ne_true _ (λ k. apart-says first second kind (apart-parts first second a) (sym (has-says first kind) ∙ h) (sym (has-says second kind) ∙ k))

-- the parts of the test `within`
record IsWithin (first second : Heads) : Type 0 where
  names : (not first.names || second.names) ≡ true
  numbers : (not first.numbers || second.numbers) ≡ true
  texts : (not first.texts || second.texts) ≡ true
  words : list_all (λ word. list_any (str_eq_ignore_ascii_case word) second.words) first.words ≡ true
  signs : list_all (λ sign. list_any (same_sign sign) second.signs) first.signs ≡ true

five : (a b c d e : Bool) → (a && (b && (c && (d && e)))) ≡ true → (a ≡ true) × (b ≡ true) × (c ≡ true) × (d ≡ true) × (e ≡ true)
five a b c d e h =
    let h1 = and_parts a (b && (c && (d && e))) h in
    let h2 = and_parts b (c && (d && e)) h1.1 in
    let h3 = and_parts c (d && e) h2.1 in
    let h4 = and_parts d e h3.1 in
    (h1.0, h2.0, h3.0, h4.0, h4.1)

within-parts : (first second : Heads) → within first second ≡ true → IsWithin first second
unfolding within
within-parts first second w =
    let parts = five _ _ _ _ _ w in
    record { names = parts.0; numbers = parts.1; texts = parts.2; words = parts.3; signs = parts.4 }

within-says : (first second : Heads) (kind : TokenKind) → IsWithin first second → says first kind ≡ true → says second kind ≡ true
within-says first second (kinds.Word word) w h =
    elim (word_cases first word h) [
      | inl e ↦ or_left _ _ (any-within str_eq_ignore_ascii_case words_alike first.words second.words word w.words e)
      | inr e ↦ or_right _ _ (and_from _ _ (so first.names w.names e.0) (ap not e.1))
    ]
within-says first second (kinds.QuotedName name) w h = so first.names w.names h
within-says first second (kinds.Text text) w h = so first.texts w.texts h
within-says first second (kinds.Number number) w h = so first.numbers w.numbers h
within-says first second (kinds.Sign sign) w h = any-within same_sign signs_alike first.signs second.signs sign w.signs h

pub within-has : (first second : Heads) (kind : TokenKind) → within first second ≡ true → has first kind ≡ true → has second kind ≡ true
within-has first second kind w h =
    has-says second kind ∙ within-says first second kind (within-parts first second w) (sym (has-says first kind) ∙ h)

exchange : (a b c d : Bool) → (a || b || (c || d)) ≡ (a || c || (b || d))
exchange true b c d = refl
exchange false true true d = refl
exchange false true false d = refl
exchange false false c d = refl

and-or : (a b c : Bool) → ((a || b) && c) ≡ ((a && c) || (b && c))
and-or true true true = refl
and-or true true false = refl
and-or true false true = refl
and-or true false false = refl
and-or false b c = refl

or-says : (first second : Heads) (kind : TokenKind) → says (or first second) kind ≡ (says first kind || says second kind)
or-says first second (kinds.Word word) =
    ap₂ ◌||◌ (list_any-append _ first.words second.words) (and-or first.names second.names (not (is_reserved word)))
    ∙ exchange (list_any _ first.words) (list_any _ second.words) (first.names && not (is_reserved word)) (second.names && not (is_reserved word))
or-says first second (kinds.QuotedName name) = refl
or-says first second (kinds.Text text) = refl
or-says first second (kinds.Number number) = refl
or-says first second (kinds.Sign sign) = list_any-append _ first.signs second.signs

pub or-has : (first second : Heads) (kind : TokenKind) → has (or first second) kind ≡ (has first kind || has second kind)
or-has first second kind =
    has-says (or first second) kind ∙ or-says first second kind ∙ ap₂ ◌||◌ (sym (has-says first kind)) (sym (has-says second kind))

pub only_word-has : (text : List ℕ) (kind : TokenKind) → has (only_word text) kind ≡ is_word text kind
unfolding has
only_word-has text kind = simp or-false

pub only_sign-has : (sign : Sign) (kind : TokenKind) → has (only_sign sign) kind ≡ is_sign sign kind
unfolding has
only_sign-has sign kind = simp or-false

pub only_names-has : (kind : TokenKind) → has only_names kind ≡ is_name kind
unfolding has
only_names-has kind = simp or-false

pub only_numbers-has : (kind : TokenKind) → has only_numbers kind ≡ is_number kind
unfolding has
only_numbers-has kind = simp or-false

pub only_texts-has : (kind : TokenKind) → has only_texts kind ≡ is_text kind
unfolding has
only_texts-has kind = refl
