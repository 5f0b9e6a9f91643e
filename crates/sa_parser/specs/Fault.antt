-- Where the fault of a statement stands, and what kind it is. The place is a matter of the grammar:
-- it is the first token with which the tokens so far begin no statement.
use Rattle.std.specs.Prelude.{◌≡◌, ℕ, ◌⊎◌, true, List, [], ◌∷◌, ◌++◌, codes, is_some}
use Rattle.std.specs.List.{list_any}
use Rattle.sa_lexer.specs.declared.sign.Sign.TheVariants as signs
use Rattle.sa_lexer.specs.declared.token.Token.{Token}
use Rattle.sa_lexer.specs.declared.token.TokenKind.{TokenKind}
use Rattle.sa_lexer.specs.declared.token.TokenKind.TheVariants.{Word, QuotedName, Text, Sign}
use Rattle.sa_parser.specs.Token.{is_word, name_of}
use Rattle.sa_parser.specs.Form.{Form}

-- The tokens and some behind them are in the form.
abbrev pub Begins : {A : Type 0} → Form A → List Token → Type 0
Begins {A} Is tokens = (behind : List Token) × (value : A) × Is (tokens ++ behind) value

-- The tokens in front begin something; with the first of those behind they don't, or, where none is
-- behind, they are no whole.
abbrev pub FaultyAt : {A : Type 0} → Form A → List Token → List Token → Type 0
FaultyAt {A} Is before [] = Begins Is before × ((value : A) → Is before value → ⊥)
FaultyAt Is before (token ∷ behind) = Begins Is before × (Begins Is (before ++ token ∷ []) → ⊥)

-- the end of the last token
abbrev pub end_of : List Token → ℕ
end_of [] = 0
end_of (token ∷ []) = token.end
end_of (token ∷ next ∷ rest) = end_of (next ∷ rest)

-- The place of a fault is the faulty token's, or the end of the last token where some are missing.
abbrev pub fault_place : List Token → List Token → ℕ
fault_place before [] = end_of before
fault_place before (token ∷ behind) = token.start

-- a token of another kind in the place of this one
abbrev pub in_place_of : Token → TokenKind → Token
in_place_of token kind = record token { kind = kind }

-- a name that is one in any place
abbrev pub some_name : TokenKind
some_name = QuotedName (codes "n")

-- A token that was read as a name: it is one, and another name could stand in its place.
abbrev pub ReadAsName : {A : Type 0} → Form A → List Token → Type 0
ReadAsName Is before =
    (earlier : List Token) × (last : Token) × (before ≡ earlier ++ last ∷ [])
    × (is_some (name_of last.kind) ≡ true)
    × Begins Is (earlier ++ in_place_of last some_name ∷ [])

-- A word stands where the kind of a column has to: INT could stand there, and a name could not.
abbrev pub StandsForKind : {A : Type 0} → Form A → List Token → Token → Type 0
StandsForKind Is before token =
    Begins Is (before ++ in_place_of token (Word (codes "INT")) ∷ [])
    × (Begins Is (before ++ in_place_of token some_name ∷ []) → ⊥)

-- A text stands where the switch of the trace has to.
abbrev pub StandsForSwitch : {A : Type 0} → Form A → List Token → Token → Type 0
StandsForSwitch Is before token =
    Begins Is (before ++ in_place_of token (Text (codes "enabled=on")) ∷ [])

-- The words that ask for something that MariaDB has and this product has not.
abbrev pub unsupported_words : List (List ℕ)
unsupported_words =
    codes "ALTER" ∷ codes "AUTO_INCREMENT" ∷ codes "BEGIN" ∷ codes "CASE" ∷ codes "CHARACTER"
    ∷ codes "CHARSET" ∷ codes "COLLATE" ∷
    codes "COMMENT" ∷ codes "COMMIT" ∷ codes "CONSTRAINT" ∷ codes "CREATE" ∷ codes "DEFAULT"
    ∷ codes "DELETE" ∷ codes "DIV" ∷
    codes "DROP" ∷ codes "EXCEPT" ∷ codes "EXISTS" ∷ codes "FOR" ∷ codes "FOREIGN" ∷ codes "FULL"
    ∷ codes "HARD" ∷ codes "ID" ∷
    codes "INSERT" ∷ codes "INTERSECT" ∷ codes "INTO" ∷ codes "LEFT" ∷ codes "LIKE" ∷ codes "LOCK"
    ∷ codes "MOD" ∷ codes "NATURAL" ∷
    codes "OVER" ∷ codes "REGEXP" ∷ codes "RIGHT" ∷ codes "RLIKE" ∷ codes "SELECT" ∷ codes "SOFT"
    ∷ codes "STRAIGHT_JOIN" ∷
    codes "TRADITIONAL" ∷ codes "UNION" ∷ codes "UNSIGNED" ∷ codes "UPDATE" ∷ codes "USER"
    ∷ codes "USING" ∷ codes "WINDOW" ∷
    codes "WITH" ∷ codes "XOR" ∷ []

-- A faulty token asks for such a thing.
abbrev pub AsksForMore : {A : Type 0} → Form A → List Token → Token → TokenKind → Type 0
AsksForMore Is before token (Sign signs.OrOr) = Unit {0}
AsksForMore Is before token (Sign signs.Slash) = Unit {0}
AsksForMore Is before token (Sign signs.Percent) = Unit {0}
AsksForMore Is before token (Sign signs.LeftParen) = ReadAsName Is before
AsksForMore Is before token (Text text) = StandsForSwitch Is before token
AsksForMore Is before token (Word word) =
    (list_any (λ other. is_word other (Word word)) unsupported_words ≡ true)
    ⊎ StandsForKind Is before token
AsksForMore Is before token kind = ⊥

-- What is faulty is what this product doesn't support.
abbrev pub IsUnsupported : {A : Type 0} → Form A → List Token → List Token → Type 0
IsUnsupported Is before [] = ⊥
IsUnsupported Is before (token ∷ behind) = AsksForMore Is before token token.kind
