-- A text with a fault: tokens and blanks alone stand up to it, and what stands there is of the
-- fault's kind.
use Rattle.std.specs.Prelude.{ℕ, ◌≡◌, ◌≢◌, ◌+◌, ◌<◌, ◌≤◌, ◌⊎◌, ⊤, true, false, List, [], ◌∷◌, ◌++◌, length, drop, slice_index, codes, IsTrue}
use Rattle.std.specs.Char.{is_ascii_digit}
use Rattle.std.specs.List.{AllByRecursion, concat}
use Rattle.std.specs.Str.{all_ascii_digits}
use Rattle.sa_lexer.specs.declared.fault.LexKind.{LexKind}
use Rattle.sa_lexer.specs.declared.fault.LexKind.TheVariants.{BadByte, OpenText, OpenComment, NumberTooLong, TextTooLong}
use Rattle.sa_lexer.specs.declared.fault.LexFault.{LexFault}
use Rattle.sa_lexer.specs.declared.fault.LexFault.TheVariants.{Bad, OutOfMemory}
use Rattle.sa_lexer.specs.declared.opening.Opening.TheVariants.{Plain}
use Rattle.sa_lexer.specs.declared.sign.Sign.{Sign}
use Rattle.sa_lexer.specs.declared.token.TokenKind.{TokenKind}
use Rattle.sa_lexer.specs.Byte.{is_space, is_word_byte, is_quote}
use Rattle.sa_lexer.specs.Opening.{begins_with, is_executable, opening_of, escapes}
use Rattle.sa_lexer.specs.Sign.{spelling}
use Rattle.sa_lexer.specs.Spans.{Part, IsPart, source_of, InQuotes, Spells}
use Rattle.sa_lexer.specs.Grammar.{IsBlank, Ends, Follow}
use Rattle.sa_lexer.specs.Piece.{IsStretch}

-- A quote that nothing closes: doubled quotes, escapes and other bytes stand behind it up to the
-- text's end, where a backslash may be left that has no byte to escape.
pub record IsOpenText (rest : List ℕ) : Type 0 where
  pub quote : ℕ
  pub parts : List Part
  pub left : List ℕ
  pub quoted : is_quote quote ≡ true
  pub are : AllByRecursion (IsPart quote) parts
  pub source : rest ≡ quote ∷ (source_of parts ++ left)
  pub ends : (left ≡ []) ⊎ ((escapes quote 92 ≡ true) × (left ≡ 92 ∷ []))

-- A `/*` that no `*/` follows.
pub record IsOpenComment (rest : List ℕ) : Type 0 where
  pub inner : List ℕ
  pub source : rest ≡ codes "/*" ++ inner
  pub unclosed : (k : ℕ) → k < length inner → begins_with (codes "*/") (drop k inner) ≡ false

-- More than 38 digits.
pub record IsLongNumber (rest : List ℕ) : Type 0 where
  pub digits : List ℕ
  pub after : List ℕ
  pub source : rest ≡ digits ++ after
  pub are : IsTrue (all_ascii_digits digits)
  pub long : 38 < length digits

-- A text in quotes that holds more than 255 bytes.
pub record IsLongText (rest : List ℕ) : Type 0 where
  pub bytes : List ℕ
  pub after : List ℕ
  pub held : List ℕ
  pub source : rest ≡ bytes ++ after
  pub quoted : InQuotes 39 bytes held ⊎ InQuotes 34 bytes held
  pub ends : slice_index after 0 ≢ slice_index bytes 0
  pub long : 255 < length held

-- A name in backquotes, which are byte 96, without a byte between them.
pub record IsEmptyName (rest : List ℕ) : Type 0 where
  pub after : List ℕ
  pub source : rest ≡ 96 ∷ 96 ∷ after
  pub ends : slice_index after 0 ≢ 96

-- A byte that neither a blank, a word, a number nor anything in quotes begins with, and no sign.
pub record BeginsNothing (rest : List ℕ) : Type 0 where
  pub byte : ℕ
  pub after : List ℕ
  pub source : rest ≡ byte ∷ after
  pub space : is_space byte ≡ false
  pub word : is_word_byte byte ≡ false
  pub opens : opening_of rest ≡ Plain
  pub sign : (sign : Sign) → begins_with (spelling sign) rest ≡ false

-- A byte of a word directly behind a number of so many digits.
pub record FollowsNumber (rest : List ℕ) (count : ℕ) : Type 0 where
  pub digits : List ℕ
  pub byte : ℕ
  pub after : List ℕ
  pub source : rest ≡ digits ++ (byte ∷ after)
  pub are : IsTrue (all_ascii_digits digits)
  pub some : 0 < length digits
  pub short : length digits ≤ 38
  pub digit : is_ascii_digit byte ≡ false
  pub word : is_word_byte byte ≡ true
  pub all : count ≡ length digits

-- What is wrong with the rest of a text, by the kind of its fault, and how many bytes of it come
-- before the place.
abbrev pub IsWrong : LexKind → List ℕ → ℕ → Type 0
IsWrong BadByte rest count =
    ((count ≡ 0) × (BeginsNothing rest ⊎ (IsEmptyName rest ⊎ (is_executable rest ≡ true))))
    ⊎ FollowsNumber rest count
IsWrong OpenText rest count = (count ≡ 0) × IsOpenText rest
IsWrong OpenComment rest count = (count ≡ 0) × IsOpenComment rest × (is_executable rest ≡ false)
IsWrong NumberTooLong rest count = (count ≡ 0) × IsLongNumber rest
IsWrong TextTooLong rest count = (count ≡ 0) × IsLongText rest

-- A token or a blank, before what follows it.
abbrev pub IsTokenOrBlank : List ℕ → List ℕ → Type 0
IsTokenOrBlank bytes after =
    ((kind : TokenKind) × Spells bytes kind × Ends bytes after kind) ⊎ IsBlank bytes after

-- A text of which tokens and blanks are the front, and the rest has a fault of this kind at this place.
pub record IsFaulty (text : List ℕ) (kind : LexKind) (place : ℕ) : Type 0 where
  pub front : List (List ℕ)
  pub rest : List ℕ
  pub count : ℕ
  pub source : text ≡ concat front ++ rest
  pub before : Follow IsTokenOrBlank front rest
  pub there : place ≡ length (concat front) + count
  pub wrong : IsWrong kind rest count

-- What a call tells of a text is its fault, unless memory ran out.
abbrev pub TellsFault : List ℕ → LexFault → Type 0
TellsFault text (Bad kind place) = IsFaulty text kind place
TellsFault text OutOfMemory = ⊤

-- What a piece can leave open.
abbrev pub LeavesOpen : LexKind → List ℕ → Type 0
LeavesOpen OpenText rest = IsOpenText rest
LeavesOpen OpenComment rest = IsOpenComment rest
LeavesOpen kind rest = ⊥

-- A piece from a place on, of which stretches without a `;` are the front, and the rest is left open.
pub record IsOpenPiece (from : ℕ) (text : List ℕ) (kind : LexKind) (place : ℕ) : Type 0 where
  pub front : List (List ℕ)
  pub rest : List ℕ
  pub source : drop from text ≡ concat front ++ rest
  pub before : Follow IsStretch front rest
  pub there : place ≡ from + length (concat front)
  pub unclosed : LeavesOpen kind rest

-- What a call that takes no memory tells of a piece is what the piece leaves open.
abbrev pub TellsOpen : ℕ → List ℕ → LexFault → Type 0
TellsOpen from text (Bad kind place) = IsOpenPiece from text kind place
TellsOpen from text OutOfMemory = ⊥
