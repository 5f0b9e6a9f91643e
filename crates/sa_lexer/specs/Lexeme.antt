-- What a text begins with.
use Rattle.std.specs.Prelude.{ℕ, ◌+◌, ◌-◌, ◌==◌, List, Option, Some, None, Result, Ok, Err, length, take, slice_index, slice_range, if◌then◌else◌, nat_lt}
use Rattle.std.specs.Char.{is_ascii_digit}
use Rattle.std.specs.List.{prefix_len}
use Rattle.std.specs.Str.Parse.{digits_value}
use Rattle.sa_lexer.specs.declared.fault.LexKind.TheVariants.{BadByte, NumberTooLong, TextTooLong}
use Rattle.sa_lexer.specs.declared.lexeme.Lexeme.{Lexeme}
use Rattle.sa_lexer.specs.declared.opening.Opening.{Opening}
use Rattle.sa_lexer.specs.declared.opening.Opening.TheVariants.{LineComment, Comment, Quoted, Plain}
use Rattle.sa_lexer.specs.declared.sign.Sign.{Sign}
use Rattle.sa_lexer.specs.declared.token.TokenKind.{TokenKind}
use Rattle.sa_lexer.specs.declared.token.TokenKind.TheVariants as kinds
use Rattle.sa_lexer.specs.Byte.{is_space, is_word_byte}
use Rattle.sa_lexer.specs.Fault.{Fault, fault, ◌>>=◌}
use Rattle.sa_lexer.specs.Opening.{opening_of, is_executable, len_at}
use Rattle.sa_lexer.specs.Quoted.{held_in}
use Rattle.sa_lexer.specs.Sign.{sign_at, spelling}

-- White space and comments are blanks.
abbrev pub blank : ℕ → Lexeme
blank len = record { kind = None; len = len }

abbrev pub token : TokenKind → ℕ → Lexeme
token kind len = record { kind = Some kind; len = len }

-- A word is the longest run of word bytes.
unfoldable pub word_at : List ℕ → Lexeme
word_at bytes = let len = prefix_len is_word_byte bytes in token (kinds.Word (take len bytes)) len

-- A number is the longest run of digits, at most 38 of them, and no word byte may follow it.
unfoldable pub number_at : ℕ → List ℕ → Result Lexeme Fault
number_at place bytes =
    let len = prefix_len is_ascii_digit bytes in
    if nat_lt 38 len then Err (fault NumberTooLong place)
    else (if is_word_byte (slice_index bytes len) then Err (fault BadByte (place + len))
    else Ok (token (kinds.Number (digits_value 10 (take len bytes))) len))

-- a sign, where there is one
abbrev pub sign_lexeme : ℕ → Option Sign → Result Lexeme Fault
sign_lexeme place None = Err (fault BadByte place)
sign_lexeme place (Some sign) = Ok (token (kinds.Sign sign) (length (spelling sign)))

-- What is neither a comment nor in quotes.
unfoldable pub plain_at : ℕ → List ℕ → Result Lexeme Fault
plain_at place bytes =
    let first = slice_index bytes 0 in
    if is_space first then Ok (blank 1)
    else (if is_ascii_digit first then number_at place bytes
    else (if is_word_byte first then Ok (word_at bytes)
    else sign_lexeme place (sign_at bytes)))

-- A name in backquotes isn't empty. A text holds up to 255 bytes. These are the bytes with both quotes.
unfoldable pub quoted_at : ℕ → List ℕ → Result Lexeme Fault
quoted_at place bytes =
    let quote = slice_index bytes 0 in
    let held = held_in quote (slice_range bytes 1 (length bytes - 1)) in
    if quote == 96
    then (if length held == 0 then Err (fault BadByte place)
    else Ok (token (kinds.QuotedName held) (length bytes)))
    else (if nat_lt 255 (length held) then Err (fault TextTooLong place)
    else Ok (token (kinds.Text held) (length bytes)))

abbrev pub opened_at : ℕ → List ℕ → ℕ → Opening → Result Lexeme Fault
opened_at place bytes len LineComment = Ok (blank len)
opened_at place bytes len Comment = Ok (blank len)
opened_at place bytes len Quoted = quoted_at place (take len bytes)
opened_at place bytes len Plain = plain_at place bytes

-- The blank or the token that the bytes begin with. They are those of a text from the place on.
unfoldable pub lexeme_at : ℕ → List ℕ → Result Lexeme Fault
lexeme_at place bytes =
    if is_executable bytes then Err (fault BadByte place)
    else (len_at place bytes >>= λ len. opened_at place bytes len (opening_of bytes))
