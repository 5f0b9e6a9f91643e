-- Comments and parts in quotes: what opens one, and how many bytes it takes.
use Rattle.std.specs.Prelude.{ℕ, ◌+◌, List, [], ◌∷◌, Bool, true, ◌||◌, ◌&&◌, ◌==◌, not, Option, Some, None, Result, Ok, Err, codes, drop, slice_index, nat_eq, option_map, if◌then◌else◌}
use Rattle.std.specs.List.{starts_with, prefix_len}
use Rattle.sa_lexer.specs.declared.fault.LexKind.{LexKind}
use Rattle.sa_lexer.specs.declared.fault.LexKind.TheVariants.{OpenText, OpenComment}
use Rattle.sa_lexer.specs.declared.opening.Opening.{Opening}
use Rattle.sa_lexer.specs.declared.opening.Opening.TheVariants.{LineComment, Comment, Quoted, Plain}
use Rattle.sa_lexer.specs.Byte.{is_space, is_quote}
use Rattle.sa_lexer.specs.Fault.{Fault, fault}

abbrev pub begins_with : List ℕ → List ℕ → Bool
begins_with front bytes = starts_with nat_eq bytes front

-- whether white space comes next, or the end
abbrev pub space_or_end : List ℕ → Bool
space_or_end [] = true
space_or_end (byte ∷ bytes) = is_space byte

-- A comment up to the end of its line begins with `#`, or with `--` before white space or the end.
-- Any other comment begins with `/*`.
unfoldable pub opening_of : List ℕ → Opening
opening_of bytes =
    if begins_with (codes "#") bytes
    || (begins_with (codes "--") bytes && space_or_end (drop 2 bytes)) then LineComment
    else (if begins_with (codes "/*") bytes then Comment
    else (if is_quote (slice_index bytes 0) then Quoted else Plain))

-- What MariaDB would run as a part of the statement is no comment here.
unfoldable pub is_executable : List ℕ → Bool
is_executable bytes = begins_with (codes "/*!") bytes || begins_with (codes "/*M!") bytes

-- how many bytes come before the end of the line
abbrev pub line_len : List ℕ → ℕ
line_len bytes = prefix_len (λ byte. not (byte == 10)) bytes

abbrev pub plus : ℕ → Option ℕ → Option ℕ
plus n found = option_map (λ k. n + k) found

-- how many bytes there are up to the first `*/`, and with it
unfoldable pub comment_close : List ℕ → Option ℕ
comment_close [] = None
comment_close (byte ∷ bytes) =
    if begins_with (codes "*/") (byte ∷ bytes) then Some 2 else plus 1 (comment_close bytes)

-- Whether a backslash is an escape: in texts it is, in names in backquotes it is not.
abbrev pub escapes : ℕ → ℕ → Bool
escapes quote byte = byte == 92 && not (quote == 96)

-- How many bytes there are up to the closing quote, and with it: the first quote that is neither
-- doubled nor escaped.
unfoldable pub quote_close : ℕ → List ℕ → Option ℕ
quote_close quote [] = None
quote_close quote (first ∷ []) = if first == quote then Some 1 else None
quote_close quote (first ∷ second ∷ rest) =
    if first == quote && not (second == quote) then Some 1
    else (if first == quote || escapes quote first then plus 2 (quote_close quote rest)
    else plus 1 (quote_close quote (second ∷ rest)))

-- what has an end, or the fault that it has none
abbrev pub closed : LexKind → ℕ → Option ℕ → Result ℕ Fault
closed kind place None = Err (fault kind place)
closed kind place (Some len) = Ok len

abbrev pub opened_len : ℕ → List ℕ → Opening → Result ℕ Fault
opened_len place bytes LineComment = Ok (line_len bytes)
opened_len place bytes Comment = closed OpenComment place (plus 2 (comment_close (drop 2 bytes)))
opened_len place bytes Quoted =
    closed OpenText place (plus 1 (quote_close (slice_index bytes 0) (drop 1 bytes)))
opened_len place bytes Plain = Ok 1

-- How many bytes the comment or the part in quotes takes that a text from the place on begins with.
-- Of anything else it is the first byte alone.
unfoldable pub len_at : ℕ → List ℕ → Result ℕ Fault
len_at place bytes = opened_len place bytes (opening_of bytes)
