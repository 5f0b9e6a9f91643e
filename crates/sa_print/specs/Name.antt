-- How a name is written.
use Rattle.std.specs.Prelude.{ℕ, Bool, not, List, [], ◌++◌, ◌&&◌, ◌==◌, length, slice_index, codes, if◌then◌else◌, Option, Some, None}
use Rattle.std.specs.Char.{is_ascii_digit}
use Rattle.std.specs.List.{list_all}
use Rattle.sa_lexer.specs.Byte.{is_word_byte}
use Rattle.sa_print.specs.Quoted.{quoted}
use Rattle.sa_lexer.specs.Reserved.{is_reserved}

-- A word has word bytes alone, at least one, and doesn't begin with a digit.
abbrev pub is_word : List ℕ → Bool
is_word name = not (length name == 0)
    && (not (is_ascii_digit (slice_index name 0)) && list_all is_word_byte name)

-- A name stands bare where it is a word that isn't reserved, and else in backquotes, which are byte 96.
unfoldable pub canonical_name : List ℕ → List ℕ
canonical_name name = if is_word name && not (is_reserved name) then name else quoted 96 name

-- a column, after its table if that is written
abbrev pub canonical_column : Option (List ℕ) → List ℕ → List ℕ
canonical_column None column = canonical_name column
canonical_column (Some table) column = canonical_name table ++ codes "." ++ canonical_name column

-- AS and an alias, where there is one
abbrev pub alias_text : Option (List ℕ) → List ℕ
alias_text None = []
alias_text (Some alias) = codes " AS " ++ canonical_name alias
