-- What a byte of a text may be.
use Rattle.std.specs.Prelude.{ℕ, Bool, ◌||◌, ◌&&◌, ◌==◌, nat_le}
use Rattle.std.specs.Char.{is_ascii_alphanumeric}

-- White space is a tab, a line feed, a vertical tab, a form feed, a carriage return or a space.
abbrev pub is_space : ℕ → Bool
is_space byte = (nat_le 9 byte && nat_le byte 13) || byte == 32

-- A word has letters, digits, `_`, `$` and characters past ASCII.
abbrev pub is_word_byte : ℕ → Bool
is_word_byte byte = ((is_ascii_alphanumeric byte || byte == 95) || byte == 36) || nat_le 128 byte

-- A text stands in single or double quotes, a name in backquotes.
abbrev pub is_quote : ℕ → Bool
is_quote byte = (byte == 39 || byte == 34) || byte == 96
