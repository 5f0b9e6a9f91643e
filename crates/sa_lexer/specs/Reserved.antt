-- The words that are names only in backquotes.
use Rattle.std.specs.Prelude.{ℕ, Bool, List, [], ◌∷◌, codes}
use Rattle.std.specs.List.{list_any}
use Rattle.std.specs.Str.{str_eq_ignore_ascii_case}

-- These words have a meaning of their own wherever they stand.
abbrev pub reserved_words : List (List ℕ)
reserved_words =
    codes "ALL" ∷ codes "AND" ∷ codes "AS" ∷ codes "ASC" ∷ codes "BETWEEN" ∷ codes "BY" ∷ codes "CASE" ∷
    codes "CREATE" ∷ codes "CROSS" ∷ codes "DELETE" ∷ codes "DESC" ∷ codes "DISTINCT" ∷ codes "DIV" ∷
    codes "EXCEPT" ∷ codes "EXISTS" ∷ codes "FALSE" ∷ codes "FOR" ∷ codes "FROM" ∷ codes "FULL" ∷
    codes "GROUP" ∷ codes "HAVING" ∷ codes "IN" ∷ codes "INDEX" ∷ codes "INNER" ∷ codes "INSERT" ∷
    codes "INTERSECT" ∷ codes "INTO" ∷ codes "IS" ∷ codes "JOIN" ∷ codes "KEY" ∷ codes "LEFT" ∷
    codes "LIKE" ∷ codes "LIMIT" ∷ codes "MOD" ∷ codes "NATURAL" ∷ codes "NOT" ∷ codes "NULL" ∷
    codes "OFFSET" ∷ codes "ON" ∷ codes "OR" ∷ codes "ORDER" ∷ codes "OVER" ∷ codes "PRIMARY" ∷
    codes "REGEXP" ∷ codes "RIGHT" ∷ codes "RLIKE" ∷ codes "SELECT" ∷ codes "SET" ∷
    codes "STRAIGHT_JOIN" ∷ codes "TRUE" ∷ codes "UNION" ∷ codes "UNIQUE" ∷ codes "UPDATE" ∷
    codes "USING" ∷ codes "VALUES" ∷ codes "WHERE" ∷ codes "WINDOW" ∷ codes "WITH" ∷ codes "XOR" ∷ []

-- Whether a word is one of them. Letters of both cases are the same.
unfoldable pub is_reserved : List ℕ → Bool
is_reserved word = list_any (λ reserved. str_eq_ignore_ascii_case reserved word) reserved_words
