-- How texts are put together.
use Rattle.std.specs.Prelude.{ℕ, List, [], ◌∷◌, ◌++◌, codes, flat_map, Option, Some, None}

-- the texts with another one between them
abbrev pub joined : List ℕ → List (List ℕ) → List ℕ
joined between [] = []
joined between (first ∷ rest) = first ++ flat_map (λ next. between ++ next) rest

-- the texts of a list
abbrev pub listed : List (List ℕ) → List ℕ
listed texts = joined (codes ", ") texts

abbrev pub bracketed : List ℕ → List ℕ
bracketed text = codes "(" ++ text ++ codes ")"

-- a clause that begins with this word, where there is one
abbrev pub clause : List ℕ → Option (List ℕ) → List ℕ
clause word None = []
clause word (Some text) = word ++ text

-- a clause of a list that begins with these words, where the list has members
abbrev pub list_clause : List ℕ → List (List ℕ) → List ℕ
list_clause words [] = []
list_clause words (first ∷ rest) = words ++ listed (first ∷ rest)
