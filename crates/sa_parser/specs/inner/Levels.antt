-- The levels that the tokens so far have come to, as the pass over them keeps them.
use Rattle.std.specs.Prelude.{ℕ, ◌<◌, List, [], ◌∷◌}

-- The depths in front of the open brackets grow from the outermost to the innermost, and stay below
-- the depth.
abbrev pub Nests : ℕ → List ℕ → Type 0
Nests depth [] = Unit {0}
Nests depth (before ∷ opened) = (before < depth) × Nests before opened
