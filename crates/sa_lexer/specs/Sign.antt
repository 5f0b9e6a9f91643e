-- The signs, and which of them a text begins with.
use Rattle.std.specs.Prelude.{ℕ, List, [], ◌∷◌, Option, codes, find, nat_eq}
use Rattle.std.specs.List.{starts_with}
use Rattle.sa_lexer.specs.declared.sign.Sign.{Sign}
use Rattle.sa_lexer.specs.declared.sign.Sign.TheVariants.{NullSafeEqual, NotEqual, BangEqual, LessEqual, GreaterEqual, AndAnd, OrOr, LeftParen, RightParen, Comma, Dot, Star, Plus, Minus, Slash, Percent, Equal, Less, Greater}

-- how a sign is written
abbrev pub spelling : Sign → List ℕ
spelling NullSafeEqual = codes "<=>"
spelling NotEqual = codes "<>"
spelling BangEqual = codes "!="
spelling LessEqual = codes "<="
spelling GreaterEqual = codes ">="
spelling AndAnd = codes "&&"
spelling OrOr = codes "||"
spelling LeftParen = codes "("
spelling RightParen = codes ")"
spelling Comma = codes ","
spelling Dot = codes "."
spelling Star = codes "*"
spelling Plus = codes "+"
spelling Minus = codes "-"
spelling Slash = codes "/"
spelling Percent = codes "%"
spelling Equal = codes "="
spelling Less = codes "<"
spelling Greater = codes ">"

-- all signs, the longest first
abbrev pub signs : List Sign
signs = NullSafeEqual ∷ NotEqual ∷ BangEqual ∷ LessEqual ∷ GreaterEqual ∷ AndAnd ∷ OrOr ∷ LeftParen
    ∷ RightParen ∷ Comma ∷ Dot ∷ Star ∷ Plus ∷ Minus ∷ Slash ∷ Percent ∷ Equal ∷ Less ∷ Greater ∷ []

-- The longest sign that the bytes begin with.
unfoldable pub sign_at : List ℕ → Option Sign
sign_at bytes = find (λ sign. starts_with nat_eq bytes (spelling sign)) signs
