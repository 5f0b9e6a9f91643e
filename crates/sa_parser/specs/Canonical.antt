-- The tokens of a canonical text spell the tree that the text was made of, and no other. Depth is
-- left aside.
use Rattle.std.specs.Prelude.{◌≡◌, ℕ, List, Ok}
use Rattle.sa_lexer.specs.declared.token.Token.{Token}
use Rattle.sa_lexer.specs.Tokens.{tokens_of}
use Rattle.sa_ast.specs.declared.statement.Statement.{Statement}
use Rattle.sa_ast.specs.Place.{unplaced}
use Rattle.sa_print.specs.Statement.{canonical_statement}
use Rattle.sa_parser.specs.Parse.{IsStatement}

-- two trees that differ at most in places
abbrev pub SaysTheSame : Statement → Statement → Type 0
SaysTheSame tree other = unplaced tree ≡ unplaced other

-- The canonical text has tokens, and these spell this tree and no other.
abbrev pub IsReadBack : Statement → Type 0
IsReadBack tree =
    (tokens : List Token) × (tokens_of (canonical_statement tree) ≡ Ok tokens)
    × ((again : Statement) × IsStatement tokens again × SaysTheSame again tree)
    × ((other : Statement) → IsStatement tokens other → SaysTheSame other tree)

-- So it is for each tree that the tokens of a text spell.
abbrev pub CanonicalTextIsUnique : Type 0
CanonicalTextIsUnique = (bytes : List ℕ) (tokens : List Token) (tree : Statement)
    → tokens_of bytes ≡ Ok tokens → IsStatement tokens tree → IsReadBack tree
