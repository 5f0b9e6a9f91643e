-- The grammar of a script's directives, which say what its statements don't. They are this
-- product's own.
use Rattle.std.specs.Prelude.{ℕ, codes, [], ◌∷◌, ◌++◌, List, Option, Some, None}
use Rattle.sa_lexer.specs.declared.token.Token.{Token}
use Rattle.sa_lexer.specs.declared.token.TokenKind.{TokenKind}
use Rattle.sa_lexer.specs.declared.token.TokenKind.TheVariants as kinds
use Rattle.sa_ast.specs.declared.directive.NumberTree.{NumberTree}
use Rattle.sa_ast.specs.declared.directive.Directive.{Directive}
use Rattle.sa_ast.specs.declared.directive.Directive.TheVariants as said
use Rattle.sa_parser.specs.Form.{Form, One, Chain, ◌<$>◌, ◌<*>◌, ◌<|>◌, Word, Name}

-- a number with its place
abbrev pub placed_number : ℕ → TokenKind → Option NumberTree
placed_number place (kinds.Number number) = Some (record { number = number; place = place })
placed_number place kind = None

abbrev pub placed_number_in : Token → Option NumberTree
placed_number_in token = placed_number token.start token.kind

abbrev pub PlacedNumber : Form NumberTree
PlacedNumber = One placed_number_in

-- One or more numbers, one behind another.
abbrev pub Numbers : Form (List NumberTree)
Numbers = Chain ((λ first. first ∷ []) <$> PlacedNumber) (λ found next. found ++ next ∷ []) PlacedNumber

unfoldable pub Load : Form Directive
Load =
    (λ _ _ table _ bytes. said.Load table bytes) <$> Word (codes "LOAD") <*> Word
    (codes "DATA") <*> Name <*> Word (codes "BYTES") <*> PlacedNumber

unfoldable pub Schedule : Form Directive
Schedule = (λ _ numbers. said.Schedule numbers) <$> Word (codes "SCHEDULE") <*> Numbers

-- a directive
unfoldable pub directive : Form Directive
directive =
    (λ _ number. said.Quantum number) <$> Word (codes "QUANTUM") <*> PlacedNumber
    <|> ((λ _ number. said.Turns number) <$> Word (codes "TURNS") <*> PlacedNumber
    <|> (Load
    <|> ((λ _ number. said.Session number) <$> Word (codes "SESSION") <*> PlacedNumber
    <|> Schedule)))
