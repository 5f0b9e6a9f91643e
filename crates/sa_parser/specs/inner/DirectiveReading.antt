-- How a directive of a script is read.
use Rattle.std.specs.Prelude.{Bool, false, is_some, List, [], ◌∷◌, ◌++◌, codes}
use Rattle.sa_lexer.specs.declared.token.Token.{Token}
use Rattle.sa_ast.specs.declared.directive.NumberTree.{NumberTree}
use Rattle.sa_ast.specs.declared.directive.Directive.{Directive}
use Rattle.sa_ast.specs.declared.directive.Directive.TheVariants as said
use Rattle.sa_parser.specs.DirectiveGrammar.{placed_number_in}
use Rattle.sa_parser.specs.Token.{any_number_of}
use Rattle.sa_parser.specs.inner.Reading.{Reader, one, either, chain, ◌<$>◌, ◌<*>◌, word, name, sees_word}

-- whether the first token is a number
unfoldable pub sees_number : List Token → Bool
sees_number [] = false
sees_number (token ∷ rest) = is_some (any_number_of token.kind)

abbrev pub placed_number : Reader NumberTree
placed_number = one placed_number_in

unfoldable pub numbers : Reader (List NumberTree)
numbers = chain ((λ first. first ∷ []) <$> placed_number) sees_number
    (λ found next. found ++ next ∷ []) placed_number

unfoldable pub load : Reader Directive
load =
    (λ _ _ table _ bytes. said.Load table bytes) <$> word (codes "LOAD") <*> word
    (codes "DATA") <*> name <*> word (codes "BYTES") <*> placed_number

unfoldable pub schedule : Reader Directive
schedule = (λ _ numbers. said.Schedule numbers) <$> word (codes "SCHEDULE") <*> numbers

unfoldable pub directive_read : Reader Directive
directive_read =
    either (sees_word (codes "QUANTUM"))
    ((λ _ number. said.Quantum number) <$> word (codes "QUANTUM") <*> placed_number)
    (either (sees_word (codes "TURNS"))
    ((λ _ number. said.Turns number) <$> word (codes "TURNS") <*> placed_number)
    (either (sees_word (codes "LOAD")) load
    (either (sees_word (codes "SESSION"))
    ((λ _ number. said.Session number) <$> word (codes "SESSION") <*> placed_number)
    schedule)))
