-- How expressions are read, a definition for each rule of their grammar.
use Rattle.std.specs.Prelude.{ℕ, zero, suc, Bool, false, ◌&&◌, ◌||◌, List, [], ◌∷◌, codes, is_some, Some, None}
use Rattle.sa_lexer.specs.declared.sign.Sign.TheVariants as signs
use Rattle.sa_lexer.specs.declared.token.Token.{Token}
use Rattle.sa_ast.specs.declared.expression.ExprTree.{ExprTree}
use Rattle.sa_parser.specs.declared.members.Members.TheVariants.{Alone}
use Rattle.sa_parser.specs.declared.rule.Rule.{Rule}
use Rattle.sa_parser.specs.declared.rule.Rule.TheVariants as rule
use Rattle.sa_parser.specs.declared.tail.PlacedTail.{PlacedTail}
use Rattle.sa_parser.specs.Token.{is_word, is_sign}
use Rattle.sa_parser.specs.Tree.{atom_in, column_tree, aggregate_of, aggregate_in, aggregate_tree, count_tree, minus_tree, plus_tree, times_tree, additive_in, sum_tree, comparison_of, comparison_in, compare_tail, null_tail, between_tail, among_tail, with_not, predicate_tree, not_tree, with_member, and_tree, or_tree}
use Rattle.sa_parser.specs.inner.Reading.{Reader, one, either, perhaps, chain, refuse, ◌<$>◌, ◌<*>◌, word, sign, name, sees_word, sees_sign, sees_name, brackets, commas}

unfoldable pub column : Reader ExprTree
column = column_tree <$> name <*> perhaps (sees_sign signs.Dot)
    ((λ _ name. name) <$> sign signs.Dot <*> name)

-- whether an aggregate's name comes next, and a bracket behind it
unfoldable pub sees_call : List Token → Bool
sees_call (first ∷ second ∷ rest) =
    (is_word (codes "COUNT") first.kind || is_some (aggregate_of first.kind))
    && is_sign signs.LeftParen second.kind
sees_call tokens = false

unfoldable pub call : (Rule → Reader ExprTree) → Reader ExprTree
call inner =
    either (sees_word (codes "COUNT"))
    (count_tree <$> word (codes "COUNT") <*> brackets
    (either (sees_sign signs.Star) ((λ _. None) <$> sign signs.Star) (Some <$> inner rule.Sum)))
    (aggregate_tree <$> one aggregate_in <*> brackets (inner rule.Sum))

unfoldable pub primary : (Rule → Reader ExprTree) → Reader ExprTree
primary inner =
    either (sees_sign signs.LeftParen) (brackets (inner rule.Expression))
    (either sees_call (call inner) (either sees_name column (one atom_in)))

unfoldable pub factor : (Rule → Reader ExprTree) → Reader ExprTree
factor inner =
    either (sees_sign signs.Minus) (minus_tree <$> sign signs.Minus <*> inner rule.Factor)
    (either (sees_sign signs.Plus) (plus_tree <$> sign signs.Plus <*> inner rule.Factor)
    (primary inner))

unfoldable pub term : (Rule → Reader ExprTree) → Reader ExprTree
term inner = chain (factor inner)
    (sees_sign signs.Star) times_tree
    ((λ place next. (place, next)) <$> sign signs.Star <*> factor inner)

-- whether a plus or a minus comes next
abbrev pub sees_additive : List Token → Bool
sees_additive tokens = sees_sign signs.Plus tokens || sees_sign signs.Minus tokens

unfoldable pub sum : (Rule → Reader ExprTree) → Reader ExprTree
sum inner = chain (term inner) sees_additive sum_tree
    ((λ sign next. (sign, next)) <$> one additive_in <*> term inner)

unfoldable pub sees_comparison : List Token → Bool
sees_comparison [] = false
sees_comparison (token ∷ rest) = is_some (comparison_of token.kind)

unfoldable pub compare_part : (Rule → Reader ExprTree) → Reader PlacedTail
compare_part inner = compare_tail <$> one comparison_in <*> sum inner

unfoldable pub null_part : Reader PlacedTail
null_part = null_tail <$> word (codes "IS") <*> perhaps (sees_word (codes "NOT"))
    (word (codes "NOT")) <*> word (codes "NULL")

unfoldable pub between_part : (Rule → Reader ExprTree) → Reader PlacedTail
between_part inner =
    between_tail <$> word (codes "BETWEEN") <*> sum inner <*> word (codes "AND") <*> sum inner

unfoldable pub among_part : (Rule → Reader ExprTree) → Reader PlacedTail
among_part inner = among_tail <$> word (codes "IN") <*> brackets (commas (sum inner))

unfoldable pub range_part : (Rule → Reader ExprTree) → Reader PlacedTail
range_part inner =
    with_not <$> perhaps (sees_word (codes "NOT")) (word (codes "NOT"))
    <*> either (sees_word (codes "BETWEEN")) (between_part inner) (among_part inner)

unfoldable pub predicate_part : (Rule → Reader ExprTree) → Reader PlacedTail
predicate_part inner = either sees_comparison (compare_part inner)
    (either (sees_word (codes "IS")) null_part (range_part inner))

-- whether a predicate goes on
abbrev pub sees_predicate : List Token → Bool
sees_predicate tokens =
    sees_comparison tokens || (sees_word (codes "IS") tokens || (sees_word (codes "NOT") tokens
    || (sees_word (codes "BETWEEN") tokens || sees_word (codes "IN") tokens)))

unfoldable pub predicate : (Rule → Reader ExprTree) → Reader ExprTree
predicate inner = predicate_tree <$> sum inner <*> perhaps sees_predicate (predicate_part inner)

unfoldable pub negation : (Rule → Reader ExprTree) → Reader ExprTree
negation inner = either (sees_word (codes "NOT"))
    (not_tree <$> word (codes "NOT") <*> inner rule.Negation) (predicate inner)

-- AND in either spelling
abbrev pub sees_and : List Token → Bool
sees_and tokens = sees_word (codes "AND") tokens || sees_sign signs.AndAnd tokens

abbrev pub and_mark : Reader ℕ
and_mark = either (sees_word (codes "AND")) (word (codes "AND")) (sign signs.AndAnd)

unfoldable pub conjunction : (Rule → Reader ExprTree) → Reader ExprTree
conjunction inner =
    and_tree <$> chain (Alone <$> negation inner) sees_and with_member
    ((λ place next. (place, next)) <$> and_mark <*> negation inner)

unfoldable pub disjunction : (Rule → Reader ExprTree) → Reader ExprTree
disjunction inner =
    or_tree <$> chain (Alone <$> conjunction inner) (sees_word (codes "OR")) with_member
    ((λ place next. (place, next)) <$> word (codes "OR") <*> conjunction inner)

-- a rule over what is inside
abbrev pub ruled_read : (Rule → Reader ExprTree) → Rule → Reader ExprTree
ruled_read inner rule.Expression = disjunction inner
ruled_read inner rule.Negation = negation inner
ruled_read inner rule.Sum = sum inner
ruled_read inner rule.Factor = factor inner

-- Expressions are read so many levels deep.
unfoldable pub nested_read : ℕ → Rule → Reader ExprTree
nested_read zero which tokens = refuse tokens
nested_read (suc levels) which tokens = ruled_read (nested_read levels) which tokens
