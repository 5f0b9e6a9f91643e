-- The grammar of expressions, a definition for each rule. A rule that holds expressions inside takes those as a
-- parameter, `inner`.
-- Source: MariaDB Knowledge Base, "Operator Precedence" and "Aggregate Functions".
use Rattle.std.specs.Prelude.{ℕ, zero, suc, codes, Some, None}
use Rattle.sa_lexer.specs.declared.sign.Sign.TheVariants as signs
use Rattle.sa_ast.specs.declared.expression.ExprTree.{ExprTree}
use Rattle.sa_parser.specs.declared.members.Members.TheVariants.{Alone}
use Rattle.sa_parser.specs.declared.rule.Rule.{Rule}
use Rattle.sa_parser.specs.declared.rule.Rule.TheVariants as rule
use Rattle.sa_parser.specs.declared.tail.PlacedTail.{PlacedTail}
use Rattle.sa_parser.specs.Tree.{atom_in, column_tree, aggregate_in, aggregate_tree, count_tree, minus_tree, plus_tree, times_tree, additive_in, sum_tree, comparison_in, compare_tail, null_tail, between_tail, among_tail, with_not, predicate_tree, not_tree, with_member, and_tree, or_tree}
use Rattle.sa_parser.specs.Form.{Form, One, Perhaps, Chain, ◌<$>◌, ◌<*>◌, ◌<|>◌, Word, Sign, Name, Brackets, Commas}

-- `a` or `t.a`
unfoldable pub Column : Form ExprTree
Column = column_tree <$> Name <*> Perhaps ((λ _ name. name) <$> Sign signs.Dot <*> Name)

-- `COUNT(*)`, or an aggregate of a sum
unfoldable pub Call : (Rule → Form ExprTree) → Form ExprTree
Call inner =
    count_tree <$> Word (codes "COUNT") <*> Brackets
    ((λ _. None) <$> Sign signs.Star <|> Some <$> inner rule.Sum)
    <|> aggregate_tree <$> One aggregate_in <*> Brackets (inner rule.Sum)

unfoldable pub Primary : (Rule → Form ExprTree) → Form ExprTree
Primary inner = Brackets (inner rule.Expression) <|> (Call inner <|> (Column <|> One atom_in))

-- A sign before it is a factor again.
unfoldable pub Factor : (Rule → Form ExprTree) → Form ExprTree
Factor inner = minus_tree <$> Sign signs.Minus <*> inner rule.Factor <|>
    (plus_tree <$> Sign signs.Plus <*> inner rule.Factor <|> Primary inner)

-- Products and sums group to the left.
unfoldable pub Term : (Rule → Form ExprTree) → Form ExprTree
Term inner = Chain (Factor inner) times_tree
    ((λ place next. (place, next)) <$> Sign signs.Star <*> Factor inner)

unfoldable pub Sum : (Rule → Form ExprTree) → Form ExprTree
Sum inner = Chain (Term inner) sum_tree ((λ sign next. (sign, next)) <$> One additive_in <*> Term inner)

-- what makes a predicate of the sum before it
unfoldable pub CompareTail : (Rule → Form ExprTree) → Form PlacedTail
CompareTail inner = compare_tail <$> One comparison_in <*> Sum inner

unfoldable pub NullTail : Form PlacedTail
NullTail = null_tail <$> Word (codes "IS") <*> Perhaps (Word (codes "NOT")) <*> Word (codes "NULL")

unfoldable pub BetweenTail : (Rule → Form ExprTree) → Form PlacedTail
BetweenTail inner =
    between_tail <$> Word (codes "BETWEEN") <*> Sum inner <*> Word (codes "AND") <*> Sum inner

unfoldable pub AmongTail : (Rule → Form ExprTree) → Form PlacedTail
AmongTail inner = among_tail <$> Word (codes "IN") <*> Brackets (Commas (Sum inner))

unfoldable pub PredicateTail : (Rule → Form ExprTree) → Form PlacedTail
PredicateTail inner =
    CompareTail inner <|>
    (NullTail <|> with_not <$> Perhaps (Word (codes "NOT")) <*>
    (BetweenTail inner <|> AmongTail inner))

unfoldable pub Predicate : (Rule → Form ExprTree) → Form ExprTree
Predicate inner = predicate_tree <$> Sum inner <*> Perhaps (PredicateTail inner)

unfoldable pub Negation : (Rule → Form ExprTree) → Form ExprTree
Negation inner = not_tree <$> Word (codes "NOT") <*> inner rule.Negation <|> Predicate inner

-- Members that no brackets set apart are one list.
unfoldable pub Conjunction : (Rule → Form ExprTree) → Form ExprTree
Conjunction inner =
    and_tree <$> Chain (Alone <$> Negation inner) with_member
    ((λ place next. (place, next)) <$> (Word (codes "AND") <|> Sign signs.AndAnd) <*> Negation inner)

unfoldable pub Disjunction : (Rule → Form ExprTree) → Form ExprTree
Disjunction inner =
    or_tree <$> Chain (Alone <$> Conjunction inner) with_member
    ((λ place next. (place, next)) <$> Word (codes "OR") <*> Conjunction inner)

-- a rule over what is inside
abbrev pub ruled : (Rule → Form ExprTree) → Rule → Form ExprTree
ruled inner rule.Expression = Disjunction inner
ruled inner rule.Negation = Negation inner
ruled inner rule.Sum = Sum inner
ruled inner rule.Factor = Factor inner

-- Expressions that nest at most so deep: each bracket, NOT and sign before a factor is a level.
unfoldable pub nested : ℕ → Rule → Form ExprTree
nested zero which tokens tree = ⊥
nested (suc levels) which tokens tree = ruled (nested levels) which tokens tree
