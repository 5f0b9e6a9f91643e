-- The rules of expressions end, since each is called by one above it in the same level, or by the level above.
-- In a loop, what is left is read in the turns that are left.
use Rattle.std.proofs.Common.{◌≡◌, ℕ, ◌+◌, ◌-◌, ◌*◌, [], ◌∷◌, ◌++◌, codes}
use Rattle.sa_lexer.specs.declared.sign.Sign.TheVariants as signs
use Rattle.sa_parser.specs.declared.members.Members.TheVariants.{Alone}
use Rattle.sa_parser.specs.Tree.{additive_in, sum_tree, times_tree, with_member}
use Rattle.sa_parser.specs.inner.Reading.{chain, commas, more, one, sees_sign, sees_word, sign, word, ◌<$>◌, ◌<*>◌}
use Rattle.sa_parser.specs.inner.ExprReading as reading
use Rattle.sa_parser.specs.inner.ExprReading.{nested_read}
use Rattle.sa_parser.proofs.+nesting.Given as goal

-- what is left to do at a rule of this rank
abbrev ranked : ℕ → ℕ → ℕ
ranked levels rank = 16 * levels + rank

abbrev pub decreases-expression::nested : goal.decreases-expression::nested
decreases-expression::nested l = ranked l.levels 0

abbrev pub decreases-primary::counted : goal.decreases-primary::counted
decreases-primary::counted l = ranked l.levels 1

abbrev pub decreases-primary::call : goal.decreases-primary::call
decreases-primary::call l = ranked l.levels 2

abbrev pub decreases-primary::primary : goal.decreases-primary::primary
decreases-primary::primary l = ranked l.levels 3

abbrev pub decreases-sum::factor : goal.decreases-sum::factor
decreases-sum::factor l = ranked l.levels 4

abbrev pub decreases-sum::term : goal.decreases-sum::term
decreases-sum::term l = ranked l.levels 5

abbrev pub decreases-sum::sum : goal.decreases-sum::sum
decreases-sum::sum l = ranked l.levels 6

abbrev pub decreases-predicate::compare_part : goal.decreases-predicate::compare_part
decreases-predicate::compare_part l = ranked l.levels 7

abbrev pub decreases-predicate::between_part : goal.decreases-predicate::between_part
decreases-predicate::between_part l = ranked l.levels 7

abbrev pub decreases-predicate::sums : goal.decreases-predicate::sums
decreases-predicate::sums l = ranked l.levels 7

abbrev pub decreases-predicate::among_part : goal.decreases-predicate::among_part
decreases-predicate::among_part l = ranked l.levels 8

abbrev pub decreases-predicate::plain_range_part : goal.decreases-predicate::plain_range_part
decreases-predicate::plain_range_part l = ranked l.levels 9

abbrev pub decreases-predicate::range_part : goal.decreases-predicate::range_part
decreases-predicate::range_part l = ranked l.levels 10

abbrev pub decreases-predicate::predicate_part : goal.decreases-predicate::predicate_part
decreases-predicate::predicate_part l = ranked l.levels 11

abbrev pub decreases-predicate::predicate : goal.decreases-predicate::predicate
decreases-predicate::predicate l = ranked l.levels 12

abbrev pub decreases-expression::negation : goal.decreases-expression::negation
decreases-expression::negation l = ranked l.levels 13

abbrev pub decreases-expression::conjunction : goal.decreases-expression::conjunction
decreases-expression::conjunction l = ranked l.levels 14

abbrev pub decreases-expression::disjunction : goal.decreases-expression::disjunction
decreases-expression::disjunction l = ranked l.levels 15

abbrev pub invariant-expression::conjunction-loop-turn : goal.invariant-expression::conjunction-loop-turn
invariant-expression::conjunction-loop-turn l =
    let inner = reading.negation (nested_read l.fn.levels) in
    let next = (λ place next. (place, next)) <$> reading.and_mark <*> inner in
    chain (Alone <$> inner) reading.sees_and with_member next l.fn.cursor
    ≡ more reading.sees_and with_member next (l._turn-end - l._turn) l.members l.cursor

abbrev pub invariant-expression::disjunction-loop-turn : goal.invariant-expression::disjunction-loop-turn
invariant-expression::disjunction-loop-turn l =
    let inner = reading.conjunction (nested_read l.fn.levels) in
    let next = (λ place next. (place, next)) <$> word (codes "OR") <*> inner in
    chain (Alone <$> inner) (sees_word (codes "OR")) with_member next l.fn.cursor
    ≡ more (sees_word (codes "OR")) with_member next (l._turn-end - l._turn) l.members l.cursor

abbrev pub invariant-predicate::sums-loop-turn : goal.invariant-predicate::sums-loop-turn
invariant-predicate::sums-loop-turn l =
    let inner = reading.sum (nested_read l.fn.levels) in
    let next = (λ _ next. next) <$> sign signs.Comma <*> inner in
    commas inner l.fn.cursor
    ≡ more (sees_sign signs.Comma) (λ found next. found ++ next ∷ []) next (l._turn-end - l._turn) l.sums l.cursor

abbrev pub invariant-sum::sum-loop-turn : goal.invariant-sum::sum-loop-turn
invariant-sum::sum-loop-turn l =
    let inner = nested_read l.fn.levels in
    let next = (λ sign next. (sign, next)) <$> one additive_in <*> reading.term inner in
    reading.sum inner l.fn.cursor ≡ more reading.sees_additive sum_tree next (l._turn-end - l._turn) l.sum l.cursor

abbrev pub invariant-sum::term-loop-turn : goal.invariant-sum::term-loop-turn
invariant-sum::term-loop-turn l =
    let inner = nested_read l.fn.levels in
    let next = (λ place next. (place, next)) <$> sign signs.Star <*> reading.factor inner in
    reading.term inner l.fn.cursor
    ≡ more (sees_sign signs.Star) times_tree next (l._turn-end - l._turn) l.product l.cursor
