-- Each rule of expressions keeps that they are read back, and so does each level.
use Rattle.std.proofs.Common.{ℕ, zero, suc, Bool, true, false, List, [], ◌∷◌, ◌++◌, codes, Option, Some, None}
use Rattle.sa_lexer.specs.declared.sign.Sign.TheVariants as signs
use Rattle.sa_ast.specs.declared.expression.ExprTree.{ExprTree}
use Rattle.sa_parser.specs.declared.members.Members.{Members}
use Rattle.sa_parser.specs.declared.members.Members.TheVariants.{Alone, Joined}
use Rattle.sa_parser.specs.declared.rule.Rule.{Rule}
use Rattle.sa_parser.specs.declared.rule.Rule.TheVariants as rule
use Rattle.sa_parser.specs.declared.tail.Tail.{Tail}
use Rattle.sa_parser.specs.declared.tail.Tail.TheVariants.{Compare, IsNull, Between, Among}
use Rattle.sa_parser.specs.declared.tail.PlacedTail.{PlacedTail}
use Rattle.sa_parser.specs.Tree.{times_tree, additive_in, sum_tree, comparison_in, compare_tail, null_tail, between_tail, among_tail, negated_tail, with_not, tail_node, tree, predicate_tree, not_tree, with_member, and_tree, or_tree}
use Rattle.sa_parser.specs.Form.{Form, One, Perhaps, Chain, Sign, Word, Brackets, Commas, ◌<$>◌, ◌<*>◌, ◌<|>◌}
use Rattle.sa_parser.specs.ExprGrammar.{Factor, Term, Sum, CompareTail, NullTail, BetweenTail, AmongTail, PredicateTail, Predicate, Negation, Conjunction, Disjunction, nested}
use Rattle.sa_parser.proofs.canonical_text.Connected.{fine-And, fine-Or}
use Rattle.sa_parser.proofs.canonical_text.Each.{Each, Any, Makes, IfThere, each-any, each-made, each-then, each-either, each-perhaps, each-chain}
use Rattle.sa_parser.proofs.canonical_text.EachExpression.{each_factor}
use Rattle.sa_parser.proofs.canonical_text.EachPart.{AllOf, all-append, each-brackets, each-commas}
use Rattle.sa_parser.proofs.canonical_text.Fine.{Fine}
use Rattle.sa_parser.proofs.canonical_text.FineLists.{AllFine}
use Rattle.sa_parser.proofs.canonical_text.Operations.{fine-Add, fine-Subtract, fine-Multiply, fine-Compare}
use Rattle.sa_parser.proofs.canonical_text.Predicates.{fine-IsNull, fine-Between, fine-Among}
use Rattle.sa_parser.proofs.canonical_text.Prefixes.{fine-Not}

-- a pair, of whose second part this is known
abbrev pub Second : {A : Type 0} → A × ExprTree → Type 0
Second pair = Fine pair.1

-- something that tells nothing, and an expression behind it
pub each_pair : {A : Type 0} (Mark : Form A) (Is : Form ExprTree) → Each Fine Is → Each Second ((λ mark next. (mark, next)) <$> Mark <*> Is)
each_pair {A} Mark Is each =
    let pair : A → ExprTree → A × ExprTree = λ mark next. (mark, next) in
    each-then Fine Second (pair <$> Mark) Is (each-made pair Any (Makes Fine Second) Mark (each-any Mark) (λ mark there next is. is)) each

sum_made : (left : ExprTree) → Fine left → Makes Second Fine (sum_tree left)
sum_made left is ((true, place), next) also = fine-Subtract place left next is also
sum_made left is ((false, place), next) also = fine-Add place left next is also

-- what makes a predicate has expressions that are read back
abbrev HasFine : Tail → Type 0
HasFine (Compare op right) = Fine right
HasFine (IsNull negated) = Unit {0}
HasFine (Between low high negated) = Fine low × Fine high
HasFine (Among list negated) = AllOf Fine list

abbrev IsTail : PlacedTail → Type 0
IsTail tail = HasFine tail.tail

negated_has : (tail : Tail) → HasFine tail → HasFine (negated_tail tail)
negated_has (Compare op right) has = has
negated_has (IsNull negated) has = has
negated_has (Between low high negated) has = has
negated_has (Among list negated) has = has

with_not_has : (found : Option ℕ) → Makes IsTail IsTail (with_not found)
with_not_has None tail has = has
with_not_has (Some place) tail has = negated_has tail.tail has

among_made : (place : ℕ) (value : ExprTree) (list : List ExprTree) (negated : Bool) → Fine value → AllOf Fine list → Fine (tree place (tail_node value (Among list negated)))
among_made place value [] negated is are = absurd are.1
among_made place value (first ∷ rest) negated is are = fine-Among value first rest negated is are.0 place

tail_made : (place : ℕ) (value : ExprTree) (tail : Tail) → Fine value → HasFine tail → Fine (tree place (tail_node value tail))
tail_made place value (Compare op right) is has = fine-Compare place op value right is has
tail_made place value (IsNull negated) is has = fine-IsNull place value negated is
tail_made place value (Between low high negated) is has = fine-Between place value low high negated is has.0 has.1
tail_made place value (Among list negated) is has = among_made place value list negated is has

predicate_made : (value : ExprTree) → Fine value → Makes (IfThere IsTail) Fine (predicate_tree value)
predicate_made value is None there = is
predicate_made value is (Some tail) there = tail_made tail.place value tail.tail is there

-- two or more
abbrev HasTwo : List ExprTree → Type 0
HasTwo (first ∷ second ∷ rest) = Unit {0}
HasTwo other = ⊥

two-append : (members : List ExprTree) (next : ExprTree) → HasTwo members → HasTwo (members ++ next ∷ [])
two-append [] next two = absurd two
two-append (first ∷ []) next two = absurd two
two-append (first ∷ second ∷ rest) next two = tt

abbrev AreFine : Members → Type 0
AreFine (Alone only) = Fine only
AreFine (Joined place members) = AllFine members × HasTwo members

member_added : (members : Members) → AreFine members → Makes Second AreFine (with_member members)
member_added (Alone first) is next also = ((is, (also, tt)), tt)
member_added (Joined place members) are next also = (all-append Fine members (next.1 ∷ []) are.0 (also, tt), two-append members next.1 are.1)

and_joined : (place : ℕ) (members : List ExprTree) → AllFine members → HasTwo members → Fine (and_tree (Joined place members))
and_joined place [] are two = absurd two
and_joined place (first ∷ []) are two = absurd two
and_joined place (first ∷ second ∷ rest) are two = fine-And first second rest are place

and_made : Makes AreFine Fine and_tree
and_made (Alone only) is = is
and_made (Joined place members) are = and_joined place members are.0 are.1

or_joined : (place : ℕ) (members : List ExprTree) → AllFine members → HasTwo members → Fine (or_tree (Joined place members))
or_joined place [] are two = absurd two
or_joined place (first ∷ []) are two = absurd two
or_joined place (first ∷ second ∷ rest) are two = fine-Or first second rest are place

or_made : Makes AreFine Fine or_tree
or_made (Alone only) is = is
or_made (Joined place members) are = or_joined place members are.0 are.1

-- members with a word or a sign between them
each_members : (Mark : Form ℕ) (Is : Form ExprTree) → Each Fine Is → Each AreFine (Chain (Alone <$> Is) with_member ((λ place next. (place, next)) <$> Mark <*> Is))
each_members Mark Is each =
    each-chain AreFine Second (Alone <$> Is) with_member ((λ place next. (place, next)) <$> Mark <*> Is)
    (each-made Alone Fine AreFine Is each (λ value is. is)) (each_pair Mark Is each) member_added

module _ (inner : Rule → Form ExprTree) (each : (which : Rule) → Each Fine (inner which)) where
  each_term : Each Fine (Term inner)
  unfolding Term
  each_term =
      let factor = each_factor inner each in
      each-chain Fine Second (Factor inner) times_tree ((λ place next. (place, next)) <$> Sign signs.Star <*> Factor inner) factor
      (each_pair (Sign signs.Star) (Factor inner) factor) (λ left is next also. fine-Multiply next.0 left next.1 is also)

  each_sum : Each Fine (Sum inner)
  unfolding Sum
  each_sum =
      each-chain Fine Second (Term inner) sum_tree ((λ sign next. (sign, next)) <$> One additive_in <*> Term inner) each_term
      (each_pair (One additive_in) (Term inner) each_term) sum_made

  each_compare : Each IsTail (CompareTail inner)
  unfolding CompareTail
  each_compare =
      each-then Fine IsTail (compare_tail <$> One comparison_in) (Sum inner)
      (each-made compare_tail Any (Makes Fine IsTail) (One comparison_in) (each-any (One comparison_in)) (λ op there right is. is)) each_sum

  each_null : Each IsTail NullTail
  unfolding NullTail
  each_null =
      let Is = Word (codes "IS") in
      let Not = Perhaps (Word (codes "NOT")) in
      each-then Any IsTail (null_tail <$> Is <*> Not) (Word (codes "NULL"))
      (each-then Any (Makes Any IsTail) (null_tail <$> Is) Not
      (each-made null_tail Any (Makes Any (Makes Any IsTail)) Is (each-any Is) (λ place there negated also null behind. tt)) (each-any Not))
      (each-any (Word (codes "NULL")))

  each_between : Each IsTail (BetweenTail inner)
  unfolding BetweenTail
  each_between =
      let First = Word (codes "BETWEEN") in
      let And = Word (codes "AND") in
      each-then Fine IsTail (between_tail <$> First <*> Sum inner <*> And) (Sum inner)
      (each-then Any (Makes Fine IsTail) (between_tail <$> First <*> Sum inner) And
      (each-then Fine (Makes Any (Makes Fine IsTail)) (between_tail <$> First) (Sum inner)
      (each-made between_tail Any (Makes Fine (Makes Any (Makes Fine IsTail))) First (each-any First)
      (λ place there low low_is and also high high_is. (low_is, high_is)))
      each_sum)
      (each-any And))
      each_sum

  each_among : Each IsTail (AmongTail inner)
  unfolding AmongTail
  each_among =
      let In = Word (codes "IN") in
      each-then (AllOf Fine) IsTail (among_tail <$> In) (Brackets (Commas (Sum inner)))
      (each-made among_tail Any (Makes (AllOf Fine) IsTail) In (each-any In) (λ place there list are. are))
      (each-brackets (AllOf Fine) (Commas (Sum inner)) (each-commas Fine (Sum inner) each_sum))

  each_tail : Each IsTail (PredicateTail inner)
  unfolding PredicateTail
  each_tail =
      let Not = Perhaps (Word (codes "NOT")) in
      let Ranged = BetweenTail inner <|> AmongTail inner in
      each-either IsTail (CompareTail inner) _ each_compare
      (each-either IsTail NullTail _ each_null
      (each-then IsTail IsTail (with_not <$> Not) Ranged
      (each-made with_not Any (Makes IsTail IsTail) Not (each-any Not) (λ found there. with_not_has found))
      (each-either IsTail (BetweenTail inner) (AmongTail inner) each_between each_among)))

  each_predicate : Each Fine (Predicate inner)
  unfolding Predicate
  each_predicate =
      each-then (IfThere IsTail) Fine (predicate_tree <$> Sum inner) (Perhaps (PredicateTail inner))
      (each-made predicate_tree Fine (Makes (IfThere IsTail) Fine) (Sum inner) each_sum predicate_made)
      (each-perhaps IsTail (PredicateTail inner) each_tail)

  each_negation : Each Fine (Negation inner)
  unfolding Negation
  each_negation =
      let Not = Word (codes "NOT") in
      each-either Fine (not_tree <$> Not <*> inner rule.Negation) (Predicate inner)
      (each-then Fine Fine (not_tree <$> Not) (inner rule.Negation)
      (each-made not_tree Any (Makes Fine Fine) Not (each-any Not) (λ place there x is. fine-Not x is place)) (each rule.Negation))
      each_predicate

  each_conjunction : Each Fine (Conjunction inner)
  unfolding Conjunction
  each_conjunction =
      let Mark = Word (codes "AND") <|> Sign signs.AndAnd in
      each-made and_tree AreFine Fine (Chain (Alone <$> Negation inner) with_member ((λ place next. (place, next)) <$> Mark <*> Negation inner))
      (each_members Mark (Negation inner) each_negation) and_made

  each_disjunction : Each Fine (Disjunction inner)
  unfolding Disjunction
  each_disjunction =
      let Mark = Word (codes "OR") in
      each-made or_tree AreFine Fine (Chain (Alone <$> Conjunction inner) with_member ((λ place next. (place, next)) <$> Mark <*> Conjunction inner))
      (each_members Mark (Conjunction inner) each_conjunction) or_made

pub each_nested : (levels : ℕ) (which : Rule) → Each Fine (nested levels which)
unfolding nested
each_nested zero which = λ tokens value are is. absurd is
each_nested (suc levels) rule.Expression = each_disjunction (nested levels) (each_nested levels)
each_nested (suc levels) rule.Negation = each_negation (nested levels) (each_nested levels)
each_nested (suc levels) rule.Sum = each_sum (nested levels) (each_nested levels)
each_nested (suc levels) rule.Factor = each_factor (nested levels) (each_nested levels)
