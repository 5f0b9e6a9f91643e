-- The steps at examples.
use Rattle.std.proofs.Common.{◌≡◌, ℕ, ◌∷◌, [], pos, codes}
use Rattle.sa_value.specs.declared.truth.CompareOp.TheVariants.{Eq, NullEq, Ne, Lt, Le, Gt, Ge}
use Rattle.sa_value.specs.declared.truth.Truth.TheVariants.{False, Unknown, True}
use Rattle.sa_value.specs.declared.value.Value.TheVariants.{Null, Int, Text}
use Rattle.sa_cond.specs.declared.cond.Cond.{Cond, the_lemmas as cond_lemmas}
use Rattle.sa_cond.specs.declared.cond.Cond.TheVariants.{Known, Compare, IsNull, NotNull, Between, Among, And, Or, Not}
use Rattle.sa_cond.specs.declared.expr.Expr.{Expr, the_lemmas as expr_lemmas}
use Rattle.sa_cond.specs.declared.expr.Expr.TheVariants.{Column, Literal, Negate, Add, Subtract, Multiply}
use Rattle.sa_simplify.specs.declared.push.Sense.TheVariants.{Plain}
use Rattle.sa_simplify.specs.Expand.{expanded}
use Rattle.sa_simplify.specs.Push.{pushed}
use Rattle.sa_simplify.specs.Fold.{folded_expr, folded}
use Rattle.sa_simplify.specs.Turn.{turned}
use Rattle.sa_simplify.specs.Decide.{decided}
use Rattle.sa_simplify.specs.Flatten.{flattened}
use Rattle.sa_simplify.specs.Propagate.{propagated, next_handed, handed_all}
use Rattle.sa_simplify.proofs.PushLemmas.{pushing}

abbrev a : Expr
a = Column 0 0

abbrev b : Expr
b = Column 0 1

abbrev c : Expr
c = Column 1 0

abbrev number : ℕ → Expr
number n = Literal (Int (pos n))

abbrev null : Expr
null = Literal Null

-- BETWEEN and IN

between_is_two : expanded (Between a (number 1) (number 2)) ≡ And (Compare Ge a (number 1) ∷ Compare Le a (number 2) ∷ [])
unfolding expanded
between_is_two = simp cond_lemmas

one_of_one : expanded (Among a (number 1 ∷ [])) ≡ Compare Eq a (number 1)
unfolding expanded
one_of_one = simp cond_lemmas

one_of_two : expanded (Not (Among a (number 1 ∷ null ∷ []))) ≡ Not (Or (Compare Eq a (number 1) ∷ Compare Eq a null ∷ []))
unfolding expanded
one_of_two = simp cond_lemmas

-- NOT

de_morgan : pushed (Not (And (Compare Lt a b ∷ Or (Compare Eq a b ∷ IsNull a ∷ []) ∷ []))) Plain
    ≡ Or (Compare Ge a b ∷ And (Compare Ne a b ∷ NotNull a ∷ []) ∷ [])
de_morgan = simp pushing

not_not : pushed (Not (Not (Compare Le a b))) Plain ≡ Compare Le a b
not_not = simp pushing

null_safe_stays : pushed (Not (And (Compare NullEq a b ∷ Compare Gt a b ∷ []))) Plain ≡ Or (Not (Compare NullEq a b) ∷ Compare Le a b ∷ [])
null_safe_stays = simp pushing

-- arithmetic

with_null : folded_expr (Multiply (Add a null) (number 2)) ≡ null
unfolding folded_expr
with_null = simp expr_lemmas

of_literals : folded_expr (Add a (Subtract (number 2) (Multiply (Negate (number 3)) (number 4)))) ≡ Add a (number 14)
unfolding folded_expr
of_literals = simp expr_lemmas

folded_inside : folded (Not (Compare NullEq (Add (number 1) (number 2)) a)) ≡ Not (Compare NullEq (number 3) a)
unfolding folded folded_expr
folded_inside = simp (cond_lemmas, expr_lemmas)

-- turning round

turned_round : turned (And (Compare Lt (number 1) a ∷ Compare Lt (number 1) (number 2) ∷ Not (Compare NullEq null b) ∷ []))
    ≡ And (Compare Gt a (number 1) ∷ Compare Lt (number 1) (number 2) ∷ Not (Compare NullEq b null) ∷ [])
unfolding turned
turned_round = simp cond_lemmas

-- what is decided

two_literals : decided (Or (Compare Lt (number 1) (number 2) ∷ Compare Eq null (number 1) ∷ Compare Gt (Literal (Text (codes "a"))) (Literal (Text (codes "b"))) ∷ Compare NullEq null null ∷ []))
    ≡ Or (Known True ∷ Known Unknown ∷ Known False ∷ Known True ∷ [])
unfolding decided
two_literals = simp cond_lemmas

with_null_literal : decided (And (Compare NullEq a null ∷ Not (Compare NullEq a null) ∷ Compare Ne a null ∷ IsNull (number 1) ∷ NotNull null ∷ Not (Known Unknown) ∷ Not (Compare NullEq a b) ∷ []))
    ≡ And (IsNull a ∷ NotNull a ∷ Known Unknown ∷ Known False ∷ Known False ∷ Known Unknown ∷ Not (Compare NullEq a b) ∷ [])
unfolding decided
with_null_literal = simp cond_lemmas

-- flattening

flat : flattened (And (Compare Eq a b ∷ And (IsNull a ∷ And (IsNull b ∷ Known True ∷ []) ∷ []) ∷ Or (And (IsNull c ∷ []) ∷ []) ∷ []))
    ≡ And (Compare Eq a b ∷ IsNull a ∷ IsNull b ∷ IsNull c ∷ [])
unfolding flattened
flat = simp cond_lemmas

flat_or : flattened (Or (And (IsNull a ∷ Known False ∷ []) ∷ Or (IsNull b ∷ Known Unknown ∷ []) ∷ Known False ∷ []))
    ≡ Or (IsNull b ∷ Known Unknown ∷ [])
unfolding flattened
flat_or = simp cond_lemmas

flat_known : flattened (Or (And [] ∷ IsNull a ∷ [])) ≡ Known True
unfolding flattened
flat_known = simp cond_lemmas

-- handing on

abbrev x_is : Expr → ℕ → Cond
x_is x n = Compare Eq x (number n)

chain : propagated (And (Compare Eq a b ∷ Compare Eq b c ∷ x_is c 3 ∷ x_is a 4 ∷ []))
    ≡ And (Compare Eq a b ∷ Compare Eq b c ∷ x_is c 3 ∷ x_is a 4 ∷ x_is b 4 ∷ x_is b 3 ∷ x_is a 3 ∷ x_is c 4 ∷ [])
unfolding propagated handed_all next_handed
chain = simp cond_lemmas
