-- The algebra of three-valued truth.
use Rattle.std.proofs.Common.{◌≡◌, List, [], ◌∷◌, ◌++◌, map, fold, refl, ap, sym, ◌∙◌}
use Rattle.sa_value.specs.declared.truth.Truth.{Truth}
use Rattle.sa_value.specs.declared.truth.Truth.TheVariants.{False, Unknown, True}
use Rattle.sa_value.specs.Logic.{conjunction, disjunction, negation}
use Rattle.sa_cond.specs.Condition.{all_of, any_of}

pub conjunction-True_left : (a : Truth) → conjunction True a ≡ a
conjunction-True_left False = refl
conjunction-True_left Unknown = refl
conjunction-True_left True = refl

pub conjunction-True_right : (a : Truth) → conjunction a True ≡ a
conjunction-True_right False = refl
conjunction-True_right Unknown = refl
conjunction-True_right True = refl

pub conjunction-False_left : (a : Truth) → conjunction False a ≡ False
conjunction-False_left False = refl
conjunction-False_left Unknown = refl
conjunction-False_left True = refl

pub conjunction-False_right : (a : Truth) → conjunction a False ≡ False
conjunction-False_right False = refl
conjunction-False_right Unknown = refl
conjunction-False_right True = refl

pub disjunction-False_left : (a : Truth) → disjunction False a ≡ a
disjunction-False_left False = refl
disjunction-False_left Unknown = refl
disjunction-False_left True = refl

pub disjunction-False_right : (a : Truth) → disjunction a False ≡ a
disjunction-False_right False = refl
disjunction-False_right Unknown = refl
disjunction-False_right True = refl

pub disjunction-True_left : (a : Truth) → disjunction True a ≡ True
disjunction-True_left False = refl
disjunction-True_left Unknown = refl
disjunction-True_left True = refl

pub disjunction-True_right : (a : Truth) → disjunction a True ≡ True
disjunction-True_right False = refl
disjunction-True_right Unknown = refl
disjunction-True_right True = refl

pub negation-conjunction : (a b : Truth) → disjunction (negation a) (negation b) ≡ negation (conjunction a b)
negation-conjunction False False = refl
negation-conjunction False Unknown = refl
negation-conjunction False True = refl
negation-conjunction Unknown False = refl
negation-conjunction Unknown Unknown = refl
negation-conjunction Unknown True = refl
negation-conjunction True False = refl
negation-conjunction True Unknown = refl
negation-conjunction True True = refl

pub negation-negation : (a : Truth) → negation (negation a) ≡ a
negation-negation False = refl
negation-negation Unknown = refl
negation-negation True = refl

-- an OR is the NOT of an AND
pub disjunction-negation : (a b : Truth) → disjunction a b ≡ negation (conjunction (negation a) (negation b))
disjunction-negation a b =
    ap (λ x. disjunction x b) (sym (negation-negation a)) ∙ ap (disjunction (negation (negation a))) (sym (negation-negation b)) ∙ negation-conjunction (negation a) (negation b)

with_unknown : (b c : Truth) → conjunction (conjunction Unknown b) c ≡ conjunction Unknown (conjunction b c)
with_unknown False False = refl
with_unknown False Unknown = refl
with_unknown False True = refl
with_unknown Unknown False = refl
with_unknown Unknown Unknown = refl
with_unknown Unknown True = refl
with_unknown True False = refl
with_unknown True Unknown = refl
with_unknown True True = refl

pub conjunction_assoc : (a b c : Truth) → conjunction (conjunction a b) c ≡ conjunction a (conjunction b c)
conjunction_assoc False b c = ap (λ x. conjunction x c) (conjunction-False_left b) ∙ conjunction-False_left c ∙ sym (conjunction-False_left (conjunction b c))
conjunction_assoc Unknown b c = with_unknown b c
conjunction_assoc True b c = ap (λ x. conjunction x c) (conjunction-True_left b) ∙ sym (conjunction-True_left (conjunction b c))

fold_from : (a : Truth) (xs : List Truth) → fold conjunction a xs ≡ conjunction a (all_of xs)
fold_from a [] = sym (conjunction-True_right a)
fold_from a (x ∷ xs) =
    fold_from (conjunction a x) xs ∙ conjunction_assoc a x (all_of xs)
    ∙ ap (conjunction a) (sym (fold_from (conjunction True x) xs ∙ ap (λ y. conjunction y (all_of xs)) (conjunction-True_left x)))

pub all_of-cons : (x : Truth) (xs : List Truth) → all_of (x ∷ xs) ≡ conjunction x (all_of xs)
all_of-cons x xs = fold_from (conjunction True x) xs ∙ ap (λ y. conjunction y (all_of xs)) (conjunction-True_left x)

-- the OR of truths is the NOT of the AND of their NOTs
negated_from : (a : Truth) (xs : List Truth) → fold disjunction a xs ≡ negation (fold conjunction (negation a) (map negation xs))
negated_from a [] = sym (negation-negation a)
negated_from a (x ∷ xs) =
    negated_from (disjunction a x) xs
    ∙ ap (λ y. negation (fold conjunction y (map negation xs)))
    (ap negation (disjunction-negation a x) ∙ negation-negation (conjunction (negation a) (negation x)))

pub any_of-negation : (xs : List Truth) → any_of xs ≡ negation (all_of (map negation xs))
any_of-negation xs = negated_from False xs

pub any_of-cons : (x : Truth) (xs : List Truth) → any_of (x ∷ xs) ≡ disjunction x (any_of xs)
any_of-cons x xs =
    any_of-negation (x ∷ xs) ∙ ap negation (all_of-cons (negation x) (map negation xs))
    ∙ sym (negation-conjunction (negation x) (all_of (map negation xs)))
    ∙ ap (λ y. disjunction y (negation (all_of (map negation xs)))) (negation-negation x)
    ∙ ap (disjunction x) (sym (any_of-negation xs))

twice : (xs : List Truth) → map negation (map negation xs) ≡ xs
twice [] = refl
twice (x ∷ xs) = ap (λ y. y ∷ map negation (map negation xs)) (negation-negation x) ∙ ap (λ ys. x ∷ ys) (twice xs)

-- De Morgan
pub any_of-not : (xs : List Truth) → any_of (map negation xs) ≡ negation (all_of xs)
any_of-not xs = any_of-negation (map negation xs) ∙ ap (λ ys. negation (all_of ys)) (twice xs)

pub all_of-not : (xs : List Truth) → all_of (map negation xs) ≡ negation (any_of xs)
all_of-not xs = sym (negation-negation (all_of (map negation xs))) ∙ ap negation (sym (any_of-negation xs))

pub all_of-append : (xs ys : List Truth) → all_of (xs ++ ys) ≡ conjunction (all_of xs) (all_of ys)
all_of-append [] ys = sym (conjunction-True_left (all_of ys))
all_of-append (x ∷ xs) ys =
    all_of-cons x (xs ++ ys) ∙ ap (conjunction x) (all_of-append xs ys) ∙ sym (conjunction_assoc x (all_of xs) (all_of ys))
    ∙ ap (λ y. conjunction y (all_of ys)) (sym (all_of-cons x xs))

pub disjunction_assoc : (a b c : Truth) → disjunction (disjunction a b) c ≡ disjunction a (disjunction b c)
disjunction_assoc a b c =
    disjunction-negation (disjunction a b) c
    ∙ ap (λ x. negation (conjunction x (negation c))) (ap negation (disjunction-negation a b) ∙ negation-negation (conjunction (negation a) (negation b)))
    ∙ ap negation (conjunction_assoc (negation a) (negation b) (negation c))
    ∙ ap (λ x. negation (conjunction (negation a) x)) (sym (ap negation (disjunction-negation b c) ∙ negation-negation (conjunction (negation b) (negation c))))
    ∙ sym (disjunction-negation a (disjunction b c))

pub any_of-append : (xs ys : List Truth) → any_of (xs ++ ys) ≡ disjunction (any_of xs) (any_of ys)
any_of-append [] ys = sym (disjunction-False_left (any_of ys))
any_of-append (x ∷ xs) ys =
    any_of-cons x (xs ++ ys) ∙ ap (disjunction x) (any_of-append xs ys) ∙ sym (disjunction_assoc x (any_of xs) (any_of ys))
    ∙ ap (λ y. disjunction y (any_of ys)) (sym (any_of-cons x xs))
