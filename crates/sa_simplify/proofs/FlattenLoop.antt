-- What the loops over the members of an AND and of an OR have put together.
use Rattle.std.proofs.Common.{◌≡◌, Bool, true, false, not, cond, if◌then◌else◌, List, [], ◌∷◌, ◌++◌, filter, reverse, refl, ap, sym, ◌∙◌, append-nil}
use Rattle.std.specs.List.{list_any, flat_map}
use Rattle.sa_value.specs.declared.truth.Truth.TheVariants.{False, True}
use Rattle.sa_cond.specs.declared.cond.Cond.{Cond}
use Rattle.sa_cond.specs.declared.cond.Cond.TheVariants.{Known}
use Rattle.sa_simplify.specs.Flatten.{is_true, is_false, conjuncts_of, disjuncts_of, and_or_alone, or_or_alone, and_of, or_of}
use Rattle.sa_simplify.specs.inner.Added.{added_conjuncts, added_disjuncts}

-- what members add, one by one, is what the members that are left add
module _ (says_nothing : Cond → Bool) (members_of : Cond → List Cond) where
  one_more : (x : Cond) (nothing : Bool) (flat left : List Cond) → flat ≡ flat_map members_of left →
      (if nothing then [] else members_of x) ++ flat ≡ flat_map members_of (cond (not nothing) (x ∷ left) left)
  one_more x true flat left is = is
  one_more x false flat left is = ap (λ ys. members_of x ++ ys) is

  added_all : (xs : List Cond) →
      flat_map (λ x. if says_nothing x then [] else members_of x) xs ≡ flat_map members_of (filter (λ x. not (says_nothing x)) xs)
  added_all [] = refl
  added_all (x ∷ xs) =
      one_more x (says_nothing x) (flat_map (λ x. if says_nothing x then [] else members_of x) xs) (filter (λ x. not (says_nothing x)) xs) (added_all xs)

none_left : (test : Cond → Bool) (members left : List Cond) → left ≡ [] → list_any test (reverse left) ≡ list_any test members → list_any test members ≡ false
none_left test members left is any = sym any ∙ ap (λ xs. list_any test (reverse xs)) is

all_put : (added : Cond → List Cond) (members left flat : List Cond) → left ≡ [] → flat ++ flat_map added (reverse left) ≡ flat_map added members → flat ≡ flat_map added members
all_put added members left flat is put = sym (append-nil flat) ∙ ap (λ xs. flat ++ flat_map added (reverse xs)) (sym is) ∙ put

pub flat_and : (members left flat : List Cond) (done : Cond) → left ≡ [] → list_any is_false (reverse left) ≡ list_any is_false members →
    flat ++ flat_map added_conjuncts (reverse left) ≡ flat_map added_conjuncts members → done ≡ and_or_alone flat → done ≡ and_of members
flat_and members left flat done is any put done_is =
    done_is ∙ ap and_or_alone (all_put added_conjuncts members left flat is put ∙ added_all is_true conjuncts_of members)
    ∙ ap (λ b. if b then Known False else and_or_alone (flat_map conjuncts_of (filter (λ x. not (is_true x)) members))) (sym (none_left is_false members left is any))

pub flat_or : (members left flat : List Cond) (done : Cond) → left ≡ [] → list_any is_true (reverse left) ≡ list_any is_true members →
    flat ++ flat_map added_disjuncts (reverse left) ≡ flat_map added_disjuncts members → done ≡ or_or_alone flat → done ≡ or_of members
flat_or members left flat done is any put done_is =
    done_is ∙ ap or_or_alone (all_put added_disjuncts members left flat is put ∙ added_all is_false disjuncts_of members)
    ∙ ap (λ b. if b then Known True else or_or_alone (flat_map disjuncts_of (filter (λ x. not (is_false x)) members))) (sym (none_left is_true members left is any))
