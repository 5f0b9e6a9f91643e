-- The numbers of those elements of a list that have a session's key.
use Rattle.std.proofs.Common.{◌≡◌, ◌≢◌, ℕ, suc, ◌==◌, not, if◌then◌else◌, List, [], ◌∷◌, ◌++◌, filter, All, Any, inl, inr, refl, sym, subst, ap, ◌∙◌, arith}
use Rattle.std.proofs.lemmas.Bool.{cases_eq}
use Rattle.std.proofs.lemmas.Bool.Decides.{nat_tests}
use Rattle.std.proofs.lemmas.List.Elements.{All-head, All-tail, All-cons, All-nil}
use Rattle.sa_desk.proofs.Counts.{Any-cases}

module _ {X : Type 0} (key number : X → ℕ) where
  abbrev pub mine : ℕ → List X → List ℕ
  mine session [] = []
  mine session (x ∷ xs) = if key x == session then number x ∷ mine session xs else mine session xs

  pub mine-own : (session : ℕ) (x : X) (xs : List X) → key x ≡ session → mine session (x ∷ xs) ≡ number x ∷ mine session xs
  mine-own session x xs same = grind (arith, nat_tests)

  pub mine-other : (session : ℕ) (x : X) (xs : List X) → key x ≢ session → mine session (x ∷ xs) ≡ mine session xs
  mine-other session x xs other = grind (arith, nat_tests)

  pub mine-append : (session : ℕ) (xs ys : List X) → mine session (xs ++ ys) ≡ mine session xs ++ mine session ys
  mine-append session [] ys = refl
  mine-append session (x ∷ xs) ys =
      let rest : mine session (xs ++ ys) ≡ mine session xs ++ mine session ys = mine-append session xs ys in
      elim (cases_eq (key x) session) [
        | inl same ↦ mine-own session x (xs ++ ys) same ∙ ap (λ more. number x ∷ more) rest ∙ ap (λ more. more ++ mine session ys) (sym (mine-own session x xs same))
        | inr other ↦ mine-other session x (xs ++ ys) other ∙ rest ∙ ap (λ more. more ++ mine session ys) (sym (mine-other session x xs other))
      ]

  -- without those of the session, and without those of another one
  pub mine-gone : (session : ℕ) (xs : List X) → mine session (filter (λ x. not (key x == session)) xs) ≡ []
  mine-gone session [] = refl
  mine-gone session (x ∷ xs) =
      let rest : mine session (filter (λ x. not (key x == session)) xs) ≡ [] = mine-gone session xs in
      elim (cases_eq (key x) session) [ inl same ↦ grind (arith, nat_tests) | inr other ↦ grind (arith, nat_tests) ]

  pub mine-kept : (session actor : ℕ) (xs : List X) → actor ≢ session → mine session (filter (λ x. not (key x == actor)) xs) ≡ mine session xs
  mine-kept session actor [] apart = refl
  mine-kept session actor (x ∷ xs) apart =
      let rest : mine session (filter (λ x. not (key x == actor)) xs) ≡ mine session xs = mine-kept session actor xs apart in
      elim (cases_eq (key x) actor) [
        | inl same ↦ let other : key x ≢ session = λ own. apart (sym same ∙ own) in grind (arith, nat_tests)
        | inr other ↦ elim (cases_eq (key x) session) [ inl own ↦ grind (arith, nat_tests) | inr alien ↦ grind (arith, nat_tests) ]
      ]

  -- none has the key
  pub mine-none : (session : ℕ) (xs : List X) → All (λ x. key x ≢ session) xs → mine session xs ≡ []
  mine-none session [] others = refl
  mine-none session (x ∷ xs) others =
      mine-other session x xs (All-head (λ x. key x ≢ session) x xs others) ∙ mine-none session xs (All-tail (λ x. key x ≢ session) x xs others)

  pub none-mine : (session : ℕ) (xs : List X) → mine session xs ≡ [] → All (λ x. key x ≢ session) xs
  none-mine session [] none = All-nil (λ x. key x ≢ session)
  none-mine session (x ∷ xs) none =
      elim (cases_eq (key x) session) [
        | inl same ↦ let some : number x ∷ mine session xs ≡ [] = sym (mine-own session x xs same) ∙ none in cc
        | inr other ↦ All-cons (λ x. key x ≢ session) x xs other (none-mine session xs (sym (mine-other session x xs other) ∙ none))
      ]

  -- What holds of all their numbers holds of one that is there.
  pub mine-has : (P : ℕ → Type 0) (session n : ℕ) (xs : List X) → All P (mine session xs) → Any (λ x. (key x ≡ session) × (number x ≡ n)) xs → P n
  mine-has P session n [] all found = absurd (omega arith)
  mine-has P session n (x ∷ xs) all found =
      elim (cases_eq (key x) session) [
        | inl same ↦
            let whole : All P (number x ∷ mine session xs) = subst (All P) (mine-own session x xs same) all in
            elim (Any-cases (λ x. (key x ≡ session) × (number x ≡ n)) x xs found) [
              | inl here ↦ subst P here.1 (All-head P (number x) (mine session xs) whole)
              | inr later ↦ mine-has P session n xs (All-tail P (number x) (mine session xs) whole) later
            ]
        | inr other ↦
            elim (Any-cases (λ x. (key x ≡ session) × (number x ≡ n)) x xs found) [
              | inl here ↦ absurd (other here.0)
              | inr later ↦ mine-has P session n xs (subst (All P) (mine-other session x xs other) all) later
            ]
      ]

  later_there : (session n : ℕ) (x : X) (xs : List X) → Any (λ x. (key x ≡ session) × (number x ≡ n)) xs → Any (λ x. (key x ≡ session) × (number x ≡ n)) (x ∷ xs)
  later_there session n x xs (k, y, within, at, holds) = (suc k, y, omega arith, at, holds)

  -- One that is among their numbers is of one that is there, and what holds of all their numbers holds of each that has the key.
  pub mine-there : (session n : ℕ) (rest : List ℕ) (xs : List X) → mine session xs ≡ n ∷ rest → Any (λ x. (key x ≡ session) × (number x ≡ n)) xs
  mine-there session n rest [] some = absurd (let none : [] ≡ n ∷ rest = some in cc)
  mine-there session n rest (x ∷ xs) some =
      elim (cases_eq (key x) session) [
        | inl same ↦
            let both : number x ∷ mine session xs ≡ n ∷ rest = sym (mine-own session x xs same) ∙ some in
            let first : number x ≡ n = cc in (0, x, omega arith, refl, (same, first))
        | inr other ↦ later_there session n x xs (mine-there session n rest xs (sym (mine-other session x xs other) ∙ some))
      ]

  pub mine-each : (P : ℕ → Type 0) (session : ℕ) (xs : List X) → All P (mine session xs) → All (λ x. key x ≡ session → P (number x)) xs
  mine-each P session [] all = All-nil (λ x. key x ≡ session → P (number x))
  mine-each P session (x ∷ xs) all =
      elim (cases_eq (key x) session) [
        | inl same ↦
            let whole : All P (number x ∷ mine session xs) = subst (All P) (mine-own session x xs same) all in
            All-cons (λ x. key x ≡ session → P (number x)) x xs (λ own. All-head P (number x) (mine session xs) whole) (mine-each P session xs (All-tail P (number x) (mine session xs) whole))
        | inr other ↦
            All-cons (λ x. key x ≡ session → P (number x)) x xs (λ own. absurd (other own)) (mine-each P session xs (subst (All P) (mine-other session x xs other) all))
      ]
