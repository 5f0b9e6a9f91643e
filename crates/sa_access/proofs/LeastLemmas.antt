-- The first of all offers.
use Rattle.std.proofs.Common.{◌≡◌, ◌≢◌, ℕ, ◌+◌, ◌<◌, ◌⊎◌, inl, inr, Bool, true, false, cond, List, [], ◌∷◌, length, Option, refl, sym, ap, ap₂, ◌∙◌, subst, arith}
use Rattle.std.specs.List.{list_all}
use Rattle.std.specs.Prelude.{nat_lt}
use Rattle.std.specs.declared.cmp.Ordering.TheVariants.{Less}
use Rattle.std.proofs.lemmas.Bool.{ltb-true}
use Rattle.std.proofs.lemmas.Bool.Decides.{nat_tests}
use Rattle.sa_index.specs.Indexed.{IsKeyOf}
use Rattle.sa_interval.specs.declared.list.RangeList.{RangeList}
use Rattle.sa_range.specs.RangeList.{range_list}
use Rattle.sa_table.specs.Table.{table_at}
use Rattle.sa_plan.specs.Access.{key_of}
use Rattle.sa_plan.specs.declared.access.Access.{Access}
use Rattle.sa_plan.specs.declared.access.Access.TheVariants as accesses
use Rattle.sa_plan.specs.declared.access.AccessKind.{AccessKind}
use Rattle.sa_plan.specs.declared.access.AccessKind.TheVariants.{All, Index, Range, Ref, EqRef, Const}
use Rattle.sa_plan.specs.declared.access.RefPart.{RefPart}
use Rattle.sa_access.specs.Asked.{Asked, asked_table}
use Rattle.sa_access.specs.Least.{IsLeast, number_of, order_of_chosen, reckoned}
use Rattle.sa_access.specs.Offered.{IsOffered, IsSought, all_tuples, covers, finds_one, key_at}
use Rattle.sa_access.specs.Sought.{is_literal, sought_of}
use Rattle.sa_access.specs.declared.chosen.Chosen.{Chosen}
use Rattle.sa_access.specs.declared.offer.Offer.{Offer}
use Rattle.sa_access.specs.inner.Offer.{IsBelow, IsLeastBelow, IsMade, MakesOffer, access_of, chosen_by, lesser_of, offer_of, sought_kind}
use Rattle.sa_access.proofs.OrderLemmas.{More, chosen_by-offer_of, itself, lesser_first}

abbrev pub chosen_with : Access → (cost estimate : ℕ) → Chosen
chosen_with access cost estimate = record { access = access; cost = cost; estimate = estimate }

module _ (asked : Asked) where
  made_of : (kind : AccessKind) (key : ℕ) → IsOffered asked (access_of asked kind key) → number_of (key_of (access_of asked kind key)) ≡ key → IsMade asked (offer_of asked kind key)
  unfolding offer_of
  made_of kind key offered number = record { offered = offered; number = number; reckoned_is = refl }

  -- before the first key there is ALL
  pub least_at_first : IsLeastBelow asked 0 (offer_of asked All 0)
  least_at_first = record { made = made_of All 0 tt refl; least = first }
    where
      first : (other : Access) → IsOffered asked other → IsBelow asked 0 other → order_of_chosen (reckoned asked other) (chosen_by asked (offer_of asked All 0)) ≢ Less
      first accesses.All offered below =
          subst (λ (one : Chosen). order_of_chosen one (chosen_by asked (offer_of asked All 0)) ≢ Less) (chosen_by-offer_of asked All 0) (itself (chosen_by asked (offer_of asked All 0)))
      first (accesses.Index key) offered below = absurd (omega (arith, below))
      first (accesses.Range key list) offered below = absurd (omega (arith, below))
      first (accesses.Ref key from) offered below = absurd (omega (arith, below))
      first (accesses.EqRef key from) offered below = absurd (omega (arith, below))
      first (accesses.Const key from) offered below = absurd (omega (arith, below))

  module _ (key : ℕ) (there : IsKeyOf asked.tables (asked_table asked) key) where
    abbrev ranges : RangeList
    ranges = range_list asked.query.filter asked.position (key_at asked key).parts

    index_made : covers asked key ≡ true → IsMade asked (offer_of asked Index key)
    index_made holds = made_of Index key (there, holds) refl

    range_made : ranges.ranges ≢ all_tuples ∷ [] → IsMade asked (offer_of asked Range key)
    range_made apart = made_of Range key (there, refl, apart) refl

    sought_is : sought_of asked key ≢ [] → IsSought asked key (sought_of asked key)
    sought_is some = record { there = there; from_is = refl; some = some }

    sought_made : sought_of asked key ≢ [] → IsMade asked (offer_of asked (sought_kind asked key) key)
    sought_made some = at (finds_one asked key) (list_all is_literal (sought_of asked key)) refl refl
      where
        at : (one literal : Bool) → finds_one asked key ≡ one → list_all is_literal (sought_of asked key) ≡ literal
            → IsMade asked (offer_of asked (cond one (cond literal Const EqRef) Ref) key)
        at true true one literal = made_of Const key (sought_is some, one, literal) refl
        at true false one literal = made_of EqRef key (sought_is some, one, literal) refl
        at false literal one is = made_of Ref key (sought_is some, one) refl

    -- the accesses that are offered by no key and by those before
    abbrev Before : Access → Type 0
    Before other = IsOffered asked other × IsBelow asked key other

    abbrev WithIndex : Access → Type 0
    WithIndex = More asked Before (covers asked key ≡ true) (accesses.Index key)

    abbrev WithRange : Access → Type 0
    WithRange = More asked WithIndex (ranges.ranges ≢ all_tuples ∷ []) (accesses.Range key ranges)

    abbrev WithSought : Access → Type 0
    WithSought = More asked WithRange (sought_of asked key ≢ []) (access_of asked (sought_kind asked key) key)

    -- a key is one before, or this one
    earlier_or_this : (other : ℕ) → other < key + 1 → (other < key) ⊎ (other ≡ key)
    earlier_or_this other below = omega_cases (nat_lt other key) refl
      where
        omega_cases : (test : Bool) → nat_lt other key ≡ test → (other < key) ⊎ (other ≡ key)
        omega_cases true before = inl (ltb-true other key before)
        omega_cases false behind = inr (grind (arith, nat_tests))

    by_sought : (access : Access) → sought_of asked key ≢ [] → access ≡ access_of asked (sought_kind asked key) key → WithSought access
    by_sought access some same = inr (some, same)

    all_found : (other : Access) → IsOffered asked other → IsBelow asked (key + 1) other → WithSought other
    all_found accesses.All offered below = inl (inl (inl (offered, tt)))
    all_found (accesses.Index number) offered below = at (earlier_or_this number below)
      where
        at : (number < key) ⊎ (number ≡ key) → WithSought (accesses.Index number)
        at (inl before) = inl (inl (inl (offered, before)))
        at (inr same) = inl (inl (inr (subst (λ one. covers asked one ≡ true) same offered.1, ap accesses.Index same)))
    all_found (accesses.Range number list) offered below = at (earlier_or_this number below)
      where
        at : (number < key) ⊎ (number ≡ key) → WithSought (accesses.Range number list)
        at (inl before) = inl (inl (inl (offered, before)))
        at (inr same) =
            let list_is : list ≡ ranges = offered.1 ∙ ap (λ one. range_list asked.query.filter asked.position (key_at asked one).parts) same in
            inl (inr (subst (λ (one : RangeList). one.ranges ≢ all_tuples ∷ []) list_is offered.2, ap₂ accesses.Range same list_is))
    all_found (accesses.Ref number from) offered below = at (earlier_or_this number below)
      where
        at : (number < key) ⊎ (number ≡ key) → WithSought (accesses.Ref number from)
        at (inl before) = inl (inl (inl (offered, before)))
        at (inr same) =
            let from_is : from ≡ sought_of asked key = offered.0.from_is ∙ ap (sought_of asked) same in
            let one : finds_one asked key ≡ false = ap (finds_one asked) (sym same) ∙ offered.1 in
            by_sought (accesses.Ref number from) (subst (λ (parts : List RefPart). parts ≢ []) from_is offered.0.some)
            (ap₂ accesses.Ref same from_is ∙ ap (λ (test : Bool). access_of asked (cond test (cond (list_all is_literal (sought_of asked key)) Const EqRef) Ref) key) (sym one))
    all_found (accesses.EqRef number from) offered below = at (earlier_or_this number below)
      where
        at : (number < key) ⊎ (number ≡ key) → WithSought (accesses.EqRef number from)
        at (inl before) = inl (inl (inl (offered, before)))
        at (inr same) =
            let from_is : from ≡ sought_of asked key = offered.0.from_is ∙ ap (sought_of asked) same in
            let one : finds_one asked key ≡ true = ap (finds_one asked) (sym same) ∙ offered.1 in
            let literal : list_all is_literal (sought_of asked key) ≡ false = ap (list_all is_literal) (sym from_is) ∙ offered.2 in
            by_sought (accesses.EqRef number from) (subst (λ (parts : List RefPart). parts ≢ []) from_is offered.0.some)
            (ap₂ accesses.EqRef same from_is ∙ ap₂ (λ (test test' : Bool). access_of asked (cond test (cond test' Const EqRef) Ref) key) (sym one) (sym literal))
    all_found (accesses.Const number from) offered below = at (earlier_or_this number below)
      where
        at : (number < key) ⊎ (number ≡ key) → WithSought (accesses.Const number from)
        at (inl before) = inl (inl (inl (offered, before)))
        at (inr same) =
            let from_is : from ≡ sought_of asked key = offered.0.from_is ∙ ap (sought_of asked) same in
            let one : finds_one asked key ≡ true = ap (finds_one asked) (sym same) ∙ offered.1 in
            let literal : list_all is_literal (sought_of asked key) ≡ true = ap (list_all is_literal) (sym from_is) ∙ offered.2 in
            by_sought (accesses.Const number from) (subst (λ (parts : List RefPart). parts ≢ []) from_is offered.0.some)
            (ap₂ accesses.Const same from_is ∙ ap₂ (λ (test test' : Bool). access_of asked (cond test (cond test' Const EqRef) Ref) key) (sym one) (sym literal))

    -- one key more
    pub least_with_key : (kept : Offer) → IsLeastBelow asked key kept → (index range sought : Option Offer)
        → MakesOffer (covers asked key ≡ true) (offer_of asked Index key) index
        → MakesOffer (ranges.ranges ≢ all_tuples ∷ []) (offer_of asked Range key) range
        → MakesOffer (sought_of asked key ≢ []) (offer_of asked (sought_kind asked key) key) sought
        → IsLeastBelow asked (key + 1) (lesser_of (lesser_of (lesser_of kept index) range) sought)
    least_with_key kept least index range sought indexed ranged found =
        let first = lesser_first asked Before kept least.made (λ other before. least.least other before.0 before.1) (covers asked key ≡ true) Index key index_made index indexed in
        let second = lesser_first asked WithIndex (lesser_of kept index) first.0 first.1 (ranges.ranges ≢ all_tuples ∷ []) Range key range_made range ranged in
        let third = lesser_first asked WithRange (lesser_of (lesser_of kept index) range) second.0 second.1 (sought_of asked key ≢ []) (sought_kind asked key) key sought_made sought found in
        record { made = third.0; least = λ other offered below. third.1 other (all_found other offered below) }

  offered_below : (other : Access) → IsOffered asked other → IsBelow asked (length (table_at asked.tables (asked_table asked)).def.keys) other
  offered_below accesses.All offered = tt
  offered_below (accesses.Index key) offered = offered.0.key_there
  offered_below (accesses.Range key list) offered = offered.0.key_there
  offered_below (accesses.Ref key from) offered = offered.0.there.key_there
  offered_below (accesses.EqRef key from) offered = offered.0.there.key_there
  offered_below (accesses.Const key from) offered = offered.0.there.key_there

  -- the first of all offers makes the least access
  pub least_of_all : (offer : Offer) → IsLeastBelow asked (length (table_at asked.tables (asked_table asked)).def.keys) offer → IsLeast asked (chosen_by asked offer)
  least_of_all offer least = record {
    offered = least.made.offered;
    reckoned_is = ap (chosen_by asked) least.made.reckoned_is ∙ chosen_by-offer_of asked offer.kind offer.key;
    least = λ other offered. least.least other offered (offered_below other offered);
  }

  -- an access of that offer is the least
  pub least_chosen : (offer : Offer) (access : Access) → IsLeastBelow asked (length (table_at asked.tables (asked_table asked)).def.keys) offer
      → access ≡ access_of asked offer.kind offer.key → IsLeast asked (chosen_with access offer.cost offer.estimate)
  least_chosen offer access least is =
      subst (IsLeast asked) (sym (ap (λ (one : Access). chosen_with one offer.cost offer.estimate) is)) (least_of_all offer least)
