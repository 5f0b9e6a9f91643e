-- The order of offers is that of their accesses, and what comes first stays first.
use Rattle.std.proofs.Common.{◌≡◌, ◌≢◌, ℕ, ◌⊎◌, inl, inr, Bool, true, false, cond, Option, Some, None, refl, sym, ap, ap₂, ◌∙◌, subst}
use Rattle.std.specs.Cmp.{IsTotalOrder}
use Rattle.std.specs.Ordering.{is_lt, nat_cmp, ordering_then}
use Rattle.std.specs.declared.cmp.Ordering.{Ordering}
use Rattle.std.specs.declared.cmp.Ordering.TheVariants.{Less, Equal, Greater}
use Rattle.std.proofs.lemmas.Cmp.{nat_cmp_total, on_total, then_total, tied_itself}
use Rattle.sa_plan.specs.Access.{key_of, kind_of}
use Rattle.sa_plan.specs.declared.access.Access.{Access}
use Rattle.sa_plan.specs.declared.access.AccessKind.{AccessKind}
use Rattle.sa_plan.specs.declared.access.AccessKind.TheVariants.{All, Index, Range, Ref, EqRef, Const}
use Rattle.sa_access.specs.Asked.{Asked}
use Rattle.sa_access.specs.Least.{number_of, order_of_chosen, rank_of, reckoned}
use Rattle.sa_access.specs.declared.chosen.Chosen.{Chosen}
use Rattle.sa_access.specs.declared.offer.Offer.{Offer}
use Rattle.sa_access.specs.inner.Offer.{IsMade, MakesOffer, access_of, chosen_by, lesser_of, offer_of, order_of_offers}

pub order_of_chosen-total : IsTotalOrder order_of_chosen
order_of_chosen-total =
    then_total (on_total (λ (one : Chosen). one.cost) nat_cmp_total)
    (then_total (on_total (λ (one : Chosen). one.estimate) nat_cmp_total)
    (then_total (on_total (λ (one : Chosen). number_of (key_of one.access)) nat_cmp_total)
    (on_total (λ (one : Chosen). rank_of (kind_of one.access)) nat_cmp_total)))

less_told : (order : Ordering) → is_lt order ≡ true → order ≡ Less
less_told Less told = refl
less_told Equal told = cc
less_told Greater told = cc

less_denied : (order : Ordering) → is_lt order ≡ false → order ≢ Less
less_denied order denied less = let never : true ≡ false = sym (ap is_lt less) ∙ denied in cc

pub itself : (one : Chosen) → order_of_chosen one one ≢ Less
itself one less = let never : Less ≡ Equal = sym less ∙ tied_itself order_of_chosen-total one in cc

module _ (asked : Asked) where
  kind_is : (kind : AccessKind) (key : ℕ) → kind_of (access_of asked kind key) ≡ kind
  kind_is All key = refl
  kind_is Index key = refl
  kind_is Range key = refl
  kind_is Ref key = refl
  kind_is EqRef key = refl
  kind_is Const key = refl

  order_as_chosen : (one other : Offer) → IsMade asked one → IsMade asked other → order_of_offers one other ≡ order_of_chosen (chosen_by asked one) (chosen_by asked other)
  order_as_chosen one other made also =
      ap₂ (λ (keys kinds : Ordering). ordering_then (nat_cmp one.cost other.cost) (ordering_then (nat_cmp one.estimate other.estimate) (ordering_then keys kinds)))
      (sym (ap₂ nat_cmp made.number also.number))
      (sym (ap₂ (λ (kind kind' : AccessKind). nat_cmp (rank_of kind) (rank_of kind')) (kind_is one.kind one.key) (kind_is other.kind other.key)))

  -- None of these accesses comes before the offer.
  abbrev pub Leads : (Access → Type 0) → Offer → Type 0
  Leads P kept = (other : Access) → P other → order_of_chosen (reckoned asked other) (chosen_by asked kept) ≢ Less

  pub chosen_by-offer_of : (kind : AccessKind) (key : ℕ) → chosen_by asked (offer_of asked kind key) ≡ reckoned asked (access_of asked kind key)
  unfolding offer_of
  chosen_by-offer_of kind key = refl

  -- one access more, where something holds
  abbrev pub More : (Access → Type 0) → (holds : Type 0) → Access → Access → Type 0
  More P holds one other = P other ⊎ (holds × (other ≡ one))

  module _ (P : Access → Type 0) (kept : Offer) (made : IsMade asked kept) (leads : Leads P kept) (holds : Type 0) (kind : AccessKind) (key : ℕ)
      (is_made : holds → IsMade asked (offer_of asked kind key)) where
    abbrev offer : Offer
    offer = offer_of asked kind key

    abbrev IsFirst : Offer → Type 0
    IsFirst first = IsMade asked first × Leads (More P holds (access_of asked kind key)) first

    kept_none : ¬ holds → IsFirst kept
    kept_none never = (made, leads_on)
      where
        leads_on : Leads (More P holds (access_of asked kind key)) kept
        leads_on other (inl before) = leads other before
        leads_on other (inr this) = absurd (never this.0)

    as_offer : (other : Access) → other ≡ access_of asked kind key → reckoned asked other ≡ chosen_by asked offer
    as_offer other same = ap (reckoned asked) same ∙ sym (chosen_by-offer_of kind key)

    kept_other : holds → is_lt (order_of_offers offer kept) ≡ false → IsFirst kept
    kept_other holding behind = (made, leads_on)
      where
        apart : order_of_chosen (chosen_by asked offer) (chosen_by asked kept) ≢ Less
        apart = subst (λ (order : Ordering). order ≢ Less) (order_as_chosen offer kept (is_made holding) made) (less_denied (order_of_offers offer kept) behind)

        leads_on : Leads (More P holds (access_of asked kind key)) kept
        leads_on other (inl before) = leads other before
        leads_on other (inr this) = subst (λ (one : Chosen). order_of_chosen one (chosen_by asked kept) ≢ Less) (sym (as_offer other this.1)) apart

    taken : holds → is_lt (order_of_offers offer kept) ≡ true → IsFirst offer
    taken holding before = (is_made holding, leads_on)
      where
        less : order_of_chosen (chosen_by asked offer) (chosen_by asked kept) ≡ Less
        less = sym (order_as_chosen offer kept (is_made holding) made) ∙ less_told (order_of_offers offer kept) before

        leads_on : Leads (More P holds (access_of asked kind key)) offer
        leads_on other (inl there) = λ first.
            leads other there (order_of_chosen-total.trans (reckoned asked other) (chosen_by asked offer) (chosen_by asked kept) first less)
        leads_on other (inr this) =
            subst (λ (one : Chosen). order_of_chosen one (chosen_by asked offer) ≢ Less) (sym (as_offer other this.1)) (itself (chosen_by asked offer))

    -- the first of an offer and perhaps this one
    pub lesser_first : (found : Option Offer) → MakesOffer holds offer found → IsFirst (lesser_of kept found)
    lesser_first None never = kept_none never
    lesser_first (Some one) found = subst (λ (one : Offer). IsFirst (lesser_of kept (Some one))) (sym found.1) (at (is_lt (order_of_offers offer kept)) refl)
      where
        at : (test : Bool) → is_lt (order_of_offers offer kept) ≡ test → IsFirst (cond test offer kept)
        at true before = taken found.0 before
        at false behind = kept_other found.0 behind
