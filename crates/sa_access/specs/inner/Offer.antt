-- The accesses that are offered, as the code holds them, and their order.
use Rattle.std.specs.Prelude.{◌≡◌, ◌≢◌, ℕ, ◌<◌, Option, Some, None, if◌then◌else◌}
use Rattle.std.specs.List.{list_all}
use Rattle.std.specs.Option.{IfSome}
use Rattle.std.specs.Ordering.{nat_cmp, ordering_then, is_lt}
use Rattle.std.specs.declared.cmp.Ordering.{Ordering}
use Rattle.std.specs.declared.cmp.Ordering.TheVariants.{Less}
use Rattle.sa_range.specs.RangeList.{range_list}
use Rattle.sa_index.specs.Indexed.{Indexed}
use Rattle.sa_plan.specs.Access.{key_of}
use Rattle.sa_plan.specs.declared.access.Access.{Access}
use Rattle.sa_plan.specs.declared.access.Access.TheVariants as accesses
use Rattle.sa_plan.specs.declared.access.AccessKind.{AccessKind}
use Rattle.sa_plan.specs.declared.access.AccessKind.TheVariants.{All, Index, Range, Ref, EqRef, Const}
use Rattle.sa_access.specs.Asked.{Asked, asked_table}
use Rattle.sa_access.specs.Least.{cost_of, estimate_of, number_of, order_of_chosen, rank_of, reckoned}
use Rattle.sa_access.specs.Offered.{IsOffered, finds_one, key_at}
use Rattle.sa_access.specs.Sought.{is_literal, sought_of}
use Rattle.sa_access.specs.declared.chosen.Chosen.{Chosen}
use Rattle.sa_access.specs.declared.offer.Offer.{Offer}

-- Of two offers the one comes first that an access with its cost, its estimate, its key and its
-- kind does.
abbrev pub order_of_offers : Offer → Offer → Ordering
order_of_offers one other =
    ordering_then (nat_cmp one.cost other.cost)
    (ordering_then (nat_cmp one.estimate other.estimate)
    (ordering_then (nat_cmp one.key other.key) (nat_cmp (rank_of one.kind) (rank_of other.kind))))

-- the first of an offer and perhaps another
abbrev pub lesser_of : Offer → Option Offer → Offer
lesser_of kept None = kept
lesser_of kept (Some other) = if is_lt (order_of_offers other kept) then other else kept

-- This offer is made where something holds, and else none.
abbrev pub MakesOffer : (holds : Type 0) → Offer → Option Offer → Type 0
MakesOffer holds offer None = ¬ holds
MakesOffer holds offer (Some made) = holds × (made ≡ offer)

module _ (asked : Asked) where
  -- a key of the table
  abbrev pub indexed_at : (key : ℕ) → Indexed
  indexed_at key = record { tables = asked.tables; table = asked_table asked; key = key }

  -- the access of a kind by a key
  abbrev pub access_of : AccessKind → (key : ℕ) → Access
  access_of All key = accesses.All
  access_of Index key = accesses.Index key
  access_of Range key =
      accesses.Range key (range_list asked.query.filter asked.position (key_at asked key).parts)
  access_of Ref key = accesses.Ref key (sought_of asked key)
  access_of EqRef key = accesses.EqRef key (sought_of asked key)
  access_of Const key = accesses.Const key (sought_of asked key)

  -- the offer of a kind by a key
  unfoldable pub offer_of : AccessKind → (key : ℕ) → Offer
  offer_of kind key = record {
    kind = kind;
    key = key;
    cost = cost_of asked (access_of kind key);
    estimate = estimate_of asked (access_of kind key);
  }

  -- the kind by which a key is read whose first part is sought
  abbrev pub sought_kind : (key : ℕ) → AccessKind
  sought_kind key =
      if finds_one asked key
      then (if list_all is_literal (sought_of asked key) then Const else EqRef)
      else Ref

  -- what an offer makes of its access
  abbrev pub chosen_by : Offer → Chosen
  chosen_by offer = record {
    access = access_of offer.kind offer.key;
    cost = offer.cost;
    estimate = offer.estimate;
  }

  -- An access by no key, or by one of the first so many.
  abbrev pub IsBelow : ℕ → Access → Type 0
  IsBelow count access = IfSome (key_of access) (λ key. key < count)

  -- It is the offer of an access that is offered.
  pub record IsMade (offer : Offer) : Type 0 where
    pub offered : IsOffered asked (access_of offer.kind offer.key)
    pub number : number_of (key_of (access_of offer.kind offer.key)) ≡ offer.key
    pub reckoned_is : offer ≡ offer_of offer.kind offer.key

  -- It is such an offer, and no access by no key or by one of the first so many comes before it.
  pub record IsLeastBelow (count : ℕ) (kept : Offer) : Type 0 where
    pub made : IsMade kept
    pub least : (other : Access) → IsOffered asked other → IsBelow count other →
        order_of_chosen (reckoned asked other) (chosen_by kept) ≢ Less
