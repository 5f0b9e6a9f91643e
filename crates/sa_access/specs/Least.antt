-- What an access is reckoned to cost and to give, and which access is the least.
use Rattle.std.specs.Prelude.{◌≡◌, ◌≢◌, ℕ, ◌+◌, ◌-◌, ◌/◌, ◌==◌, ◌<◌, length, Contains, Option, Some, None, if◌then◌else◌}
use Rattle.std.specs.Ordering.{nat_cmp, ordering_then}
use Rattle.std.specs.declared.cmp.Ordering.{Ordering}
use Rattle.std.specs.declared.cmp.Ordering.TheVariants.{Less}
use Rattle.sa_value.specs.declared.truth.Truth.TheVariants.{True}
use Rattle.sa_value.specs.declared.value.Value.TheVariants.{Null}
use Rattle.sa_cond.specs.Choice.{Choice}
use Rattle.sa_cond.specs.Condition.{holds}
use Rattle.sa_cost.specs.Cost.{cost_of_scan, cost_of_index, cost_of_ranges, cost_of_ref}
use Rattle.sa_table.specs.Table.{cell_at, row_count}
use Rattle.sa_index.specs.Entries.{distinct_prefixes}
use Rattle.sa_plan.specs.declared.access.Access.{Access}
use Rattle.sa_plan.specs.declared.access.Access.TheVariants as accesses
use Rattle.sa_plan.specs.declared.access.AccessKind.{AccessKind}
use Rattle.sa_plan.specs.declared.access.AccessKind.TheVariants as kinds
use Rattle.sa_plan.specs.Access.{key_of, kind_of}
use Rattle.sa_plan.specs.Scan.{scan}
use Rattle.sa_access.specs.declared.chosen.Chosen.{Chosen}
use Rattle.sa_access.specs.Asked.{Asked, asked_table}
use Rattle.sa_access.specs.Offered.{IsOffered}

-- a quotient rounded up; 0 where nothing is divided
abbrev pub divided_up : (rows values : ℕ) → ℕ
divided_up rows values = if values == 0 then 0 else (rows + values - 1) / values

-- the number of an access's key; that of ALL is 0
abbrev pub number_of : Option ℕ → ℕ
number_of None = 0
number_of (Some key) = key

abbrev pub rank_of : AccessKind → ℕ
rank_of kinds.Const = 0
rank_of kinds.EqRef = 1
rank_of kinds.Ref = 2
rank_of kinds.Range = 3
rank_of kinds.Index = 4
rank_of kinds.All = 5

-- By their costs, then by what they are reckoned to give, then by the numbers of their keys, then
-- by their kinds.
abbrev pub order_of_chosen : Chosen → Chosen → Ordering
order_of_chosen one other =
    ordering_then (nat_cmp one.cost other.cost)
    (ordering_then (nat_cmp one.estimate other.estimate)
    (ordering_then (nat_cmp (number_of (key_of one.access)) (number_of (key_of other.access)))
    (nat_cmp (rank_of (kind_of one.access)) (rank_of (kind_of other.access)))))

module _ (asked : Asked) where
  abbrev rows : ℕ
  rows = row_count asked.tables (asked_table asked)

  -- how many rows an access is reckoned to give each time: as many as it gives where that is known,
  -- and those of one value where the values are alike in number
  abbrev pub estimate_of : Access → ℕ
  estimate_of accesses.All = rows
  estimate_of (accesses.Index key) = rows
  estimate_of (accesses.Range key list) =
      length
      (scan (accesses.Range key list) asked.tables (asked_table asked) (λ position column. Null))
  estimate_of (accesses.Ref key from) =
      divided_up rows
      (distinct_prefixes
      (record { tables = asked.tables; table = asked_table asked; key = key }) (length from))
  estimate_of (accesses.EqRef key from) = 1
  estimate_of (accesses.Const key from) = 1

  abbrev pub cost_of : Access → ℕ
  cost_of accesses.All = cost_of_scan rows
  cost_of (accesses.Index key) = cost_of_index rows
  cost_of (accesses.Range key list) =
      cost_of_ranges (length list.ranges) (estimate_of (accesses.Range key list))
  cost_of (accesses.Ref key from) = cost_of_ref (estimate_of (accesses.Ref key from))
  cost_of (accesses.EqRef key from) = cost_of_ref 1
  cost_of (accesses.Const key from) = cost_of_ref 1

  -- an access with its cost and its estimate
  abbrev pub reckoned : Access → Chosen
  reckoned access = record {
    access = access;
    cost = cost_of access;
    estimate = estimate_of access;
  }

  -- It is offered, with its cost and its estimate, and no other that is offered comes before it.
  pub record IsLeast (chosen : Chosen) : Type 0 where
    pub offered : IsOffered asked chosen.access
    pub reckoned_is : chosen ≡ reckoned chosen.access
    pub least : (other : Access) → IsOffered asked other →
        order_of_chosen (reckoned other) chosen ≢ Less

  -- A choice has a row of the table asked for.
  abbrev pub HasRow : Choice → (row : ℕ) → Type 0
  HasRow choice row = (column : ℕ) →
      choice.cell asked.position column ≡ cell_at asked.tables (asked_table asked) row column

  -- The access gives each row with which the filter is TRUE, whatever rows of the other tables are
  -- chosen.
  abbrev pub DropsNone : Access → Type 0
  DropsNone access =
      (choice : Choice) (row : ℕ) → row < row_count asked.tables (asked_table asked) →
      HasRow choice row → holds choice asked.query.filter ≡ True →
      Contains (scan access asked.tables (asked_table asked) choice.cell) row
