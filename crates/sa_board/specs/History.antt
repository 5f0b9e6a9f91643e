-- What the journals of a board are once its sessions have ended; cited by the call that ends it.
use Rattle.std.specs.Prelude.{◌≡◌, ℕ, ◌+◌, ◌<◌, List, [], length, map, slice_index_or, All}
use Rattle.std.specs.List.{range_with_len}
use Rattle.sa_desk.specs.declared.entry.Entry.{Entry}
use Rattle.sa_desk.specs.Contents.{Contents}
use Rattle.sa_desk.specs.Runs.{IsDeskRun, IsEntryOf}
use Rattle.sa_desk.specs.World.{made_by, standing_on, Begins}
use Rattle.sa_board.specs.View.{desk_in}
use Rattle.sa_board.specs.Pass.{PassState, met_at}

-- The journal of one desk is a run of the machine. Each of its entries has the desk's number and one
-- of the sessions as its actor. It begins with what each session has seen of it, and its entries of
-- each session are those of the session's own that stand on this desk, each once, in their order.
pub record IsHistory (terms_of : Contents) (sessions index : ℕ) (passes : List PassState)
    (journal : List Entry) : Type 0 where
  pub run : IsDeskRun terms_of.terms journal
  pub entries : All (IsEntryOf (index + 1) sessions) journal
  pub seen : All (λ pass. Begins (met_at pass (index + 1)).journal journal) passes
  pub own : All (λ pass.
      made_by pass.session journal ≡ standing_on (index + 1) pass.mine) passes

-- There is such a journal for each desk, in the order of their numbers, and each session's own
-- entries are numbered 1, 2 and so on.
pub record AreHistories (founded : List Contents) (passes : List PassState)
    (journals : List (List Entry)) : Type 0 where
  pub count : length journals ≡ length founded
  pub each : (index : ℕ) → index < length founded
      → IsHistory (desk_in founded index) (length founded) index passes
      (slice_index_or journals index [])
  pub numbered : All (λ pass.
      map (λ entry. entry.seq) pass.mine ≡ range_with_len 1 (length pass.mine)) passes
