-- A journal fits the sum of its sessions' shares.
use Rattle.std.proofs.Common.{◌≡◌, ℕ, ◌+◌, ◌≤◌, ◌==◌, not, List, [], ◌∷◌, length, slice_index, sum, sum_by, All, ap, arith}
use Rattle.std.proofs.lemmas.List.{length-append}
use Rattle.std.proofs.lemmas.List.Sums.{sum_by-cons, length-filter, count_by-le-length}
use Rattle.std.proofs.lemmas.List.Elements.{All-weaker}
use Rattle.sa_desk.specs.declared.entry.Entry.{Entry}
use Rattle.sa_desk.specs.declared.request.Request.{Request}
use Rattle.sa_desk.specs.declared.request.Reply.{Reply}
use Rattle.sa_desk.specs.State.{Terms, State, start, queue_of}
use Rattle.sa_desk.specs.After.{after, without}
use Rattle.sa_desk.specs.Runs.{state_after, Runs, state_of, IsEntryOf}
use Rattle.sa_desk.specs.Charge.{cost, charge}
use Rattle.sa_desk.specs.Contents.{Contents, phase, IsSound, IsWithinShares}
use Rattle.sa_desk.proofs.Changes.{Change, keeps, asks, answers, takes, drops, changes}
use Rattle.sa_desk.proofs.Sums.{sum_below, sum_below-le, sum_below-list, sum_by-parts, Within}

-- what all entries together cost
abbrev pub cost_of : Entry → ℕ
cost_of entry = cost entry.event

abbrev pub total_cost : List Entry → ℕ
total_cost journal = sum_by cost_of journal

-- Without an actor's requests a queue is no longer.
pub length-without : (actor : ℕ) (queue : List Request) → length (without actor queue) ≤ length queue
length-without actor queue =
    let asked_by_others = λ (request : Request). not (request.asker == actor) in
    omega (arith, length-filter asked_by_others queue, count_by-le-length asked_by_others queue)

-- An entry and the requests that then wait cost no more than it and those that waited.
pub pays : (queue : List Request) (replies : List Reply) (entry : Entry) (next : List Request) (left : List Reply)
    → Change queue replies entry next left → 1 + length next ≤ cost entry.event + length queue
pays queue replies entry next left (keeps change) = let same = change.same_queue in let costs = change.costs in grind arith
pays queue replies entry next left (asks change) =
    let costs = change.costs in omega (arith, ap length change.longer, length-append queue (change.request ∷ []))
pays queue replies entry next left (answers change) = let oldest = change.oldest in let costs = change.costs in grind arith
pays queue replies entry next left (takes change) = let same = change.same_queue in let costs = change.costs in grind arith
pays queue replies entry next left (drops change) =
    let shorter = change.shorter in let costs = change.costs in
    let least : length (without entry.actor queue) ≤ length queue = length-without entry.actor queue in grind arith

-- A run is no longer, with what waits after it, than what it costs and what waited before it.
pub length-le-cost : (terms : Terms) (state : State) (journal : List Entry) → Runs terms state journal
    → length journal + length (queue_of (state_after terms state journal).phase) ≤ total_cost journal + length (queue_of state.phase)
length-le-cost terms state [] run = omega arith
length-le-cost terms state (entry ∷ rest) run =
    let later : State = after terms state entry in
    let rests : length rest + length (queue_of (state_after terms later rest).phase) ≤ total_cost rest + length (queue_of later.phase) = length-le-cost terms later rest run.1 in
    let here : 1 + length (queue_of later.phase) ≤ cost_of entry + length (queue_of state.phase) =
    pays (queue_of state.phase) state.replies entry (queue_of later.phase) later.replies (changes terms state entry run.0) in
    let both : total_cost (entry ∷ rest) ≡ cost_of entry + total_cost rest = sum_by-cons cost_of entry rest in
    omega arith

-- All entries together cost what each session's cost.
pub total_cost-charges : (desk sessions : ℕ) (journal : List Entry) → All (IsEntryOf desk sessions) journal
    → total_cost journal ≡ sum_below (λ session. charge (session + 1) journal) sessions
total_cost-charges desk sessions journal entries =
    sum_by-parts (λ (entry : Entry). entry.actor) cost_of journal sessions
    (All-weaker (IsEntryOf desk sessions) (Within (λ (entry : Entry). entry.actor) cost_of sessions) (λ entry is. (is.least, is.most)) journal entries)

-- All entries together cost no more than all shares together.
pub total_cost-le-sum : (desk : ℕ) (shares : List ℕ) (journal : List Entry) → All (IsEntryOf desk (length shares)) journal
    → IsWithinShares shares journal → total_cost journal ≤ sum shares
total_cost-le-sum desk shares journal entries within =
    let parts : total_cost journal ≡ sum_below (λ session. charge (session + 1) journal) (length shares) = total_cost-charges desk (length shares) journal entries in
    let most : sum_below (λ session. charge (session + 1) journal) (length shares) ≤ sum_below (slice_index shares) (length shares) =
    sum_below-le (λ session. charge (session + 1) journal) (slice_index shares) (length shares) within in
    let whole : sum_below (slice_index shares) (length shares) ≡ sum shares = sum_below-list shares in
    omega arith

-- The journal and an answer to each request that waits fit the sum of the shares.
pub journal_fits : (terms : Terms) (shares : List ℕ) (journal : List Entry) → Runs terms start journal
    → All (IsEntryOf terms.desk (length shares)) journal → IsWithinShares shares journal
    → length journal + length (queue_of (state_of terms journal).phase) ≤ sum shares
journal_fits terms shares journal run entries within =
    let cost : total_cost journal ≤ sum shares = total_cost-le-sum terms.desk shares journal entries within in
    let long : length journal + length (queue_of (state_of terms journal).phase) ≤ total_cost journal + 0 = length-le-cost terms start journal run in
    omega arith

pub sound_fits : (desk : Contents) → IsSound desk → length desk.journal + length (queue_of (phase desk)) ≤ sum desk.shares
sound_fits desk sound = journal_fits desk.terms desk.shares desk.journal sound.run.runs sound.entries sound.charges
