-- Each request that waits has its entry, and which requests wait after a call.
use Rattle.std.proofs.Common.{◌≡◌, ◌≢◌, ℕ, Bool, not, ◌==◌, List, [], ◌∷◌, ◌++◌, All, Any, refl, sym, subst, ◌∙◌, arith, length-append, append_assoc, append-nil}
use Rattle.std.specs.Prelude.{⊤}
use Rattle.std.proofs.lemmas.List.{get_or_append_left}
use Rattle.std.proofs.lemmas.List.Elements.{All-head, All-tail, All-push, All-weaker, All-filter}
use Rattle.std.proofs.lemmas.List.Quantifiers.{Any-push}
use Rattle.sa_ast.specs.declared.kind.AskKind.{AskKind}
use Rattle.sa_count.specs.declared.report.Report.{Report}
use Rattle.sa_desk.specs.declared.entry.Entry.{Entry}
use Rattle.sa_desk.specs.declared.entry.Event.{Event}
use Rattle.sa_desk.specs.declared.entry.Event.TheVariants.{Begin, Queued, Refused, Served, Taken, Spent, Withdrawn, KillSent, Waited, WaitSpent, End, Gone, Close}
use Rattle.sa_desk.specs.declared.request.Request.{Request}
use Rattle.sa_desk.specs.declared.request.Reply.{Reply}
use Rattle.sa_desk.specs.declared.stamp.Stamp.{Stamp}
use Rattle.sa_desk.specs.State.{Terms, Phase, idle, unplanned, planned, serving, closed, State, queue_of}
use Rattle.sa_desk.specs.Comes.{Comes, ComesIn}
use Rattle.sa_desk.specs.After.{after, after_event}
use Rattle.sa_desk.specs.Charge.{cost}
use Rattle.sa_desk.specs.Contents.{Contents, entry_by, later}
use Rattle.sa_desk.specs.Runs.{state_after, Runs}
use Rattle.sa_desk.specs.Serving.{served_with}
use Rattle.sa_desk.proofs.Changes.{Change, keeps, asks, answers, takes, drops, changes}

-- Whatever stands there still does.
pub Any-more : {X : Type 0} (P : X → Type 0) (xs ys : List X) → Any P xs → Any P (xs ++ ys)
Any-more P xs ys (k, x, there, is, p) = let long = length-append xs ys in (k, x, omega (arith, there, long), get_or_append_left xs ys x k there ∙ is, p)

pub Any-weaker : {X : Type 0} (P Q : X → Type 0) → ((x : X) → P x → Q x) → (xs : List X) → Any P xs → Any Q xs
Any-weaker P Q more xs (k, x, there, is, p) = (k, x, there, is, more x p)

-- One that is so, of which all else is known too.
pub Any-of_all : {X : Type 0} (P Q : X → Type 0) (xs : List X) → All P xs → Any Q xs → (x : X) × P x × Q x
Any-of_all P Q xs all (k, x, there, is, q) = (x, subst P is (all k x there), q)

-- One that is so, as all are in another way.
pub Any-with_all : {X : Type 0} (P Q : X → Type 0) (xs : List X) → All P xs → Any Q xs → Any (λ x. P x × Q x) xs
Any-with_all P Q xs all (k, x, there, is, q) = (k, x, there, is, (subst P is (all k x there), q))

-- Nothing is so where there is nothing.
pub Any-none : {X : Type 0} (P : X → Type 0) → Any P [] → ⊥
Any-none P (k, x, there, is, p) = omega (arith, there)

-- an event that isn't a request
abbrev pub IsNoRequest : Event → Type 0
IsNoRequest (Queued number kind at budget) = ⊥
IsNoRequest event = ⊤

no_request_costs : (event : Event) → IsNoRequest event → cost event ≢ 2
no_request_costs (Begin number text version plan tables) is costs = cc
no_request_costs (Refused number why) is costs = cc
no_request_costs (Served asker number report) is costs = cc
no_request_costs (Taken number) is costs = cc
no_request_costs (Spent number turns) is costs = cc
no_request_costs (Withdrawn number) is costs = cc
no_request_costs (KillSent number kind) is costs = cc
no_request_costs (Waited number steps) is costs = cc
no_request_costs (WaitSpent number steps turns) is costs = cc
no_request_costs (End number outcome steps) is costs = cc
no_request_costs (Gone number) is costs = cc
no_request_costs Close is costs = cc
no_request_costs (Queued number kind at budget) is costs = absurd is

module _ (P : Request → Type 0) where
  -- Any other entry leaves of the requests those that it found.
  changed_fewer : (queue : List Request) (replies : List Reply) (entry : Entry) (next : List Request) (left : List Reply) → Change queue replies entry next left → IsNoRequest entry.event → All P queue → All P next
  changed_fewer queue replies entry next left (keeps change) is all = subst (All P) (sym change.same_queue) all
  changed_fewer queue replies entry next left (asks change) is all = absurd (no_request_costs entry.event is change.costs)
  changed_fewer queue replies entry next left (answers change) is all = All-tail P change.first next (subst (All P) change.oldest all)
  changed_fewer queue replies entry next left (takes change) is all = subst (All P) (sym change.same_queue) all
  changed_fewer queue replies entry next left (drops change) is all = subst (All P) (sym change.shorter) (All-filter (λ request. not (request.asker == entry.actor)) P queue all)

  fewer : (terms : Terms) (state : State) (entry : Entry) → Comes terms state entry → IsNoRequest entry.event → All P (queue_of state.phase) → All P (queue_of (after terms state entry).phase)
  fewer terms state entry comes is all =
      changed_fewer (queue_of state.phase) state.replies entry (queue_of (after terms state entry).phase) (after terms state entry).replies (changes terms state entry comes) is all

  -- A request waits last.
  one_more : (terms : Terms) (doomed : Bool) (replies : List Reply) (entry : Entry) (phase : Phase) (number : ℕ) (kind : AskKind) (at budget : ℕ)
      → ComesIn terms (record { phase = phase; doomed = doomed; replies = replies }) entry phase (Queued number kind at budget)
      → P (record { asker = entry.actor; request = number; at = at }) → All P (queue_of phase)
      → All P (queue_of (after_event terms (record { phase = phase; doomed = doomed; replies = replies }) entry (Queued number kind at budget)).phase)
  one_more terms doomed replies entry (planned statement execution) number kind at budget comes new all = All-push P execution.queue _ all new
  one_more terms doomed replies entry idle number kind at budget comes new all = absurd comes
  one_more terms doomed replies entry (unplanned statement) number kind at budget comes new all = absurd comes
  one_more terms doomed replies entry (serving statement execution steps turn) number kind at budget comes new all = absurd comes
  one_more terms doomed replies entry closed number kind at budget comes new all = absurd comes

-- Nobody waits where nobody did and no request comes.
pub none_wait : (terms : Terms) (state : State) (entries : List Entry) → Runs terms state entries → All (λ entry. IsNoRequest entry.event) entries → All (λ (request : Request). ⊥) (queue_of state.phase)
    → All (λ (request : Request). ⊥) (queue_of (state_after terms state entries).phase)
none_wait terms state [] runs quiet none = none
none_wait terms state (entry ∷ rest) runs quiet none =
    none_wait terms (after terms state entry) rest runs.1 (All-tail (λ (entry : Entry). IsNoRequest entry.event) entry rest quiet)
    (fewer (λ (request : Request). ⊥) terms state entry runs.0 (All-head (λ (entry : Entry). IsNoRequest entry.event) entry rest quiet) none)

-- Each that is served leaves.
served_first : (queue : List Request) (replies : List Reply) (entry : Entry) (next : List Request) (left : List Reply) (first : Request) (rest : List Request) → Change queue replies entry next left
    → cost entry.event ≡ 0 → queue ≡ first ∷ rest → next ≡ rest
served_first queue replies entry next left first rest (keeps change) free is = let costs = change.costs in absurd (omega (arith, free, costs))
served_first queue replies entry next left first rest (asks change) free is = let costs = change.costs in absurd (omega (arith, free, costs))
served_first queue replies entry next left first rest (answers change) free is = let oldest = change.oldest in cc
served_first queue replies entry next left first rest (takes change) free is = let costs = change.costs in absurd (omega (arith, free, costs))
served_first queue replies entry next left first rest (drops change) free is = let costs = change.costs in absurd (omega (arith, free, costs))

pub all_served : (terms : Terms) (desk : Contents) (report : Report) (stamp : Stamp) (queue : List Request) (state : State) → queue_of state.phase ≡ queue
    → Runs terms state (served_with desk report stamp queue) → queue_of (state_after terms state (served_with desk report stamp queue)).phase ≡ []
all_served terms desk report stamp [] state is runs = is
all_served terms desk report stamp (first ∷ rest) state is runs =
    let entry = entry_by desk stamp (Served first.asker first.request report) in
    let next = after terms state entry in
    all_served terms desk report (later 1 stamp) rest next
    (served_first (queue_of state.phase) state.replies entry (queue_of next.phase) next.replies first rest (changes terms state entry runs.0) refl is) runs.1

-- What stands for the requests that wait, where it is known of a new entry that it stands for its request.
module _ (terms : Terms) (Asked : Request → Entry → Type 0) (IsNew : Entry → Type 0)
    (asks_now : (entry : Entry) (number : ℕ) (kind : AskKind) (at budget : ℕ) → IsNew entry → entry.event ≡ Queued number kind at budget → Asked (record { asker = entry.actor; request = number; at = at }) entry) where
  abbrev pub Stand : State → List Entry → Type 0
  Stand state journal = All (λ request. Any (Asked request) journal) (queue_of state.phase)

  module _ (journal : List Entry) (entry : Entry) (new : IsNew entry) where
    abbrev longer : List Entry
    longer = journal ++ entry ∷ []

    still_asked : (queue : List Request) → All (λ request. Any (Asked request) journal) queue → All (λ request. Any (Asked request) longer) queue
    still_asked queue all = All-weaker (λ request. Any (Asked request) journal) (λ request. Any (Asked request) longer) (λ request some. Any-more (Asked request) journal (entry ∷ []) some) queue all

    asked_request : (state : State) (number : ℕ) (kind : AskKind) (at budget : ℕ) → entry.event ≡ Queued number kind at budget → Comes terms state entry
        → All (λ request. Any (Asked request) journal) (queue_of state.phase) → All (λ request. Any (Asked request) longer) (queue_of (after terms state entry).phase)
    asked_request state number kind at budget is comes all =
        subst (λ event. All (λ request. Any (Asked request) longer) (queue_of (after_event terms state entry event).phase)) (sym is)
        (one_more (λ request. Any (Asked request) longer) terms state.doomed state.replies entry state.phase number kind at budget
        (subst (λ event. ComesIn terms state entry state.phase event) is comes)
        (Any-push (Asked (record { asker = entry.actor; request = number; at = at })) journal entry (asks_now entry number kind at budget new is))
        (still_asked (queue_of state.phase) all))

    asked_other : (state : State) → IsNoRequest entry.event → Comes terms state entry
        → All (λ request. Any (Asked request) journal) (queue_of state.phase) → All (λ request. Any (Asked request) longer) (queue_of (after terms state entry).phase)
    asked_other state is comes all = fewer (λ request. Any (Asked request) longer) terms state entry comes is (still_asked (queue_of state.phase) all)

    asked_after : (state : State) (event : Event) → entry.event ≡ event → Comes terms state entry
        → All (λ request. Any (Asked request) journal) (queue_of state.phase) → All (λ request. Any (Asked request) longer) (queue_of (after terms state entry).phase)
    asked_after state (Queued number kind at budget) is comes all = asked_request state number kind at budget is comes all
    asked_after state (Begin number text version plan tables) is comes all = asked_other state (subst IsNoRequest (sym is) tt) comes all
    asked_after state (Refused number why) is comes all = asked_other state (subst IsNoRequest (sym is) tt) comes all
    asked_after state (Served asker number report) is comes all = asked_other state (subst IsNoRequest (sym is) tt) comes all
    asked_after state (Taken number) is comes all = asked_other state (subst IsNoRequest (sym is) tt) comes all
    asked_after state (Spent number turns) is comes all = asked_other state (subst IsNoRequest (sym is) tt) comes all
    asked_after state (Withdrawn number) is comes all = asked_other state (subst IsNoRequest (sym is) tt) comes all
    asked_after state (KillSent number kind) is comes all = asked_other state (subst IsNoRequest (sym is) tt) comes all
    asked_after state (Waited number steps) is comes all = asked_other state (subst IsNoRequest (sym is) tt) comes all
    asked_after state (WaitSpent number steps turns) is comes all = asked_other state (subst IsNoRequest (sym is) tt) comes all
    asked_after state (End number outcome steps) is comes all = asked_other state (subst IsNoRequest (sym is) tt) comes all
    asked_after state (Gone number) is comes all = asked_other state (subst IsNoRequest (sym is) tt) comes all
    asked_after state Close is comes all = asked_other state (subst IsNoRequest (sym is) tt) comes all

    stand_after : (state : State) → Comes terms state entry → Stand state journal → Stand (after terms state entry) longer
    stand_after state comes stand = asked_after state entry.event refl comes stand

  -- All along the entries of a call.
  pub stand_along : (state : State) (journal entries : List Entry) → Runs terms state entries → All IsNew entries → Stand state journal → Stand (state_after terms state entries) (journal ++ entries)
  stand_along state journal [] runs new stand = subst (Stand state) (sym (append-nil journal)) stand
  stand_along state journal (entry ∷ rest) runs new stand =
      subst (Stand (state_after terms (after terms state entry) rest)) (append_assoc journal (entry ∷ []) rest)
      (stand_along (after terms state entry) (journal ++ entry ∷ []) rest runs.1 (All-tail IsNew entry rest new) (stand_after journal entry (All-head IsNew entry rest new) state runs.0 stand))
