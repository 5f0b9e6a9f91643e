-- Each session has at most one request at a desk, waiting or served.
use Rattle.std.specs.List.{IsDistinct}
use Rattle.std.proofs.Common.{eqb, map, ◌≡◌, ℕ, ◌+◌, ◌*◌, ◌≤◌, ◌≢◌, ◌⊎◌, ◌==◌, not, List, [], ◌∷◌, ◌++◌, length, find, if◌then◌else◌, Option, Some, None, All, refl, ap, sym, subst, ◌∙◌, arith, ⊎_elim}
use Rattle.std.proofs.lemmas.Bool.{cases_eq}
use Rattle.std.proofs.lemmas.Bool.Decides.{nat_tests}
use Rattle.std.proofs.lemmas.Option.{none-some}
use Rattle.std.proofs.lemmas.List.{length-append}
use Rattle.std.proofs.lemmas.List.Elements.{All-nil, All-push, All-rest, All-head, All-filter}
use Rattle.sa_desk.specs.declared.entry.Entry.{Entry}
use Rattle.sa_desk.specs.declared.request.Request.{Request}
use Rattle.sa_desk.specs.declared.request.Reply.{Reply}
use Rattle.sa_desk.specs.State.{Terms, Phase, State, start, queue_of, HasNone}
use Rattle.sa_desk.specs.Comes.{IsQueued, IsServed}
use Rattle.sa_desk.specs.After.{after, without, untaken}
use Rattle.sa_desk.specs.Runs.{state_of, IsEntryOf, Runs}
use Rattle.sa_desk.specs.Contents.{Contents, state, phase, IsSound}
use Rattle.sa_desk.specs.call.Poll.{reply_to}
use Rattle.sa_desk.proofs.Append.{kept_along}
use Rattle.sa_desk.proofs.Changes.{HasNoneOf, Change, keeps, asks, answers, takes, drops, changes}
use Rattle.sa_desk.proofs.Sums.{sum_below, sum_below-le, sum_below-add, sum_below-constant}
use Rattle.sa_desk.proofs.Counts.{keyed-append, keyed-map, IsDistinct-single, one, keyed, keyed-cons, keyed-push, keyed-filter, keyed_none, others_from_none, find_none, none_from_find, keyed_some, find_only, length-others, length-keys}

-- who asked
abbrev pub asker_of : Request → ℕ
asker_of request = request.asker

abbrev pub replied_to : Reply → ℕ
replied_to reply = reply.asker

-- how many requests of an actor wait, and how many were served
abbrev pub waiting : ℕ → List Request → ℕ
waiting actor queue = keyed asker_of actor queue

abbrev pub answered : ℕ → List Reply → ℕ
answered actor replies = keyed replied_to actor replies

-- a number from 1 to that of the sessions
abbrev pub IsSession : ℕ → ℕ → Type 0
IsSession sessions actor = (1 ≤ actor) × (actor ≤ sessions)

-- The requests are of so many sessions, with no two of one session.
pub record HasSeats (sessions : ℕ) (queue : List Request) (replies : List Reply) : Type 0 where
  pub single : (actor : ℕ) → waiting actor queue + answered actor replies ≤ 1
  pub asked : All (λ request. IsSession sessions request.asker) queue
  pub served : All (λ reply. IsSession sessions reply.asker) replies

-- one request more, of an actor who has none
pub HasSeats-asks : (sessions : ℕ) (queue : List Request) (replies : List Reply) (request : Request)
    → IsSession sessions request.asker → HasNoneOf request.asker queue replies → HasSeats sessions queue replies → HasSeats sessions (queue ++ request ∷ []) replies
HasSeats-asks sessions queue replies request is none seats = record {
  single = λ actor.
      let more = keyed-push asker_of actor queue request in
      let before : waiting actor queue + answered actor replies ≤ 1 = seats.single actor in
      ⊎_elim
      (λ (same : request.asker ≡ actor).
      let waits : waiting actor queue ≡ 0 = subst (λ asker. waiting asker queue ≡ 0) same (keyed_none asker_of request.asker queue none.0) in
      let has : answered actor replies ≡ 0 = subst (λ asker. answered asker replies ≡ 0) same (keyed_none replied_to request.asker replies none.1) in
      grind (arith, nat_tests))
      (λ (other : request.asker ≢ actor). grind (arith, nat_tests))
      (cases_eq request.asker actor);
  asked = All-push (λ (request : Request). IsSession sessions request.asker) queue request seats.asked is;
  served = seats.served;
}

-- the oldest request answered
pub HasSeats-answers : (sessions : ℕ) (first : Request) (rest : List Request) (replies : List Reply) (reply : Reply)
    → reply.asker ≡ first.asker → HasSeats sessions (first ∷ rest) replies → HasSeats sessions rest (replies ++ reply ∷ [])
HasSeats-answers sessions first rest replies reply to seats = record {
  single = λ actor.
      let less = keyed-cons asker_of actor first rest in
      let more = keyed-push replied_to actor replies reply in
      let before : waiting actor (first ∷ rest) + answered actor replies ≤ 1 = seats.single actor in
      let same : one replied_to actor reply ≡ one asker_of actor first = ap (λ (asker : ℕ). if asker == actor then 1 else 0) to in
      omega arith;
  asked = All-rest (λ (request : Request). IsSession sessions request.asker) first rest (first ∷ rest) refl seats.asked;
  served = All-push (λ (reply : Reply). IsSession sessions reply.asker) replies reply seats.served
      (subst (IsSession sessions) (sym to) (All-head (λ (request : Request). IsSession sessions request.asker) first rest seats.asked));
}

-- an actor's answer taken, or its request gone
pub HasSeats-takes : (sessions : ℕ) (queue : List Request) (replies : List Reply) (actor : ℕ) → HasSeats sessions queue replies → HasSeats sessions queue (untaken actor replies)
HasSeats-takes sessions queue replies actor seats = record {
  single = λ other.
      let fewer = keyed-filter replied_to other (λ reply. not (reply.asker == actor)) replies in
      let before : waiting other queue + answered other replies ≤ 1 = seats.single other in
      omega arith;
  asked = seats.asked;
  served = All-filter (λ reply. not (reply.asker == actor)) (λ (reply : Reply). IsSession sessions reply.asker) replies seats.served;
}

pub HasSeats-drops : (sessions : ℕ) (queue : List Request) (replies : List Reply) (actor : ℕ) → HasSeats sessions queue replies → HasSeats sessions (without actor queue) replies
HasSeats-drops sessions queue replies actor seats = record {
  single = λ other.
      let fewer = keyed-filter asker_of other (λ request. not (request.asker == actor)) queue in
      let before : waiting other queue + answered other replies ≤ 1 = seats.single other in
      omega arith;
  asked = All-filter (λ request. not (request.asker == actor)) (λ (request : Request). IsSession sessions request.asker) queue seats.asked;
  served = seats.served;
}

HasSeats-change : (sessions : ℕ) (queue : List Request) (replies : List Reply) (entry : Entry) (next : List Request) (left : List Reply)
    → IsSession sessions entry.actor → Change queue replies entry next left → HasSeats sessions queue replies → HasSeats sessions next left
HasSeats-change sessions queue replies entry next left is (keeps change) seats =
    rw (change.same_queue, change.same_replies) seats
HasSeats-change sessions queue replies entry next left is (asks change) seats =
    rw (change.longer, change.same_replies)
    (HasSeats-asks sessions queue replies change.request (subst (IsSession sessions) (sym change.asked) is)
    (subst (λ actor. HasNoneOf actor queue replies) (sym change.asked) change.none) seats)
HasSeats-change sessions queue replies entry next left is (answers change) seats =
    rw change.more (HasSeats-answers sessions change.first next replies change.reply change.to.0
    (subst (λ waits. HasSeats sessions waits replies) change.oldest seats))
HasSeats-change sessions queue replies entry next left is (takes change) seats =
    rw (change.same_queue, change.fewer) (HasSeats-takes sessions queue replies entry.actor seats)
HasSeats-change sessions queue replies entry next left is (drops change) seats =
    rw (change.shorter, change.same_replies) (HasSeats-drops sessions queue replies entry.actor seats)

abbrev pub StateHasSeats : ℕ → State → Type 0
StateHasSeats sessions state = HasSeats sessions (queue_of state.phase) state.replies

HasSeats-start : (sessions : ℕ) → StateHasSeats sessions start
HasSeats-start sessions = record {
  single = λ actor. omega arith;
  asked = All-nil (λ (request : Request). IsSession sessions request.asker);
  served = All-nil (λ (reply : Reply). IsSession sessions reply.asker);
}

-- Whatever a run leaves has at most one request of each session.
pub HasSeats-run : (terms : Terms) (sessions : ℕ) (journal : List Entry) → Runs terms start journal → All (IsEntryOf terms.desk sessions) journal → StateHasSeats sessions (state_of terms journal)
HasSeats-run terms sessions journal run entries =
    kept_along terms (IsEntryOf terms.desk sessions) (StateHasSeats sessions)
    (λ before entry is comes seats.
    let later : State = after terms before entry in
    HasSeats-change sessions (queue_of before.phase) before.replies entry (queue_of later.phase) later.replies (is.least, is.most) (changes terms before entry comes) seats)
    start journal entries run (HasSeats-start sessions)

pub HasSeats-sound : (desk : Contents) → IsSound desk → StateHasSeats (length desk.shares) (state desk)
HasSeats-sound desk sound = HasSeats-run desk.terms (length desk.shares) desk.journal sound.run.runs sound.entries

-- The askers of all requests, of those that wait and of those that were served, are distinct.
pub IsDistinct-askers : (sessions : ℕ) (queue : List Request) (replies : List Reply) → HasSeats sessions queue replies → IsDistinct eqb (map asker_of queue ++ map replied_to replies)
IsDistinct-askers sessions queue replies seats = IsDistinct-single (map asker_of queue ++ map replied_to replies) (λ actor.
    let both = keyed-append (λ (asker : ℕ). asker) actor (map asker_of queue) (map replied_to replies) in
    let of_queue : keyed (λ (asker : ℕ). asker) actor (map asker_of queue) ≡ waiting actor queue = keyed-map asker_of actor queue in
    let of_replies : keyed (λ (asker : ℕ). asker) actor (map replied_to replies) ≡ answered actor replies = keyed-map replied_to actor replies in
    let single : waiting actor queue + answered actor replies ≤ 1 = seats.single actor in
    omega arith)

-- No more requests are here than there are sessions.
pub length-le-sessions : (sessions : ℕ) (queue : List Request) (replies : List Reply) → HasSeats sessions queue replies → length queue + length replies ≤ sessions
length-le-sessions sessions queue replies seats =
    let of_queue : length queue ≡ sum_below (λ i. waiting (i + 1) queue) sessions = length-keys asker_of sessions queue seats.asked in
    let of_replies : length replies ≡ sum_below (λ i. answered (i + 1) replies) sessions = length-keys replied_to sessions replies seats.served in
    let both : sum_below (λ i. waiting (i + 1) queue + answered (i + 1) replies) sessions ≡ sum_below (λ i. waiting (i + 1) queue) sessions + sum_below (λ i. answered (i + 1) replies) sessions =
    sum_below-add (λ i. waiting (i + 1) queue) (λ i. answered (i + 1) replies) sessions in
    let most : sum_below (λ i. waiting (i + 1) queue + answered (i + 1) replies) sessions ≤ sum_below (λ i. 1) sessions =
    sum_below-le (λ i. waiting (i + 1) queue + answered (i + 1) replies) (λ i. 1) sessions (λ i within. seats.single (i + 1)) in
    let whole : sum_below (λ i. 1) sessions ≡ sessions * 1 = sum_below-constant 1 sessions in
    omega arith

-- There is room for a request of a session that has none.
pub length-lt-sessions : (sessions : ℕ) (queue : List Request) (replies : List Reply) (actor : ℕ) → HasSeats sessions queue replies
    → IsSession sessions actor → HasNoneOf actor queue replies → length queue + length replies + 1 ≤ sessions
length-lt-sessions sessions queue replies actor seats is none =
    let request : Request = record { asker = actor; request = 0; at = 0 } in
    let fits : length (queue ++ request ∷ []) + length replies ≤ sessions =
    length-le-sessions sessions (queue ++ request ∷ []) replies (HasSeats-asks sessions queue replies request is none seats) in
    omega (arith, length-append queue (request ∷ []))

-- the first request of an actor in the queue
abbrev pub request_of : ℕ → List Request → Option Request
request_of actor queue = find (λ request. request.asker == actor) queue

-- Whoever waits has no answer, and its request is the only one in the queue.
pub reply_to-waiting : (sessions : ℕ) (queue : List Request) (replies : List Reply) (actor number : ℕ) → HasSeats sessions queue replies
    → IsQueued actor number queue → reply_to actor replies ≡ None
reply_to-waiting sessions queue replies actor number seats queued =
    let some : 1 ≤ waiting actor queue = keyed_some asker_of actor (λ request. request.request ≡ number) queue queued in
    let single : waiting actor queue + answered actor replies ≤ 1 = seats.single actor in
    find_none replied_to actor replies (omega arith)

pub request_of-waiting : (sessions : ℕ) (queue : List Request) (replies : List Reply) (actor number : ℕ) → HasSeats sessions queue replies
    → IsQueued actor number queue → (request : Request) × (request_of actor queue ≡ Some request) × (request.asker ≡ actor) × (request.request ≡ number)
request_of-waiting sessions queue replies actor number seats queued =
    let single : waiting actor queue + answered actor replies ≤ 1 = seats.single actor in
    find_only asker_of actor (λ request. request.request ≡ number) queue (omega arith) queued

-- Without its request the queue is one shorter.
pub length-without_one : (sessions : ℕ) (queue : List Request) (replies : List Reply) (actor number : ℕ) → HasSeats sessions queue replies
    → IsQueued actor number queue → length (without actor queue) + 1 ≡ length queue
length-without_one sessions queue replies actor number seats queued =
    let some : 1 ≤ waiting actor queue = keyed_some asker_of actor (λ request. request.request ≡ number) queue queued in
    let single : waiting actor queue + answered actor replies ≤ 1 = seats.single actor in
    let others : length (without actor queue) + waiting actor queue ≡ length queue = length-others asker_of actor queue in
    omega arith

-- Whoever was answered doesn't wait, and that answer is the one to its request.
pub reply_to-served : (sessions : ℕ) (queue : List Request) (replies : List Reply) (actor number : ℕ) → HasSeats sessions queue replies
    → IsServed actor number replies → (reply : Reply) × (reply_to actor replies ≡ Some reply) × (reply.asker ≡ actor) × (reply.request ≡ number)
reply_to-served sessions queue replies actor number seats served =
    let single : waiting actor queue + answered actor replies ≤ 1 = seats.single actor in
    find_only replied_to actor (λ reply. reply.request ≡ number) replies (omega arith) served

pub request_of-served : (sessions : ℕ) (queue : List Request) (replies : List Reply) (actor number : ℕ) → HasSeats sessions queue replies
    → IsServed actor number replies → request_of actor queue ≡ None
request_of-served sessions queue replies actor number seats served =
    let some : 1 ≤ answered actor replies = keyed_some replied_to actor (λ reply. reply.request ≡ number) replies served in
    let single : waiting actor queue + answered actor replies ≤ 1 = seats.single actor in
    find_none asker_of actor queue (omega arith)

-- Where the actor's request is here and has no answer, it waits. Where it has one, it was served.
pub IsQueued-unanswered : (sessions : ℕ) (queue : List Request) (replies : List Reply) (actor number : ℕ) → HasSeats sessions queue replies
    → IsQueued actor number queue ⊎ IsServed actor number replies → reply_to actor replies ≡ None → IsQueued actor number queue
IsQueued-unanswered sessions queue replies actor number seats there none = ⊎_elim
    (λ (queued : IsQueued actor number queue). queued)
    (λ (served : IsServed actor number replies).
    let found = reply_to-served sessions queue replies actor number seats served in
    absurd (none-some found.0 (sym none ∙ found.1)))
    there

pub IsServed-answered : (sessions : ℕ) (queue : List Request) (replies : List Reply) (actor number : ℕ) (reply : Reply) → HasSeats sessions queue replies
    → IsQueued actor number queue ⊎ IsServed actor number replies → reply_to actor replies ≡ Some reply → IsServed actor number replies × (reply.request ≡ number)
IsServed-answered sessions queue replies actor number reply seats there some = ⊎_elim
    (λ (queued : IsQueued actor number queue).
    absurd (none-some reply (sym (reply_to-waiting sessions queue replies actor number seats queued) ∙ some)))
    (λ (served : IsServed actor number replies).
    let found = reply_to-served sessions queue replies actor number seats served in
    let same : Some reply ≡ Some found.0 = sym some ∙ found.1 in
    let one : reply ≡ found.0 = cc in
    (served, ap (λ (answer : Reply). answer.request) one ∙ found.3))
    there

-- An actor has no request here where none is found.
pub HasNone-from_find : (phase : Phase) (replies : List Reply) (actor : ℕ) → request_of actor (queue_of phase) ≡ None → reply_to actor replies ≡ None → HasNone actor phase replies
HasNone-from_find phase replies actor no_request no_reply = (
  others_from_none asker_of actor (queue_of phase) (none_from_find asker_of actor (queue_of phase) no_request),
  others_from_none replied_to actor replies (none_from_find replied_to actor replies no_reply),
)

-- the same of a desk's state, for one of its sessions
pub requests_fit : (desk : Contents) → IsSound desk → length (queue_of (phase desk)) + length (state desk).replies ≤ length desk.shares
requests_fit desk sound = length-le-sessions (length desk.shares) (queue_of (phase desk)) (state desk).replies (HasSeats-sound desk sound)

pub request_fits : (desk : Contents) (actor : ℕ) → IsSound desk → IsSession (length desk.shares) actor → HasNone actor (phase desk) (state desk).replies
    → length (queue_of (phase desk)) + length (state desk).replies + 1 ≤ length desk.shares
request_fits desk actor sound is none =
    length-lt-sessions (length desk.shares) (queue_of (phase desk)) (state desk).replies actor (HasSeats-sound desk sound) is none
