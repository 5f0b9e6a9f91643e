-- A statement that ends has taken its course in time, and stays one that did.
use Rattle.std.proofs.Common.{◌≡◌, ℕ, ◌+◌, ◌-◌, ◌≤◌, List, [], ◌∷◌, ◌++◌, length, All, refl, sym, subst, subst₂, ap, ◌∙◌, arith, length-append, append-nil}
use Rattle.std.specs.Prelude.{slice_index_or}
use Rattle.std.proofs.lemmas.List.{get_or_append_left, get_or-append_right}
use Rattle.std.proofs.lemmas.List.Elements.{All-nil, All-cons, All-head, All-tail, All-append, All-weaker}
use Rattle.sa_count.specs.declared.report.Report.{Report}
use Rattle.sa_desk.specs.declared.entry.Entry.{Entry}
use Rattle.sa_desk.specs.declared.entry.Event.{Event}
use Rattle.sa_desk.specs.declared.entry.Event.TheVariants.{Served, End}
use Rattle.sa_desk.specs.declared.outcome.Outcome.{Outcome}
use Rattle.sa_desk.specs.declared.request.Request.{Request}
use Rattle.sa_desk.specs.declared.stamp.Stamp.{Stamp}
use Rattle.sa_desk.specs.State.{Terms, Statement, Execution, Phase, idle, unplanned, planned, serving, closed, State}
use Rattle.sa_desk.specs.After.{after, served, after_serving}
use Rattle.sa_desk.specs.Contents.{Contents, later, entry_by}
use Rattle.sa_desk.specs.Runs.{state_after, state_of}
use Rattle.sa_desk.specs.Serving.{begin_turn, served_with}
use Rattle.sa_desk.specs.program.Course.{Given, Answer, starved, Settings, settings_after, at_first, Course, course_of}
use Rattle.sa_desk.specs.program.Statement.{Statements}
use Rattle.sa_desk.proofs.Append.{state_of-append}
use Rattle.sa_worker.specs.View.{View, Stage}
use Rattle.sa_worker.specs.View as stages
use Rattle.sa_worker.specs.Follows.{FollowsAt, ended_with}
use Rattle.sa_worker.proofs.follows.Begin.{Statements-count}
use Rattle.sa_step.specs.Schedule.{AreEach, slot_of}
use Rattle.sa_step.specs.Course.{IsKill, IsKillOf, GoesOnBefore, SpendsBefore, LooksInVain, course_to, begun_in, IsLooked, IsStopped}
use Rattle.sa_step.specs.inner.Timely.{course_at, SeesNone, SpendsNone, IsAnswered, EndsInTime}
use Rattle.sa_step.proofs.Making.{EndsAt, IsMadeAt}

-- What is so of each, by what stands before it, is another thing so, too.
pub AreEach-weaker : (P Q : List Entry → Entry → Type 0) → ((before : List Entry) (entry : Entry) → P before entry → Q before entry) → (before entries : List Entry) → AreEach P before entries → AreEach Q before entries
AreEach-weaker P Q weaker before [] all = tt
AreEach-weaker P Q weaker before (entry ∷ rest) all = (weaker before entry all.0, AreEach-weaker P Q weaker (before ++ entry ∷ []) rest all.1)

-- Statements that have ended have an answer each.
answered : (given : Given) (settings : Settings) (number turn : ℕ) (texts : List (List ℕ)) (answers : List Answer) (entries : List Entry) (left : Settings) (next last : ℕ)
    → Statements given settings number turn texts answers entries left next last → length answers ≡ length texts
answered given settings number turn [] [] entries left next last is = refl
answered given settings number turn [] (answer ∷ answers) entries left next last is = absurd is
answered given settings number turn (text ∷ texts) [] entries left next last is = absurd is
answered given settings number turn (text ∷ texts) (answer ∷ answers) entries left next last is =
    let more = answered given (settings_after settings answer is.3) (number + 1) is.2 texts answers is.1 left next last is.6 in omega (arith, more)

pub count_is : (view : View) (stage : Stage) (journals : ℕ → List Entry) (answers : List Answer) (mine : List Entry) → FollowsAt view stage journals answers mine → view.number ≡ 1 + length answers
count_is view stage journals answers mine follows =
    let count = Statements-count view.given at_first 1 0 follows.taken answers follows.before view.settings view.number follows.last follows.ended in
    let same = answered view.given at_first 1 0 follows.taken answers follows.before view.settings view.number follows.last follows.ended in
    omega (arith, count, same)

-- A turn adds an answer at most.
pub ended_more : (view : View) (stage : Stage) (answers : List Answer) → (more : List Answer) × (ended_with view stage answers ≡ answers ++ more)
ended_more view (stages.ends result) answers = (view.answer ∷ [], refl)
ended_more view (stages.ends_run chosen so_many run given) answers = (view.answer ∷ [], refl)
ended_more view stage answers = ([], sym (append-nil answers))

module _ (slot : (session turn : ℕ) → ℕ) (given : Given) (journals : ℕ → List Entry) where
  -- An answer more changes nothing of those that have ended.
  module _ (answers more : List Answer) where
    course_still : (number : ℕ) → 1 ≤ number → number ≤ length answers → course_to slot given journals (answers ++ more) number ≡ course_to slot given journals answers number
    course_still number least most = ap (course_of given at_first) (get_or_append_left answers more (starved []) (number - 1) (omega (arith, least, most)))

    still_in : (before : List Entry) (entry : Entry) (event : Event) → IsAnswered answers event × IsLooked slot given journals answers before entry event × IsStopped slot given journals answers before entry event
        → IsAnswered (answers ++ more) event × IsLooked slot given journals (answers ++ more) before entry event × IsStopped slot given journals (answers ++ more) before entry event
    still_in before entry (End number outcome steps) is =
        let least = is.0.0 in
        let most = is.0.1 in
        let same = course_still number least most in
        let long = length-append answers more in (
          (least, omega (arith, most, long)),
          subst (λ course. LooksInVain slot given journals course (begun_in slot given journals answers before) entry.turn) (sym same) is.1,
          subst (λ course. All (λ was. IsKillOf slot given (begun_in slot given journals answers before) was
              → GoesOnBefore slot given course (begun_in slot given journals answers before) entry.turn (slot_of slot was)
              × SpendsBefore slot given journals course (begun_in slot given journals answers before) entry.turn (slot_of slot was)) before) (sym same) is.2,
        )
    still_in before entry event is = (tt, tt, tt)

    pub still_ended : (before entries : List Entry) → AreEach (EndsInTime slot given journals answers) before entries → AreEach (EndsInTime slot given journals (answers ++ more)) before entries
    still_ended before entries all =
        AreEach-weaker (EndsInTime slot given journals answers) (EndsInTime slot given journals (answers ++ more)) (λ before entry is. still_in before entry entry.event is) before entries all

  module _ (answers : List Answer) where
    -- Nothing else is asked of what is no End.
    other_in : (stage : Stage) (before : List Entry) (entry : Entry) (event : Event) → IsMadeAt stage event → (EndsAt stage → ⊥)
        → IsAnswered answers event × IsLooked slot given journals answers before entry event × IsStopped slot given journals answers before entry event
    other_in stage before entry (End number outcome steps) made none = absurd (none made)
    other_in stage before entry event made none = (tt, tt, tt)

    pub others_ended : (stage : Stage) (before entries : List Entry) → All (λ entry. IsMadeAt stage entry.event) entries → (EndsAt stage → ⊥) → AreEach (EndsInTime slot given journals answers) before entries
    others_ended stage before [] made none = tt
    others_ended stage before (entry ∷ rest) made none = (
      other_in stage before entry entry.event (All-head (λ entry. IsMadeAt stage entry.event) entry rest made) none,
      others_ended stage (before ++ entry ∷ []) rest (All-tail (λ entry. IsMadeAt stage entry.event) entry rest made) none,
    )

    pub served_ended : (desk : Contents) (report : Report) (stamp : Stamp) (queue : List Request) (before : List Entry) → AreEach (EndsInTime slot given journals answers) before (served_with desk report stamp queue)
    served_ended desk report stamp [] before = tt
    served_ended desk report stamp (request ∷ rest) before =
        ((tt, tt, tt), served_ended desk report (later 1 stamp) rest (before ++ entry_by desk stamp (Served request.asker request.request report) ∷ []))

-- What is served leaves the turn of the Begin, and is no kill.
served_turn : (quantum : ℕ) (statement : Statement) (execution : Execution) (queue : List Request) (steps turn : ℕ) → begin_turn (served quantum statement execution queue steps turn) ≡ statement.turn
served_turn quantum statement execution [] steps turn = refl
served_turn quantum statement execution (first ∷ []) steps turn = refl
served_turn quantum statement execution (first ∷ next ∷ rest) steps turn = refl

serving_turn : (quantum : ℕ) (found : Phase) (steps turn : ℕ) → begin_turn (after_serving quantum found steps turn) ≡ begin_turn found
serving_turn quantum idle steps turn = refl
serving_turn quantum (unplanned statement) steps turn = refl
serving_turn quantum (planned statement execution) steps turn = served_turn quantum statement execution execution.queue steps turn
serving_turn quantum (serving statement execution number at) steps turn = served_turn quantum statement execution execution.queue steps turn
serving_turn quantum closed steps turn = refl

turn_served : (terms : Terms) (desk : Contents) (report : Report) (stamp : Stamp) (queue : List Request) (state : State)
    → begin_turn (state_after terms state (served_with desk report stamp queue)).phase ≡ begin_turn state.phase
turn_served terms desk report stamp [] state = refl
turn_served terms desk report stamp (request ∷ rest) state =
    turn_served terms desk report (later 1 stamp) rest (after terms state (entry_by desk stamp (Served request.asker request.request report)))
    ∙ serving_turn terms.quantum state.phase report.steps stamp.turn

pub begun_served : (terms : Terms) (desk : Contents) (report : Report) (stamp : Stamp) (queue : List Request) (journal : List Entry)
    → begin_turn (state_of terms (journal ++ served_with desk report stamp queue)).phase ≡ begin_turn (state_of terms journal).phase
begun_served terms desk report stamp queue journal =
    ap (λ (state : State). begin_turn state.phase) (state_of-append terms journal (served_with desk report stamp queue)) ∙ turn_served terms desk report stamp queue (state_of terms journal)

pub unkilled_served : (desk : Contents) (report : Report) (stamp : Stamp) (queue : List Request) → All (λ entry. IsKill entry.event → ⊥) (served_with desk report stamp queue)
unkilled_served desk report stamp [] = All-nil (λ (entry : Entry). IsKill entry.event → ⊥)
unkilled_served desk report stamp (request ∷ rest) = All-cons (λ (entry : Entry). IsKill entry.event → ⊥) _ _ (λ kill. kill) (unkilled_served desk report (later 1 stamp) rest)

-- The End of the statement that is on.
module _ (slot : (session turn : ℕ) → ℕ) (given : Given) (journals : ℕ → List Entry) (view : View) (answers : List Answer) (count : view.number ≡ 1 + length answers)
    (same : view.given ≡ given) where
  course_is : course_to slot given journals (answers ++ view.answer ∷ []) view.number ≡ course_at view
  course_is =
      let first : view.number - 1 - length answers ≡ 0 = omega (arith, count) in
      let here : slice_index_or (answers ++ view.answer ∷ []) (view.number - 1) (starved []) ≡ view.answer =
      get_or-append_right answers (view.answer ∷ []) (length answers) (view.number - 1) (starved []) refl (omega (arith, count))
      ∙ ap (λ index. slice_index_or (view.answer ∷ []) index (starved [])) first in
      ap (course_of given at_first) here ∙ ap (λ (given : Given). course_of given at_first view.answer) (sym same)

  pub ends_in : (journal served : List Entry) (entry : Entry) (outcome : Outcome) (steps : ℕ) → entry.event ≡ End view.number outcome steps → entry.turn ≡ view.turn + 1
      → begun_in slot given journals (answers ++ view.answer ∷ []) (journal ++ served) ≡ view.began
      → LooksInVain slot given journals (course_at view) view.began (view.turn + 1)
      → SeesNone slot given journal (course_at view) view.began (view.turn + 1) → SpendsNone slot given journal journals (course_at view) view.began (view.turn + 1)
      → All (λ entry. IsKill entry.event → ⊥) served → EndsInTime slot given journals (answers ++ view.answer ∷ []) (journal ++ served) entry
  ends_in journal served entry outcome steps is turn began looks stops spends quiet =
      let all = answers ++ view.answer ∷ [] in
      let long = length-append answers (view.answer ∷ []) in
      let IsTold : Course → (b last : ℕ) → Entry → Type 0 =
      λ course b last was. IsKillOf slot given b was → GoesOnBefore slot given course b last (slot_of slot was) × SpendsBefore slot given journals course b last (slot_of slot was) in
      let told : All (IsTold (course_at view) view.began (view.turn + 1)) (journal ++ served) =
      All-append (IsTold (course_at view) view.began (view.turn + 1)) journal served
      (λ k d there kill. (stops k d there kill, spends k d there kill))
      (All-weaker (λ entry. IsKill entry.event → ⊥) (IsTold (course_at view) view.began (view.turn + 1)) (λ was none kill. absurd (none kill.0)) served quiet) in
      subst (λ event. IsAnswered all event × IsLooked slot given journals all (journal ++ served) entry event × IsStopped slot given journals all (journal ++ served) entry event) (sym is) (
        (omega (arith, count), omega (arith, count, long)),
        subst (λ course. LooksInVain slot given journals course (begun_in slot given journals all (journal ++ served)) entry.turn) (sym course_is)
            (subst₂ (λ b last. LooksInVain slot given journals (course_at view) b last) (sym began) (sym turn) looks),
        subst (λ course. All (IsTold course (begun_in slot given journals all (journal ++ served)) entry.turn) (journal ++ served)) (sym course_is)
            (subst₂ (λ b last. All (IsTold (course_at view) b last) (journal ++ served)) (sym began) (sym turn) told),
      )
