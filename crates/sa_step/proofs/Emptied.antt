-- After a turn of a session nobody waits at its own desk.
use Rattle.std.proofs.Common.{◌≡◌, ◌≢◌, ℕ, ◌+◌, ◌==◌, if◌then◌else◌, Bool, true, false, List, [], ◌∷◌, map, All, nat_lt, Option, refl, sym, subst, ap, arith}
use Rattle.std.specs.Prelude.{⊤}
use Rattle.std.proofs.lemmas.List.Elements.{All-nil, All-cons}
use Rattle.sa_ast.specs.declared.kind.AskKind.{AskKind}
use Rattle.sa_ast.specs.declared.kind.KillKind.{KillKind}
use Rattle.sa_plan.specs.declared.plan.Plan.{Plan}
use Rattle.sa_meaning.specs.Data.{RunData}
use Rattle.sa_meaning.specs.Progress.{Progress}
use Rattle.sa_desk.specs.declared.entry.Entry.{Entry}
use Rattle.sa_desk.specs.declared.entry.Event.{Event}
use Rattle.sa_desk.specs.declared.entry.Event.TheVariants.{Begin, Gone, Close}
use Rattle.sa_desk.specs.declared.answer.Killed.{Killed}
use Rattle.sa_desk.specs.declared.answer.Killed.TheVariants as killed
use Rattle.sa_desk.specs.declared.answer.Looked.TheVariants as looked
use Rattle.sa_desk.specs.declared.answer.Polled.{Polled}
use Rattle.sa_desk.specs.declared.answer.Polled.TheVariants as answer
use Rattle.sa_desk.specs.declared.answer.Withdrawn.{Withdrawn}
use Rattle.sa_desk.specs.declared.answer.Withdrawn.TheVariants as withdrawn
use Rattle.sa_desk.specs.declared.outcome.Finish.TheVariants.{Plain}
use Rattle.sa_desk.specs.declared.outcome.Outcome.{Outcome}
use Rattle.sa_desk.specs.declared.request.Request.{Request}
use Rattle.sa_desk.specs.declared.stamp.Stamp.{Stamp}
use Rattle.sa_desk.specs.State.{State, Phase, idle, unplanned, planned, serving, closed, IsSettled, queue_of}
use Rattle.sa_desk.specs.Runs.{state_after, Runs}
use Rattle.sa_desk.specs.Contents.{Contents, phase, state, entry_by}
use Rattle.sa_desk.specs.Own.{outline}
use Rattle.sa_desk.specs.Serving.{report_of}
use Rattle.sa_desk.specs.call.Ask.{ask_answer, ask_event}
use Rattle.sa_desk.specs.call.End.{end_entry, end_entries, served_by, run_of, outcome_of}
use Rattle.sa_desk.specs.call.Kill.{kill_answer, kill_event}
use Rattle.sa_desk.specs.call.Look.{look_answer, look_events, looks_before}
use Rattle.sa_desk.specs.call.Poll.{polled, poll_events}
use Rattle.sa_desk.specs.call.Withdraw as withdraw
use Rattle.sa_desk.specs.program.Course.{text_of, course_of}
use Rattle.sa_desk.specs.program.Turn.{itself, made}
use Rattle.sa_desk.proofs.Append.{state_after-append}
use Rattle.sa_worker.specs.View.{View, Stage, IsActive, call_at, outline_at, text_at, plan_in, tables_in}
use Rattle.sa_worker.specs.View as stages
use Rattle.sa_step.proofs.Waiting.{IsNoRequest, none_wait, all_served}

-- No statement with a plan is on.
abbrev pub IsUnplanned : Phase → Type 0
IsUnplanned (planned statement execution) = ⊥
IsUnplanned (serving statement execution steps turn) = ⊥
IsUnplanned phase = ⊤

pub none_waits : (found : Phase) → IsUnplanned found → queue_of found ≡ []
none_waits idle is = refl
none_waits (unplanned statement) is = refl
none_waits closed is = refl
none_waits (planned statement execution) is = absurd is
none_waits (serving statement execution steps turn) is = absurd is

none_of : (queue : List Request) → All (λ (request : Request). ⊥) queue → queue ≡ []
none_of [] none = refl
none_of (first ∷ rest) none = absurd (none 0 first (omega arith))

-- A stage at which no run is on.
abbrev pub HasNoRun : Stage → Type 0
HasNoRun (stages.makes_steps chosen made run) = ⊥
HasNoRun (stages.points chosen made run) = ⊥
HasNoRun (stages.ends_run chosen made run given) = ⊥
HasNoRun stage = ⊤

-- At such a stage no plan is on at its own desk.
pub plain_unplanned : (view : View) (begin : ℕ) (stage : Stage) (found : Phase) → HasNoRun stage → IsSettled found → outline found ≡ outline_at view begin stage → IsUnplanned found
plain_unplanned view begin stage idle plain settled is = tt
plain_unplanned view begin stage (unplanned statement) plain settled is = tt
plain_unplanned view begin stage closed plain settled is = tt
plain_unplanned view begin stage (serving statement execution steps turn) plain settled is = absurd settled
plain_unplanned view begin (stages.makes_steps chosen made run) (planned statement execution) plain settled is = absurd plain
plain_unplanned view begin (stages.points chosen made run) (planned statement execution) plain settled is = absurd plain
plain_unplanned view begin (stages.ends_run chosen made run given) (planned statement execution) plain settled is = absurd plain
plain_unplanned view begin stages.prepares (planned statement execution) plain settled is = absurd cc
plain_unplanned view begin stages.opens (planned statement execution) plain settled is = absurd cc
plain_unplanned view begin stages.closes (planned statement execution) plain settled is = absurd cc
plain_unplanned view begin stages.done (planned statement execution) plain settled is = absurd cc
plain_unplanned view begin (stages.ends result) (planned statement execution) plain settled is = absurd cc
plain_unplanned view begin (stages.asks kind desk) (planned statement execution) plain settled is = absurd cc
plain_unplanned view begin (stages.polls kind desk count) (planned statement execution) plain settled is = absurd cc
plain_unplanned view begin (stages.looks_asking kind desk count) (planned statement execution) plain settled is = absurd cc
plain_unplanned view begin (stages.withdraws kind desk count) (planned statement execution) plain settled is = absurd cc
plain_unplanned view begin (stages.kills kind desk) (planned statement execution) plain settled is = absurd cc
plain_unplanned view begin (stages.waits desk at count) (planned statement execution) plain settled is = absurd cc
plain_unplanned view begin (stages.looks_waiting desk at count) (planned statement execution) plain settled is = absurd cc

module _ (desk : Contents) (stamp : Stamp) where
  abbrev Emptied : List Entry → Type 0
  Emptied entries = queue_of (state_after desk.terms (state desk) entries).phase ≡ []

  abbrev RunsOn : List Entry → Type 0
  RunsOn entries = Runs desk.terms (state desk) entries

  abbrev AreQuiet : List Entry → Type 0
  AreQuiet entries = All (λ entry. IsNoRequest entry.event) entries

  quiet_empties : (entries : List Entry) → RunsOn entries → AreQuiet entries → IsUnplanned (phase desk) → Emptied entries
  quiet_empties entries runs quiet is =
      none_of (queue_of (state_after desk.terms (state desk) entries).phase)
      (none_wait desk.terms (state desk) entries runs quiet (subst (All (λ (request : Request). ⊥)) (sym (none_waits (phase desk) is)) (All-nil (λ (request : Request). ⊥))))

  one_quiet : (event : Event) → IsNoRequest event → AreQuiet (entry_by desk stamp event ∷ [])
  one_quiet event is = All-cons (λ (entry : Entry). IsNoRequest entry.event) (entry_by desk stamp event) [] is (All-nil (λ (entry : Entry). IsNoRequest entry.event))

  none_quiet : AreQuiet []
  none_quiet = All-nil (λ (entry : Entry). IsNoRequest entry.event)

  begun_quiet : (doomed : Bool) (number : ℕ) (text : List ℕ) (plan : Option Plan) (tables : Option RunData) → AreQuiet (entry_by desk stamp (if doomed then Gone number else Begin number text 0 plan tables) ∷ [])
  begun_quiet true number text plan tables = one_quiet (Gone number) tt
  begun_quiet false number text plan tables = one_quiet (Begin number text 0 plan tables) tt

  polled_quiet : (number : ℕ) (polled : Polled) → AreQuiet (map (entry_by desk stamp) (poll_events polled number))
  polled_quiet number (answer.Taken report begin) = one_quiet _ tt
  polled_quiet number (answer.Spent turns) = one_quiet _ tt
  polled_quiet number answer.NotYet = none_quiet

  withdrawn_quiet : (number : ℕ) (answer : Withdrawn) → AreQuiet (entry_by desk stamp (withdraw.withdraw_event answer number) ∷ [])
  withdrawn_quiet number withdrawn.Taken = one_quiet _ tt
  withdrawn_quiet number withdrawn.Removed = one_quiet _ tt

  killed_quiet : (number : ℕ) (kind : KillKind) (answer : Killed) → AreQuiet (entry_by desk stamp (kill_event answer number kind) ∷ [])
  killed_quiet number kind killed.Ok = one_quiet _ tt
  killed_quiet number kind killed.NoSuchThread = one_quiet _ tt

  open_quiet : (number turns : ℕ) (far last : Bool)
      → AreQuiet (map (entry_by desk stamp) (look_events (if far then (if last then looked.Spent desk.published turns else looked.NotYet) else looked.Reached desk.published) number))
  open_quiet number turns true true = one_quiet _ tt
  open_quiet number turns true false = none_quiet
  open_quiet number turns false last = one_quiet _ tt

  looked_quiet : (number at count turns : ℕ) (found : Phase) → AreQuiet (map (entry_by desk stamp) (look_events (look_answer found at desk.published count turns) number))
  looked_quiet number at count turns closed = one_quiet _ tt
  looked_quiet number at count turns idle = open_quiet number turns (nat_lt desk.published at) (count + 1 == turns)
  looked_quiet number at count turns (unplanned statement) = open_quiet number turns (nat_lt desk.published at) (count + 1 == turns)
  looked_quiet number at count turns (planned statement execution) = open_quiet number turns (nat_lt desk.published at) (count + 1 == turns)
  looked_quiet number at count turns (serving statement execution steps turn) = open_quiet number turns (nat_lt desk.published at) (count + 1 == turns)

  asked_quiet : (number : ℕ) (kind : AskKind) (budget : ℕ) (found : Phase) → IsUnplanned found → IsNoRequest (ask_event (ask_answer found) number kind desk.published budget)
  asked_quiet number kind budget idle is = tt
  asked_quiet number kind budget (unplanned statement) is = tt
  asked_quiet number kind budget closed is = tt
  asked_quiet number kind budget (planned statement execution) is = absurd is
  asked_quiet number kind budget (serving statement execution steps turn) is = absurd is

  -- A statement's End leaves nothing on.
  ended_empties : (number : ℕ) (run : Option Progress) (given : Outcome) → Emptied (end_entries desk stamp number run given)
  ended_empties number run given =
      ap (λ (left : State). queue_of left.phase) (state_after-append desk.terms (state desk) (served_by desk stamp run) (end_entry desk stamp number run given ∷ []))

  -- A call of the desk's own session leaves nobody waiting.
  pub made_empties : (view : View) (stage : Stage) → IsActive stage → RunsOn (made desk stamp view.number (call_at view stage)) → (HasNoRun stage → IsUnplanned (phase desk))
      → Emptied (made desk stamp view.number (call_at view stage))
  made_empties view stages.opens active runs plain = quiet_empties (made desk stamp view.number (call_at view stages.opens)) runs (begun_quiet (state desk).doomed view.number (text_of (text_at view) view.answer) (plan_in (course_of view.given view.settings view.answer)) (tables_in view.given (course_of view.given view.settings view.answer))) (plain tt)
  made_empties view stages.closes active runs plain = quiet_empties (made desk stamp view.number (call_at view stages.closes)) runs (one_quiet Close tt) (plain tt)
  made_empties view (stages.ends result) active runs plain = ended_empties view.number (run_of itself (Plain result)) (outcome_of itself (Plain result))
  made_empties view (stages.asks kind i) active runs plain = quiet_empties (made desk stamp view.number (call_at view (stages.asks kind i))) runs (one_quiet (ask_event (ask_answer (phase desk)) view.number kind desk.published view.given.turns) (asked_quiet view.number kind view.given.turns (phase desk) (plain tt))) (plain tt)
  made_empties view (stages.polls kind i count) active runs plain = quiet_empties (made desk stamp view.number (call_at view (stages.polls kind i count))) runs (polled_quiet view.number (polled desk stamp view.number)) (plain tt)
  made_empties view (stages.looks_asking kind i count) active runs plain = quiet_empties (made desk stamp view.number (call_at view (stages.looks_asking kind i count))) runs none_quiet (plain tt)
  made_empties view (stages.withdraws kind i count) active runs plain = quiet_empties (made desk stamp view.number (call_at view (stages.withdraws kind i count))) runs (withdrawn_quiet view.number (withdraw.withdrawn desk stamp view.number)) (plain tt)
  made_empties view (stages.kills kind i) active runs plain = quiet_empties (made desk stamp view.number (call_at view (stages.kills kind i))) runs (killed_quiet view.number kind (kill_answer (phase desk))) (plain tt)
  made_empties view (stages.waits i at count) active runs plain = quiet_empties (made desk stamp view.number (call_at view (stages.waits i at count))) runs (looked_quiet view.number at (looks_before desk stamp view.number at) desk.terms.turns (phase desk)) (plain tt)
  made_empties view (stages.looks_waiting i at count) active runs plain = quiet_empties (made desk stamp view.number (call_at view (stages.looks_waiting i at count))) runs none_quiet (plain tt)
  made_empties view (stages.points chosen so_many run) active runs plain = all_served desk.terms desk (report_of run) stamp (queue_of (phase desk)) (state desk) refl runs
  made_empties view (stages.ends_run chosen so_many run given) active runs plain = ended_empties view.number (run_of itself given) (outcome_of itself given)
  made_empties view stages.prepares active runs plain = absurd active
  made_empties view (stages.makes_steps chosen so_many run) active runs plain = absurd active
  made_empties view stages.done active runs plain = absurd active

-- At another desk than its own a session calls only where no run is on.
pub plain_elsewhere : (view : View) (stage : Stage) → stages.desk_at view stage ≢ view.given.session → HasNoRun stage
plain_elsewhere view (stages.makes_steps chosen made run) apart = absurd (apart refl)
plain_elsewhere view (stages.points chosen made run) apart = absurd (apart refl)
plain_elsewhere view (stages.ends_run chosen made run given) apart = absurd (apart refl)
plain_elsewhere view stages.prepares apart = tt
plain_elsewhere view stages.opens apart = tt
plain_elsewhere view stages.closes apart = tt
plain_elsewhere view stages.done apart = tt
plain_elsewhere view (stages.ends result) apart = tt
plain_elsewhere view (stages.asks kind desk) apart = tt
plain_elsewhere view (stages.polls kind desk count) apart = tt
plain_elsewhere view (stages.looks_asking kind desk count) apart = tt
plain_elsewhere view (stages.withdraws kind desk count) apart = tt
plain_elsewhere view (stages.kills kind desk) apart = tt
plain_elsewhere view (stages.waits desk at count) apart = tt
plain_elsewhere view (stages.looks_waiting desk at count) apart = tt
