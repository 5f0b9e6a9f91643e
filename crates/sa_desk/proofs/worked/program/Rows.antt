-- Rows of a session's program without a run, on examples: session 2 of 2, four steps a turn, three turns for a request or a wait.
-- Its statement 1 began in turn 1.
use Rattle.std.proofs.Common.{◌≡◌, ℕ, List, [], ◌∷◌, refl, rules}
use Rattle.sa_ast.specs.declared.kind.AskKind.TheVariants.{Explain, Analyze}
use Rattle.sa_ast.specs.declared.kind.KillKind.TheVariants as kind
use Rattle.sa_plan.specs.declared.prepared.Work.TheVariants as work
use Rattle.sa_count.specs.declared.report.Report.{Report}
use Rattle.sa_meaning.specs.Data.{RunData}
use Rattle.sa_desk.specs.declared.entry.Entry.{Entry}
use Rattle.sa_desk.specs.declared.entry.Event.{Event}
use Rattle.sa_desk.specs.declared.entry.Event.TheVariants.{Queued, Refused, Taken, Spent, Withdrawn, KillSent, Waited, WaitSpent}
use Rattle.sa_desk.specs.declared.entry.RefusedWhy.TheVariants as why
use Rattle.sa_desk.specs.declared.outcome.Outcome.TheVariants as outcome
use Rattle.sa_desk.specs.program.Course.{Given, prepared, starved, at_first, course_of, says, shows, waits, kills}
use Rattle.sa_desk.specs.program.Between.{goes_on, ends, Between}

-- an entry of session 2
abbrev pub at : (desk seq turn : ℕ) → Event → Entry
at desk seq turn event = record { desk = desk; actor = 2; seq = seq; turn = turn; event = event }

abbrev pub given_of : RunData → List (List ℕ) → Given
given_of tables texts = record { session = 2; sessions = 2; quantum = 4; turns = 3; tables = tables; texts = texts }

module _ (tables : RunData) (texts : List (List ℕ)) (text : List ℕ) (report : Report) where
  abbrev given : Given
  given = given_of tables texts

  -- A number that the script hasn't ends at once, and so does a statement for which there was no memory.
  pub other_session : course_of given at_first (prepared text (work.Show Explain 3)) ≡ says outcome.NoSuchThread
  other_session = refl

  pub session_0 : course_of given at_first (prepared text (work.Kill kind.Query 0)) ≡ says outcome.NoSuchThread
  session_0 = refl

  pub this_session : course_of given at_first (prepared text (work.Wait 1 4)) ≡ waits 1 4
  this_session = refl

  pub no_memory : course_of given at_first (starved text) ≡ says outcome.OutOfMemory
  no_memory = refl

  -- What ends at once is due in the Begin's own turn, makes no entry, and doesn't go on.
  pub said : Between given 1 1 (says outcome.Set) [] 1 (ends outcome.Set)
  said = search rules

  pub said_late : Between given 1 1 (says outcome.Set) [] 2 (ends outcome.Set) → ⊥
  said_late row = search rules

  pub said_other : Between given 1 1 (says outcome.Set) [] 1 (ends outcome.OutOfMemory) → ⊥
  said_other row = search rules

  -- a SHOW that is refused
  pub refused : Between given 1 1 (shows Analyze 1) (at 1 2 2 (Refused 1 why.NotExplainable) ∷ []) 2 (ends outcome.NotExplainable)
  refused = search rules

  pub refused_late : Between given 1 1 (shows Analyze 1) (at 1 2 3 (Refused 1 why.NotExplainable) ∷ []) 3 (ends outcome.NotExplainable) → ⊥
  refused_late row = search rules

  pub refused_otherwise : Between given 1 1 (shows Analyze 1) (at 1 2 2 (Refused 1 why.NotExplainable) ∷ []) 2 (ends outcome.NoSuchThread) → ⊥
  refused_otherwise row = search rules

  -- A request is asked in the turn after the Begin, with the statement's kind and the budget of the desks.
  abbrev queued : Entry
  queued = at 1 2 2 (Queued 1 Analyze 4 3)

  pub still_asks : Between given 1 1 (shows Analyze 1) (queued ∷ []) 5 goes_on
  still_asks = search rules

  pub asks_another_desk : Between given 1 1 (shows Analyze 2) (queued ∷ []) 5 goes_on → ⊥
  asks_another_desk row = search rules

  pub asks_another_kind : Between given 1 1 (shows Explain 1) (queued ∷ []) 5 goes_on → ⊥
  asks_another_kind row = search rules

  pub asks_too_long : Between given 1 1 (shows Analyze 1) (queued ∷ []) 7 goes_on → ⊥
  asks_too_long row = search rules

  -- It is taken at the second poll, which is in turn five.
  pub taken : Between given 1 1 (shows Analyze 1) (queued ∷ at 1 3 5 (Taken 1) ∷ []) 5 (ends (outcome.Shown Analyze 1 7 report))
  taken = search rules

  pub taken_between : Between given 1 1 (shows Analyze 1) (queued ∷ at 1 3 4 (Taken 1) ∷ []) 4 (ends (outcome.Shown Analyze 1 7 report)) → ⊥
  taken_between row = search rules

  pub taken_elsewhere : Between given 1 1 (shows Analyze 1) (queued ∷ at 2 3 5 (Taken 1) ∷ []) 5 (ends (outcome.Shown Analyze 1 7 report)) → ⊥
  taken_elsewhere row = search rules

  pub taken_unshown : Between given 1 1 (shows Analyze 1) (queued ∷ at 1 3 5 (Taken 1) ∷ []) 5 (ends outcome.Interrupted) → ⊥
  taken_unshown row = search rules

  -- or spent at the third poll
  pub spent : Between given 1 1 (shows Analyze 1) (queued ∷ at 1 3 7 (Spent 1 3) ∷ []) 7 (ends (outcome.TimedOut 3))
  spent = search rules

  pub spent_early : Between given 1 1 (shows Analyze 1) (queued ∷ at 1 3 5 (Spent 1 3) ∷ []) 5 (ends (outcome.TimedOut 3)) → ⊥
  spent_early row = search rules

  pub spent_late : Between given 1 1 (shows Analyze 1) (queued ∷ at 1 3 9 (Spent 1 3) ∷ []) 9 (ends (outcome.TimedOut 3)) → ⊥
  spent_late row = search rules

  -- or withdrawn, at the earliest in index of the second poll
  pub withdrawn : Between given 1 1 (shows Analyze 1) (queued ∷ at 1 3 5 (Withdrawn 1) ∷ []) 5 (ends outcome.Interrupted)
  withdrawn = search rules

  pub withdrawn_early : Between given 1 1 (shows Analyze 1) (queued ∷ at 1 3 3 (Withdrawn 1) ∷ []) 3 (ends outcome.Interrupted) → ⊥
  withdrawn_early row = search rules

  pub asked_again : Between given 1 1 (shows Analyze 1) (queued ∷ at 1 3 5 (Spent 1 3) ∷ at 1 4 6 (Queued 1 Analyze 4 3) ∷ []) 6 goes_on → ⊥
  asked_again row = search rules

  -- A wait looks in turns two, four and six.
  pub waited : Between given 1 1 (waits 1 4) (at 1 2 4 (Waited 1 8) ∷ []) 4 (ends (outcome.Waited 8))
  waited = search rules

  pub waited_between : Between given 1 1 (waits 1 4) (at 1 2 3 (Waited 1 8) ∷ []) 3 (ends (outcome.Waited 8)) → ⊥
  waited_between row = search rules

  pub waited_for_less : Between given 1 1 (waits 1 4) (at 1 2 4 (Waited 1 3) ∷ []) 4 (ends (outcome.Waited 3)) → ⊥
  waited_for_less row = search rules

  pub waits_on : Between given 1 1 (waits 1 4) [] 5 goes_on
  waits_on = search rules

  pub waits_too_long : Between given 1 1 (waits 1 4) [] 6 goes_on → ⊥
  waits_too_long row = search rules

  pub wait_spent : Between given 1 1 (waits 1 4) (at 1 2 6 (WaitSpent 1 3 3) ∷ []) 6 (ends (outcome.WaitSpent 3 3))
  wait_spent = search rules

  pub wait_spent_early : Between given 1 1 (waits 1 4) (at 1 2 4 (WaitSpent 1 3 3) ∷ []) 4 (ends (outcome.WaitSpent 3 3)) → ⊥
  wait_spent_early row = search rules

  pub wait_spent_though_reached : Between given 1 1 (waits 1 4) (at 1 2 6 (WaitSpent 1 4 3) ∷ []) 6 (ends (outcome.WaitSpent 4 3)) → ⊥
  wait_spent_though_reached row = search rules

  pub wait_refused : Between given 1 1 (waits 1 4) (at 1 2 2 (Refused 1 why.NoSuchThread) ∷ []) 2 (ends outcome.NoSuchThread)
  wait_refused = search rules

  pub wait_killed : Between given 1 1 (waits 1 4) [] 5 (ends outcome.Interrupted)
  wait_killed = search rules

  pub wait_killed_between : Between given 1 1 (waits 1 4) [] 4 (ends outcome.Interrupted) → ⊥
  wait_killed_between row = search rules

  -- a KILL
  pub killed : Between given 1 1 (kills kind.Query 1) (at 1 2 2 (KillSent 1 kind.Query) ∷ []) 2 (ends outcome.KillSent)
  killed = search rules

  pub killed_otherwise : Between given 1 1 (kills kind.Query 1) (at 1 2 2 (KillSent 1 kind.Connection) ∷ []) 2 (ends outcome.KillSent) → ⊥
  killed_otherwise row = search rules

  pub killed_late : Between given 1 1 (kills kind.Query 1) (at 1 2 3 (KillSent 1 kind.Query) ∷ []) 3 (ends outcome.KillSent) → ⊥
  killed_late row = search rules

  pub kill_refused : Between given 1 1 (kills kind.Query 1) (at 1 2 2 (Refused 1 why.NoSuchThread) ∷ []) 2 (ends outcome.NoSuchThread)
  kill_refused = search rules
