-- Session 2 asks for the counters of session 1's query before its first four steps, and is answered after them.
use Rattle.std.proofs.Common.{◌≡◌, List, [], ◌∷◌, false, None, take, ℕ, refl, rules}
use Rattle.sa_ast.specs.declared.kind.AskKind.TheVariants.{Analyze}
use Rattle.sa_count.specs.declared.report.Report.{Report}
use Rattle.sa_meaning.specs.Items.{items, passes}
use Rattle.sa_meaning.specs.Counts.{level_counters, sent_count}
use Rattle.sa_desk.specs.declared.entry.Entry.{Entry}
use Rattle.sa_desk.specs.declared.entry.Event.TheVariants.{Queued, Served, Taken, End, Close}
use Rattle.sa_desk.specs.declared.outcome.Outcome.TheVariants as outcome
use Rattle.sa_desk.specs.declared.request.Request.{Request}
use Rattle.sa_desk.specs.State.{Statement, Execution, planned, State, closed}
use Rattle.sa_desk.specs.Charge.{charge}
use Rattle.sa_desk.specs.Runs.{IsDeskRun, state_of}
use Rattle.sa_desk.proofs.worked.Query.{Open, on_1, on_2, plan, tables, begin_query, begin_plain, all_rows, report, terms_of, changed, dropped, exchanged, IsRefused}

module _ (given : Open) where
  abbrev pub begin_1 : Entry
  begin_1 = on_1 1 1 1 (begin_query given 1)

  abbrev pub queued_by_2 : Entry
  queued_by_2 = on_1 2 2 2 (Queued 1 Analyze 0 1000000)

  abbrev pub served_to_2 : Entry
  served_to_2 = on_1 1 2 2 (Served 2 1 (report 4 2 2 1))

  abbrev pub taken_by_2 : Entry
  taken_by_2 = on_1 2 3 3 (Taken 1)

  abbrev pub end_1 : Entry
  end_1 = on_1 1 3 3 (End 1 (all_rows given) 7)

  abbrev pub close_1 : Entry
  close_1 = on_1 1 4 4 Close

  abbrev pub journal : List Entry
  journal = begin_1 ∷ queued_by_2 ∷ served_to_2 ∷ taken_by_2 ∷ end_1 ∷ close_1 ∷ []

  pub accepted_1 : IsDeskRun (terms_of 1) journal
  unfolding items passes level_counters sent_count
  accepted_1 = search rules

  -- What it leaves: after the Queued session 2 waits, after the Served it has an answer, and in the end the desk is closed.
  abbrev pub query : Statement
  query = record { number = 1; begin = 1; turn = 1; killed = false }

  abbrev pub query_at : (shown : ℕ) → List Request → Execution
  query_at shown queue = record { plan = plan given; tables = tables given; shown = shown; queue = queue; owed = None }

  abbrev pub after_queued : State
  after_queued = record { phase = planned query (query_at 0 (record { asker = 2; request = 1; at = 0 } ∷ [])); doomed = false; replies = [] }

  abbrev pub after_served : State
  after_served =
      record { phase = planned query (query_at 4 []); doomed = false; replies = record { asker = 2; request = 1; report = report 4 2 2 1; begin = 1 } ∷ [] }

  pub one_waits : state_of (terms_of 1) (take 2 journal) ≡ after_queued
  one_waits = refl

  pub one_is_answered : state_of (terms_of 1) (take 3 journal) ≡ after_served
  one_is_answered = refl

  pub closed_at_last : state_of (terms_of 1) journal ≡ record { phase = closed; doomed = false; replies = [] }
  closed_at_last = refl

  -- Each of the two sessions has paid three: session 2 for the answer too.
  pub own_charge : charge 1 journal ≡ 3
  own_charge = refl

  pub charge_of_2 : charge 2 journal ≡ 3
  charge_of_2 = refl

  -- Session 2's own statement shows that report.
  abbrev pub begin_2 : Entry
  begin_2 = on_2 2 1 1 (begin_plain given 1)

  abbrev pub end_2 : Entry
  end_2 = on_2 2 4 4 (End 1 (outcome.Shown Analyze 1 1 (report 4 2 2 1)) 0)

  abbrev pub close_2 : Entry
  close_2 = on_2 2 5 5 Close

  abbrev pub journal_2 : List Entry
  journal_2 = begin_2 ∷ end_2 ∷ close_2 ∷ []

  pub accepted_2 : IsDeskRun (terms_of 2) journal_2
  accepted_2 = search rules

  -- One entry is changed. The Served stands in the turn after the one that the request was queued in, and is the session's own.
  pub served_late : IsRefused (terms_of 1) (changed 3 (record served_to_2 { turn = 3 }) journal)
  unfolding items passes level_counters sent_count
  served_late run = search rules

  pub served_early : IsRefused (terms_of 1) (changed 3 (record served_to_2 { turn = 1 }) journal)
  unfolding items passes level_counters sent_count
  served_early run = search rules

  pub served_by_2 : IsRefused (terms_of 1) (changed 3 (record served_to_2 { actor = 2 }) journal)
  unfolding items passes level_counters sent_count
  served_by_2 run = search rules

  -- It names the asker and the asker's statement.
  pub asker_3 : IsRefused (terms_of 1) (changed 3 (record served_to_2 { event = Served 3 1 (report 4 2 2 1) }) journal)
  unfolding items passes level_counters sent_count
  asker_3 run = search rules

  pub request_2 : IsRefused (terms_of 1) (changed 3 (record served_to_2 { event = Served 2 2 (report 4 2 2 1) }) journal)
  unfolding items passes level_counters sent_count
  request_2 run = search rules

  -- Its counters are those of its number of steps, each of them.
  pub one_more_read : IsRefused (terms_of 1) (changed 3 (record served_to_2 { event = Served 2 1 (report 4 3 2 1) }) journal)
  unfolding items passes level_counters sent_count
  one_more_read run = search rules

  pub one_more_passed : IsRefused (terms_of 1) (changed 3 (record served_to_2 { event = Served 2 1 (report 4 2 3 1) }) journal)
  unfolding items passes level_counters sent_count
  one_more_passed run = search rules

  pub one_more_sent : IsRefused (terms_of 1) (changed 3 (record served_to_2 { event = Served 2 1 (report 4 2 2 2) }) journal)
  unfolding items passes level_counters sent_count
  one_more_sent run = search rules

  abbrev pub opened_twice_report : Report
  opened_twice_report = record (report 4 2 2 1) { tables = record { items = record { loops = 2; rows = 2; passed = 2 } ∷ [] } }

  pub opened_twice : IsRefused (terms_of 1) (changed 3 (record served_to_2 { event = Served 2 1 opened_twice_report }) journal)
  unfolding items passes level_counters sent_count
  opened_twice run = search rules

  pub of_statement_2 : IsRefused (terms_of 1) (changed 3 (record served_to_2 { event = Served 2 1 (record (report 4 2 2 1) { statement = 2 }) }) journal)
  unfolding items passes level_counters sent_count
  of_statement_2 run = search rules

  -- Right counters of three or five steps are no better: only the statement's End, in that turn, may cut a turn short.
  pub three_steps : IsRefused (terms_of 1) (changed 3 (record served_to_2 { event = Served 2 1 (report 3 1 1 1) }) journal)
  unfolding items passes level_counters sent_count
  three_steps run = search rules

  pub five_steps : IsRefused (terms_of 1) (changed 3 (record served_to_2 { event = Served 2 1 (report 5 2 2 2) }) journal)
  unfolding items passes level_counters sent_count
  five_steps run = search rules

  -- A request is queued at a number that may be published: a multiple of four below seven. At four it is served a turn later.
  pub queued_at_1 : IsRefused (terms_of 1) (changed 2 (record queued_by_2 { event = Queued 1 Analyze 1 1000000 }) journal)
  unfolding items passes level_counters sent_count
  queued_at_1 run = search rules

  pub queued_at_8 : IsRefused (terms_of 1) (changed 2 (record queued_by_2 { event = Queued 1 Analyze 8 1000000 }) journal)
  unfolding items passes level_counters sent_count
  queued_at_8 run = search rules

  pub queued_at_4 : IsRefused (terms_of 1) (changed 2 (record queued_by_2 { event = Queued 1 Analyze 4 1000000 }) journal)
  unfolding items passes level_counters sent_count
  queued_at_4 run = search rules

  pub other_budget : IsRefused (terms_of 1) (changed 2 (record queued_by_2 { event = Queued 1 Analyze 0 2 }) journal)
  unfolding items passes level_counters sent_count
  other_budget run = search rules

  pub queued_by_3 : IsRefused (terms_of 1) (changed 2 (record queued_by_2 { actor = 3 }) journal)
  unfolding items passes level_counters sent_count
  queued_by_3 run = search rules

  -- The query is session 1's, with its plan, and what is served counts its turns from there.
  pub begun_by_2 : IsRefused (terms_of 1) (changed 1 (record begin_1 { actor = 2 }) journal)
  unfolding items passes level_counters sent_count
  begun_by_2 run = search rules

  pub begun_a_turn_later : IsRefused (terms_of 1) (changed 1 (record begin_1 { turn = 2 }) journal)
  unfolding items passes level_counters sent_count
  begun_a_turn_later run = search rules

  pub begun_without_plan : IsRefused (terms_of 1) (changed 1 (record begin_1 { event = begin_plain given 1 }) journal)
  unfolding items passes level_counters sent_count
  begun_without_plan run = search rules

  -- The answer is taken by whoever asked, under the same statement.
  pub taken_by_3 : IsRefused (terms_of 1) (changed 4 (record taken_by_2 { actor = 3 }) journal)
  unfolding items passes level_counters sent_count
  taken_by_3 run = search rules

  pub taken_for_2 : IsRefused (terms_of 1) (changed 4 (record taken_by_2 { event = Taken 2 }) journal)
  unfolding items passes level_counters sent_count
  taken_for_2 run = search rules

  -- An End has at least the steps that were shown, and is Interrupted only after a kill.
  pub ended_at_3 : IsRefused (terms_of 1) (changed 5 (record end_1 { event = End 1 (all_rows given) 3 }) journal)
  unfolding items passes level_counters sent_count
  ended_at_3 run = search rules

  pub ended_interrupted : IsRefused (terms_of 1) (changed 5 (record end_1 { event = End 1 outcome.Interrupted 7 }) journal)
  unfolding items passes level_counters sent_count
  ended_interrupted run = search rules

  pub ended_statement_2 : IsRefused (terms_of 1) (changed 5 (record end_1 { event = End 2 (all_rows given) 7 }) journal)
  unfolding items passes level_counters sent_count
  ended_statement_2 run = search rules

  pub closed_by_2 : IsRefused (terms_of 1) (changed 6 (record close_1 { actor = 2 }) journal)
  unfolding items passes level_counters sent_count
  closed_by_2 run = search rules

  -- Two neighbours are exchanged.
  pub queued_before_begin : IsRefused (terms_of 1) (exchanged 1 journal)
  unfolding items passes level_counters sent_count
  queued_before_begin run = search rules

  pub served_before_queued : IsRefused (terms_of 1) (exchanged 2 journal)
  unfolding items passes level_counters sent_count
  served_before_queued run = search rules

  pub taken_before_served : IsRefused (terms_of 1) (exchanged 3 journal)
  unfolding items passes level_counters sent_count
  taken_before_served run = search rules

  pub closed_before_end : IsRefused (terms_of 1) (exchanged 5 journal)
  unfolding items passes level_counters sent_count
  closed_before_end run = search rules

  -- One entry is dropped.
  pub never_begun : IsRefused (terms_of 1) (dropped 1 journal)
  unfolding items passes level_counters sent_count
  never_begun run = search rules

  pub never_queued : IsRefused (terms_of 1) (dropped 2 journal)
  unfolding items passes level_counters sent_count
  never_queued run = search rules

  pub never_served : IsRefused (terms_of 1) (dropped 3 journal)
  unfolding items passes level_counters sent_count
  never_served run = search rules

  pub never_ended : IsRefused (terms_of 1) (dropped 5 journal)
  unfolding items passes level_counters sent_count
  never_ended run = search rules
