-- Session 2 asks for the counters of session 1's query after its first four steps. The query ends three steps later, and serves the request first.
use Rattle.std.proofs.Common.{List, [], ◌∷◌, rules}
use Rattle.sa_ast.specs.declared.kind.AskKind.TheVariants.{Analyze}
use Rattle.sa_meaning.specs.Items.{items, passes}
use Rattle.sa_meaning.specs.Counts.{level_counters, sent_count}
use Rattle.sa_desk.specs.declared.entry.Entry.{Entry}
use Rattle.sa_desk.specs.declared.entry.Event.TheVariants.{Queued, Served, Taken, End, Close}
use Rattle.sa_desk.specs.declared.outcome.Outcome.TheVariants as outcome
use Rattle.sa_desk.specs.Runs.{IsDeskRun}
use Rattle.sa_desk.proofs.worked.Query.{Open, on_1, on_2, begin_query, begin_plain, all_rows, report, terms_of, changed, dropped, exchanged, IsRefused}

module _ (given : Open) where
  abbrev pub begin_1 : Entry
  begin_1 = on_1 1 1 1 (begin_query given 1)

  abbrev pub queued_by_2 : Entry
  queued_by_2 = on_1 2 2 2 (Queued 1 Analyze 4 1000000)

  abbrev pub served_to_2 : Entry
  served_to_2 = on_1 1 2 3 (Served 2 1 (report 7 3 3 3))

  abbrev pub end_1 : Entry
  end_1 = on_1 1 3 3 (End 1 (all_rows given) 7)

  abbrev pub taken_by_2 : Entry
  taken_by_2 = on_1 2 3 3 (Taken 1)

  abbrev pub close_1 : Entry
  close_1 = on_1 1 4 4 Close

  abbrev pub journal : List Entry
  journal = begin_1 ∷ queued_by_2 ∷ served_to_2 ∷ end_1 ∷ taken_by_2 ∷ close_1 ∷ []

  pub accepted_1 : IsDeskRun (terms_of 1) journal
  unfolding items passes level_counters sent_count
  accepted_1 = search rules

  -- Session 2's own statement shows that report.
  abbrev pub begin_2 : Entry
  begin_2 = on_2 2 1 1 (begin_plain given 1)

  abbrev pub end_2 : Entry
  end_2 = on_2 2 4 4 (End 1 (outcome.Shown Analyze 1 1 (report 7 3 3 3)) 0)

  abbrev pub close_2 : Entry
  close_2 = on_2 2 5 5 Close

  abbrev pub journal_2 : List Entry
  journal_2 = begin_2 ∷ end_2 ∷ close_2 ∷ []

  pub accepted_2 : IsDeskRun (terms_of 2) journal_2
  accepted_2 = search rules

  -- One entry is changed. The Served stands in the turn after the one with the first four steps.
  pub served_early : IsRefused (terms_of 1) (changed 3 (record served_to_2 { turn = 2 }) journal)
  unfolding items passes level_counters sent_count
  served_early run = search rules

  pub served_late : IsRefused (terms_of 1) (changed 3 (record served_to_2 { turn = 4 }) journal)
  unfolding items passes level_counters sent_count
  served_late run = search rules

  pub queued_at_0 : IsRefused (terms_of 1) (changed 2 (record queued_by_2 { event = Queued 1 Analyze 0 1000000 }) journal)
  unfolding items passes level_counters sent_count
  queued_at_0 run = search rules

  pub queued_at_6 : IsRefused (terms_of 1) (changed 2 (record queued_by_2 { event = Queued 1 Analyze 6 1000000 }) journal)
  unfolding items passes level_counters sent_count
  queued_at_6 run = search rules

  -- Its counters are those of seven steps, of which three rows were given out.
  pub one_sent : IsRefused (terms_of 1) (changed 3 (record served_to_2 { event = Served 2 1 (report 7 3 3 2) }) journal)
  unfolding items passes level_counters sent_count
  one_sent run = search rules

  pub two_read : IsRefused (terms_of 1) (changed 3 (record served_to_2 { event = Served 2 1 (report 7 2 3 3) }) journal)
  unfolding items passes level_counters sent_count
  two_read run = search rules

  -- Right counters of another number of steps are refused, since the End has seven.
  pub four_steps : IsRefused (terms_of 1) (changed 3 (record served_to_2 { event = Served 2 1 (report 4 2 2 1) }) journal)
  unfolding items passes level_counters sent_count
  four_steps run = search rules

  pub five_steps : IsRefused (terms_of 1) (changed 3 (record served_to_2 { event = Served 2 1 (report 5 2 2 2) }) journal)
  unfolding items passes level_counters sent_count
  five_steps run = search rules

  pub eight_steps : IsRefused (terms_of 1) (changed 3 (record served_to_2 { event = Served 2 1 (report 8 3 3 3) }) journal)
  unfolding items passes level_counters sent_count
  eight_steps run = search rules

  -- So the End has these steps, and stands in this turn.
  pub ended_at_6 : IsRefused (terms_of 1) (changed 4 (record end_1 { event = End 1 (all_rows given) 6 }) journal)
  unfolding items passes level_counters sent_count
  ended_at_6 run = search rules

  pub ended_late : IsRefused (terms_of 1) (changed 4 (record end_1 { turn = 4 }) journal)
  unfolding items passes level_counters sent_count
  ended_late run = search rules

  pub ended_interrupted : IsRefused (terms_of 1) (changed 4 (record end_1 { event = End 1 outcome.Interrupted 7 }) journal)
  unfolding items passes level_counters sent_count
  ended_interrupted run = search rules

  -- Two neighbours are exchanged: the End leaves nobody waiting.
  pub ended_before_served : IsRefused (terms_of 1) (exchanged 3 journal)
  unfolding items passes level_counters sent_count
  ended_before_served run = search rules

  pub served_before_queued : IsRefused (terms_of 1) (exchanged 2 journal)
  unfolding items passes level_counters sent_count
  served_before_queued run = search rules

  pub queued_before_begin : IsRefused (terms_of 1) (exchanged 1 journal)
  unfolding items passes level_counters sent_count
  queued_before_begin run = search rules

  -- One entry is dropped.
  pub never_begun : IsRefused (terms_of 1) (dropped 1 journal)
  unfolding items passes level_counters sent_count
  never_begun run = search rules

  pub never_queued : IsRefused (terms_of 1) (dropped 2 journal)
  unfolding items passes level_counters sent_count
  never_queued run = search rules

  pub never_served : IsRefused (terms_of 1) (dropped 3 journal)
  unfolding items passes level_counters sent_count
  never_served run = search rules

  pub never_ended : IsRefused (terms_of 1) (dropped 4 journal)
  unfolding items passes level_counters sent_count
  never_ended run = search rules
