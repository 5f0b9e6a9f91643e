-- Session 2 asks for the counters of session 1's query. Session 3 kills that statement of session 2, which takes its request back.
use Rattle.std.proofs.Common.{List, [], ◌∷◌, rules}
use Rattle.sa_ast.specs.declared.kind.AskKind.TheVariants.{Analyze}
use Rattle.sa_ast.specs.declared.kind.KillKind.TheVariants.{Query}
use Rattle.sa_meaning.specs.Items.{items, passes}
use Rattle.sa_meaning.specs.Counts.{level_counters, sent_count}
use Rattle.sa_desk.specs.declared.entry.Entry.{Entry}
use Rattle.sa_desk.specs.declared.entry.Event.TheVariants.{Queued, Served, Withdrawn, KillSent, End, Close}
use Rattle.sa_desk.specs.declared.outcome.Outcome.TheVariants as outcome
use Rattle.sa_desk.specs.Runs.{IsDeskRun}
use Rattle.sa_desk.proofs.worked.Query.{Open, on_1, on_2, begin_query, begin_plain, all_rows, report, terms_of, changed, dropped, exchanged, inserted, IsRefused}

module _ (given : Open) where
  -- desk 1
  abbrev pub begin_1 : Entry
  begin_1 = on_1 1 1 1 (begin_query given 1)

  abbrev pub queued_by_2 : Entry
  queued_by_2 = on_1 2 2 2 (Queued 1 Analyze 0 1000000)

  abbrev pub withdrawn_by_2 : Entry
  withdrawn_by_2 = on_1 2 3 5 (Withdrawn 1)

  abbrev pub end_1 : Entry
  end_1 = on_1 1 2 3 (End 1 (all_rows given) 7)

  abbrev pub close_1 : Entry
  close_1 = on_1 1 3 4 Close

  abbrev pub journal : List Entry
  journal = begin_1 ∷ queued_by_2 ∷ withdrawn_by_2 ∷ end_1 ∷ close_1 ∷ []

  pub accepted_1 : IsDeskRun (terms_of 1) journal
  unfolding items passes level_counters sent_count
  accepted_1 = search rules

  -- One entry is changed.
  pub withdrawn_by_3 : IsRefused (terms_of 1) (changed 3 (record withdrawn_by_2 { actor = 3 }) journal)
  unfolding items passes level_counters sent_count
  withdrawn_by_3 run = search rules

  pub withdrawn_for_2 : IsRefused (terms_of 1) (changed 3 (record withdrawn_by_2 { event = Withdrawn 2 }) journal)
  unfolding items passes level_counters sent_count
  withdrawn_for_2 run = search rules

  -- Two neighbours are exchanged.
  pub withdrawn_before_queued : IsRefused (terms_of 1) (exchanged 2 journal)
  unfolding items passes level_counters sent_count
  withdrawn_before_queued run = search rules

  pub ended_before_withdrawn : IsRefused (terms_of 1) (exchanged 3 journal)
  unfolding items passes level_counters sent_count
  ended_before_withdrawn run = search rules

  -- One entry is dropped.
  pub never_queued : IsRefused (terms_of 1) (dropped 2 journal)
  unfolding items passes level_counters sent_count
  never_queued run = search rules

  pub never_withdrawn : IsRefused (terms_of 1) (dropped 3 journal)
  unfolding items passes level_counters sent_count
  never_withdrawn run = search rules

  -- What is withdrawn isn't served any more.
  pub served_nevertheless : IsRefused (terms_of 1) (inserted 3 (on_1 1 2 2 (Served 2 1 (report 4 2 2 1))) journal)
  unfolding items passes level_counters sent_count
  served_nevertheless run = search rules

  -- desk 2
  abbrev pub begin_2 : Entry
  begin_2 = on_2 2 1 1 (begin_plain given 1)

  abbrev pub killed_by_3 : Entry
  killed_by_3 = on_2 3 2 2 (KillSent 1 Query)

  abbrev pub end_2 : Entry
  end_2 = on_2 2 4 6 (End 1 outcome.Interrupted 0)

  abbrev pub close_2 : Entry
  close_2 = on_2 2 5 7 Close

  abbrev pub journal_2 : List Entry
  journal_2 = begin_2 ∷ killed_by_3 ∷ end_2 ∷ close_2 ∷ []

  pub accepted_2 : IsDeskRun (terms_of 2) journal_2
  accepted_2 = search rules

  -- The kill stands whatever the statement has reached.
  pub shown_after_kill : IsRefused (terms_of 2) (changed 3 (record end_2 { event = End 1 (outcome.Shown Analyze 1 1 (report 4 2 2 1)) 0 }) journal_2)
  shown_after_kill run = search rules

  pub never_killed : IsRefused (terms_of 2) (dropped 2 journal_2)
  never_killed run = search rules
