-- Session 2 asks for the counters of session 1's query, and polls as often as its request lasts before the query makes a step.
use Rattle.std.proofs.Common.{List, [], ◌∷◌, rules}
use Rattle.sa_ast.specs.declared.kind.AskKind.TheVariants.{Analyze}
use Rattle.sa_meaning.specs.Items.{items, passes}
use Rattle.sa_meaning.specs.Counts.{level_counters, sent_count}
use Rattle.sa_desk.specs.declared.entry.Entry.{Entry}
use Rattle.sa_desk.specs.declared.entry.Event.TheVariants.{Queued, Served, Spent, End, Close}
use Rattle.sa_desk.specs.Runs.{IsDeskRun}
use Rattle.sa_desk.proofs.worked.Query.{Open, on_1, begin_query, all_rows, report, terms_of, changed, dropped, exchanged, inserted, IsRefused}

module _ (given : Open) where
  abbrev pub begin_1 : Entry
  begin_1 = on_1 1 1 1 (begin_query given 1)

  abbrev pub queued_by_2 : Entry
  queued_by_2 = on_1 2 2 2 (Queued 1 Analyze 0 2)

  abbrev pub spent_by_2 : Entry
  spent_by_2 = on_1 2 3 5 (Spent 1 2)

  abbrev pub end_1 : Entry
  end_1 = on_1 1 2 3 (End 1 (all_rows given) 7)

  abbrev pub close_1 : Entry
  close_1 = on_1 1 3 4 Close

  abbrev pub journal : List Entry
  journal = begin_1 ∷ queued_by_2 ∷ spent_by_2 ∷ end_1 ∷ close_1 ∷ []

  pub accepted : IsDeskRun (record (terms_of 1) { turns = 2 }) journal
  unfolding items passes level_counters sent_count
  accepted = search rules

  -- One entry is changed: the request lasts two polls, and is the asker's own.
  pub queued_for_longer : IsRefused (record (terms_of 1) { turns = 2 }) (changed 2 (record queued_by_2 { event = Queued 1 Analyze 0 3 }) journal)
  unfolding items passes level_counters sent_count
  queued_for_longer run = search rules

  pub spent_after_three : IsRefused (record (terms_of 1) { turns = 2 }) (changed 3 (record spent_by_2 { event = Spent 1 3 }) journal)
  unfolding items passes level_counters sent_count
  spent_after_three run = search rules

  pub spent_by_3 : IsRefused (record (terms_of 1) { turns = 2 }) (changed 3 (record spent_by_2 { actor = 3 }) journal)
  unfolding items passes level_counters sent_count
  spent_by_3 run = search rules

  pub spent_for_2 : IsRefused (record (terms_of 1) { turns = 2 }) (changed 3 (record spent_by_2 { event = Spent 2 2 }) journal)
  unfolding items passes level_counters sent_count
  spent_for_2 run = search rules

  -- Two neighbours are exchanged.
  pub spent_before_queued : IsRefused (record (terms_of 1) { turns = 2 }) (exchanged 2 journal)
  unfolding items passes level_counters sent_count
  spent_before_queued run = search rules

  pub ended_before_spent : IsRefused (record (terms_of 1) { turns = 2 }) (exchanged 3 journal)
  unfolding items passes level_counters sent_count
  ended_before_spent run = search rules

  -- One entry is dropped: the query doesn't end while the request waits.
  pub never_queued : IsRefused (record (terms_of 1) { turns = 2 }) (dropped 2 journal)
  unfolding items passes level_counters sent_count
  never_queued run = search rules

  pub never_spent : IsRefused (record (terms_of 1) { turns = 2 }) (dropped 3 journal)
  unfolding items passes level_counters sent_count
  never_spent run = search rules

  -- What is spent isn't served any more.
  pub served_nevertheless : IsRefused (record (terms_of 1) { turns = 2 }) (inserted 3 (on_1 1 2 2 (Served 2 1 (report 4 2 2 1))) journal)
  unfolding items passes level_counters sent_count
  served_nevertheless run = search rules
