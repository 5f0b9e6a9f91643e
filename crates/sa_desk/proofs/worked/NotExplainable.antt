-- Session 2 asks for a plan where none is on: on desk 1 before session 1 begins its query, and on its own desk.
use Rattle.std.proofs.Common.{List, [], ◌∷◌, rules}
use Rattle.sa_meaning.specs.Items.{items, passes}
use Rattle.sa_meaning.specs.Counts.{level_counters, sent_count}
use Rattle.sa_desk.specs.declared.entry.Entry.{Entry}
use Rattle.sa_desk.specs.declared.entry.Event.TheVariants.{Refused, End, Close}
use Rattle.sa_desk.specs.declared.entry.RefusedWhy.TheVariants.{NotExplainable, NoSuchThread}
use Rattle.sa_desk.specs.declared.outcome.Outcome.TheVariants as outcome
use Rattle.sa_desk.specs.Runs.{IsDeskRun}
use Rattle.sa_desk.proofs.worked.Query.{Open, on_1, on_2, begin_query, begin_plain, all_rows, terms_of, changed, dropped, exchanged, IsRefused}

module _ (given : Open) where
  -- desk 1
  abbrev pub refused_to_2 : Entry
  refused_to_2 = on_1 2 2 2 (Refused 1 NotExplainable)

  abbrev pub begin_1 : Entry
  begin_1 = on_1 1 1 1 (begin_query given 1)

  abbrev pub end_1 : Entry
  end_1 = on_1 1 2 2 (End 1 (all_rows given) 7)

  abbrev pub close_1 : Entry
  close_1 = on_1 1 3 3 Close

  abbrev pub journal : List Entry
  journal = refused_to_2 ∷ begin_1 ∷ end_1 ∷ close_1 ∷ []

  pub accepted_1 : IsDeskRun (record (terms_of 1) { quantum = 64 }) journal
  unfolding items passes level_counters sent_count
  accepted_1 = search rules

  -- One entry is changed: there is a session, and nobody has killed its statement.
  pub refused_no_such_thread : IsRefused (record (terms_of 1) { quantum = 64 }) (changed 1 (record refused_to_2 { event = Refused 1 NoSuchThread }) journal)
  unfolding items passes level_counters sent_count
  refused_no_such_thread run = search rules

  pub begun_by_2 : IsRefused (record (terms_of 1) { quantum = 64 }) (changed 2 (record begin_1 { actor = 2 }) journal)
  unfolding items passes level_counters sent_count
  begun_by_2 run = search rules

  pub ended_interrupted : IsRefused (record (terms_of 1) { quantum = 64 }) (changed 3 (record end_1 { event = End 1 outcome.Interrupted 7 }) journal)
  unfolding items passes level_counters sent_count
  ended_interrupted run = search rules

  pub ended_statement_2 : IsRefused (record (terms_of 1) { quantum = 64 }) (changed 3 (record end_1 { event = End 2 (all_rows given) 7 }) journal)
  unfolding items passes level_counters sent_count
  ended_statement_2 run = search rules

  -- Two neighbours are exchanged: while the query is on, a request is queued.
  pub refused_after_begin : IsRefused (record (terms_of 1) { quantum = 64 }) (exchanged 1 journal)
  unfolding items passes level_counters sent_count
  refused_after_begin run = search rules

  pub ended_before_begin : IsRefused (record (terms_of 1) { quantum = 64 }) (exchanged 2 journal)
  unfolding items passes level_counters sent_count
  ended_before_begin run = search rules

  pub closed_before_end : IsRefused (record (terms_of 1) { quantum = 64 }) (exchanged 3 journal)
  unfolding items passes level_counters sent_count
  closed_before_end run = search rules

  -- One entry is dropped.
  pub never_begun : IsRefused (record (terms_of 1) { quantum = 64 }) (dropped 2 journal)
  unfolding items passes level_counters sent_count
  never_begun run = search rules

  pub never_ended : IsRefused (record (terms_of 1) { quantum = 64 }) (dropped 3 journal)
  unfolding items passes level_counters sent_count
  never_ended run = search rules

  -- desk 2
  abbrev pub begin_first : Entry
  begin_first = on_2 2 1 1 (begin_plain given 1)

  abbrev pub end_first : Entry
  end_first = on_2 2 3 3 (End 1 outcome.NotExplainable 0)

  abbrev pub begin_second : Entry
  begin_second = on_2 2 4 4 (begin_plain given 2)

  abbrev pub refused_own : Entry
  refused_own = on_2 2 5 5 (Refused 2 NotExplainable)

  abbrev pub end_second : Entry
  end_second = on_2 2 6 6 (End 2 outcome.NotExplainable 0)

  abbrev pub close_2 : Entry
  close_2 = on_2 2 7 7 Close

  abbrev pub journal_2 : List Entry
  journal_2 = begin_first ∷ end_first ∷ begin_second ∷ refused_own ∷ end_second ∷ close_2 ∷ []

  pub accepted_2 : IsDeskRun (record (terms_of 2) { quantum = 64 }) journal_2
  accepted_2 = search rules

  -- One entry is changed: a statement without a plan makes no steps, and one with a plan would be explained.
  pub own_no_such_thread : IsRefused (record (terms_of 2) { quantum = 64 }) (changed 4 (record refused_own { event = Refused 2 NoSuchThread }) journal_2)
  own_no_such_thread run = search rules

  pub a_step_without_plan : IsRefused (record (terms_of 2) { quantum = 64 }) (changed 5 (record end_second { event = End 2 outcome.NotExplainable 1 }) journal_2)
  a_step_without_plan run = search rules

  pub first_ended_again : IsRefused (record (terms_of 2) { quantum = 64 }) (changed 5 (record end_second { event = End 1 outcome.NotExplainable 0 }) journal_2)
  first_ended_again run = search rules

  pub second_with_plan : IsRefused (record (terms_of 2) { quantum = 64 }) (changed 3 (record begin_second { event = begin_query given 2 }) journal_2)
  unfolding items passes level_counters sent_count
  second_with_plan run = search rules

  -- Two neighbours are exchanged: one statement at a time.
  pub second_before_end : IsRefused (record (terms_of 2) { quantum = 64 }) (exchanged 2 journal_2)
  second_before_end run = search rules

  pub end_before_first : IsRefused (record (terms_of 2) { quantum = 64 }) (exchanged 1 journal_2)
  end_before_first run = search rules

  pub close_before_end : IsRefused (record (terms_of 2) { quantum = 64 }) (exchanged 5 journal_2)
  close_before_end run = search rules

  -- One entry is dropped.
  pub first_never_begun : IsRefused (record (terms_of 2) { quantum = 64 }) (dropped 1 journal_2)
  first_never_begun run = search rules

  pub first_never_ended : IsRefused (record (terms_of 2) { quantum = 64 }) (dropped 2 journal_2)
  first_never_ended run = search rules

  pub second_never_begun : IsRefused (record (terms_of 2) { quantum = 64 }) (dropped 3 journal_2)
  second_never_begun run = search rules

  pub second_never_ended : IsRefused (record (terms_of 2) { quantum = 64 }) (dropped 5 journal_2)
  second_never_ended run = search rules
