-- Session 2 kills session 1's query, and session 1 goes on with its next statement.
use Rattle.std.proofs.Common.{List, [], ◌∷◌, rules}
use Rattle.sa_ast.specs.declared.kind.KillKind.TheVariants.{Query, Connection}
use Rattle.sa_meaning.specs.Items.{items, passes}
use Rattle.sa_meaning.specs.Counts.{level_counters, sent_count}
use Rattle.sa_desk.specs.declared.entry.Entry.{Entry}
use Rattle.sa_desk.specs.declared.entry.Event.TheVariants.{KillSent, End, Close}
use Rattle.sa_desk.specs.declared.outcome.Outcome.TheVariants as outcome
use Rattle.sa_desk.specs.Runs.{IsDeskRun}
use Rattle.sa_desk.proofs.worked.Query.{Open, on_1, begin_query, all_rows, terms_of, changed, dropped, exchanged, inserted, IsRefused}

module _ (given : Open) where
  abbrev pub begin_first : Entry
  begin_first = on_1 1 1 1 (begin_query given 1)

  abbrev pub killed_by_2 : Entry
  killed_by_2 = on_1 2 2 2 (KillSent 1 Query)

  abbrev pub end_first : Entry
  end_first = on_1 1 2 3 (End 1 outcome.Interrupted 7)

  abbrev pub begin_second : Entry
  begin_second = on_1 1 3 4 (begin_query given 2)

  abbrev pub end_second : Entry
  end_second = on_1 1 4 6 (End 2 (all_rows given) 7)

  abbrev pub close_1 : Entry
  close_1 = on_1 1 5 7 Close

  abbrev pub journal : List Entry
  journal = begin_first ∷ killed_by_2 ∷ end_first ∷ begin_second ∷ end_second ∷ close_1 ∷ []

  pub accepted : IsDeskRun (terms_of 1) journal
  unfolding items passes level_counters sent_count
  accepted = search rules

  -- One entry is changed: the killed statement ends Interrupted, with all its steps made or not, and no other one does.
  pub rows_after_kill : IsRefused (terms_of 1) (changed 3 (record end_first { event = End 1 (all_rows given) 7 }) journal)
  unfolding items passes level_counters sent_count
  rows_after_kill run = search rules

  pub second_interrupted : IsRefused (terms_of 1) (changed 5 (record end_second { event = End 2 outcome.Interrupted 7 }) journal)
  unfolding items passes level_counters sent_count
  second_interrupted run = search rules

  pub connection_killed : IsRefused (terms_of 1) (changed 2 (record killed_by_2 { event = KillSent 1 Connection }) journal)
  unfolding items passes level_counters sent_count
  connection_killed run = search rules

  -- Two neighbours are exchanged: a kill stands for the statement that it finds.
  pub killed_before_begin : IsRefused (terms_of 1) (exchanged 1 journal)
  unfolding items passes level_counters sent_count
  killed_before_begin run = search rules

  pub killed_after_end : IsRefused (terms_of 1) (exchanged 2 journal)
  unfolding items passes level_counters sent_count
  killed_after_end run = search rules

  pub second_before_end : IsRefused (terms_of 1) (exchanged 3 journal)
  unfolding items passes level_counters sent_count
  second_before_end run = search rules

  -- One entry is dropped.
  pub never_killed : IsRefused (terms_of 1) (dropped 2 journal)
  unfolding items passes level_counters sent_count
  never_killed run = search rules

  pub first_never_ended : IsRefused (terms_of 1) (dropped 3 journal)
  unfolding items passes level_counters sent_count
  first_never_ended run = search rules

  -- No kill comes after Close.
  pub killed_after_close : IsRefused (terms_of 1) (inserted 6 (on_1 2 3 3 (KillSent 2 Query)) journal)
  unfolding items passes level_counters sent_count
  killed_after_close run = search rules
