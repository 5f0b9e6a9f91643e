-- Session 2 kills session 1. Session 1's next statement doesn't begin, and who asks later is told that no such session is there.
use Rattle.std.proofs.Common.{List, [], ◌∷◌, rules}
use Rattle.sa_ast.specs.declared.kind.KillKind.TheVariants.{Query, Connection}
use Rattle.sa_meaning.specs.Items.{items, passes}
use Rattle.sa_meaning.specs.Counts.{level_counters, sent_count}
use Rattle.sa_desk.specs.declared.entry.Entry.{Entry}
use Rattle.sa_desk.specs.declared.entry.Event.TheVariants.{Refused, KillSent, End, Gone, Close}
use Rattle.sa_desk.specs.declared.entry.RefusedWhy.TheVariants.{NotExplainable, NoSuchThread}
use Rattle.sa_desk.specs.declared.outcome.Outcome.TheVariants as outcome
use Rattle.sa_desk.specs.Runs.{IsDeskRun}
use Rattle.sa_desk.proofs.worked.Query.{Open, on_1, begin_query, all_rows, terms_of, changed, dropped, exchanged, IsRefused}

module _ (given : Open) where
  abbrev pub begin_first : Entry
  begin_first = on_1 1 1 1 (begin_query given 1)

  abbrev pub killed_by_2 : Entry
  killed_by_2 = on_1 2 2 2 (KillSent 1 Connection)

  abbrev pub end_first : Entry
  end_first = on_1 1 2 2 (End 1 outcome.Interrupted 7)

  abbrev pub gone : Entry
  gone = on_1 1 3 3 (Gone 2)

  abbrev pub close_1 : Entry
  close_1 = on_1 1 4 4 Close

  abbrev pub refused_to_2 : Entry
  refused_to_2 = on_1 2 5 5 (Refused 2 NoSuchThread)

  abbrev pub journal : List Entry
  journal = begin_first ∷ killed_by_2 ∷ end_first ∷ gone ∷ close_1 ∷ refused_to_2 ∷ []

  pub accepted : IsDeskRun (record (terms_of 1) { quantum = 64 }) journal
  unfolding items passes level_counters sent_count
  accepted = search rules

  -- One entry is changed.
  pub rows_after_kill : IsRefused (record (terms_of 1) { quantum = 64 }) (changed 3 (record end_first { event = End 1 (all_rows given) 7 }) journal)
  unfolding items passes level_counters sent_count
  rows_after_kill run = search rules

  pub begun_after_kill : IsRefused (record (terms_of 1) { quantum = 64 }) (changed 4 (record gone { event = begin_query given 2 }) journal)
  unfolding items passes level_counters sent_count
  begun_after_kill run = search rules

  pub query_killed : IsRefused (record (terms_of 1) { quantum = 64 }) (changed 2 (record killed_by_2 { event = KillSent 1 Query }) journal)
  unfolding items passes level_counters sent_count
  query_killed run = search rules

  pub refused_not_explainable : IsRefused (record (terms_of 1) { quantum = 64 }) (changed 6 (record refused_to_2 { event = Refused 2 NotExplainable }) journal)
  unfolding items passes level_counters sent_count
  refused_not_explainable run = search rules

  pub kill_after_close : IsRefused (record (terms_of 1) { quantum = 64 }) (changed 6 (record refused_to_2 { event = KillSent 2 Connection }) journal)
  unfolding items passes level_counters sent_count
  kill_after_close run = search rules

  -- Two neighbours are exchanged.
  pub killed_after_end : IsRefused (record (terms_of 1) { quantum = 64 }) (exchanged 2 journal)
  unfolding items passes level_counters sent_count
  killed_after_end run = search rules

  pub gone_before_end : IsRefused (record (terms_of 1) { quantum = 64 }) (exchanged 3 journal)
  unfolding items passes level_counters sent_count
  gone_before_end run = search rules

  pub gone_after_close : IsRefused (record (terms_of 1) { quantum = 64 }) (exchanged 4 journal)
  unfolding items passes level_counters sent_count
  gone_after_close run = search rules

  pub refused_before_close : IsRefused (record (terms_of 1) { quantum = 64 }) (exchanged 5 journal)
  unfolding items passes level_counters sent_count
  refused_before_close run = search rules

  -- One entry is dropped.
  pub never_killed : IsRefused (record (terms_of 1) { quantum = 64 }) (dropped 2 journal)
  unfolding items passes level_counters sent_count
  never_killed run = search rules

  pub never_ended : IsRefused (record (terms_of 1) { quantum = 64 }) (dropped 3 journal)
  unfolding items passes level_counters sent_count
  never_ended run = search rules

  pub never_closed : IsRefused (record (terms_of 1) { quantum = 64 }) (dropped 5 journal)
  unfolding items passes level_counters sent_count
  never_closed run = search rules
