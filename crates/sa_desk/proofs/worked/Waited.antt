-- Session 2 waits until session 1's query has published four steps.
use Rattle.std.proofs.Common.{List, [], ◌∷◌, rules}
use Rattle.sa_ast.specs.declared.kind.AskKind.TheVariants.{Analyze}
use Rattle.sa_meaning.specs.Items.{items, passes}
use Rattle.sa_meaning.specs.Counts.{level_counters, sent_count}
use Rattle.sa_desk.specs.declared.entry.Entry.{Entry}
use Rattle.sa_desk.specs.declared.entry.Event.TheVariants.{Queued, Waited, WaitSpent, End, Close}
use Rattle.sa_desk.specs.declared.outcome.Outcome.TheVariants as outcome
use Rattle.sa_desk.specs.Runs.{IsDeskRun}
use Rattle.sa_desk.proofs.worked.Query.{Open, on_1, on_2, begin_query, begin_plain, all_rows, terms_of, changed, dropped, exchanged, inserted, IsRefused}

module _ (given : Open) where
  -- desk 1
  abbrev pub begin_1 : Entry
  begin_1 = on_1 1 1 1 (begin_query given 1)

  abbrev pub waited_by_2 : Entry
  waited_by_2 = on_1 2 2 4 (Waited 1 4)

  abbrev pub end_1 : Entry
  end_1 = on_1 1 2 3 (End 1 (all_rows given) 7)

  abbrev pub close_1 : Entry
  close_1 = on_1 1 3 4 Close

  abbrev pub journal : List Entry
  journal = begin_1 ∷ waited_by_2 ∷ end_1 ∷ close_1 ∷ []

  pub accepted_1 : IsDeskRun (terms_of 1) journal
  unfolding items passes level_counters sent_count
  accepted_1 = search rules

  -- One entry is changed: only a number that can be published is seen, and the End doesn't fall behind it.
  pub three_seen : IsRefused (terms_of 1) (changed 2 (record waited_by_2 { event = Waited 1 3 }) journal)
  unfolding items passes level_counters sent_count
  three_seen run = search rules

  pub eight_seen : IsRefused (terms_of 1) (changed 2 (record waited_by_2 { event = Waited 1 8 }) journal)
  unfolding items passes level_counters sent_count
  eight_seen run = search rules

  pub five_seen_at_last : IsRefused (terms_of 1) (changed 2 (record waited_by_2 { event = WaitSpent 1 5 1000000 }) journal)
  unfolding items passes level_counters sent_count
  five_seen_at_last run = search rules

  pub ended_at_3 : IsRefused (terms_of 1) (changed 3 (record end_1 { event = End 1 (all_rows given) 3 }) journal)
  unfolding items passes level_counters sent_count
  ended_at_3 run = search rules

  -- Two neighbours are exchanged: where no plan is on, nothing but 0 is seen.
  pub waited_before_begin : IsRefused (terms_of 1) (exchanged 1 journal)
  unfolding items passes level_counters sent_count
  waited_before_begin run = search rules

  pub waited_after_end : IsRefused (terms_of 1) (exchanged 2 journal)
  unfolding items passes level_counters sent_count
  waited_after_end run = search rules

  -- One entry is dropped.
  pub never_begun : IsRefused (terms_of 1) (dropped 1 journal)
  unfolding items passes level_counters sent_count
  never_begun run = search rules

  pub never_ended : IsRefused (terms_of 1) (dropped 3 journal)
  unfolding items passes level_counters sent_count
  never_ended run = search rules

  -- A number that was seen isn't taken back.
  pub queued_at_0_later : IsRefused (terms_of 1) (inserted 2 (on_1 3 2 2 (Queued 1 Analyze 0 1000000)) journal)
  unfolding items passes level_counters sent_count
  queued_at_0_later run = search rules

  -- desk 2
  abbrev pub begin_2 : Entry
  begin_2 = on_2 2 1 1 (begin_plain given 1)

  abbrev pub end_2 : Entry
  end_2 = on_2 2 3 5 (End 1 (outcome.Waited 4) 0)

  abbrev pub close_2 : Entry
  close_2 = on_2 2 4 6 Close

  abbrev pub journal_2 : List Entry
  journal_2 = begin_2 ∷ end_2 ∷ close_2 ∷ []

  pub accepted_2 : IsDeskRun (terms_of 2) journal_2
  accepted_2 = search rules
