-- Sessions 3 and 2 ask, in this order, for the counters of session 1's query, and both are answered after its first four steps.
use Rattle.std.proofs.Common.{List, [], ◌∷◌, rules}
use Rattle.sa_ast.specs.declared.kind.AskKind.TheVariants.{Analyze}
use Rattle.sa_ast.specs.declared.kind.KillKind.TheVariants.{Query}
use Rattle.sa_meaning.specs.Items.{items, passes}
use Rattle.sa_meaning.specs.Counts.{level_counters, sent_count}
use Rattle.sa_desk.specs.declared.entry.Entry.{Entry}
use Rattle.sa_desk.specs.declared.entry.Event.TheVariants.{Queued, Served, Taken, KillSent, End, Close}
use Rattle.sa_desk.specs.Runs.{IsDeskRun}
use Rattle.sa_desk.proofs.worked.Query.{Open, on_1, begin_query, all_rows, report, terms_of, changed, dropped, exchanged, inserted, IsRefused}

module _ (given : Open) where
  abbrev pub begin_1 : Entry
  begin_1 = on_1 1 1 1 (begin_query given 1)

  abbrev pub queued_by_3 : Entry
  queued_by_3 = on_1 3 2 2 (Queued 1 Analyze 0 1000000)

  abbrev pub queued_by_2 : Entry
  queued_by_2 = on_1 2 2 2 (Queued 1 Analyze 0 1000000)

  abbrev pub served_to_3 : Entry
  served_to_3 = on_1 1 2 2 (Served 3 1 (report 4 2 2 1))

  abbrev pub served_to_2 : Entry
  served_to_2 = on_1 1 3 2 (Served 2 1 (report 4 2 2 1))

  abbrev pub end_1 : Entry
  end_1 = on_1 1 4 3 (End 1 (all_rows given) 7)

  abbrev pub taken_by_2 : Entry
  taken_by_2 = on_1 2 3 3 (Taken 1)

  abbrev pub taken_by_3 : Entry
  taken_by_3 = on_1 3 3 3 (Taken 1)

  abbrev pub close_1 : Entry
  close_1 = on_1 1 5 4 Close

  abbrev pub journal : List Entry
  journal = begin_1 ∷ queued_by_3 ∷ queued_by_2 ∷ served_to_3 ∷ served_to_2 ∷ end_1 ∷ taken_by_2 ∷ taken_by_3 ∷ close_1 ∷ []

  pub accepted : IsDeskRun (terms_of 1) journal
  unfolding items passes level_counters sent_count
  accepted = search rules

  -- One entry is changed: all that wait are served in one turn and with one number of steps.
  pub second_late : IsRefused (terms_of 1) (changed 5 (record served_to_2 { turn = 3 }) journal)
  unfolding items passes level_counters sent_count
  second_late run = search rules

  pub second_with_three_steps : IsRefused (terms_of 1) (changed 5 (record served_to_2 { event = Served 2 1 (report 3 1 1 1) }) journal)
  unfolding items passes level_counters sent_count
  second_with_three_steps run = search rules

  pub second_miscounted : IsRefused (terms_of 1) (changed 5 (record served_to_2 { event = Served 2 1 (report 4 2 2 0) }) journal)
  unfolding items passes level_counters sent_count
  second_miscounted run = search rules

  pub first_with_three_steps : IsRefused (terms_of 1) (changed 4 (record served_to_3 { event = Served 3 1 (report 3 1 1 1) }) journal)
  unfolding items passes level_counters sent_count
  first_with_three_steps run = search rules

  pub first_to_2 : IsRefused (terms_of 1) (changed 4 (record served_to_3 { event = Served 2 1 (report 4 2 2 1) }) journal)
  unfolding items passes level_counters sent_count
  first_to_2 run = search rules

  -- While one waits, the number of steps that is published doesn't rise; and nobody waits twice.
  pub second_queued_at_4 : IsRefused (terms_of 1) (changed 3 (record queued_by_2 { event = Queued 1 Analyze 4 1000000 }) journal)
  unfolding items passes level_counters sent_count
  second_queued_at_4 run = search rules

  pub queued_twice_by_3 : IsRefused (terms_of 1) (changed 3 (record queued_by_2 { actor = 3 }) journal)
  unfolding items passes level_counters sent_count
  queued_twice_by_3 run = search rules

  pub taken_twice_by_3 : IsRefused (terms_of 1) (changed 7 (record taken_by_2 { actor = 3 }) journal)
  unfolding items passes level_counters sent_count
  taken_twice_by_3 run = search rules

  -- Two neighbours are exchanged: the oldest is served first, and none comes in between.
  pub queued_in_another_order : IsRefused (terms_of 1) (exchanged 2 journal)
  unfolding items passes level_counters sent_count
  queued_in_another_order run = search rules

  pub served_newest_first : IsRefused (terms_of 1) (exchanged 4 journal)
  unfolding items passes level_counters sent_count
  served_newest_first run = search rules

  pub served_before_second_queued : IsRefused (terms_of 1) (exchanged 3 journal)
  unfolding items passes level_counters sent_count
  served_before_second_queued run = search rules

  pub ended_before_second_served : IsRefused (terms_of 1) (exchanged 5 journal)
  unfolding items passes level_counters sent_count
  ended_before_second_served run = search rules

  -- One entry is dropped.
  pub third_never_queued : IsRefused (terms_of 1) (dropped 2 journal)
  unfolding items passes level_counters sent_count
  third_never_queued run = search rules

  pub second_never_queued : IsRefused (terms_of 1) (dropped 3 journal)
  unfolding items passes level_counters sent_count
  second_never_queued run = search rules

  pub third_never_served : IsRefused (terms_of 1) (dropped 4 journal)
  unfolding items passes level_counters sent_count
  third_never_served run = search rules

  pub second_never_served : IsRefused (terms_of 1) (dropped 5 journal)
  unfolding items passes level_counters sent_count
  second_never_served run = search rules

  pub never_ended : IsRefused (terms_of 1) (dropped 6 journal)
  unfolding items passes level_counters sent_count
  never_ended run = search rules

  -- Nothing comes between the two that are served.
  pub taken_in_between : IsRefused (terms_of 1) (inserted 4 (on_1 3 3 3 (Taken 1)) journal)
  unfolding items passes level_counters sent_count
  taken_in_between run = search rules

  pub killed_in_between : IsRefused (terms_of 1) (inserted 4 (on_1 2 3 3 (KillSent 2 Query)) journal)
  unfolding items passes level_counters sent_count
  killed_in_between run = search rules
