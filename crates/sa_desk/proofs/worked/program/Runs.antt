-- How runs end, on the query `SELECT a FROM t` over three rows, which has seven items, by four a turn. It began in turn 1.
use Rattle.std.proofs.Common.{ℕ, ◌+◌, ◌*◌, ◌^◌, ◌<◌, ◌≤◌, [], ◌∷◌, true, false, refl, inr, rules}
use Rattle.sa_plan.specs.declared.plan.Planned.{Planned}
use Rattle.sa_meaning.specs.Counts.{level_counters, sent_count}
use Rattle.sa_meaning.specs.Items.{items, passes}
use Rattle.sa_meaning.specs.Output.{output, kept}
use Rattle.sa_meaning.specs.Progress.{EmitsAt}
use Rattle.sa_desk.specs.declared.outcome.Outcome.{Outcome}
use Rattle.sa_desk.specs.declared.outcome.Outcome.TheVariants as outcome
use Rattle.sa_desk.specs.program.Course.{Given}
use Rattle.sa_desk.specs.program.RunEnds.{IsRoundedUp, RunEnds}
use Rattle.sa_desk.proofs.worked.Query.{Open, plan, tables, report}
use Rattle.sa_desk.proofs.worked.program.Rows.{given_of}

module _ (open_names : Open) where
  abbrev given : Given
  given = given_of (tables open_names) []

  abbrev planned : Planned
  planned = record { plan = plan open_names }

  -- All rows come in the second turn after the Begin, and no other.
  abbrev rows : Outcome
  rows = outcome.Rows (open_names.column ∷ []) (output (plan open_names) (tables open_names))

  pub all_given : RunEnds given (2 ^ 40) 1 1 false planned 7 3 rows
  unfolding items passes kept
  all_given = (refl, refl, record { all = refl; clear = (search rules, search rules); last = inr (search rules, 2, (search rules, search rules), refl) })

  pub all_given_late : RunEnds given (2 ^ 40) 1 1 false planned 7 4 rows → ⊥
  unfolding items passes kept
  all_given_late row = search rules

  pub all_given_early : RunEnds given (2 ^ 40) 1 1 false planned 7 2 rows → ⊥
  unfolding items passes kept
  all_given_early row = search rules

  pub some_given : RunEnds given (2 ^ 40) 1 1 false planned 6 3 rows → ⊥
  unfolding items passes kept
  some_given row = search rules

  pub given_past_limit : RunEnds given 6 1 1 false planned 7 3 rows → ⊥
  unfolding items passes kept
  given_past_limit row = search rules

  -- an ANALYZE, with all that was counted
  pub analyzed : RunEnds given (2 ^ 40) 1 1 true planned 7 3 (outcome.Analyzed (plan open_names) (report 7 3 3 3))
  unfolding items passes kept level_counters sent_count
  analyzed = (refl, refl, record { all = refl; clear = (search rules, search rules); last = inr (search rules, 2, (search rules, search rules), refl) })

  pub analyzed_otherwise : RunEnds given (2 ^ 40) 1 1 true planned 7 3 (outcome.Analyzed (plan open_names) (report 7 3 3 2)) → ⊥
  unfolding items passes kept level_counters sent_count
  analyzed_otherwise row = search rules

  pub analyzed_select : RunEnds given (2 ^ 40) 1 1 false planned 7 3 (outcome.Analyzed (plan open_names) (report 7 3 3 3)) → ⊥
  analyzed_select row = row

  -- A limit of five steps ends it in the second turn after the Begin.
  pub limited : RunEnds given 5 1 1 false planned 5 3 outcome.RowLimit
  unfolding items passes kept
  limited = (record { more = search rules; clear = (search rules, search rules); turns = 1; rounded = (search rules, search rules); last = refl }, refl)

  pub limited_early : RunEnds given 5 1 1 false planned 5 2 outcome.RowLimit → ⊥
  unfolding items passes kept
  limited_early row = search rules

  pub limited_at_last : RunEnds given 7 1 1 false planned 7 3 outcome.RowLimit → ⊥
  unfolding items passes kept
  limited_at_last row = search rules

  -- Memory may run out where a row is given out, and nowhere else.
  pub starves : RunEnds given (2 ^ 40) 1 1 false planned 4 3 outcome.OutOfMemory
  unfolding items passes kept EmitsAt
  starves = (
    record { more = search rules; clear = (search rules, search rules); turns = 1; rounded = (search rules, search rules); last = refl },
    (search rules, search rules),
    tt,
  )

  pub starves_at_read : RunEnds given (2 ^ 40) 1 1 false planned 5 3 outcome.OutOfMemory → ⊥
  unfolding items passes kept EmitsAt
  starves_at_read row = search rules

  -- A kill is seen after whole turns.
  pub interrupted : RunEnds given (2 ^ 40) 1 1 false planned 4 3 outcome.Interrupted
  unfolding items passes kept
  interrupted = (
    record { more = search rules; clear = (search rules, search rules); turns = 1; rounded = (search rules, search rules); last = refl },
    1,
    search rules,
    refl,
  )

  pub interrupted_within : RunEnds given (2 ^ 40) 1 1 false planned 5 3 outcome.Interrupted → ⊥
  unfolding items passes kept
  interrupted_within row = search rules

  pub interrupted_at_once : RunEnds given (2 ^ 40) 1 1 false planned 0 2 outcome.Interrupted → ⊥
  unfolding items passes kept
  interrupted_at_once row = search rules

-- After so many points at most a quantum more is the next whole turn.
pub last_turn : (steps quantum points : ℕ) → points * quantum < steps → steps ≤ points * quantum + quantum → IsRoundedUp steps quantum (points + 1)
last_turn steps quantum points more most = (search rules, search rules)
