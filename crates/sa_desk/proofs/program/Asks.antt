-- A SHOW, from one turn to the next.
use Rattle.std.proofs.Common.{◌≡◌, ℕ, ◌+◌, ◌*◌, ◌<◌, ◌≤◌, [], ◌∷◌, refl, sym, subst, ap, ◌∙◌, arith, rules}
use Rattle.sa_ast.specs.declared.kind.AskKind.{AskKind}
use Rattle.sa_count.specs.declared.report.Report.{Report}
use Rattle.sa_desk.specs.declared.entry.Entry.{Entry}
use Rattle.sa_desk.specs.declared.entry.Event.{Event}
use Rattle.sa_desk.specs.declared.entry.Event.TheVariants.{Queued, Refused, Taken, Spent, Withdrawn}
use Rattle.sa_desk.specs.declared.entry.RefusedWhy.{RefusedWhy}
use Rattle.sa_desk.specs.declared.outcome.Outcome.TheVariants as outcome
use Rattle.sa_desk.specs.program.Course.{Given, shows}
use Rattle.sa_desk.specs.program.Between.{Due, goes_on, ends, refused_for, Leaves, AfterAsk, Between}

-- The entry stands on desk i, and was made in the turn after t with this event.
pub record IsNext (i : ℕ) (entry : Entry) (t : ℕ) (event : Event) : Type 0 where
  pub here : entry.desk ≡ i
  pub now : entry.turn ≡ t + 1
  pub is : entry.event ≡ event

module _ (given : Given) (number b : ℕ) (kind : AskKind) (i : ℕ) where
  -- the request is refused
  pub ask-refused : (entry : Entry) (t : ℕ) (reason : RefusedWhy) → IsNext i entry t (Refused number reason) → Between given number b (shows kind i) [] t goes_on
      → Between given number b (shows kind i) (entry ∷ []) (t + 1) (ends (refused_for reason))
  ask-refused entry t reason next row = (
    next.here,
    next.now ∙ ap (λ turn. turn + 1) row.0,
    subst (λ event. AfterAsk given number b kind i event [] (t + 1) (ends (refused_for reason))) (sym next.is) (refl, ap (λ turn. turn + 1) row.0, refl),
  )

  -- or it is queued
  pub ask-queued : (entry : Entry) (t at : ℕ) → 1 ≤ given.turns → IsNext i entry t (Queued number kind at given.turns) → Between given number b (shows kind i) [] t goes_on
      → Between given number b (shows kind i) (entry ∷ []) (t + 1) goes_on
  ask-queued entry t at lasts next row =
      let from = row.0 in (
        next.here,
        next.now ∙ ap (λ turn. turn + 1) from,
        subst (λ event. AfterAsk given number b kind i event [] (t + 1) goes_on) (sym next.is) (refl, refl, refl, (omega arith, omega arith, refl)),
      )

  -- Nothing came, and some turns are left.
  still_queued : (t : ℕ) (event : Event) → t + 1 < b + 2 * given.turns → AfterAsk given number b kind i event [] t goes_on → AfterAsk given number b kind i event [] (t + 1) goes_on
  still_queued t (Queued request asked at budget) left row = let from = row.3.0 in (row.0, row.1, row.2, (omega arith, left, refl))
  still_queued t (Refused request reason) left row = search rules
  still_queued t event left row = absurd row

  pub asks-on : (first : Entry) (t : ℕ) → t + 1 < b + 2 * given.turns → Between given number b (shows kind i) (first ∷ []) t goes_on
      → Between given number b (shows kind i) (first ∷ []) (t + 1) goes_on
  asks-on first t left row = (row.0, row.1, still_queued t first.event left row.2)

  -- The request ends: it leaves the desk with this entry.
  ended : (entry : Entry) (t : ℕ) (event last : Event) (due : Due) → IsNext i entry t last → Leaves given number b kind i (t + 1) last due
      → AfterAsk given number b kind i event [] t goes_on → AfterAsk given number b kind i event (entry ∷ []) (t + 1) due
  ended entry t (Queued request asked at budget) last due next leaves row =
      (row.0, row.1, row.2, (next.here, next.now, subst (λ event. Leaves given number b kind i (t + 1) event due) (sym next.is) leaves))
  ended entry t (Refused request reason) last due next leaves row = search rules
  ended entry t event last due next leaves row = absurd row

  ends-as : (first entry : Entry) (t : ℕ) (last : Event) (due : Due) → IsNext i entry t last → Leaves given number b kind i (t + 1) last due
      → Between given number b (shows kind i) (first ∷ []) t goes_on → Between given number b (shows kind i) (first ∷ entry ∷ []) (t + 1) due
  ends-as first entry t last due next leaves row = (row.0, row.1, ended entry t first.event last due next leaves row.2)

  -- The answer is taken at poll k.
  pub poll-taken : (first entry : Entry) (t k : ℕ) (report : Report) (begin : ℕ) → 1 ≤ k → k ≤ given.turns → t + 1 ≡ b + 2 * k → IsNext i entry t (Taken number)
      → Between given number b (shows kind i) (first ∷ []) t goes_on
      → Between given number b (shows kind i) (first ∷ entry ∷ []) (t + 1) (ends (outcome.Shown kind i begin report))
  poll-taken first entry t k report begin least most turn next row =
      ends-as first entry t (Taken number) (ends (outcome.Shown kind i begin report)) next (refl, (k, least, most, turn), report, begin, refl) row

  -- The last poll spends the request.
  pub poll-spent : (first entry : Entry) (t : ℕ) → t + 1 ≡ b + 2 * given.turns → IsNext i entry t (Spent number given.turns)
      → Between given number b (shows kind i) (first ∷ []) t goes_on
      → Between given number b (shows kind i) (first ∷ entry ∷ []) (t + 1) (ends (outcome.TimedOut given.turns))
  poll-spent first entry t late next row = ends-as first entry t (Spent number given.turns) (ends (outcome.TimedOut given.turns)) next (refl, refl, late, refl) row

  -- A killed statement withdraws it in place of poll k, or takes the answer, of which nothing is shown.
  pub withdrawn-removed : (first entry : Entry) (t k : ℕ) → 2 ≤ k → k ≤ given.turns → t + 1 ≡ b + 2 * k → IsNext i entry t (Withdrawn number)
      → Between given number b (shows kind i) (first ∷ []) t goes_on
      → Between given number b (shows kind i) (first ∷ entry ∷ []) (t + 1) (ends outcome.Interrupted)
  withdrawn-removed first entry t k least most turn next row =
      ends-as first entry t (Withdrawn number) (ends outcome.Interrupted) next (refl, (k, least, most, turn), refl) row
