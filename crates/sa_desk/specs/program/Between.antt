-- Which entries a statement without a run makes between its Begin and its End, and in which turns.
use Rattle.std.specs.Prelude.{◌≡◌, ℕ, ◌+◌, ◌-◌, ◌*◌, ◌<◌, ◌≤◌, List, [], ◌∷◌}
use Rattle.sa_ast.specs.declared.kind.AskKind.{AskKind}
use Rattle.sa_ast.specs.declared.kind.KillKind.{KillKind}
use Rattle.sa_count.specs.declared.report.Report.{Report}
use Rattle.sa_desk.specs.declared.entry.Entry.{Entry}
use Rattle.sa_desk.specs.declared.entry.Event.{Event}
use Rattle.sa_desk.specs.declared.entry.Event.TheVariants.{Queued, Refused, Taken, Spent, Withdrawn, KillSent, Waited, WaitSpent}
use Rattle.sa_desk.specs.declared.entry.RefusedWhy.{RefusedWhy}
use Rattle.sa_desk.specs.declared.entry.RefusedWhy.TheVariants as why
use Rattle.sa_desk.specs.declared.outcome.Outcome.{Outcome}
use Rattle.sa_desk.specs.declared.outcome.Outcome.TheVariants as outcome
use Rattle.sa_desk.specs.program.Course.{Given, Course, says, shows, waits, kills}

-- The next turn of a statement is its End, with this outcome where no kill stands; or something
-- comes before.
pub data Due : Type 0 where
  goes_on : Due
  ends : (outcome : Outcome) → Due

-- the outcome of what was refused at a desk
abbrev pub refused_for : RefusedWhy → Outcome
refused_for why.NotExplainable = outcome.NotExplainable
refused_for why.NoSuchThread = outcome.NoSuchThread

-- Turn t is the one after twice k turns from b on, with k from least to most.
abbrev pub IsPair : (b least most t : ℕ) → Type 0
IsPair b least most t = (k : ℕ) × (least ≤ k) × (k ≤ most) × (t ≡ b + 2 * k)

-- After turn t of the statement of this number, begun in turn b, these are its entries since the
-- Begin, and this is due.
module _ (given : Given) (number b : ℕ) where
  -- A SHOW of session i asked in turn b + 1. It polls and looks for a kill in turns: the entry that
  -- ends its request stands at b + 2k, k being how often it has polled.
  abbrev pub Leaves : AskKind → (i t : ℕ) → Event → Due → Type 0
  Leaves kind i t (Taken request) due =
      (request ≡ number) × IsPair b 1 given.turns t × (report : Report) × (begin : ℕ)
      × (due ≡ ends (outcome.Shown kind i begin report))
  Leaves kind i t (Spent request turns) due =
      (request ≡ number) × (turns ≡ given.turns) × (t ≡ b + 2 * given.turns)
      × (due ≡ ends (outcome.TimedOut given.turns))
  Leaves kind i t (Withdrawn request) due =
      (request ≡ number) × IsPair b 2 given.turns t × (due ≡ ends outcome.Interrupted)
  Leaves kind i t event due = ⊥

  abbrev pub AfterQueued : AskKind → (i : ℕ) → List Entry → (t : ℕ) → Due → Type 0
  AfterQueued kind i [] t due = (b + 1 ≤ t) × (t < b + 2 * given.turns) × (due ≡ goes_on)
  AfterQueued kind i (last ∷ []) t due =
      (last.desk ≡ i) × (last.turn ≡ t) × Leaves kind i t last.event due
  AfterQueued kind i entries t due = ⊥

  abbrev pub AfterAsk : AskKind → (i : ℕ) → Event → List Entry → (t : ℕ) → Due → Type 0
  AfterAsk kind i (Refused request reason) [] t due =
      (request ≡ number) × (t ≡ b + 1) × (due ≡ ends (refused_for reason))
  AfterAsk kind i (Queued request asked at budget) entries t due =
      (request ≡ number) × (asked ≡ kind) × (budget ≡ given.turns) × AfterQueued kind i entries t due
  AfterAsk kind i event entries t due = ⊥

  -- A WAIT for session i at n looks from turn b + 1 on, every other turn: the entry that ends it
  -- stands at b + 2k - 1.
  abbrev pub Sees : (i at t : ℕ) → Event → Due → Type 0
  Sees i at t (Refused waiter why.NoSuchThread) due =
      (waiter ≡ number) × IsPair b 1 given.turns (t + 1) × (due ≡ ends outcome.NoSuchThread)
  Sees i at t (Waited waiter steps) due =
      (waiter ≡ number) × IsPair b 1 given.turns (t + 1) × (at ≤ steps)
      × (due ≡ ends (outcome.Waited steps))
  Sees i at t (WaitSpent waiter steps turns) due =
      (waiter ≡ number) × (turns ≡ given.turns) × (steps < at) × (t + 1 ≡ b + 2 * given.turns) ×
      (due ≡ ends (outcome.WaitSpent steps turns))
  Sees i at t event due = ⊥

  -- a wait that goes on, or that a kill ends, seen after k looks
  abbrev pub StillWaits : (t : ℕ) → Due → Type 0
  StillWaits t goes_on = (b ≤ t) × (t + 1 < b + 2 * given.turns)
  StillWaits t (ends result) = (result ≡ outcome.Interrupted) × IsPair b 1 (given.turns - 1) t

  -- a KILL of session i
  abbrev pub Hits : KillKind → Event → Due → Type 0
  Hits kind (KillSent killer sent) due =
      (killer ≡ number) × (sent ≡ kind) × (due ≡ ends outcome.KillSent)
  Hits kind (Refused killer why.NoSuchThread) due =
      (killer ≡ number) × (due ≡ ends outcome.NoSuchThread)
  Hits kind event due = ⊥

  abbrev pub Between : Course → List Entry → (t : ℕ) → Due → Type 0
  Between (says result) [] t due = (t ≡ b) × (due ≡ ends result)
  Between (shows kind i) [] t due = (t ≡ b) × (due ≡ goes_on)
  Between (shows kind i) (first ∷ entries) t due =
      (first.desk ≡ i) × (first.turn ≡ b + 1) × AfterAsk kind i first.event entries t due
  Between (waits i at) [] t due = StillWaits t due
  Between (waits i at) (only ∷ []) t due =
      (only.desk ≡ i) × (only.turn ≡ t) × Sees i at t only.event due
  Between (kills kind i) [] t due = (t ≡ b) × (due ≡ goes_on)
  Between (kills kind i) (only ∷ []) t due =
      (only.desk ≡ i) × (only.turn ≡ t) × (t ≡ b + 1) × Hits kind only.event due
  Between course entries t due = ⊥
