-- What a statement without a run makes between its Begin and its End, and with which outcomes it may end.
use Rattle.std.proofs.Common.{◌≡◌, ℕ, List, [], ◌∷◌, All, sym, subst}
use Rattle.std.specs.Prelude.{⊤}
use Rattle.std.proofs.lemmas.List.Elements.{All-nil, All-cons}
use Rattle.sa_ast.specs.declared.kind.AskKind.{AskKind}
use Rattle.sa_ast.specs.declared.kind.KillKind.{KillKind}
use Rattle.sa_desk.specs.declared.entry.Entry.{Entry}
use Rattle.sa_desk.specs.declared.entry.Event.{Event}
use Rattle.sa_desk.specs.declared.entry.Event.TheVariants.{Queued, Refused, Taken, Spent, Withdrawn, KillSent, Waited, WaitSpent}
use Rattle.sa_desk.specs.declared.entry.RefusedWhy.{RefusedWhy}
use Rattle.sa_desk.specs.declared.entry.RefusedWhy.TheVariants as why
use Rattle.sa_desk.specs.declared.outcome.Outcome.{Outcome}
use Rattle.sa_desk.specs.declared.outcome.Outcome.TheVariants as outcome
use Rattle.sa_desk.specs.law.On.{IsWithin}
use Rattle.sa_desk.specs.program.Course.{Given, Course, says, shows, waits, kills}
use Rattle.sa_desk.specs.program.Between.{Due, goes_on, ends, refused_for, Leaves, AfterQueued, AfterAsk, Sees, StillWaits, Hits, Between}

-- The entry is neither a Begin nor an End.
abbrev pub IsInside : Entry → Type 0
IsInside entry = IsWithin entry.event

-- the outcomes of a statement that looks into a session, waits for one or kills one
abbrev pub IsOfOthers : Outcome → Type 0
IsOfOthers (outcome.Shown kind desk begin report) = ⊤
IsOfOthers (outcome.TimedOut turns) = ⊤
IsOfOthers outcome.Interrupted = ⊤
IsOfOthers outcome.KillSent = ⊤
IsOfOthers (outcome.Waited steps) = ⊤
IsOfOthers (outcome.WaitSpent steps turns) = ⊤
IsOfOthers outcome.NoSuchThread = ⊤
IsOfOthers outcome.NotExplainable = ⊤
IsOfOthers result = ⊥

abbrev IsDue : Due → Type 0
IsDue goes_on = ⊤
IsDue (ends result) = IsOfOthers result

-- A statement of this course may end so.
abbrev pub MayEnd : Course → Outcome → Type 0
MayEnd (says said) result = result ≡ said
MayEnd course result = IsOfOthers result

refused_due : (reason : RefusedWhy) → IsOfOthers (refused_for reason)
refused_due why.NotExplainable = tt
refused_due why.NoSuchThread = tt

module _ (given : Given) (number b : ℕ) where
  leaves_due : (kind : AskKind) (i t : ℕ) (event : Event) (due : Due) → Leaves given number b kind i t event due → IsDue due
  leaves_due kind i t (Taken request) due is = subst IsDue (sym is.4) tt
  leaves_due kind i t (Spent request turns) due is = subst IsDue (sym is.3) tt
  leaves_due kind i t (Withdrawn request) due is = subst IsDue (sym is.2) tt
  leaves_due kind i t event due is = absurd is

  leaves_event : (kind : AskKind) (i t : ℕ) (event : Event) (due : Due) → Leaves given number b kind i t event due → IsWithin event
  leaves_event kind i t (Taken request) due is = tt
  leaves_event kind i t (Spent request turns) due is = tt
  leaves_event kind i t (Withdrawn request) due is = tt
  leaves_event kind i t event due is = absurd is

  queued_due : (kind : AskKind) (i : ℕ) (entries : List Entry) (t : ℕ) (due : Due) → AfterQueued given number b kind i entries t due → IsDue due
  queued_due kind i [] t due is = subst IsDue (sym is.2) tt
  queued_due kind i (last ∷ []) t due is = leaves_due kind i t last.event due is.2
  queued_due kind i (last ∷ more ∷ rest) t due is = absurd is

  queued_events : (kind : AskKind) (i : ℕ) (entries : List Entry) (t : ℕ) (due : Due) → AfterQueued given number b kind i entries t due → All IsInside entries
  queued_events kind i [] t due is = All-nil IsInside
  queued_events kind i (last ∷ []) t due is =
      All-cons IsInside last [] (leaves_event kind i t last.event due is.2) (All-nil IsInside)
  queued_events kind i (last ∷ more ∷ rest) t due is = absurd is

  asked_due : (kind : AskKind) (i : ℕ) (event : Event) (entries : List Entry) (t : ℕ) (due : Due) → AfterAsk given number b kind i event entries t due → IsDue due
  asked_due kind i (Refused request reason) [] t due is = subst IsDue (sym is.2) (refused_due reason)
  asked_due kind i (Queued request asked at budget) entries t due is = queued_due kind i entries t due is.3
  asked_due kind i event entries t due is = absurd is

  asked_event : (kind : AskKind) (i : ℕ) (event : Event) (entries : List Entry) (t : ℕ) (due : Due) → AfterAsk given number b kind i event entries t due → IsWithin event
  asked_event kind i (Refused request reason) entries t due is = tt
  asked_event kind i (Queued request asked at budget) entries t due is = tt
  asked_event kind i event entries t due is = absurd is

  asked_events : (kind : AskKind) (i : ℕ) (event : Event) (entries : List Entry) (t : ℕ) (due : Due) → AfterAsk given number b kind i event entries t due → All IsInside entries
  asked_events kind i (Refused request reason) [] t due is = All-nil IsInside
  asked_events kind i (Queued request asked at budget) entries t due is = queued_events kind i entries t due is.3
  asked_events kind i event entries t due is = absurd is

  sees_due : (i at t : ℕ) (event : Event) (due : Due) → Sees given number b i at t event due → IsDue due
  sees_due i at t (Refused waiter why.NoSuchThread) due is = subst IsDue (sym is.2) tt
  sees_due i at t (Refused waiter why.NotExplainable) due is = absurd is
  sees_due i at t (Waited waiter steps) due is = subst IsDue (sym is.3) tt
  sees_due i at t (WaitSpent waiter steps turns) due is = subst IsDue (sym is.4) tt
  sees_due i at t event due is = absurd is

  sees_event : (i at t : ℕ) (event : Event) (due : Due) → Sees given number b i at t event due → IsWithin event
  sees_event i at t (Refused waiter reason) due is = tt
  sees_event i at t (Waited waiter steps) due is = tt
  sees_event i at t (WaitSpent waiter steps turns) due is = tt
  sees_event i at t event due is = absurd is

  waits_due : (t : ℕ) (due : Due) → StillWaits given number b t due → IsDue due
  waits_due t goes_on is = tt
  waits_due t (ends result) is = subst IsOfOthers (sym is.0) tt

  hits_due : (kind : KillKind) (event : Event) (due : Due) → Hits given number b kind event due → IsDue due
  hits_due kind (KillSent killer sent) due is = subst IsDue (sym is.2) tt
  hits_due kind (Refused killer why.NoSuchThread) due is = subst IsDue (sym is.1) tt
  hits_due kind (Refused killer why.NotExplainable) due is = absurd is
  hits_due kind event due is = absurd is

  hits_event : (kind : KillKind) (event : Event) (due : Due) → Hits given number b kind event due → IsWithin event
  hits_event kind (KillSent killer sent) due is = tt
  hits_event kind (Refused killer reason) due is = tt
  hits_event kind event due is = absurd is

  pub between_end : (course : Course) (entries : List Entry) (t : ℕ) (result : Outcome) → Between given number b course entries t (ends result) → MayEnd course result
  between_end (says said) [] t result is = let same : ends result ≡ ends said = is.1 in cc
  between_end (shows kind i) (first ∷ entries) t result is = asked_due kind i first.event entries t (ends result) is.2
  between_end (waits i at) [] t result is = waits_due t (ends result) is
  between_end (waits i at) (only ∷ []) t result is = sees_due i at t only.event (ends result) is.2
  between_end (kills kind i) (only ∷ []) t result is = hits_due kind only.event (ends result) is.3
  between_end (shows kind i) [] t result is = let same : ends result ≡ goes_on = is.1 in absurd (cc same)
  between_end (kills kind i) [] t result is = let same : ends result ≡ goes_on = is.1 in absurd (cc same)
  between_end course entries t result is = absurd is

  pub between_events : (course : Course) (entries : List Entry) (t : ℕ) (due : Due)
      → Between given number b course entries t due → All IsInside entries
  between_events (says result) [] t due is = All-nil IsInside
  between_events (shows kind i) [] t due is = All-nil IsInside
  between_events (shows kind i) (first ∷ entries) t due is =
      All-cons IsInside first entries (asked_event kind i first.event entries t due is.2) (asked_events kind i first.event entries t due is.2)
  between_events (waits i at) [] t due is = All-nil IsInside
  between_events (waits i at) (only ∷ []) t due is =
      All-cons IsInside only [] (sees_event i at t only.event due is.2) (All-nil IsInside)
  between_events (kills kind i) [] t due is = All-nil IsInside
  between_events (kills kind i) (only ∷ []) t due is =
      All-cons IsInside only [] (hits_event kind only.event due is.3) (All-nil IsInside)
  between_events course entries t due is = absurd is
