-- Each entry of a session stands on one of the script's desks, and each Shown is of one of them.
use Rattle.std.proofs.Common.{◌≡◌, ℕ, ◌+◌, ◌<◌, ◌≤◌, ◌&&◌, Bool, true, false, if◌then◌else◌, List, [], ◌∷◌, ◌++◌, All, inl, inr, refl, sym, subst, arith}
use Rattle.std.specs.Prelude.{⊤, ◌⊎◌, nat_lt}
use Rattle.std.proofs.lemmas.Bool.Decides.{nat_tests}
use Rattle.std.proofs.lemmas.List.Elements.{All-nil, All-cons, All-append, All-weaker, All-same}
use Rattle.sa_ast.specs.declared.kind.AskKind.{AskKind}
use Rattle.sa_ast.specs.declared.kind.KillKind.{KillKind}
use Rattle.sa_plan.specs.declared.plan.Planned.{Planned}
use Rattle.sa_plan.specs.declared.prepared.Work.TheVariants as work
use Rattle.sa_desk.specs.declared.entry.Entry.{Entry}
use Rattle.sa_desk.specs.declared.entry.Event.{Event}
use Rattle.sa_desk.specs.declared.entry.Event.TheVariants.{Begin, Queued, Refused, Served, Taken, Spent, Withdrawn, KillSent, Waited, WaitSpent, End}
use Rattle.sa_desk.specs.declared.entry.RefusedWhy.{RefusedWhy}
use Rattle.sa_desk.specs.declared.entry.RefusedWhy.TheVariants as why
use Rattle.sa_desk.specs.declared.outcome.Outcome.{Outcome}
use Rattle.sa_desk.specs.declared.outcome.Outcome.TheVariants as outcome
use Rattle.sa_desk.specs.program.Course.{Given, Answer, prepared, refused, starved, text_of, Settings, settings_after, Course, says, shows, waits, kills, runs, toward, course_of}
use Rattle.sa_desk.specs.program.Between.{Due, goes_on, ends, refused_for, Leaves, AfterQueued, AfterAsk, Sees, StillWaits, Hits, Between}
use Rattle.sa_desk.specs.program.RunEnds.{RunEnds}
use Rattle.sa_desk.specs.program.Statement.{IsOwnEntry, BeginsAs, IsServing, AreServed, EndsAs, IsStatement, Statements}
use Rattle.sa_worker.specs.Keeps.{IsSession}

-- Where it shows what a desk answered, that desk is one of the script's.
abbrev pub Aims : Given → Outcome → Type 0
Aims given (outcome.Shown kind desk begin report) = IsSession given desk
Aims given result = ⊤

abbrev pub IsAimed : Given → Event → Type 0
IsAimed given (End number result steps) = Aims given result
IsAimed given event = ⊤

-- An entry that stands on one of them, and aims so.
abbrev pub IsPlaced : Given → Entry → Type 0
IsPlaced given entry = IsSession given entry.desk × IsAimed given entry.event

abbrev pub ArePlaced : Given → List Entry → Type 0
ArePlaced given entries = All (IsPlaced given) entries

-- A statement is about one of them: what it says at once, shows, waits for or kills.
abbrev CourseAims : Given → Course → Type 0
CourseAims given (says result) = Aims given result
CourseAims given (shows kind desk) = IsSession given desk
CourseAims given (waits desk at) = IsSession given desk
CourseAims given (kills kind desk) = IsSession given desk
CourseAims given (runs analyze planned) = ⊤

inside_is : (given : Given) (id : ℕ) → (nat_lt 0 id && nat_lt id (given.sessions + 1)) ≡ true → IsSession given id
inside_is given id is = record { least = grind (arith, nat_tests); most = grind (arith, nat_tests) }

toward_aims : (given : Given) (id : ℕ) (course : Course) → (IsSession given id → CourseAims given course) → CourseAims given (toward given id course)
toward_aims given id course aims = go (nat_lt 0 id && nat_lt id (given.sessions + 1)) refl
  where
    go : (inside : Bool) → (nat_lt 0 id && nat_lt id (given.sessions + 1)) ≡ inside → CourseAims given (if inside then course else says outcome.NoSuchThread)
    go true is = aims (inside_is given id is)
    go false is = tt

course_aims : (given : Given) (settings : Settings) (answer : Answer) → CourseAims given (course_of given settings answer)
course_aims given settings (refused reason) = tt
course_aims given settings (starved text) = tt
course_aims given settings (prepared text (work.Explain planned)) = tt
course_aims given settings (prepared text (work.SetTrace on)) = tt
course_aims given settings (prepared text (work.SetLimit limit)) = tt
course_aims given settings (prepared text work.TraceRows) = tt
course_aims given settings (prepared text (work.Show kind id)) = toward_aims given id (shows kind id) (λ is. is)
course_aims given settings (prepared text (work.Wait id at)) = toward_aims given id (waits id at) (λ is. is)
course_aims given settings (prepared text (work.Kill kind id)) = toward_aims given id (kills kind id) (λ is. is)
course_aims given settings (prepared text (work.Select planned)) = tt
course_aims given settings (prepared text (work.Analyze planned)) = tt

abbrev DueAims : Given → Due → Type 0
DueAims given goes_on = ⊤
DueAims given (ends result) = Aims given result

refused_aims : (given : Given) (reason : RefusedWhy) → Aims given (refused_for reason)
refused_aims given why.NotExplainable = tt
refused_aims given why.NoSuchThread = tt

module _ (given : Given) (number b : ℕ) where
  none_placed : ArePlaced given []
  none_placed = All-nil (IsPlaced given)

  -- an entry on this desk, and no other
  one_placed : (i : ℕ) (entry : Entry) → IsSession given i → entry.desk ≡ i → IsAimed given entry.event → ArePlaced given (entry ∷ [])
  one_placed i entry there here is = All-cons (IsPlaced given) entry [] (subst (IsSession given) (sym here) there, is) none_placed

  leaves_due : (kind : AskKind) (i t : ℕ) (event : Event) (due : Due) → IsSession given i → Leaves given number b kind i t event due → DueAims given due
  leaves_due kind i t (Taken request) due there is = subst (DueAims given) (sym is.4) there
  leaves_due kind i t (Spent request turns) due there is = subst (DueAims given) (sym is.3) tt
  leaves_due kind i t (Withdrawn request) due there is = subst (DueAims given) (sym is.2) tt
  leaves_due kind i t event due there is = absurd is

  leaves_event : (kind : AskKind) (i t : ℕ) (event : Event) (due : Due) → Leaves given number b kind i t event due → IsAimed given event
  leaves_event kind i t (Taken request) due is = tt
  leaves_event kind i t (Spent request turns) due is = tt
  leaves_event kind i t (Withdrawn request) due is = tt
  leaves_event kind i t event due is = absurd is

  queued_due : (kind : AskKind) (i : ℕ) (entries : List Entry) (t : ℕ) (due : Due) → IsSession given i → AfterQueued given number b kind i entries t due → DueAims given due
  queued_due kind i [] t due there is = subst (DueAims given) (sym is.2) tt
  queued_due kind i (last ∷ []) t due there is = leaves_due kind i t last.event due there is.2
  queued_due kind i (last ∷ more ∷ rest) t due there is = absurd is

  queued_events : (kind : AskKind) (i : ℕ) (entries : List Entry) (t : ℕ) (due : Due) → IsSession given i → AfterQueued given number b kind i entries t due → ArePlaced given entries
  queued_events kind i [] t due there is = none_placed
  queued_events kind i (last ∷ []) t due there is = one_placed i last there is.0 (leaves_event kind i t last.event due is.2)
  queued_events kind i (last ∷ more ∷ rest) t due there is = absurd is

  asked_due : (kind : AskKind) (i : ℕ) (event : Event) (entries : List Entry) (t : ℕ) (due : Due) → IsSession given i → AfterAsk given number b kind i event entries t due → DueAims given due
  asked_due kind i (Refused request reason) [] t due there is = subst (DueAims given) (sym is.2) (refused_aims given reason)
  asked_due kind i (Queued request asked at budget) entries t due there is = queued_due kind i entries t due there is.3
  asked_due kind i event entries t due there is = absurd is

  asked_event : (kind : AskKind) (i : ℕ) (event : Event) (entries : List Entry) (t : ℕ) (due : Due) → AfterAsk given number b kind i event entries t due → IsAimed given event
  asked_event kind i (Refused request reason) entries t due is = tt
  asked_event kind i (Queued request asked at budget) entries t due is = tt
  asked_event kind i event entries t due is = absurd is

  asked_events : (kind : AskKind) (i : ℕ) (event : Event) (entries : List Entry) (t : ℕ) (due : Due) → IsSession given i → AfterAsk given number b kind i event entries t due → ArePlaced given entries
  asked_events kind i (Refused request reason) [] t due there is = none_placed
  asked_events kind i (Queued request asked at budget) entries t due there is = queued_events kind i entries t due there is.3
  asked_events kind i event entries t due there is = absurd is

  sees_due : (i at t : ℕ) (event : Event) (due : Due) → Sees given number b i at t event due → DueAims given due
  sees_due i at t (Refused waiter why.NoSuchThread) due is = subst (DueAims given) (sym is.2) tt
  sees_due i at t (Refused waiter why.NotExplainable) due is = absurd is
  sees_due i at t (Waited waiter steps) due is = subst (DueAims given) (sym is.3) tt
  sees_due i at t (WaitSpent waiter steps turns) due is = subst (DueAims given) (sym is.4) tt
  sees_due i at t event due is = absurd is

  sees_event : (i at t : ℕ) (event : Event) (due : Due) → Sees given number b i at t event due → IsAimed given event
  sees_event i at t (Refused waiter reason) due is = tt
  sees_event i at t (Waited waiter steps) due is = tt
  sees_event i at t (WaitSpent waiter steps turns) due is = tt
  sees_event i at t event due is = absurd is

  waits_due : (t : ℕ) (due : Due) → StillWaits given number b t due → DueAims given due
  waits_due t goes_on is = tt
  waits_due t (ends result) is = subst (Aims given) (sym is.0) tt

  hits_due : (kind : KillKind) (event : Event) (due : Due) → Hits given number b kind event due → DueAims given due
  hits_due kind (KillSent killer sent) due is = subst (DueAims given) (sym is.2) tt
  hits_due kind (Refused killer why.NoSuchThread) due is = subst (DueAims given) (sym is.1) tt
  hits_due kind (Refused killer why.NotExplainable) due is = absurd is
  hits_due kind event due is = absurd is

  hits_event : (kind : KillKind) (event : Event) (due : Due) → Hits given number b kind event due → IsAimed given event
  hits_event kind (KillSent killer sent) due is = tt
  hits_event kind (Refused killer reason) due is = tt
  hits_event kind event due is = absurd is

  -- What is due of a statement without a run aims as its course does.
  due_aims : (course : Course) (entries : List Entry) (t : ℕ) (due : Due) → CourseAims given course → Between given number b course entries t due → DueAims given due
  due_aims (says said) [] t due aims is = subst (DueAims given) (sym is.1) aims
  due_aims (shows kind i) [] t due aims is = subst (DueAims given) (sym is.1) tt
  due_aims (shows kind i) (first ∷ entries) t due aims is = asked_due kind i first.event entries t due aims is.2
  due_aims (waits i at) [] t due aims is = waits_due t due is
  due_aims (waits i at) (only ∷ []) t due aims is = sees_due i at t only.event due is.2
  due_aims (kills kind i) [] t due aims is = subst (DueAims given) (sym is.1) tt
  due_aims (kills kind i) (only ∷ []) t due aims is = hits_due kind only.event due is.3
  due_aims course entries t due aims is = absurd is

  -- So do its entries.
  between_aims : (course : Course) (entries : List Entry) (t : ℕ) (due : Due) → CourseAims given course → Between given number b course entries t due → ArePlaced given entries
  between_aims (says result) [] t due aims is = none_placed
  between_aims (shows kind i) [] t due aims is = none_placed
  between_aims (shows kind i) (first ∷ entries) t due aims is =
      All-cons (IsPlaced given) first entries (subst (IsSession given) (sym is.0) aims, asked_event kind i first.event entries t due is.2) (asked_events kind i first.event entries t due aims is.2)
  between_aims (waits i at) [] t due aims is = none_placed
  between_aims (waits i at) (only ∷ []) t due aims is = one_placed i only aims is.0 (sees_event i at t only.event due is.2)
  between_aims (kills kind i) [] t due aims is = none_placed
  between_aims (kills kind i) (only ∷ []) t due aims is = one_placed i only aims is.0 (hits_event kind only.event due is.3)
  between_aims course entries t due aims is = absurd is

pub between_placed : (given : Given) (settings : Settings) (answer : Answer) (number b : ℕ) (entries : List Entry) (t : ℕ) (due : Due)
    → Between given number b (course_of given settings answer) entries t due → ArePlaced given entries
between_placed given settings answer number b entries t due row = between_aims given number b (course_of given settings answer) entries t due (course_aims given settings answer) row

-- The outcome that is due of a statement, or Interrupted in its place.
pub aims_due : (given : Given) (settings : Settings) (answer : Answer) (number b : ℕ) (entries : List Entry) (t : ℕ) (due result : Outcome)
    → Between given number b (course_of given settings answer) entries t (ends due) → (result ≡ due) ⊎ (result ≡ outcome.Interrupted) → Aims given result
aims_due given settings answer number b entries t due result row (inl is) =
    subst (Aims given) (sym is) (due_aims given number b (course_of given settings answer) entries t (ends due) (course_aims given settings answer) row)
aims_due given settings answer number b entries t due result row (inr is) = subst (Aims given) (sym is) tt

-- A run shows no other desk.
run_aims : (given : Given) (limit number b : ℕ) (analyze : Bool) (planned : Planned) (steps turn : ℕ) (due : Outcome) → RunEnds given limit number b analyze planned steps turn due → Aims given due
run_aims given limit number b true planned steps turn (outcome.Shown kind desk begin report) is = absurd is
run_aims given limit number b false planned steps turn (outcome.Shown kind desk begin report) is = absurd is
run_aims given limit number b analyze planned steps turn due is = tt

either_aims : (given : Given) (due result : Outcome) → Aims given due → (result ≡ due) ⊎ (result ≡ outcome.Interrupted) → Aims given result
either_aims given due result aims (inl is) = subst (Aims given) (sym is) aims
either_aims given due result aims (inr is) = subst (Aims given) (sym is) tt

serving_aimed : (given : Given) (event : Event) → IsServing event → IsAimed given event
serving_aimed given (Served asker request report) is = tt
serving_aimed given event is = absurd is

pub served_placed : (given : Given) (b t : ℕ) (entries : List Entry) → IsSession given given.session → AreServed given.session b t entries → ArePlaced given entries
served_placed given b t entries own served =
    All-weaker (λ (entry : Entry). (entry.desk ≡ given.session) × (b < entry.turn) × (entry.turn ≤ t) × IsServing entry.event) (IsPlaced given)
    (λ entry is. (subst (IsSession given) (sym is.0) own, serving_aimed given entry.event is.3)) entries served

-- An entry on the session's own desk.
pub own_placed : (given : Given) (turn : ℕ) (entry : Entry) → IsSession given given.session → IsOwnEntry given turn entry → IsAimed given entry.event → IsPlaced given entry
own_placed given turn entry own is aimed = (subst (IsSession given) (sym is.0) own, aimed)

pub begin_aimed : (given : Given) (course : Course) (number : ℕ) (text : List ℕ) (event : Event) → BeginsAs given course number text event → IsAimed given event
begin_aimed given (runs analyze planned) number text (Begin own said version plan tables) is = tt
begin_aimed given course number text (Begin own said version plan tables) is = tt
begin_aimed given course number text event is = absurd is

module _ (given : Given) (limit number b t : ℕ) where
  end_aimed : (course : Course) (between : List Entry) (turn : ℕ) (event : Event) (shown : Outcome) → CourseAims given course
      → EndsAs given limit number b t course between turn event shown → IsAimed given event
  end_aimed (runs analyze planned) between turn (End own result steps) shown aims is =
      subst (Aims given) (sym is.1) (either_aims given is.3 shown (run_aims given limit number b analyze planned steps turn is.3 is.4) (subst (λ result. (result ≡ is.3) ⊎ (result ≡ outcome.Interrupted)) is.1 is.5))
  end_aimed (says said) between turn (End own result steps) shown aims is =
      either_aims given is.4 result (due_aims given number b (says said) between t (ends is.4) aims is.5) is.6
  end_aimed (shows kind i) between turn (End own result steps) shown aims is =
      either_aims given is.4 result (due_aims given number b (shows kind i) between t (ends is.4) aims is.5) is.6
  end_aimed (waits i at) between turn (End own result steps) shown aims is =
      either_aims given is.4 result (due_aims given number b (waits i at) between t (ends is.4) aims is.5) is.6
  end_aimed (kills kind i) between turn (End own result steps) shown aims is =
      either_aims given is.4 result (due_aims given number b (kills kind i) between t (ends is.4) aims is.5) is.6
  end_aimed course between turn event shown aims is = absurd is

  between_is : (course : Course) (between : List Entry) (turn : ℕ) (event : Event) (shown : Outcome) → IsSession given given.session → CourseAims given course
      → EndsAs given limit number b t course between turn event shown → ArePlaced given between
  between_is (runs analyze planned) between turn (End own result steps) shown here aims is = served_placed given b turn between here is.2
  between_is (says said) between turn (End own result steps) shown here aims is = between_aims given number b (says said) between t (ends is.4) aims is.5
  between_is (shows kind i) between turn (End own result steps) shown here aims is = between_aims given number b (shows kind i) between t (ends is.4) aims is.5
  between_is (waits i at) between turn (End own result steps) shown here aims is = between_aims given number b (waits i at) between t (ends is.4) aims is.5
  between_is (kills kind i) between turn (End own result steps) shown here aims is = between_aims given number b (kills kind i) between t (ends is.4) aims is.5
  between_is course between turn event shown here aims is = absurd is

module _ (given : Given) (own : IsSession given given.session) where
  -- A whole statement.
  statement_placed : (settings : Settings) (number b : ℕ) (source : List ℕ) (answer : Answer) (entries : List Entry) (last : ℕ) (result : Outcome)
      → IsStatement given settings number b source answer entries last result → ArePlaced given entries
  statement_placed settings number b source answer entries last result is =
      let course : Course = course_of given settings answer in
      let aims = course_aims given settings answer in
      All-same (IsPlaced given) entries (is.begin ∷ is.between ++ is.end ∷ []) is.parts
      (All-cons (IsPlaced given) is.begin (is.between ++ is.end ∷ [])
      (own_placed given b is.begin own is.begin_own (begin_aimed given course number (text_of source answer) is.begin.event is.begins))
      (All-append (IsPlaced given) is.between (is.end ∷ [])
      (between_is given settings.limit number b is.before course is.between last is.end.event result own aims is.ends_so)
      (All-cons (IsPlaced given) is.end []
      (own_placed given last is.end own is.end_own (end_aimed given settings.limit number b is.before course is.between last is.end.event result aims is.ends_so))
      (All-nil (IsPlaced given)))))

  -- Whole statements one after another.
  pub statements_placed : (settings : Settings) (number turn : ℕ) (texts : List (List ℕ)) (answers : List Answer) (entries : List Entry) (left : Settings) (next last : ℕ)
      → Statements given settings number turn texts answers entries left next last → ArePlaced given entries
  statements_placed settings number turn [] [] entries left next last row = All-same (IsPlaced given) entries [] row.0 (All-nil (IsPlaced given))
  statements_placed settings number turn [] (answer ∷ answers) entries left next last row = absurd row
  statements_placed settings number turn (text ∷ texts) [] entries left next last row = absurd row
  statements_placed settings number turn (text ∷ texts) (answer ∷ answers) entries left next last row =
      All-same (IsPlaced given) entries (row.0 ++ row.1) row.4
      (All-append (IsPlaced given) row.0 row.1 (statement_placed settings number (turn + 1) text answer row.0 row.2 row.3 row.5)
      (statements_placed (settings_after settings answer row.3) (number + 1) row.2 texts answers row.1 left next last row.6))
