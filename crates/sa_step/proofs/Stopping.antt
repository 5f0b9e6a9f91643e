-- A statement goes on only while no kill of it stands.
use Rattle.std.proofs.Common.{◌≡◌, ℕ, ◌+◌, ◌<◌, ◌≤◌, false, inl, inr, List, All, Any, refl, sym, subst, arith}
use Rattle.std.specs.Prelude.{⊤}
use Rattle.std.proofs.lemmas.Bool.{cases_lt}
use Rattle.std.proofs.lemmas.List.Elements.{All-weaker}
use Rattle.sa_ast.specs.declared.kind.AskKind.{AskKind}
use Rattle.sa_desk.specs.declared.entry.Entry.{Entry}
use Rattle.sa_desk.specs.declared.stamp.Stamp.{Stamp}
use Rattle.sa_desk.specs.Contents.{Contents, phase}
use Rattle.sa_desk.specs.Serving.{is_killed}
use Rattle.sa_desk.specs.program.Course.{Given, Course, says, shows, waits, kills, runs, course_of}
use Rattle.sa_worker.specs.View.{View, Stage}
use Rattle.sa_worker.specs.View as stages
use Rattle.sa_worker.specs.Holds.{StageHolds}
use Rattle.sa_step.specs.Schedule.{slot_of}
use Rattle.sa_step.specs.Course.{soon, SeesKills, IsKillOf, GoesOnBefore, IsSpent, SpendsBefore}
use Rattle.sa_step.specs.inner.Timely.{course_at, SeesNone, SpendsNone}
use Rattle.sa_step.proofs.Coursing.{IsGoing, known_course, GoesOn}

-- A statement sees kills in turns after its Begin.
pub sees_later : (course : Course) (b turn : ℕ) → SeesKills course b turn → b < turn
sees_later (runs analyze chosen) b turn sees = sees
sees_later (shows kind i) b turn sees = let is = sees.2 in omega (arith, is)
sees_later (waits i at) b turn sees = let some = sees.1 in let is = sees.2 in omega (arith, is, some)
sees_later (says result) b turn sees = absurd sees
sees_later (kills kind i) b turn sees = absurd sees

-- A look for a kill, on its own desk.
abbrev pub SeesOwn : Stage → Type 0
SeesOwn (stages.looks_asking kind i count) = ⊤
SeesOwn (stages.looks_waiting i at count) = ⊤
SeesOwn (stages.points chosen so_many run) = ⊤
SeesOwn stage = ⊥

module _ (slot : (session turn : ℕ) → ℕ) (given : Given) (journal : List Entry) where
  abbrev pub IsUnseen : Course → (b last : ℕ) → Entry → Type 0
  IsUnseen course b last was = IsKillOf slot given b was → GoesOnBefore slot given course b last (slot_of slot was)

  abbrev pub AreUnseen : Course → (b last : ℕ) → Type 0
  AreUnseen course b last = SeesNone slot given journal course b last

  pub unseen_fewer : (course : Course) (b last least : ℕ) → least ≤ last → AreUnseen course b last → AreUnseen course b least
  unseen_fewer course b last least less all =
      All-weaker (IsUnseen course b last) (IsUnseen course b least) (λ was goes kill turn sees before. goes kill turn sees (omega (arith, before, less))) journal all

  pub unseen_new : (course : Course) (b last : ℕ) → last ≤ b + 1 + soon course → AreUnseen course b last
  unseen_new course b last less k d there kill turn sees before = let later = sees_later course b turn sees in absurd (omega (arith, before, less, later))

  -- What goes on has seen no kill either where its request is spent now.
  module _ (journals : ℕ → List Entry) where
    goes_so : (course : Course) (b turn place : ℕ) → GoesOnBefore slot given course b (turn + 1 + soon course) place → SpendsBefore slot given journals course b (turn + 1 + 1) place
    goes_so (shows kind i) b turn place goes = λ some seen sees before. goes seen sees (omega (arith, before))
    goes_so (says result) b turn place goes = tt
    goes_so (waits i at) b turn place goes = tt
    goes_so (kills kind i) b turn place goes = tt
    goes_so (runs analyze chosen) b turn place goes = tt

    pub spends_ending : (course : Course) (b turn : ℕ) → AreUnseen course b (turn + 1 + soon course) → SpendsNone slot given journal journals course b (turn + 1 + 1)
    spends_ending course b turn all =
        All-weaker (IsUnseen course b (turn + 1 + soon course)) (λ was. IsKillOf slot given b was → SpendsBefore slot given journals course b (turn + 1 + 1) (slot_of slot was))
        (λ was goes kill. goes_so course b turn (slot_of slot was) (goes kill)) journal all

    begun_so : (course : Course) (b last place : ℕ) → last ≤ b + 1 → SpendsBefore slot given journals course b last place
    begun_so (shows kind i) b last place less = λ some turn sees before. let later = sees_later (shows kind i) b turn sees in absurd (omega (arith, before, less, later))
    begun_so (says result) b last place less = tt
    begun_so (waits i at) b last place less = tt
    begun_so (kills kind i) b last place less = tt
    begun_so (runs analyze chosen) b last place less = tt

    pub spends_new : (course : Course) (b last : ℕ) → last ≤ b + 1 → SpendsNone slot given journal journals course b last
    spends_new course b last less k d there kill = begun_so course b last _ less

    -- A withdrawal spends nothing.
    unspent_so : (course : Course) (b last place : ℕ) → ((desk : ℕ) → Any (λ was. (was.actor ≡ given.session) × (was.turn + 1 ≡ last) × IsSpent was.event) (journals desk) → (kind : AskKind) → course ≡ shows kind desk → ⊥)
        → SpendsBefore slot given journals course b last place
    unspent_so (shows kind i) b last place none = λ some turn sees before. absurd (none i some kind refl)
    unspent_so (says result) b last place none = tt
    unspent_so (waits i at) b last place none = tt
    unspent_so (kills kind i) b last place none = tt
    unspent_so (runs analyze chosen) b last place none = tt

    pub unspent : (course : Course) (b last : ℕ) → ((desk : ℕ) → Any (λ was. (was.actor ≡ given.session) × (was.turn + 1 ≡ last) × IsSpent was.event) (journals desk) → (kind : AskKind) → course ≡ shows kind desk → ⊥)
        → SpendsNone slot given journal journals course b last
    unspent course b last none k d there kill = unspent_so course b last _ none

  module _ (view : View) (desk : Contents) (stamp : Stamp)
      (none : (stage : Stage) → view.stage ≡ stage → SeesOwn stage → is_killed (phase desk) ≡ false → All (λ was. IsKillOf slot given view.began was → ⊥) journal) where
    abbrev Before : Course → Type 0
    Before course = AreUnseen course view.began (view.turn + 1 + soon course)

    abbrev After : Course → Type 0
    After course = AreUnseen course view.began (view.turn + 1 + 1 + soon course)

    -- It sees none in this turn.
    sees_none : (course : Course) → (SeesKills course view.began (view.turn + 1) → ⊥) → Before course → After course
    sees_none course blind all =
        All-weaker (IsUnseen course view.began (view.turn + 1 + soon course)) (IsUnseen course view.began (view.turn + 1 + 1 + soon course))
        (λ was goes kill turn sees before.
        elim (cases_lt turn (view.turn + 1)) [
          | inl past ↦ goes kill turn sees (omega (arith, past))
          | inr now ↦
              let is : turn ≡ view.turn + 1 = omega (arith, before, now) in absurd (blind (subst (SeesKills course view.began) is sees))
        ]) journal all

    module _ (course : Course) (going : IsGoing course) (is : course_of view.given view.settings view.answer ≡ course) where
      as_known : (SeesKills course view.began (view.turn + 1) → ⊥) → Before (course_at view) → After (course_at view)
      as_known blind = subst (λ course. Before course → After course) (sym (known_course view.given view.settings view.answer course going is)) (sees_none course blind)

    -- No kill stands.
    unkilled : (course : Course) → All (λ was. IsKillOf slot given view.began was → ⊥) journal → After course
    unkilled course all = All-weaker (λ was. IsKillOf slot given view.began was → ⊥) (IsUnseen course view.began (view.turn + 1 + 1 + soon course)) (λ was no_kill kill. absurd (no_kill kill)) journal all

    pub unseen_more : (stage : Stage) → view.stage ≡ stage → StageHolds view stage → GoesOn view desk stamp stage → Before (course_at view) → After (course_at view)
    unseen_more (stages.asks kind i) is holds goes =
        let turn = holds.on.turn in as_known (shows kind i) tt holds.course_is (λ sees. let at = sees.2 in let some = sees.1 in omega (arith, turn, at, some))
    unseen_more (stages.polls kind i count) is holds goes = let turn = holds.1.on.turn in as_known (shows kind i) tt holds.1.course_is (λ sees. let at = sees.2 in omega (arith, turn, at))
    unseen_more (stages.looks_asking kind i count) is holds goes = λ all. unkilled (course_at view) (none (stages.looks_asking kind i count) is tt goes)
    unseen_more (stages.waits i at count) is holds goes = let turn = holds.1.on.turn in as_known (waits i at) tt holds.1.course_is (λ sees. let at = sees.2 in omega (arith, turn, at))
    unseen_more (stages.looks_waiting i at count) is holds goes = λ all. unkilled (course_at view) (none (stages.looks_waiting i at count) is tt goes)
    unseen_more (stages.points chosen so_many run) is holds goes = λ all. unkilled (course_at view) (none (stages.points chosen so_many run) is tt goes)
    unseen_more stages.prepares is holds goes = absurd goes
    unseen_more stages.opens is holds goes = absurd goes
    unseen_more stages.closes is holds goes = absurd goes
    unseen_more (stages.ends result) is holds goes = absurd goes
    unseen_more (stages.withdraws kind i count) is holds goes = absurd goes
    unseen_more (stages.kills kind i) is holds goes = absurd goes
    unseen_more (stages.makes_steps chosen so_many run) is holds goes = absurd goes
    unseen_more (stages.ends_run chosen so_many run finish) is holds goes = absurd goes
    unseen_more stages.done is holds goes = absurd goes
