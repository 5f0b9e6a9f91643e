-- What a statement does asks no more of a worker than a sound answer of preparation gives.
use Rattle.std.proofs.Common.{◌≡◌, ℕ, ◌+◌, ◌&&◌, Bool, true, false, if◌then◌else◌, refl, subst, arith}
use Rattle.std.specs.Prelude.{⊤, nat_lt, List, Some}
use Rattle.std.proofs.lemmas.Bool.Decides.{nat_tests}
use Rattle.sa_ast.specs.declared.kind.AskKind.{AskKind}
use Rattle.sa_plan.specs.declared.plan.Planned.{Planned}
use Rattle.sa_plan.specs.declared.prepared.Work.TheVariants as work
use Rattle.sa_desk.specs.declared.entry.Entry.{Entry}
use Rattle.sa_desk.specs.declared.entry.Event.TheVariants.{End}
use Rattle.sa_desk.specs.declared.outcome.Outcome.{Outcome}
use Rattle.sa_desk.specs.declared.outcome.Outcome.TheVariants as outcome
use Rattle.sa_desk.specs.program.Course.{Given, Answer, prepared, refused, starved, Settings, trace, settings_after, Course, says, shows, waits, kills, runs, toward, course_of}
use Rattle.sa_desk.specs.program.SoFar.{IsTold}
use Rattle.sa_worker.specs.View.{View}
use Rattle.sa_worker.specs.Holds.{CanRun, IsLimit, IsSoundAnswer}
use Rattle.sa_worker.specs.Keeps.{IsSession}

-- Nothing that a statement says at once is Interrupted. It aims at one of the script's sessions, and its plan can be run.
abbrev pub IsFair : Given → Course → Type 0
IsFair given (says result) = result ≡ outcome.Interrupted → ⊥
IsFair given (shows kind desk) = IsSession given desk
IsFair given (waits desk at) = IsSession given desk
IsFair given (kills kind desk) = IsSession given desk
IsFair given (runs analyze planned) = CanRun given planned

inside_is : (given : Given) (id : ℕ) → (nat_lt 0 id && nat_lt id (given.sessions + 1)) ≡ true → IsSession given id
inside_is given id is = record { least = grind (arith, nat_tests); most = grind (arith, nat_tests) }

toward_fair : (given : Given) (id : ℕ) (course : Course) → (IsSession given id → IsFair given course) → IsFair given (toward given id course)
toward_fair given id course fair = go (nat_lt 0 id && nat_lt id (given.sessions + 1)) refl
  where
    go : (inside : Bool) → (nat_lt 0 id && nat_lt id (given.sessions + 1)) ≡ inside → IsFair given (if inside then course else says outcome.NoSuchThread)
    go true is = fair (inside_is given id is)
    go false is = λ other. (cc)

pub course_fair : (given : Given) (settings : Settings) (answer : Answer) → IsSoundAnswer given answer → IsFair given (course_of given settings answer)
course_fair given settings (refused why) sound = λ is. (cc)
course_fair given settings (starved text) sound = λ is. (cc)
course_fair given settings (prepared text (work.Explain planned)) sound = λ is. (cc)
course_fair given settings (prepared text (work.SetTrace on)) sound = λ is. (cc)
course_fair given settings (prepared text (work.SetLimit limit)) sound = λ is. (cc)
course_fair given settings (prepared text work.TraceRows) sound = λ is. (cc)
course_fair given settings (prepared text (work.Show kind id)) sound = toward_fair given id (shows kind id) (λ is. is)
course_fair given settings (prepared text (work.Wait id at)) sound = toward_fair given id (waits id at) (λ is. is)
course_fair given settings (prepared text (work.Kill kind id)) sound = toward_fair given id (kills kind id) (λ is. is)
course_fair given settings (prepared text (work.Select planned)) sound = sound
course_fair given settings (prepared text (work.Analyze planned)) sound = sound

module _ (view : View) where
  pub course_aims : (course : Course) → IsSoundAnswer view.given view.answer → course_of view.given view.settings view.answer ≡ course → IsFair view.given course
  course_aims course sound is = subst (IsFair view.given) is (course_fair view.given view.settings view.answer sound)

  pub aims_ask : (kind : AskKind) (desk : ℕ) → IsSoundAnswer view.given view.answer → course_of view.given view.settings view.answer ≡ shows kind desk → IsSession view.given desk
  aims_ask kind desk = course_aims (shows kind desk)

  pub aims_wait : (desk at : ℕ) → IsSoundAnswer view.given view.answer → course_of view.given view.settings view.answer ≡ waits desk at → IsSession view.given desk
  aims_wait desk at = course_aims (waits desk at)

-- A SET leaves a limit within its bounds, and all else leaves the limit.
limit_traced : (settings : Settings) (text : List ℕ) (planned : Planned) → IsLimit settings.limit → IsLimit (trace settings text planned).limit
limit_traced settings text planned limit = go settings.tracing
  where
    go : (on : Bool) → let traced : Settings = if on then record settings { traced = Some (text, planned) } else settings in IsLimit traced.limit
    go true = limit
    go false = limit

pub limit_after : (given : Given) (settings : Settings) (answer : Answer) (result : Outcome) → IsLimit settings.limit → IsSoundAnswer given answer
    → IsLimit (settings_after settings answer result).limit
limit_after given settings (prepared text (work.SetTrace on)) outcome.Set limit sound = limit
limit_after given settings (prepared text (work.SetTrace on)) result limit sound = limit
limit_after given settings (prepared text (work.SetLimit most)) outcome.Set limit sound = sound
limit_after given settings (prepared text (work.SetLimit most)) result limit sound = limit
limit_after given settings (prepared text (work.Select planned)) result limit sound = limit_traced settings text planned limit
limit_after given settings (prepared text (work.Analyze planned)) result limit sound = limit_traced settings text planned limit
limit_after given settings (prepared text (work.Explain planned)) result limit sound = limit_traced settings text planned limit
limit_after given settings (prepared text work.TraceRows) result limit sound = limit
limit_after given settings (prepared text (work.Show kind id)) result limit sound = limit
limit_after given settings (prepared text (work.Wait id at)) result limit sound = limit
limit_after given settings (prepared text (work.Kill kind id)) result limit sound = limit
limit_after given settings (refused why) result limit sound = limit
limit_after given settings (starved text) result limit sound = limit

-- What a statement says at once tells nothing of another desk.
abbrev pub SaysNothing : Given → Course → Type 0
SaysNothing given (says result) = (journals : ℕ → List Entry) (number : ℕ) → IsTold given journals (End number result 0)
SaysNothing given course = ⊤

toward_says : (given : Given) (id : ℕ) (course : Course) → SaysNothing given course → SaysNothing given (toward given id course)
toward_says given id course nothing = go (nat_lt 0 id && nat_lt id (given.sessions + 1))
  where
    go : (inside : Bool) → SaysNothing given (if inside then course else says outcome.NoSuchThread)
    go true = nothing
    go false = λ journals number. tt

pub course_says : (given : Given) (settings : Settings) (answer : Answer) → SaysNothing given (course_of given settings answer)
course_says given settings (refused why) = λ journals number. tt
course_says given settings (starved text) = λ journals number. tt
course_says given settings (prepared text (work.Explain planned)) = λ journals number. tt
course_says given settings (prepared text (work.SetTrace on)) = λ journals number. tt
course_says given settings (prepared text (work.SetLimit limit)) = λ journals number. tt
course_says given settings (prepared text work.TraceRows) = λ journals number. tt
course_says given settings (prepared text (work.Show kind id)) = toward_says given id (shows kind id) tt
course_says given settings (prepared text (work.Wait id at)) = toward_says given id (waits id at) tt
course_says given settings (prepared text (work.Kill kind id)) = toward_says given id (kills kind id) tt
course_says given settings (prepared text (work.Select planned)) = tt
course_says given settings (prepared text (work.Analyze planned)) = tt
