-- A turn of one of the sessions of a script.
use Rattle.std.proofs.Common.{◌≡◌, ◌≢◌, ℕ, ◌-◌, ◌≤◌, true, inl, inr, List, [], length, slice_set, refl, sym, subst, ap, ◌∙◌, arith}
use Rattle.std.proofs.lemmas.Bool.{cases_eq, eq-eqb, ne_eqb}
use Rattle.std.proofs.lemmas.Bool.Decides.{nat_tests}
use Rattle.std.proofs.lemmas.Grind.{common_steps, get_or-set_at}
use Rattle.std.proofs.lemmas.List.{get_or-set_other, length-set}
use Rattle.sa_desk.specs.Legal.{Sessions, given_of}
use Rattle.sa_desk.specs.Plain.{Plain, IsPlain, are_there, world_of}
use Rattle.sa_desk.specs.World.{World, IsCall, Meets, next_stamp}
use Rattle.sa_desk.specs.program.Course.{Given}
use Rattle.sa_desk.specs.program.Prepares.{Answers}
use Rattle.sa_desk.specs.program.Turn.{made, left}
use Rattle.sa_desk.proofs.PlainCall.{Meets-plain}
use Rattle.sa_worker.specs.View.{View, Stage, prepares, makes_steps, opens, closes, ends, asks, polls, looks_asking, withdraws, kills, waits, looks_waiting, points, ends_run, done, first_view, text_at, me_of, IsActive, call_at, desk_at}
use Rattle.sa_worker.specs.Next.{next_view}
use Rattle.sa_worker.specs.Works.{Prepares, is_prepared, is_last, goes_on, stops, WorksAt, Works}
use Rattle.sa_worker.specs.Holds.{Holds}
use Rattle.sa_worker.specs.Keeps.{Keeps}
use Rattle.sa_worker.specs.Sound.{GivesSound}
use Rattle.sa_worker.specs.Working.{IsWorking, AreWorking, with_view}
use Rattle.sa_step.specs.Sessions.{AllSessions, AreRunning, view_in}
use Rattle.sa_worker.proofs.working.All.{AreWorking-works, AreWorking-turn}

-- After its private work a worker that isn't done makes a call.
module _ (gives : Answers) (view later : View) where
  still_active : later ≡ view → IsActive view.stage → IsActive later.stage
  still_active same active = subst (λ view. IsActive view.stage) (sym same) active

  prepared_active : Prepares gives view later → IsActive later.stage
  prepared_active (is_prepared answer there given is) = subst (λ view. IsActive view.stage) (sym is) tt
  prepared_active (is_last none is) = subst (λ view. IsActive view.stage) (sym is) tt

  work_active : (stage : Stage) → view.stage ≡ stage → stage ≢ done → WorksAt gives view stage later → IsActive later.stage
  work_active prepares is undone work = prepared_active work
  work_active (makes_steps planned made run) is undone (goes_on after comes full more unfailed same) = subst (λ view. IsActive view.stage) (sym same) tt
  work_active (makes_steps planned made run) is undone (stops after comes finish analyze of_course so same) = subst (λ view. IsActive view.stage) (sym same) tt
  work_active opens is undone work = still_active work (subst IsActive (sym is) tt)
  work_active closes is undone work = still_active work (subst IsActive (sym is) tt)
  work_active (ends result) is undone work = still_active work (subst IsActive (sym is) tt)
  work_active (asks kind desk) is undone work = still_active work (subst IsActive (sym is) tt)
  work_active (polls kind desk count) is undone work = still_active work (subst IsActive (sym is) tt)
  work_active (looks_asking kind desk count) is undone work = still_active work (subst IsActive (sym is) tt)
  work_active (withdraws kind desk count) is undone work = still_active work (subst IsActive (sym is) tt)
  work_active (kills kind desk) is undone work = still_active work (subst IsActive (sym is) tt)
  work_active (waits desk at count) is undone work = still_active work (subst IsActive (sym is) tt)
  work_active (looks_waiting desk at count) is undone work = still_active work (subst IsActive (sym is) tt)
  work_active (points planned made run) is undone work = still_active work (subst IsActive (sym is) tt)
  work_active (ends_run planned made run given) is undone work = still_active work (subst IsActive (sym is) tt)
  work_active done is undone work = absurd (undone refl)

  pub works_active : view.stage ≢ done → Works gives view later → IsActive later.stage
  works_active undone work = work_active view.stage refl undone work

-- Sessions and desks that are there may be called.
pub are_called : (plain : Plain) (desk session : ℕ) → 1 ≤ desk → desk ≤ length plain.desks → 1 ≤ session → session ≤ length plain.desks → are_there plain desk session ≡ true
are_called plain desk session desk_least desk_most session_least session_most = grind (arith, nat_tests, common_steps)

-- the sessions go on where each of them holds the same
pub AreWorking-same : (gives : Answers) (sessions : Sessions) (world : World) (views others : ℕ → View)
    → ((session : ℕ) → 1 ≤ session → session ≤ length sessions.texts → views session ≡ others session) → AreWorking gives sessions world views → AreWorking gives sessions world others
AreWorking-same gives sessions world views others same all = record {
  given = λ session least most. subst (λ (view : View). view.given ≡ given_of sessions session) (same session least most) (all.given session least most);
  working = λ session least most. subst (IsWorking gives world) (same session least most) (all.working session least most);
}

module _ (gives : Answers) (all : AllSessions) (running : AreRunning gives all) (session : ℕ) (least : 1 ≤ session) (most : session ≤ length all.views) where
  abbrev own : View
  own = view_in all.views session

  there : session ≤ length all.script.texts
  there = let count = running.workers in omega (arith, count, most)

  own_given : own.given ≡ given_of all.script session
  own_given = running.working.given session least there

  -- What its private work asks for.
  pub may_work : Holds own × GivesSound gives own.given
  may_work = ((running.working.working session least there).keeps.holds, subst (GivesSound gives) (sym own_given) (running.sound session least there))

  -- What its call asks for, whatever its work has made.
  module _ (later : View) (plain : IsPlain all.plain) (keeps : Keeps (world_of all.plain) later) (same : later.given ≡ own.given) where
    number_is : later.given.session ≡ session
    number_is = ap (λ (given : Given). given.session) (same ∙ own_given)

    sessions_are : later.given.sessions ≡ length all.plain.desks
    sessions_are = ap (λ (given : Given). given.sessions) (same ∙ own_given) ∙ sym running.desks

    pub called_there : are_there all.plain (desk_at later later.stage) later.given.session ≡ true
    called_there =
        let aimed = keeps.aimed in
        let low = aimed.least in
        let high = aimed.most in
        let count = sessions_are in
        let number = number_is in
        let desks = running.desks in
        let there = there in
        are_called all.plain (desk_at later later.stage) later.given.session low (omega (arith, high, count)) (omega (arith, number, least)) (omega (arith, number, there, desks))

    pub meets : Meets (world_of all.plain) (desk_at later later.stage) later.given.session
    meets = Meets-plain all.plain plain (desk_at later later.stage) later.given.session called_there

-- what stands for a worker that isn't there
abbrev pub nobody : View
nobody = first_view (record { session = 0; sessions = 0; quantum = 0; turns = 0; tables = []; texts = [] })

-- What the views are where one is replaced.
replaced_view : (views : List View) (session : ℕ) (later : View) → 1 ≤ session → session ≤ length views → (other : ℕ) → 1 ≤ other
    → with_view (view_in views) session later other ≡ view_in (slice_set views (session - 1) later) other
replaced_view views session later least most other low = elim (cases_eq other session) [
  | inl here ↦ rw (eq-eqb other session here) (sym (get_or-set_at views (session - 1) (other - 1) later _ (ap (λ n. n - 1) here) (omega (arith, least, most))))
  | inr apart ↦ rw (ne_eqb other session apart) (sym (get_or-set_other views (session - 1) (other - 1) later _ (λ same. apart (omega (arith, same, least, low)))))
]

twice_replaced : (views : ℕ → View) (session : ℕ) (mid later : View) (other : ℕ) → with_view (with_view views session mid) session later other ≡ with_view views session later other
twice_replaced views session mid later other = elim (cases_eq other session) [
  | inl here ↦ rw (eq-eqb other session here) refl
  | inr apart ↦ rw (ne_eqb other session apart) refl
]

-- After its turn all sessions have come so far.
pub turned_running : (gives : Answers) (all : AllSessions) → AreRunning gives all → (session : ℕ) → 1 ≤ session → session ≤ length all.views → (mid next : View) (plain : Plain)
    → (view_in all.views session).stage ≢ done → Works gives (view_in all.views session) mid → length plain.desks ≡ length all.plain.desks
    → (let world = world_of all.plain in let desk = world.contents (desk_at mid mid.stage) in let stamp = next_stamp world (me_of mid) in
    IsCall world (world_of plain) (desk_at mid mid.stage) mid.given.session (made desk stamp mid.number (call_at mid mid.stage)) (left desk stamp mid.number (call_at mid mid.stage))
    → next ≡ next_view mid desk stamp → AreRunning gives (record { script = all.script; plain = plain; views = slice_set all.views (session - 1) next }))
turned_running gives all running session least most mid next plain undone work count call is =
    let world = world_of all.plain in
    let later = world_of plain in
    let script = all.script in
    let views = view_in all.views in
    let there = there gives all running session least most in
    let sound = (may_work gives all running session least most).1 in
    let worked : AreWorking gives script world (with_view views session mid) =
    AreWorking-works gives script world views running.working session least there mid (λ answer given. sound.sound (text_at (views session)) answer given) work in
    let replaced = with_view views session mid in
    let own_mid : replaced session ≡ mid = rw (eq-eqb session session refl) refl in
    let turned : AreWorking gives script later (with_view replaced session (next_view mid (world.contents (desk_at mid mid.stage)) (next_stamp world (me_of mid)))) =
    subst (λ at. IsActive at.stage
    → IsCall world later (desk_at at at.stage) at.given.session (made (world.contents (desk_at at at.stage)) (next_stamp world (me_of at)) at.number (call_at at at.stage))
    (left (world.contents (desk_at at at.stage)) (next_stamp world (me_of at)) at.number (call_at at at.stage))
    → AreWorking gives script later (with_view replaced session (next_view at (world.contents (desk_at at at.stage)) (next_stamp world (me_of at))))) own_mid
    (AreWorking-turn gives script world replaced worked session least there later) (works_active gives (views session) mid undone work) call in
    let turned_next : AreWorking gives script later (with_view replaced session next) =
    subst (λ next. AreWorking gives script later (with_view replaced session next)) (sym is) turned in
    record {
      sound = running.sound;
      desks = count ∙ running.desks;
      workers = length-set all.views (session - 1) next ∙ running.workers;
      working = AreWorking-same gives script later (with_view replaced session next) (view_in (slice_set all.views (session - 1) next))
          (λ other low high. twice_replaced views session mid next other ∙ replaced_view all.views session next least most other low) turned_next;
    }
