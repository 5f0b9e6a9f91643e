-- Sessions that are in order before a place are in order before the next one.
use Rattle.std.proofs.Common.{◌≡◌, ◌≢◌, ℕ, ◌+◌, ◌-◌, ◌*◌, ◌<◌, ◌≤◌, ◌==◌, inl, inr, true, false, List, [], ◌∷◌, length, nat_lt, refl, sym, subst, ap, ◌∙◌, arith}
use Rattle.std.proofs.lemmas.Bool.{cases_eq, cases_lt, eq-eqb, ne_eqb, lt-ltb, le-ltb}
use Rattle.std.proofs.lemmas.List.Elements.{All-weaker}
use Rattle.sa_desk.specs.Plain.{desk_at}
use Rattle.sa_desk.specs.program.Prepares.{Answers}
use Rattle.sa_worker.specs.View.{View, done}
use Rattle.sa_step.specs.Sessions.{AllSessions, AreRunning, view_in}
use Rattle.sa_step.specs.Schedule as schedules
use Rattle.sa_step.specs.Schedule.{slot_of}
use Rattle.sa_step.specs.Turns.{TakesTurn, GoesBy}
use Rattle.sa_step.specs.inner.Timely.{IsTimely, GoesOn, IsOnTime, in_round}
use Rattle.sa_step.proofs.Moved.{in_course_turn}
use Rattle.sa_step.proofs.Courses.{course_later}
use Rattle.sa_step.proofs.Taken.{untaken_turn}
use Rattle.sa_step.proofs.Timed.{timely_turn, unseen_turn}

-- From one place to the next.
pub record Passes (sessions : ℕ) (rest later : (session turn : ℕ) → ℕ) (session : ℕ) : Type 0 where
  pub now : rest session 1 ≡ 0
  pub own : (turn : ℕ) → 1 ≤ turn → rest session (turn + 1) ≡ later session turn + 1
  pub others : (other turn : ℕ) → 1 ≤ other → other ≤ sessions → other ≢ session → 1 ≤ turn → rest other turn ≡ later other turn + 1

timely_later : (slot : (session turn : ℕ) → ℕ) (place : ℕ) (all : AllSessions) → IsTimely slot place all → IsTimely slot (place + 1) all
timely_later slot place all timely = record {
  taken = λ session turn least most from to. let less = timely.taken session turn least most from to in omega (arith, less);
  behind = λ desk least most. All-weaker (λ entry. slot_of slot entry < place) (λ entry. slot_of slot entry < place + 1) (λ entry less. omega (arith, less))
      (desk_at all.plain desk).journal (timely.behind desk least most);
  rising = timely.rising;
  counted = timely.counted;
}

module _ (gives : Answers) (slot rest later : (session turn : ℕ) → ℕ) (place : ℕ) (before after : AllSessions) (running : AreRunning gives before)
    (count : length after.views ≡ length before.views) (session : ℕ) (least : 1 ≤ session) (most : session ≤ length before.views) (on_time : IsOnTime gives slot rest place before)
    (passes : Passes (length before.views) rest later session) where
  goes_on : GoesOn slot rest place before.views
  goes_on = on_time.goes_on

  others_on : (other : ℕ) → 1 ≤ other → other ≤ length before.views → other ≢ session → (view_in before.views other).stage ≢ done → (turn : ℕ) → 1 ≤ turn
      → slot other ((view_in before.views other).turn + turn) ≡ place + 1 + later other turn
  others_on other low high apart undone turn from =
      let on = goes_on other low high undone turn from in
      let one = passes.others other turn low high apart from in omega (arith, on, one)

  module _ (takes : TakesTurn gives before session after) where
    here : slot session ((view_in before.views session).turn + 1) ≡ place
    here = let on = goes_on session least most takes.undone 1 (omega arith) in let none = passes.now in omega (arith, on, none)

    ahead : (other : ℕ) → 1 ≤ other → other ≤ length before.views → (view_in before.views other).stage ≢ done → (turn : ℕ) → (view_in before.views other).turn < turn → place ≤ slot other turn
    ahead other low high undone turn past =
        let on = goes_on other low high undone (turn - (view_in before.views other).turn) (omega (arith, past)) in
        let is : (view_in before.views other).turn + (turn - (view_in before.views other).turn) ≡ turn = omega (arith, past) in
        let there = ap (slot other) is in omega (arith, on, there)

    own_on : (turn : ℕ) → 1 ≤ turn → slot session ((view_in after.views session).turn + turn) ≡ place + 1 + later session turn
    own_on turn from =
        let now = takes.turns in
        let is : (view_in after.views session).turn + turn ≡ (view_in before.views session).turn + (turn + 1) = omega (arith, now) in
        let on = goes_on session least most takes.undone (turn + 1) (omega arith) in
        let one = passes.own turn from in
        let there = ap (slot session) is in omega (arith, there, on, one)

    goes_after : GoesOn slot later (place + 1) after.views
    goes_after other low high undone turn from =
        elim (cases_eq other session) [
          | inl is ↦ subst (λ other. slot other ((view_in after.views other).turn + turn) ≡ place + 1 + later other turn) (sym is) (own_on turn from)
          | inr apart ↦
              let same = takes.others other low apart in
              subst (λ (view : View). slot other (view.turn + turn) ≡ place + 1 + later other turn) (sym same)
              (others_on other low (omega (arith, high, count)) apart (subst (λ (view : View). view.stage ≢ done) same undone) turn from)
        ]

    taken_on : IsOnTime gives slot later (place + 1) after
    taken_on = record {
      timely = timely_turn gives slot place before after running session least most takes on_time.timely here ahead count;
      unseen = unseen_turn gives slot place before after running session least most takes on_time.timely here ahead on_time.unseen;
      untaken = untaken_turn gives slot place before after running session least most takes on_time.timely here ahead on_time.untaken count;
      in_course = in_course_turn gives slot place before after running session least most takes on_time.timely here ahead on_time.in_course count;
      goes_on = goes_after;
    }

  passed_on : (view_in before.views session).stage ≡ done → IsOnTime gives slot later (place + 1) before
  passed_on over = record {
    timely = timely_later slot place before on_time.timely;
    unseen = on_time.unseen;
    untaken = on_time.untaken;
    in_course = λ other low high. course_later gives slot place before.plain (view_in before.views other).given (view_in before.views other) (on_time.in_course other low high);
    goes_on = λ other low high undone turn from. elim (cases_eq other session) [
      | inl is ↦ absurd (undone (subst (λ other. (view_in before.views other).stage ≡ done) (sym is) over))
      | inr apart ↦ others_on other low high apart undone turn from
    ];
  }

  pub on_time_next : GoesBy gives before session after → IsOnTime gives slot later (place + 1) after
  on_time_next by = elim by [
    | inl takes ↦ taken_on takes
    | inr passed ↦ subst (IsOnTime gives slot later (place + 1)) (sym passed.0) (passed_on passed.1)
  ]

-- the next place of the schedule
pub Passes-named : (sessions : ℕ) (rest : List ℕ) (session : ℕ) → Passes sessions (schedules.slot sessions (session ∷ rest)) (schedules.slot sessions rest) session
Passes-named sessions rest session =
    let same = eq-eqb session session refl in record {
      now = rw same refl;
      own = λ turn from. let more : (turn + 1 == 1) ≡ false = ne_eqb (turn + 1) 1 (λ is. absurd (omega (arith, is, from))) in
          let back : turn + 1 - 1 ≡ turn = omega arith in rw (same, more) (ap (λ turn. schedules.slot sessions rest session turn + 1) back);
      others = λ other turn low high apart from. let differ = ne_eqb session other (λ is. apart (sym is)) in rw differ refl;
    }

-- the next place of a round
module _ (sessions : ℕ) where
  whole : (turn : ℕ) → 1 ≤ turn → turn * sessions ≡ (turn - 1) * sessions + sessions
  whole turn from = let is : turn ≡ turn - 1 + 1 = omega (arith, from) in ap (λ turn. turn * sessions) is ∙ omega arith

  pub Passes-round : (index : ℕ) → index < sessions → Passes sessions (in_round sessions index) (in_round sessions (index + 1)) (index + 1)
  Passes-round index there = record {
    now = let first : nat_lt index (index + 1) ≡ true = lt-ltb index (index + 1) (omega arith) in rw first (omega arith);
    own = λ turn from.
        let first : nat_lt index (index + 1) ≡ true = lt-ltb index (index + 1) (omega arith) in
        let second : nat_lt (index + 1) (index + 1) ≡ false = le-ltb (index + 1) (index + 1) (omega arith) in
        let many = whole turn from in
        let back : turn + 1 - 1 ≡ turn = omega arith in
        rw (first, second, back) (omega (arith, many, there));
    others = λ other turn low high apart from. elim (cases_lt index other) [
      | inl later ↦
          let first : nat_lt index other ≡ true = lt-ltb index other later in
          let second : nat_lt (index + 1) other ≡ true = lt-ltb (index + 1) other (omega (arith, later, apart)) in
          rw (first, second) (omega (arith, later, apart))
      | inr earlier ↦
          let first : nat_lt index other ≡ false = le-ltb index other earlier in
          let second : nat_lt (index + 1) other ≡ false = le-ltb (index + 1) other (omega (arith, earlier)) in
          let many = whole turn from in
          rw (first, second) (omega (arith, many, there, low))
    ];
  }

  pub round_begins : (session turn : ℕ) → 1 ≤ session → schedules.slot sessions [] session turn ≡ in_round sessions 0 session turn
  round_begins session turn least = let first : nat_lt 0 session ≡ true = lt-ltb 0 session least in rw first (omega arith)

  pub round_ends : (session turn : ℕ) → 1 ≤ session → session ≤ sessions → 1 ≤ turn → in_round sessions sessions session turn ≡ schedules.slot sessions [] session turn
  round_ends session turn least most from =
      let first : nat_lt sessions session ≡ false = le-ltb sessions session most in
      let many = whole turn from in rw first (omega (arith, many))

-- The same turns are left, in other words.
pub IsOnTime-same : (gives : Answers) (slot rest other : (session turn : ℕ) → ℕ) (place : ℕ) (all : AllSessions)
    → ((session turn : ℕ) → 1 ≤ session → session ≤ length all.views → 1 ≤ turn → rest session turn ≡ other session turn) → IsOnTime gives slot rest place all → IsOnTime gives slot other place all
IsOnTime-same gives slot rest other place all same on_time = record {
  timely = on_time.timely;
  unseen = on_time.unseen;
  untaken = on_time.untaken;
  in_course = on_time.in_course;
  goes_on = λ session least most undone turn from. on_time.goes_on session least most undone turn from ∙ ap (λ far. place + far) (same session turn least most from);
}
