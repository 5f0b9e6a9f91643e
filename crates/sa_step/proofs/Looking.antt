-- A wait goes on only after looks that found nothing.
use Rattle.std.proofs.Common.{◌≡◌, ◌≢◌, ℕ, ◌+◌, ◌-◌, ◌*◌, ◌<◌, ◌≤◌, ◌==◌, Bool, true, false, if◌then◌else◌, nat_lt, inl, inr, List, [], ◌∷◌, ◌++◌, All, refl, sym, subst, ap, ◌∙◌, arith, append-nil}
use Rattle.std.proofs.lemmas.Bool.{cases_lt, lt-ltb, le-ltb}
use Rattle.std.proofs.lemmas.List.Elements.{All-head, All-tail, filter-append}
use Rattle.sa_desk.specs.declared.answer.Looked.TheVariants as looked
use Rattle.sa_desk.specs.declared.entry.Entry.{Entry}
use Rattle.sa_desk.specs.declared.stamp.Stamp.{Stamp}
use Rattle.sa_desk.specs.State.{Terms, Phase, idle, unplanned, planned, serving, closed}
use Rattle.sa_desk.specs.Contents.{Contents, phase}
use Rattle.sa_desk.specs.Runs.{state_of}
use Rattle.sa_desk.specs.call.Look.{look_answer, open_answer}
use Rattle.sa_desk.specs.call.Look as look
use Rattle.sa_desk.specs.program.Course.{Given, Course, says, shows, waits, kills, runs, course_of}
use Rattle.sa_desk.specs.program.SoFar.{terms_of}
use Rattle.sa_worker.specs.View.{View, Stage}
use Rattle.sa_worker.specs.View as stages
use Rattle.sa_worker.specs.Holds.{StageHolds}
use Rattle.sa_step.specs.Schedule.{slot_of, IsCounted}
use Rattle.sa_step.specs.Course.{soon, found_at, FindsFewer, LooksInVain}
use Rattle.sa_step.specs.inner.Timely.{course_at}
use Rattle.sa_step.proofs.Coursing.{IsGoing, known_course, GoesOn}

-- A look that isn't over found the desk's session not done, and fewer steps.
pub reached_not : (at published turns : ℕ) (far last : Bool) → nat_lt published at ≡ far → (if far then (if last then looked.Spent published turns else looked.NotYet) else looked.Reached published) ≡ looked.NotYet
    → published < at
reached_not at published turns true last is goes = elim (cases_lt published at) [
  | inl less ↦ less
  | inr more ↦ let none : nat_lt published at ≡ false = le-ltb published at more in absurd cc
]
reached_not at published turns false last is goes = absurd cc

pub not_yet : (at published count turns : ℕ) (found : Phase) → look_answer found at published count turns ≡ looked.NotYet → (found ≢ closed) × (published < at)
not_yet at published count turns closed goes = absurd cc
not_yet at published count turns idle goes = ((λ is. cc), reached_not at published turns (nat_lt published at) (count + 1 == turns) refl goes)
not_yet at published count turns (unplanned statement) goes = ((λ is. cc), reached_not at published turns (nat_lt published at) (count + 1 == turns) refl goes)
not_yet at published count turns (planned statement execution) goes = ((λ is. cc), reached_not at published turns (nat_lt published at) (count + 1 == turns) refl goes)
not_yet at published count turns (serving statement execution steps turn) goes = ((λ is. cc), reached_not at published turns (nat_lt published at) (count + 1 == turns) refl goes)

module _ (slot : (session turn : ℕ) → ℕ) (given : Given) where
  -- What a turn finds is what stands there before it.
  all_found : (place : ℕ) (journal : List Entry) → All (λ entry. slot_of slot entry < place) journal → found_at slot given place journal ≡ journal
  all_found place [] behind = refl
  all_found place (entry ∷ rest) behind =
      let first : nat_lt (slot_of slot entry) place ≡ true = lt-ltb (slot_of slot entry) place (All-head (λ entry. slot_of slot entry < place) entry rest behind) in
      let more = all_found place rest (All-tail (λ entry. slot_of slot entry < place) entry rest behind) in rw (first, more) refl

  none_found : (place : ℕ) (journal : List Entry) → All (λ entry. place ≤ slot_of slot entry) journal → found_at slot given place journal ≡ []
  none_found place [] later = refl
  none_found place (entry ∷ rest) later =
      let first : nat_lt (slot_of slot entry) place ≡ false = le-ltb (slot_of slot entry) place (All-head (λ entry. place ≤ slot_of slot entry) entry rest later) in
      let more = none_found place rest (All-tail (λ entry. place ≤ slot_of slot entry) entry rest later) in rw (first, more) refl

  pub found_is : (place : ℕ) (journal rest : List Entry) → All (λ entry. slot_of slot entry < place) journal → All (λ entry. place ≤ slot_of slot entry) rest → found_at slot given place (journal ++ rest) ≡ journal
  found_is place journal rest behind later =
      filter-append (λ (was : Entry). nat_lt (slot_of slot was) place) journal rest ∙ ap (λ found. found ++ found_at slot given place rest) (all_found place journal behind)
      ∙ ap (λ found. journal ++ found) (none_found place rest later) ∙ append-nil journal

  module _ (journals : ℕ → List Entry) where
    -- A look at what a desk holds.
    pub finds_fewer : (i at place count turns : ℕ) (desk : Contents) (rest : List Entry) → journals i ≡ desk.journal ++ rest → All (λ entry. slot_of slot entry < place) desk.journal
        → All (λ entry. place ≤ slot_of slot entry) rest → desk.terms ≡ terms_of given i → IsCounted slot desk.terms (phase desk) place desk.published
        → look_answer (phase desk) at desk.published count turns ≡ looked.NotYet → FindsFewer slot given journals i at place
    finds_fewer i at place count turns desk rest is behind later terms counted goes =
        let not = not_yet at desk.published count turns (phase desk) goes in
        let found : found_at slot given place (journals i) ≡ desk.journal = ap (found_at slot given place) is ∙ found_is place desk.journal rest behind later in
        subst (λ journal. ((state_of (terms_of given i) journal).phase ≢ closed) × (steps : ℕ) × IsCounted slot (terms_of given i) (state_of (terms_of given i) journal).phase place steps × (steps < at)) (sym found)
        (subst (λ (terms : Terms). ((state_of terms desk.journal).phase ≢ closed) × (steps : ℕ) × IsCounted slot terms (state_of terms desk.journal).phase place steps × (steps < at)) terms
        (not.0, desk.published, counted, not.1))

    abbrev pub Vain : Course → (b last : ℕ) → Type 0
    Vain course b last = LooksInVain slot given journals course b last

    pub vain_fewer : (course : Course) (b last least : ℕ) → least ≤ last → Vain course b last → Vain course b least
    vain_fewer (waits i at) b last least less vain = λ looks more. vain looks (omega (arith, more, less))
    vain_fewer (says result) b last least less vain = tt
    vain_fewer (shows kind i) b last least less vain = tt
    vain_fewer (kills kind i) b last least less vain = tt
    vain_fewer (runs analyze chosen) b last least less vain = tt

    pub vain_new : (course : Course) (b last : ℕ) → last ≤ b + 1 + soon course → Vain course b last
    vain_new (waits i at) b last less = λ looks more. absurd (omega (arith, more, less))
    vain_new (says result) b last less = tt
    vain_new (shows kind i) b last less = tt
    vain_new (kills kind i) b last less = tt
    vain_new (runs analyze chosen) b last less = tt

    module _ (view : View) (desk : Contents) (stamp : Stamp)
        (finds : (i at count : ℕ) → view.stage ≡ stages.waits i at count → look.looked desk stamp view.number at ≡ looked.NotYet → FindsFewer slot given journals i at (slot given.session (view.turn + 1))) where
      abbrev Before : Course → Type 0
      Before course = Vain course view.began (view.turn + 1 + soon course)

      abbrev After : Course → Type 0
      After course = Vain course view.began (view.turn + 1 + 1 + soon course)

      -- Only a WAIT looks.
      module _ (course : Course) (going : IsGoing course) (is : course_of view.given view.settings view.answer ≡ course) where
        as_known : (Before course → After course) → Before (course_at view) → After (course_at view)
        as_known more = subst (λ course. Before course → After course) (sym (known_course view.given view.settings view.answer course going is)) more

      -- one look more
      one_more : (i at count : ℕ) → view.turn ≡ view.began + 2 * count → FindsFewer slot given journals i at (slot given.session (view.turn + 1)) → Before (waits i at) → After (waits i at)
      one_more i at count turn fewer vain looks more =
          elim (cases_lt (view.began + 2 * looks + 2) (view.turn + 1 + 1)) [
            | inl before ↦ vain looks before
            | inr now ↦
                let is : view.turn + 1 ≡ view.began + 2 * looks + 1 = omega (arith, more, now, turn) in
                subst (λ turn. FindsFewer slot given journals i at (slot given.session turn)) is fewer
          ]

      -- a look for a kill, between two looks
      between : (i at count : ℕ) → 1 ≤ count → view.turn ≡ view.began + (2 * count - 1) → Before (waits i at) → After (waits i at)
      between i at count some turn vain looks more =
          elim (cases_lt (view.began + 2 * looks + 2) (view.turn + 1 + 1)) [
            | inl before ↦ vain looks before
            | inr now ↦ absurd (omega (arith, more, now, turn, some))
          ]

      pub vain_more : (stage : Stage) → view.stage ≡ stage → StageHolds view stage → GoesOn view desk stamp stage → Before (course_at view) → After (course_at view)
      vain_more (stages.asks kind i) is holds goes = as_known (shows kind i) tt holds.course_is (λ vain. tt)
      vain_more (stages.polls kind i count) is holds goes = as_known (shows kind i) tt holds.1.course_is (λ vain. tt)
      vain_more (stages.looks_asking kind i count) is holds goes = as_known (shows kind i) tt holds.1.course_is (λ vain. tt)
      vain_more (stages.waits i at count) is holds goes = as_known (waits i at) tt holds.1.course_is (one_more i at count holds.1.on.turn (finds i at count is goes))
      vain_more (stages.looks_waiting i at count) is holds goes = as_known (waits i at) tt holds.1.course_is (between i at count holds.0.0 holds.1.on.turn)
      vain_more (stages.points chosen so_many run) is holds goes = as_known (runs holds.0.analyze chosen) tt holds.0.course_is (λ vain. tt)
      vain_more stages.prepares is holds goes = absurd goes
      vain_more stages.opens is holds goes = absurd goes
      vain_more stages.closes is holds goes = absurd goes
      vain_more (stages.ends result) is holds goes = absurd goes
      vain_more (stages.withdraws kind i count) is holds goes = absurd goes
      vain_more (stages.kills kind i) is holds goes = absurd goes
      vain_more (stages.makes_steps chosen so_many run) is holds goes = absurd goes
      vain_more (stages.ends_run chosen so_many run finish) is holds goes = absurd goes
      vain_more stages.done is holds goes = absurd goes
