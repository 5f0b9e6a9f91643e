-- The statements of all sessions are in their courses from the beginning on, and so are those of their journals in the end.
use Rattle.std.proofs.Common.{◌≡◌, ℕ, ◌+◌, ◌≤◌, List, [], length, sym, subst, ap, ◌∙◌, arith, append-nil}
use Rattle.std.proofs.lemmas.List.Elements.{All-nil, All-weaker}
use Rattle.sa_desk.specs.declared.entry.Entry.{Entry}
use Rattle.sa_desk.specs.Legal.{given_of, journal_at}
use Rattle.sa_desk.specs.Plain.{Plain, IsPlain, desk_at, entries_of}
use Rattle.sa_desk.specs.program.Course.{Given}
use Rattle.sa_desk.specs.program.Prepares.{Answers, AreAnswers}
use Rattle.sa_worker.specs.View.{View, prepares}
use Rattle.sa_step.specs.Sessions.{AllSessions, AreRunning, view_in}
use Rattle.sa_step.specs.Remaining.{AreDone}
use Rattle.sa_step.specs.Schedule.{AreEach, slot_of, slots}
use Rattle.sa_step.specs.Course.{IsKillOf, GoesOnBefore, LooksInTime, StopsInTime, KeepsTime, InCourse}
use Rattle.sa_step.specs.inner.Timely.{AreLater, course_at, ends_by, AtEnd, SeesNone, SpendsNone, EndsInTime, IsInCourse, AreInCourse}
use Rattle.sa_step.proofs.Ending.{AreEach-weaker}
use Rattle.sa_step.proofs.Looking.{vain_new}
use Rattle.sa_step.proofs.Programs.{journals, journal_is, is_made, is_program}

-- A place later nothing else is known of them.
module _ (gives : Answers) (slot : (session turn : ℕ) → ℕ) (place : ℕ) (plain : Plain) where
  later_still : (journals : ℕ → List Entry) → AreLater slot (place + 1) plain journals → AreLater slot place plain journals
  later_still journals later desk low high =
      let at = later desk low high in
      (at.0, at.1, All-weaker (λ entry. place + 1 ≤ slot_of slot entry) (λ entry. place ≤ slot_of slot entry) (λ entry late. omega (arith, late)) at.0 at.2)

  pub course_later : (given : Given) (view : View) → IsInCourse gives slot place plain given view → IsInCourse gives slot (place + 1) plain given view
  course_later given view course = record {
    answers = course.answers;
    follows = course.follows;
    were_given = course.were_given;
    ended = λ journals later. course.ended journals (later_still journals later);
    looks = λ journals later. course.looks journals (later_still journals later);
    stops = λ journals later. course.stops journals (later_still journals later);
  }

-- Before the first turn.
module _ (gives : Answers) (slot : (session turn : ℕ) → ℕ) (all : AllSessions) (running : AreRunning gives all) where
  pub course_first : (session : ℕ) → 1 ≤ session → session ≤ length all.script.texts → (view_in all.views session).stage ≡ prepares
      → (desk_at all.plain (view_in all.views session).given.session).journal ≡ []
      → IsInCourse gives slot 0 all.plain (view_in all.views session).given (view_in all.views session)
  course_first session least most stage empty =
      let view = view_in all.views session in
      let working = running.working.working session least most in
      let none : ends_by view view.stage ≡ 0 = ap (ends_by view) stage in
      record {
        answers = working.answers;
        follows = working.follows;
        were_given = working.given;
        ended = λ journals later. subst (AreEach (EndsInTime slot view.given journals working.answers) []) (sym empty) tt;
        looks = λ journals later. vain_new slot view.given journals (course_at view) view.began (ends_by view view.stage) (omega (arith, none));
        stops = λ journals later. (
          subst (λ journal. SeesNone slot view.given journal (course_at view) view.began (ends_by view view.stage)) (sym empty)
              (All-nil (λ was. IsKillOf slot view.given view.began was → GoesOnBefore slot view.given (course_at view) view.began (ends_by view view.stage) (slot_of slot was))),
          subst (AtEnd (SpendsNone slot view.given (desk_at all.plain view.given.session).journal journals) view) (sym stage) tt,
        );
      }

-- In the end.
module _ (gives : Answers) (all : AllSessions) (is : IsPlain all.plain) (running : AreRunning gives all) (finished : AreDone all.views) (schedule : List ℕ) (place : ℕ)
    (in_course : AreInCourse gives (slots all.script schedule) place all) where
  abbrev times : (session turn : ℕ) → ℕ
  times = slots all.script schedule

  abbrev stand : ℕ → List Entry
  stand = journal_at (journals all.plain)

  nothing_later : AreLater times place all.plain stand
  nothing_later desk low high = ([], journal_is all.plain desk ∙ sym (append-nil (desk_at all.plain desk).journal), All-nil (λ entry. place ≤ slot_of times entry))

  keeps_time : (session : ℕ) → 1 ≤ session → session ≤ length all.script.texts → KeepsTime gives all.script schedule (journals all.plain) session
  keeps_time session least most =
      let workers = running.workers in
      let desks = running.desks in
      let there : session ≤ length all.views = omega (arith, most, workers) in
      let view = view_in all.views session in
      let same : view.given ≡ given_of all.script session = running.working.given session least most in
      let given = given_of all.script session in
      let course : IsInCourse gives times place all.plain given view = subst (λ given. IsInCourse gives times place all.plain given view) same (in_course session least there) in
      let ended : AreEach (EndsInTime times given stand course.answers) [] (stand session) =
      subst (AreEach (EndsInTime times given stand course.answers) []) (sym (journal_is all.plain session)) (course.ended stand nothing_later) in
      record {
        program = record {
          mine = entries_of all.plain session;
          made = is_made all.plain is session least (omega (arith, most, desks));
          answers = course.answers;
          given = subst (λ (given : Given). AreAnswers gives given.texts course.answers) same course.were_given.ended;
          program = is_program all.plain view given course.answers same (finished session least there) course.follows;
        };
        looks = AreEach-weaker (EndsInTime times given stand course.answers) (LooksInTime times given stand course.answers) (λ before entry ends. ends.1) [] (stand session) ended;
        stops = AreEach-weaker (EndsInTime times given stand course.answers) (StopsInTime times given stand course.answers) (λ before entry ends. ends.2) [] (stand session) ended;
      }

  pub all_in_course : InCourse gives all.script schedule (journals all.plain)
  all_in_course = keeps_time
