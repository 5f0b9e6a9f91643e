-- A worker still knows what it has to after it looked for a kill between two polls, or between two looks.
use Rattle.std.proofs.Common.{◌≡◌, ℕ, ◌+◌, ◌-◌, ◌*◌, true, false, Bool, [], refl, subst, ap, ◌∙◌, arith}
use Rattle.sa_ast.specs.declared.kind.AskKind.{AskKind}
use Rattle.sa_desk.specs.declared.outcome.Outcome.TheVariants as outcome
use Rattle.sa_desk.specs.Contents.{Contents, phase}
use Rattle.sa_desk.specs.Runs.{state_of}
use Rattle.sa_desk.specs.Serving.{is_killed}
use Rattle.sa_desk.specs.World.{World, IsCall}
use Rattle.sa_desk.specs.call.Look.{looks_of}
use Rattle.sa_desk.specs.call.Point.{point_answer}
use Rattle.sa_worker.specs.View.{Stage, View, polls, looks_asking, withdraws, looks_waiting, ends}
use Rattle.sa_worker.specs.View as stages
use Rattle.sa_worker.specs.Next.{goes_to, after_look_asking, after_look_waiting}
use Rattle.sa_worker.specs.Holds.{IsOn}
use Rattle.sa_worker.specs.Keeps.{KeepsAt, Keeps}
use Rattle.sa_worker.proofs.Course.{aims_ask, aims_wait}
use Rattle.sa_worker.proofs.keeps.Goes.{on_later, waiting_same, Keeps-goes, Keeps-ends}
use Rattle.sa_worker.proofs.keeps.Places.{quiet_kept}
use Rattle.sa_worker.proofs.keeps.Stands.{still_here}

module _ (world later : World) (view : View) where
  abbrev session : ℕ
  session = view.given.session

  abbrev desk : Contents
  desk = world.contents session

  -- What it counts stays.
  module _ (call : IsCall world later session session [] desk) where
    same_quiet : (at : ℕ) → later.quiet session at ≡ world.quiet session at
    same_quiet = quiet_kept world later session session [] desk call refl

    is_seen : is_killed (phase desk) ≡ true → is_killed (state_of (world.terms session) desk.journal).phase ≡ true
    is_seen killed = subst (λ terms. is_killed (state_of terms desk.journal).phase ≡ true) call.met.terms killed

  module _ (kind : AskKind) (i count : ℕ) (keeps : KeepsAt world view (looks_asking kind i count)) (call : IsCall world later session session [] desk) where
    looked_asking : (killed : Bool) → is_killed (phase desk) ≡ killed → Keeps later (after_look_asking view kind i count (point_answer killed))
    looked_asking false none =
        let next = polls kind i count in
        let on : IsOn (goes_to view next) (1 + 2 * count) = subst (IsOn (goes_to view next)) (omega arith) (on_later view next (2 * count) keeps.holds.holds.1.on) in
        Keeps-goes world later view (looks_asking kind i count) keeps [] desk call next (record {
          aimed = aims_ask view kind i keeps.holds.answer keeps.holds.holds.1.course_is;
          same = λ was. refl;
          outline = refl;
          request_here = refl;
          request_elsewhere = λ at apart. refl;
          room_here = omega arith;
          room_elsewhere = λ at apart. omega arith;
          waiting = waiting_same world later view (looks_asking kind i count) keeps [] desk call view.number (omega arith);
          past_more = omega arith;
          holds = ((omega arith, keeps.holds.holds.0.1), record { on = on; course_is = keeps.holds.holds.1.course_is });
          knows = ap (λ quiet. quiet.polls) (same_quiet call i) ∙ keeps.knows;
        })
    looked_asking true is =
        let next = withdraws kind i count in
        let on : IsOn (goes_to view next) (1 + 2 * count) = subst (IsOn (goes_to view next)) (omega arith) (on_later view next (2 * count) keeps.holds.holds.1.on) in
        Keeps-goes world later view (looks_asking kind i count) keeps [] desk call next (record {
          aimed = aims_ask view kind i keeps.holds.answer keeps.holds.holds.1.course_is;
          same = λ was. refl;
          outline = refl;
          request_here = refl;
          request_elsewhere = λ at apart. refl;
          room_here = omega arith;
          room_elsewhere = λ at apart. omega arith;
          waiting = waiting_same world later view (looks_asking kind i count) keeps [] desk call view.number (omega arith);
          past_more = omega arith;
          holds = (keeps.holds.holds.0, record { on = on; course_is = keeps.holds.holds.1.course_is });
          knows = still_here world later view (looks_asking kind i count) keeps [] desk call next refl (is_seen call is);
        })

    pub Keeps-look_asking : Keeps later (after_look_asking view kind i count (point_answer (is_killed (phase desk))))
    Keeps-look_asking = looked_asking (is_killed (phase desk)) refl

  module _ (i at count : ℕ) (keeps : KeepsAt world view (looks_waiting i at count)) (call : IsCall world later session session [] desk) where
    looked_waiting : (killed : Bool) → is_killed (phase desk) ≡ killed → Keeps later (after_look_waiting view i at count (point_answer killed))
    looked_waiting false none =
        let next = stages.waits i at count in
        let least = keeps.holds.holds.0.0 in
        let on : IsOn (goes_to view next) (2 * count) = subst (IsOn (goes_to view next)) (omega (arith, least)) (on_later view next (2 * count - 1) keeps.holds.holds.1.on) in
        Keeps-goes world later view (looks_waiting i at count) keeps [] desk call next (record {
          aimed = aims_wait view i at keeps.holds.answer keeps.holds.holds.1.course_is;
          same = λ was. refl;
          outline = refl;
          request_here = refl;
          request_elsewhere = λ at apart. refl;
          room_here = omega arith;
          room_elsewhere = λ at apart. omega arith;
          waiting = waiting_same world later view (looks_waiting i at count) keeps [] desk call (view.number + 1) (omega arith);
          past_more = omega arith;
          holds = ((omega arith, keeps.holds.holds.0.1), record { on = on; course_is = keeps.holds.holds.1.course_is });
          knows = ap (λ quiet. looks_of quiet.wait view.number at) (same_quiet call i) ∙ keeps.knows;
        })
    looked_waiting true is =
        Keeps-ends world later view (looks_waiting i at count) keeps [] desk call outcome.Interrupted (record {
          same = λ was. refl;
          outline = refl;
          request_here = refl;
          request_elsewhere = λ at apart. refl;
          owes = omega arith;
          owes_later = refl;
          owes_own = refl;
          waiting = waiting_same world later view (looks_waiting i at count) keeps [] desk call (view.number + 1) (omega arith);
          past_more = omega arith;
          lasted = 2 * count - 1;
          on = keeps.holds.holds.1.on;
          turns = let within = keeps.holds.holds.0.1 in let least = keeps.holds.holds.0.0 in omega (arith, within, least);
          knows = λ same. still_here world later view (looks_waiting i at count) keeps [] desk call (ends outcome.Interrupted) refl (is_seen call is);
        })

    pub Keeps-look_waiting : Keeps later (after_look_waiting view i at count (point_answer (is_killed (phase desk))))
    Keeps-look_waiting = looked_waiting (is_killed (phase desk)) refl
