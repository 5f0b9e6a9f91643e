-- A worker still knows what it has to after its statement ended.
use Rattle.std.proofs.Common.{◌≡◌, ℕ, ◌+◌, ◌-◌, ◌*◌, ◌<◌, ◌≤◌, if◌then◌else◌, List, [], ◌∷◌, length, refl, subst, ◌∙◌, arith}
use Rattle.std.specs.Prelude.{Option, Some, None, IfSome}
use Rattle.sa_plan.specs.declared.plan.Planned.{Planned}
use Rattle.sa_meaning.specs.Progress.{Progress}
use Rattle.sa_desk.specs.declared.answer.Ended.{Ended}
use Rattle.sa_desk.specs.declared.entry.Entry.{Entry}
use Rattle.sa_desk.specs.declared.entry.Event.TheVariants as event
use Rattle.sa_desk.specs.declared.outcome.Finish.{Finish}
use Rattle.sa_desk.specs.declared.outcome.Outcome.{Outcome}
use Rattle.sa_desk.specs.declared.outcome.Outcome.TheVariants as outcome
use Rattle.sa_desk.specs.declared.stamp.Stamp.{Stamp}
use Rattle.sa_desk.specs.State.{queue_of}
use Rattle.sa_desk.specs.Contents.{Contents, phase, later as later_stamp}
use Rattle.sa_desk.specs.Serving.{is_killed, report_of, served_with}
use Rattle.sa_desk.specs.World.{World, IsCall, quiet_of, next_stamp}
use Rattle.sa_desk.specs.Charge.{charge}
use Rattle.sa_desk.specs.Own.{Outline, free, own_from, request_from}
use Rattle.sa_desk.specs.call.End.{run_of, outcome_of, steps_of, served_by, end_answer, end_entry, end_entries}
use Rattle.sa_desk.specs.call.End as end
use Rattle.sa_desk.specs.program.Course.{settings_after}
use Rattle.sa_desk.specs.program.Turn.{itself}
use Rattle.sa_desk.proofs.Append.{charge-append}
use Rattle.sa_desk.proofs.program.May.{one_most}
use Rattle.sa_desk.proofs.program.Own.{own_from-append, request_from-append, request_from-served, charge-served}
use Rattle.sa_worker.specs.View.{Stage, View, left, desk_at, request_at, owed_own, owed_later, outline_at, me_of, prepares, ends, ends_run}
use Rattle.sa_worker.specs.Next.{shown, after_end}
use Rattle.sa_worker.specs.Holds.{longest, IsOn}
use Rattle.sa_worker.specs.Keeps.{past, KeepsAt, Keeps}
use Rattle.sa_worker.proofs.Course.{limit_after}
use Rattle.sa_worker.proofs.Turns.{points_most}
use Rattle.sa_worker.proofs.keeps.Moves.{Keeps-leads}
use Rattle.sa_worker.proofs.keeps.Goes.{aimed-at, aimed-less, waiting_same}

module _ (desk : Contents) (stamp : Stamp) (number : ℕ) (given : Outcome) where
  -- What an End's entries do to what the session's own entries say.
  own_from-ended : (was : Outline) (run : Option Progress) → own_from was (end_entries desk stamp number run given) ≡ free
  own_from-ended was None = refl
  own_from-ended was (Some run) =
      own_from-append was (served_with desk (report_of run) stamp (queue_of (phase desk))) (end_entry desk stamp number (Some run) given ∷ [])

  request_from-ended : (was : Option ℕ) (run : Option Progress) → request_from was (end_entries desk stamp number run given) ≡ was
  request_from-ended was None = refl
  request_from-ended was (Some run) =
      let queue = queue_of (phase desk) in
      request_from-append was (served_with desk (report_of run) stamp queue) (end_entry desk stamp number (Some run) given ∷ [])
      ∙ request_from-served was desk (report_of run) stamp queue

  one_end : (run : Option Progress) → charge stamp.actor (end_entry desk stamp number run given ∷ []) ≤ 1
  one_end run =
      let what = event.End number (if is_killed (phase desk) then outcome.Interrupted else given) (steps_of run) in
      one_most desk (later_stamp (length (served_by desk stamp run)) stamp) what 1 (omega arith)

  charge-ended : (run : Option Progress) → charge stamp.actor (end_entries desk stamp number run given) ≤ 1
  charge-ended None = one_end None
  charge-ended (Some run) =
      let queue = queue_of (phase desk) in
      let none = charge-served stamp.actor desk (report_of run) stamp queue in
      let both = charge-append stamp.actor (served_with desk (report_of run) stamp queue) (end_entry desk stamp number (Some run) given ∷ []) in
      let one = one_end (Some run) in omega (arith, none, both, one)

module _ (world later : World) (view : View) where
  abbrev session : ℕ
  session = view.given.session

  abbrev desk : Contents
  desk = world.contents session

  abbrev stamp : Stamp
  stamp = next_stamp world (me_of view)

  -- a stage at which a statement ends
  pub record AtEnd (stage : Stage) : Type 0 where
    pub requests : (at : ℕ) → request_at view stage at ≡ None
    pub owes_later : owed_later view stage ≡ 3 * left view
    pub owes_own : owed_own view stage ≡ 2 * left view + 2
    pub past_most : past view stage ≤ view.number + 1
    pub lasted : ℕ
    pub on : IsOn view lasted
    pub short : lasted + 2 ≤ longest

  module _ (stage : Stage) (keeps : KeepsAt world view stage) (run : Option Progress) (given : Outcome) (here : desk_at view stage ≡ session) (at_end : AtEnd stage)
      (call : IsCall world later (desk_at view stage) session (end_entries desk stamp view.number run given) (end.after_end desk stamp view.number run given)) where
    abbrev entries : List Entry
    entries = end_entries desk stamp view.number run given

    abbrev after : Contents
    after = end.after_end desk stamp view.number run given

    price : charge session entries ≤ 1
    price = charge-ended desk stamp view.number given run

    waits_left : IfSome (quiet_of after session).wait (λ wait. wait.statement < view.number + 1)
    waits_left = subst (λ at. IfSome (quiet_of (world.contents at) session).wait (λ wait. wait.statement < view.number + 1)) here
        (waiting_same world later view stage keeps entries after call (view.number + 1) at_end.past_most)

    ended-as : (answer : Ended) → Keeps later (after_end view given answer)
    ended-as answer =
        let statements = length view.given.texts + 1 - (view.number + 1) in
        let result = shown given answer in
        let on = at_end.on in
        let first = keeps.holds.first in
        Keeps-leads world later view stage keeps entries after call (settings_after view.settings view.answer result) (view.turn + 1) (view.number + 1) view.answer view.began prepares (record {
          aimed = keeps.session;
          begin = keeps.begin;
          outline_here = λ own. own_from-ended desk stamp view.number given (outline_at view keeps.begin stage) run;
          outline_elsewhere = λ apart. absurd (apart here);
          request_here = request_from-ended desk stamp view.number given (request_at view stage (desk_at view stage)) run ∙ at_end.requests (desk_at view stage);
          request_elsewhere = λ at apart. at_end.requests at;
          room_here =
              let had = aimed-at session (desk_at view stage) (owed_own view stage) here in
              let has = aimed-at session (desk_at view stage) (2 * statements + 1) here in
              let more = at_end.owes_later in
              let own = at_end.owes_own in
              let there = on.there in
              let one = price in omega (arith, had, has, more, own, there, one);
          room_elsewhere = λ at apart.
              let more = at_end.owes_later in
              let own = at_end.owes_own in
              let there = on.there in
              let less = aimed-less session at (2 * statements + 1) (owed_own view stage) (omega (arith, own, there)) in omega (arith, more, there, less);
          waiting_here = waits_left;
          past_more = at_end.past_most;
          holds = record {
            given = keeps.holds.given;
            first = omega arith;
            limit = limit_after view.given view.settings view.answer result keeps.holds.limit keeps.holds.answer;
            answer = keeps.holds.answer;
            holds = (
              let there = on.there in omega (arith, there),
              let turn = on.turn in let began = on.began in let short = at_end.short in omega (arith, turn, began, short, first),
            );
          };
          knows = tt;
        })

  pub Keeps-end : (result : Outcome) → KeepsAt world view (ends result)
      → IsCall world later session session (end_entries desk stamp view.number None result) (end.after_end desk stamp view.number None result)
      → Keeps later (after_end view result (end_answer (is_killed (phase desk))))
  Keeps-end result keeps call =
      let short = keeps.holds.holds.1 in
      let turns = keeps.holds.given.most_turns in
      ended-as (ends result) keeps None result refl (record {
        requests = λ at. refl;
        owes_later = refl;
        owes_own = refl;
        past_most = omega arith;
        lasted = keeps.holds.holds.0;
        on = keeps.holds.holds.2;
        short = omega (arith, short, turns);
      }) call (end_answer (is_killed (phase desk)))

  pub Keeps-end_run : (planned : Planned) (made : ℕ) (run : Progress) (given : Finish Progress) → KeepsAt world view (ends_run planned made run given)
      → IsCall world later session session (end_entries desk stamp view.number (run_of itself given) (outcome_of itself given)) (end.after_end desk stamp view.number (run_of itself given) (outcome_of itself given))
      → Keeps later (after_end view (outcome_of itself given) (end_answer (is_killed (phase desk))))
  Keeps-end_run planned made run given keeps call =
      let limit = keeps.holds.limit.1 in
      let points = points_most view planned made keeps.holds.given keeps.holds.holds.0 in
      ended-as (ends_run planned made run given) keeps (run_of itself given) (outcome_of itself given) refl (record {
        requests = λ at. refl;
        owes_later = refl;
        owes_own = refl;
        past_most = omega arith;
        lasted = made;
        on = keeps.holds.holds.0.on;
        short = omega (arith, points, limit);
      }) call (end_answer (is_killed (phase desk)))
