-- A worker still knows what it has to after a statement began, or the session was gone.
use Rattle.std.proofs.Common.{◌≡◌, ℕ, ◌+◌, ◌*◌, ◌<◌, ◌≤◌, if◌then◌else◌, Bool, true, false, List, [], ◌∷◌, inl, inr, refl, sym, subst, ap, ◌∙◌, arith}
use Rattle.std.specs.Prelude.{Option, Some, None, IfSome}
use Rattle.std.proofs.lemmas.Bool.{cases_eq, eq-eqb, ne_eqb}
use Rattle.sa_desk.specs.declared.entry.Entry.{Entry}
use Rattle.sa_desk.specs.declared.entry.Event.{Event}
use Rattle.sa_desk.specs.declared.entry.Event.TheVariants as event
use Rattle.sa_desk.specs.declared.request.OpenWait.{OpenWait}
use Rattle.sa_desk.specs.declared.stamp.Stamp.{Stamp}
use Rattle.sa_desk.specs.State.{IsLawful}
use Rattle.sa_desk.specs.Contents.{Contents, state, entry_by, with_entries}
use Rattle.sa_desk.specs.World.{World, IsCall, Meets, next_stamp}
use Rattle.sa_desk.specs.Charge.{charge}
use Rattle.sa_desk.specs.Own.{free, own_from}
use Rattle.sa_desk.specs.call.Begin.{begin_answer, begin_entries}
use Rattle.sa_desk.specs.call.Begin as begin
use Rattle.sa_desk.specs.call.Look.{looks_of}
use Rattle.sa_desk.specs.program.Course.{text_of, Course, says, shows, waits, kills, runs, course_of}
use Rattle.sa_desk.proofs.program.May.{one_most}
use Rattle.sa_worker.specs.View.{Stage, View, text_at, left, plan_in, tables_in, me_of, desk_at, outline_at, request_at, owed_aiming, owed_own, owed_later, opens, closes, ends, asks, makes_steps, aimed}
use Rattle.sa_worker.specs.View as stages
use Rattle.sa_worker.specs.Next.{first_run, begins, goes_to, after_begin}
use Rattle.sa_worker.specs.Holds.{IsOn, run_at, StageHolds}
use Rattle.sa_worker.specs.Keeps.{IsSession, StageKnows, past, KeepsAt, Keeps}
use Rattle.sa_worker.proofs.Course.{IsFair, course_fair}
use Rattle.sa_worker.proofs.May.{May-at}
use Rattle.sa_worker.proofs.keeps.Moves.{Keeps-leads}
use Rattle.sa_worker.proofs.keeps.Goes.{aimed-own, aimed-less, waiting_same, Keeps-goes}
use Rattle.sa_worker.proofs.keeps.Places.{quiet_kept}

aimed-most : (asked desk price : ℕ) → aimed asked desk price ≤ price
aimed-most asked desk price =
    elim (cases_eq desk asked) [
      | inl same ↦ rw (eq-eqb desk asked same) (omega arith)
      | inr apart ↦ rw (ne_eqb desk asked apart) (omega arith)
    ]

-- An open wait of an earlier statement has never looked for this one.
looks_none : (wait : Option OpenWait) (number at : ℕ) → IfSome wait (λ wait. wait.statement < number) → looks_of wait number at ≡ 0
looks_none None number at below = refl
looks_none (Some wait) number at below = rw (ne_eqb wait.statement number (λ same. (omega arith))) refl

module _ (world later : World) (view : View) (keeps : KeepsAt world view opens) where
  abbrev session : ℕ
  session = view.given.session

  abbrev desk : Contents
  desk = world.contents session

  abbrev stamp : Stamp
  stamp = next_stamp world (me_of view)

  abbrev begun_by : Course → Event
  begun_by course = event.Begin view.number (text_of (text_at view) view.answer) 0 (plan_in course) (tables_in view.given course)

  -- the entry, by whether a KILL CONNECTION stands
  abbrev entries_for : Bool → Course → List Entry
  entries_for doomed course = entry_by desk stamp (if doomed then event.Gone view.number else begun_by course) ∷ []

  abbrev left_for : Bool → Course → Contents
  left_for doomed course = with_entries (entries_for doomed course) desk

  gone : (course : Course) → IsCall world later session session (entries_for true course) (left_for true course) → Keeps later (goes_to view closes)
  gone course call =
      let entries = entries_for true course in
      let after = left_for true course in
      let early = keeps.holds.holds in
      let first = keeps.holds.first in
      Keeps-goes world later view opens keeps entries after call closes (record {
        aimed = keeps.session;
        same = λ was. refl;
        outline = refl;
        request_here = refl;
        request_elsewhere = λ at apart. refl;
        room_here =
            let own = aimed-own session (2 * left view + 3) in
            let price = aimed-own session 1 in
            let one = one_most desk stamp (event.Gone view.number) 1 (omega arith) in omega (arith, own, price, one);
        room_elsewhere = λ at apart. let less = aimed-less session at 1 (2 * left view + 3) (omega arith) in omega (arith, less);
        waiting = waiting_same world later view opens keeps entries after call view.number (omega arith);
        past_more = omega arith;
        holds = (let there = early.0 in omega (arith, there), let turn = early.1 in omega (arith, turn, first));
        knows = tt;
      })

  -- nothing is published before a Begin
  unpublished : Meets world session session → (world.quiet session session).published ≡ 0
  unpublished met =
      let is_free = (May-at world view opens tt keeps met).free in
      let none : desk.published ≡ 0 = subst (λ phase. IsLawful desk.terms.quantum phase desk.published) is_free met.sound.lawful in
      sym (ap (λ quiet. quiet.published) met.counted) ∙ rw (eq-eqb session desk.terms.desk (sym met.number)) none

  module _ (course : Course) (call : IsCall world later session session (entries_for false course) (left_for false course)) where
    abbrev entries : List Entry
    entries = entries_for false course

    abbrev after : Contents
    after = left_for false course

    abbrev begun : Stage → View
    begun next = record view { turn = view.turn + 1; began = view.turn + 1; stage = next }

    same_quiet : (at : ℕ) → later.quiet session at ≡ world.quiet session at
    same_quiet = quiet_kept world later session session entries after call refl

    on_now : (next : Stage) → IsOn (begun next) 0
    on_now next = let early = keeps.holds.holds in record { there = early.0; began = (let turn = early.1 in omega (arith, turn)); turn = omega arith }

    price : charge session entries ≤ 1
    price = one_most desk stamp (begun_by course) 1 (omega arith)

    -- what is to show of the first stage after the Begin
    pub record First (next : Stage) : Type 0 where
      pub aimed : IsSession view.given (desk_at (begun next) next)
      pub outline : own_from free entries ≡ outline_at (begun next) stamp.seq next
      pub requests : (at : ℕ) → request_at (begun next) next at ≡ None
      pub owes : (at : ℕ) → owed_aiming next at ≤ 3
      pub owes_later : owed_later (begun next) next ≡ 3 * left view
      pub owes_own : owed_own (begun next) next ≡ 2 * left view + 2
      pub past_more : view.number ≤ past (begun next) next
      pub holds : StageHolds (begun next) next
      pub knows : StageKnows later (begun next) next

    leads_to : (next : Stage) → First next → KeepsAt later (begun next) next
    leads_to next goes = Keeps-leads world later view opens keeps entries after call view.settings (view.turn + 1) view.number view.answer (view.turn + 1) next (record {
      aimed = goes.aimed;
      begin = stamp.seq;
      outline_here = λ own. goes.outline;
      outline_elsewhere = λ apart. absurd (apart refl);
      request_here = sym (goes.requests session);
      request_elsewhere = λ at apart. sym (goes.requests at);
      room_here =
          let had = aimed-own session (2 * left view + 3) in
          let has = aimed-own session (owed_own (begun next) next) in
          let owes = goes.owes session in
          let own = goes.owes_own in
          let more = goes.owes_later in
          let one = price in omega (arith, had, has, owes, own, more, one);
      room_elsewhere = λ at apart.
          let owes = goes.owes at in
          let more = goes.owes_later in
          let own = goes.owes_own in
          let less = aimed-less session at (owed_own (begun next) next) (2 * left view + 3) (omega (arith, own)) in omega (arith, owes, more, less);
      waiting_here = waiting_same world later view opens keeps entries after call (past (begun next) next) goes.past_more;
      past_more = goes.past_more;
      holds = record {
        given = keeps.holds.given;
        first = keeps.holds.first;
        limit = keeps.holds.limit;
        answer = keeps.holds.answer;
        holds = goes.holds;
      };
      knows = goes.knows;
    })

  begun-as : (course : Course) → course_of view.given view.settings view.answer ≡ course → IsFair view.given course
      → IsCall world later session session (entries_for false course) (left_for false course)
      → let next = begins view course in KeepsAt later (record view { turn = view.turn + 1; began = view.turn + 1; stage = next }) next
  begun-as (says result) is fair call = leads_to (says result) call (ends result) (record {
    aimed = keeps.session;
    outline = refl;
    requests = λ at. refl;
    owes = λ at. omega arith;
    owes_later = refl;
    owes_own = refl;
    past_more = omega arith;
    holds = (0, omega arith, on_now (says result) call (ends result));
    knows = λ same. absurd (fair same);
  })
  begun-as (shows kind i) is fair call = leads_to (shows kind i) call (asks kind i) (record {
    aimed = fair;
    outline = refl;
    requests = λ at. refl;
    owes = λ at. aimed-most i at 3;
    owes_later = refl;
    owes_own = refl;
    past_more = omega arith;
    holds = record { on = on_now (shows kind i) call (asks kind i); course_is = is };
    knows = tt;
  })
  begun-as (waits i at) is fair call = leads_to (waits i at) call (stages.waits i at 0) (record {
    aimed = fair;
    outline = refl;
    requests = λ desk. refl;
    owes = λ desk. let most = aimed-most i desk 1 in omega (arith, most);
    owes_later = refl;
    owes_own = refl;
    past_more = omega arith;
    holds = (let least = keeps.holds.given.least_turns in (omega arith, omega arith), record { on = on_now (waits i at) call (stages.waits i at 0); course_is = is });
    knows = ap (λ quiet. looks_of quiet.wait view.number at) (same_quiet (waits i at) call i) ∙ looks_none (world.quiet session i).wait view.number at (keeps.waiting i fair);
  })
  begun-as (kills kind i) is fair call = leads_to (kills kind i) call (stages.kills kind i) (record {
    aimed = fair;
    outline = refl;
    requests = λ at. refl;
    owes = λ at. let most = aimed-most i at 1 in omega (arith, most);
    owes_later = refl;
    owes_own = refl;
    past_more = omega arith;
    holds = record { on = on_now (kills kind i) call (stages.kills kind i); course_is = is };
    knows = tt;
  })
  begun-as (runs analyze planned) is fair call =
      let run = first_run view planned in
      let next = makes_steps planned 0 run in
      let none : 0 ≡ 0 * view.given.quantum = omega arith in
      leads_to (runs analyze planned) call next (record {
        aimed = keeps.session;
        outline = refl;
        requests = λ at. refl;
        owes = λ at. omega arith;
        owes_later = refl;
        owes_own = refl;
        past_more = omega arith;
        holds = (
          record { on = on_now (runs analyze planned) call next; analyze = analyze; course_is = is; can_run = fair; runs_on = inl refl },
          ap (run_at view planned) none,
        );
        knows = (
          record {
            statement = refl;
            plan_is = refl;
            tables_are = refl;
            published = ap (λ quiet. quiet.published) (same_quiet (runs analyze planned) call session) ∙ unpublished call.met ∙ none;
            turn = omega arith;
          },
          none,
        );
      })

  -- The entry is a Begin, or Gone.
  began-as : (doomed : Bool) → IsCall world later session session (entries_for doomed (course_of view.given view.settings view.answer)) (left_for doomed (course_of view.given view.settings view.answer))
      → Keeps later (after_begin view (begin_answer doomed))
  began-as true call = gone (course_of view.given view.settings view.answer) call
  began-as false call =
      let course = course_of view.given view.settings view.answer in
      begun-as course refl (course_fair view.given view.settings view.answer keeps.holds.answer) call

  pub Keeps-begin : let course = course_of view.given view.settings view.answer in
      IsCall world later session session (begin_entries desk stamp (begun_by course) view.number) (begin.after_begin desk stamp (begun_by course) view.number)
      → Keeps later (after_begin view (begin_answer (state desk).doomed))
  Keeps-begin call = began-as (state desk).doomed call
