-- The entries are those of the program so far after a look at the desk that a session waits for.
use Rattle.std.proofs.Common.{◌≡◌, ℕ, ◌+◌, ◌-◌, ◌*◌, ◌<◌, ◌≤◌, List, [], ◌∷◌, ◌++◌, map, inl, inr, refl, sym, subst, subst₂, ap, arith}
use Rattle.std.specs.Prelude.{⊤, nat_lt, slice_set}
use Rattle.std.proofs.lemmas.Bool.{cases_Bool, cases_eq, eq-eqb, ne_eqb}
use Rattle.std.proofs.lemmas.Bool.Decides.{nat_tests}
use Rattle.sa_desk.specs.declared.answer.Looked.{Looked}
use Rattle.sa_desk.specs.declared.answer.Looked.TheVariants as looked
use Rattle.sa_desk.specs.declared.entry.Entry.{Entry}
use Rattle.sa_desk.specs.declared.entry.Event.TheVariants as event
use Rattle.sa_desk.specs.declared.entry.RefusedWhy.TheVariants as why
use Rattle.sa_desk.specs.declared.outcome.Outcome.TheVariants as outcome
use Rattle.sa_desk.specs.declared.stamp.Stamp.{Stamp}
use Rattle.sa_desk.specs.State.{Phase, idle, unplanned, planned, serving, closed}
use Rattle.sa_desk.specs.Contents.{Contents, phase, entry_by, with_entries}
use Rattle.sa_desk.specs.World.{World, IsCall, next_stamp}
use Rattle.sa_desk.specs.call.Look.{look_answer, open_answer, look_events, wait_after, looks_before, look_entries}
use Rattle.sa_desk.specs.call.Look as look
use Rattle.sa_desk.specs.program.Course.{Answer, course_of}
use Rattle.sa_desk.specs.program.Course as course
use Rattle.sa_desk.specs.program.Between.{Due, goes_on, Between}
use Rattle.sa_desk.specs.program.Between as due
use Rattle.sa_desk.proofs.program.Asks.{IsNext}
use Rattle.sa_desk.proofs.program.Waits.{waits-on, look-refused, look-reached, look-spent}
use Rattle.sa_worker.specs.View.{View, me_of, waits, looks_waiting, ends}
use Rattle.sa_worker.specs.Next.{after_look}
use Rattle.sa_worker.specs.Keeps.{KeepsAt}
use Rattle.sa_worker.specs.Follows.{IsWithin, FollowsAt, Follows}
use Rattle.sa_worker.proofs.keeps.Look.{looked_before}
use Rattle.sa_worker.proofs.keeps.Places.{turns_are}
use Rattle.sa_worker.proofs.follows.Moves.{IsWithin-more, told_one, told_none, Follows-on}

-- What an answer to a look tells, after so many looks of a budget.
abbrev FitsLooked : (at count turns : ℕ) → Looked → Type 0
FitsLooked at count turns looked.NoSuchThread = ⊤
FitsLooked at count turns (looked.Reached steps) = at ≤ steps
FitsLooked at count turns (looked.Spent steps spent) = (steps < at) × (spent ≡ turns) × (count + 1 ≡ turns)
FitsLooked at count turns looked.NotYet = count + 1 < turns

-- by whether so few are published, and whether it was the last look
open_fits : (at published count turns : ℕ) → count < turns → FitsLooked at count turns (open_answer at published count turns)
open_fits at published count turns below =
    elim (cases_Bool (nat_lt published at)) [
      | inl few ↦
          elim (cases_eq (count + 1) turns) [
            | inl last ↦ rw (few, eq-eqb (count + 1) turns last) (grind (arith, nat_tests), refl, last)
            | inr apart ↦ rw (few, ne_eqb (count + 1) turns apart) (omega arith)
          ]
      | inr enough ↦ rw enough (grind (arith, nat_tests))
    ]

look_fits : (phase : Phase) (at published count turns : ℕ) → count < turns → FitsLooked at count turns (look_answer phase at published count turns)
look_fits idle at published count turns below = open_fits at published count turns below
look_fits (unplanned statement) at published count turns below = open_fits at published count turns below
look_fits (planned statement execution) at published count turns below = open_fits at published count turns below
look_fits (serving statement execution steps turn) at published count turns below = open_fits at published count turns below
look_fits closed at published count turns below = tt

module _ (world later : World) (view : View) (i at count : ℕ) (keeps : KeepsAt world view (waits i at count)) (answers : List Answer)
    (follows : FollowsAt view (waits i at count) (world.seen view.given.session) answers (world.mine view.given.session)) where
  abbrev session : ℕ
  session = view.given.session

  abbrev desk : Contents
  desk = world.contents i

  abbrev stamp : Stamp
  stamp = next_stamp world (me_of view)

  abbrev entries_for : Looked → List Entry
  entries_for answer = map (entry_by desk stamp) (look_events answer view.number)

  abbrev left_for : Looked → Contents
  left_for answer =
      record (with_entries (entries_for answer) desk) { waits = slice_set desk.waits (session - 1) (wait_after answer view.number at (looks_before desk stamp view.number at)) }

  row : Between view.given view.number view.began (course.waits i at) [] view.turn goes_on
  row = subst (λ course. Between view.given view.number view.began course [] view.turn goes_on) keeps.holds.holds.1.course_is follows.tail_is.row

  -- the statement's entries, after the look
  within_after : (entries : List Entry) (due : Due) → Between view.given view.number view.began (course.waits i at) entries (view.turn + 1) due
      → IsWithin view.given view.settings view.number follows.last follows.texts view.began view.answer (follows.tail ++ entries) (view.turn + 1) entries due
  within_after entries due row =
      IsWithin-more view.given view.settings view.number follows.last follows.texts view.began view.answer follows.tail view.turn [] goes_on follows.tail_is entries (view.turn + 1) due
      (subst (λ course. Between view.given view.number view.began course entries (view.turn + 1) due) (sym keeps.holds.holds.1.course_is) row)

  -- the turn of this look
  turn_is : view.turn + 2 ≡ view.began + 2 * (count + 1)
  turn_is = let turn = keeps.holds.holds.1.on.turn in omega (arith, turn)

  looked-as : (answer : Looked) → FitsLooked at count view.given.turns answer → IsCall world later i session (entries_for answer) (left_for answer)
      → Follows (after_look view i at count answer) (later.seen session) answers (later.mine session)
  looked-as looked.NoSuchThread fits call =
      let answer = looked.NoSuchThread in
      let entry = entry_by desk stamp (event.Refused view.number why.NoSuchThread) in
      let result = outcome.NoSuchThread in
      let within = keeps.holds.holds.0.1 in
      let next : IsNext i entry view.turn entry.event = record { here = call.met.number; now = refl; is = refl } in
      Follows-on world later view (waits i at count) answers follows i (entries_for answer) (left_for answer) call (view.turn + 1) view.began (ends result)
      (told_one view.given (later.seen session) entry tt) (record {
        between = entry ∷ [];
        due_is = result;
        within = within_after (entry ∷ []) (due.ends result) (look-refused view.given view.number view.began i at entry view.turn (count + 1) (omega arith) (omega (arith, within)) turn_is next);
        is = inl refl;
        told = tt;
      })
  looked-as (looked.Reached steps) fits call =
      let answer = looked.Reached steps in
      let entry = entry_by desk stamp (event.Waited view.number steps) in
      let result = outcome.Waited steps in
      let within = keeps.holds.holds.0.1 in
      let next : IsNext i entry view.turn entry.event = record { here = call.met.number; now = refl; is = refl } in
      Follows-on world later view (waits i at count) answers follows i (entries_for answer) (left_for answer) call (view.turn + 1) view.began (ends result)
      (told_one view.given (later.seen session) entry tt) (record {
        between = entry ∷ [];
        due_is = result;
        within = within_after (entry ∷ []) (due.ends result) (look-reached view.given view.number view.began i at entry view.turn (count + 1) steps (omega arith) (omega (arith, within)) turn_is fits next);
        is = inl refl;
        told = tt;
      })
  looked-as (looked.Spent steps turns) fits call =
      let answer = looked.Spent steps turns in
      let entry = entry_by desk stamp (event.WaitSpent view.number steps turns) in
      let spent = outcome.WaitSpent steps view.given.turns in
      let turn = turn_is in
      let last = fits.2 in
      let next : IsNext i entry view.turn (event.WaitSpent view.number steps view.given.turns) = record { here = call.met.number; now = refl; is = ap (event.WaitSpent view.number steps) fits.1 } in
      Follows-on world later view (waits i at count) answers follows i (entries_for answer) (left_for answer) call (view.turn + 1) view.began (ends (outcome.WaitSpent steps turns))
      (told_one view.given (later.seen session) entry tt) (record {
        between = entry ∷ [];
        due_is = spent;
        within = within_after (entry ∷ []) (due.ends spent) (look-spent view.given view.number view.began i at entry view.turn steps (omega (arith, turn, last)) fits.0 next);
        is = inl (ap (outcome.WaitSpent steps) fits.1);
        told = tt;
      })
  looked-as looked.NotYet fits call =
      let turn = turn_is in
      Follows-on world later view (waits i at count) answers follows i [] (left_for looked.NotYet) call (view.turn + 1) view.began (looks_waiting i at (count + 1))
      (told_none view.given (later.seen session))
      (within_after [] goes_on (waits-on view.given view.number view.began i at view.turn (omega (arith, turn, fits)) row))

  pub Follows-look : IsCall world later i session (look_entries desk stamp view.number at) (look.after_look desk stamp view.number at)
      → Follows (after_look view i at count (look.looked desk stamp view.number at)) (later.seen session) answers (later.mine session)
  Follows-look call =
      let before = looks_before desk stamp view.number at in
      let had : before ≡ count = looked_before world later view i at count keeps call.met in
      let turns = turns_are world view (waits i at count) keeps i keeps.aimed call.met in
      let below = keeps.holds.holds.0.1 in
      looked-as (look.looked desk stamp view.number at)
      (subst₂ (λ count turns. FitsLooked at count turns (look.looked desk stamp view.number at)) had turns
      (look_fits (phase desk) at desk.published before desk.terms.turns (omega (arith, had, turns, below)))) call
