-- A worker still knows what it has to after a look at the desk that it waits for.
use Rattle.std.proofs.Common.{◌≡◌, ℕ, ◌+◌, ◌-◌, ◌*◌, ◌<◌, ◌≤◌, ◌==◌, if◌then◌else◌, true, false, List, [], map, inl, inr, refl, sym, subst, ap, ◌∙◌, arith, get_or-set_same}
use Rattle.std.specs.Prelude.{Bool, None, IfSome, nat_lt, slice_set, slice_index_or}
use Rattle.std.proofs.lemmas.Bool.{cases_eq, eq-eqb}
use Rattle.sa_desk.specs.declared.answer.Looked.{Looked}
use Rattle.sa_desk.specs.declared.answer.Looked.TheVariants as looked
use Rattle.sa_desk.specs.declared.entry.Entry.{Entry}
use Rattle.sa_desk.specs.declared.entry.Event.TheVariants as event
use Rattle.sa_desk.specs.declared.entry.RefusedWhy.TheVariants as why
use Rattle.sa_desk.specs.declared.outcome.Outcome.{Outcome}
use Rattle.sa_desk.specs.declared.outcome.Outcome.TheVariants as outcome
use Rattle.sa_desk.specs.declared.stamp.Stamp.{Stamp}
use Rattle.sa_desk.specs.State.{Phase, idle, unplanned, planned, serving, closed}
use Rattle.sa_desk.specs.Contents.{Contents, phase, entry_by, with_entries}
use Rattle.sa_desk.specs.World.{World, IsCall, Meets, next_stamp}
use Rattle.sa_desk.specs.Charge.{charge}
use Rattle.sa_desk.specs.Own.{Outline, own_from, request_from}
use Rattle.sa_desk.specs.call.Look.{looks_of, open_answer, look_answer, look_events, wait_after, looks_before, look_entries}
use Rattle.sa_desk.specs.call.Look as look
use Rattle.sa_desk.proofs.program.May.{one_most}
use Rattle.sa_worker.specs.View.{View, me_of, waits, looks_waiting, ends}
use Rattle.sa_worker.specs.Next.{goes_to, after_look}
use Rattle.sa_worker.specs.Holds.{IsOn}
use Rattle.sa_worker.specs.Keeps.{KeepsAt, Keeps}
use Rattle.sa_worker.proofs.keeps.Goes.{aimed-own, on_later, Keeps-goes, Keeps-ends}
use Rattle.sa_worker.proofs.keeps.Places.{in_waits, turns_are, wait_is}

-- A look that is answered NotYet isn't the last one.
open_not_last : (few : Bool) (published count turns : ℕ) → count < turns
    → (if few then (if count + 1 == turns then looked.Spent published turns else looked.NotYet) else looked.Reached published) ≡ looked.NotYet → count + 1 < turns
open_not_last false published count turns within is = cc
open_not_last true published count turns within is =
    elim (cases_eq (count + 1) turns) [
      | inl last ↦ let spent : looked.Spent published turns ≡ looked.NotYet = rw (eq-eqb (count + 1) turns last) at is in cc
      | inr apart ↦ omega arith
    ]

not_last : (phase : Phase) (at published count turns : ℕ) → count < turns → look_answer phase at published count turns ≡ looked.NotYet → count + 1 < turns
not_last idle at published count turns within is = open_not_last (nat_lt published at) published count turns within is
not_last (unplanned statement) at published count turns within is = open_not_last (nat_lt published at) published count turns within is
not_last (planned statement execution) at published count turns within is = open_not_last (nat_lt published at) published count turns within is
not_last (serving statement execution steps turn) at published count turns within is = open_not_last (nat_lt published at) published count turns within is
not_last closed at published count turns within is = cc

-- The wait that goes on has looked once more.
looks_more : (number at looks : ℕ) → looks_of (wait_after looked.NotYet number at looks) number at ≡ looks + 1
looks_more number at looks = rw (eq-eqb number number refl, eq-eqb at at refl) refl

module _ (world later : World) (view : View) (i at count : ℕ) (keeps : KeepsAt world view (waits i at count)) where
  abbrev desk : Contents
  desk = world.contents i

  abbrev stamp : Stamp
  stamp = next_stamp world (me_of view)

  abbrev before : ℕ
  before = looks_before desk stamp view.number at

  abbrev entries_for : Looked → List Entry
  entries_for answer = map (entry_by desk stamp) (look_events answer view.number)

  abbrev left_for : Looked → Contents
  left_for answer =
      record (with_entries (entries_for answer) desk) { waits = slice_set desk.waits (view.given.session - 1) (wait_after answer view.number at before) }

  pub looked_before : Meets world i view.given.session → before ≡ count
  looked_before met = ap (λ wait. looks_of wait view.number at) (wait_is world view (waits i at count) keeps i keeps.aimed met) ∙ keeps.knows

  -- the wait that the call leaves
  wait_left : (answer : Looked) → Meets world i view.given.session
      → slice_index_or (left_for answer).waits (view.given.session - 1) None ≡ wait_after answer view.number at before
  wait_left answer met =
      get_or-set_same desk.waits (view.given.session - 1) (wait_after answer view.number at before) None (in_waits world view (waits i at count) keeps i keeps.aimed met)

  ends_with : (answer : Looked) (result : Outcome) → (result ≡ outcome.Interrupted → ⊥) → wait_after answer view.number at before ≡ None
      → ((was : Outline) → own_from was (entries_for answer) ≡ was) → request_from None (entries_for answer) ≡ None → charge view.given.session (entries_for answer) ≤ 1
      → IsCall world later i view.given.session (entries_for answer) (left_for answer) → Keeps later (goes_to view (ends result))
  ends_with answer result other over same none one call =
      Keeps-ends world later view (waits i at count) keeps (entries_for answer) (left_for answer) call result (record {
        same = same;
        outline = refl;
        request_here = none;
        request_elsewhere = λ at apart. refl;
        owes = let price = aimed-own i 1 in omega (arith, price, one);
        owes_later = refl;
        owes_own = refl;
        waiting = subst (λ wait. IfSome wait (λ wait. wait.statement < view.number + 1)) (sym (wait_left answer call.met ∙ over)) tt;
        past_more = omega arith;
        lasted = 2 * count;
        on = keeps.holds.holds.1.on;
        turns = let within = keeps.holds.holds.0.1 in omega (arith, within);
        knows = λ is. absurd (other is);
      })

  looked-as : (answer : Looked) → (answer ≡ looked.NotYet → count + 1 < view.given.turns) → IsCall world later i view.given.session (entries_for answer) (left_for answer)
      → Keeps later (after_look view i at count answer)
  looked-as looked.NoSuchThread fits call =
      ends_with looked.NoSuchThread outcome.NoSuchThread (λ is. (cc)) refl (λ was. refl) refl (one_most desk stamp (event.Refused view.number why.NoSuchThread) 1 (omega arith)) call
  looked-as (looked.Reached steps) fits call =
      ends_with (looked.Reached steps) (outcome.Waited steps) (λ is. (cc)) refl (λ was. refl) refl (one_most desk stamp (event.Waited view.number steps) 1 (omega arith)) call
  looked-as (looked.Spent steps turns) fits call =
      ends_with (looked.Spent steps turns) (outcome.WaitSpent steps turns) (λ is. (cc)) refl (λ was. refl) refl (one_most desk stamp (event.WaitSpent view.number steps turns) 1 (omega arith)) call
  looked-as looked.NotYet fits call =
      let stage = waits i at count in
      let next = looks_waiting i at (count + 1) in
      let more = fits refl in
      let left = wait_left looked.NotYet call.met in
      let on : IsOn (goes_to view next) (2 * (count + 1) - 1) = subst (IsOn (goes_to view next)) (omega arith) (on_later view next (2 * count) keeps.holds.holds.1.on) in
      Keeps-goes world later view stage keeps [] (left_for looked.NotYet) call next (record {
        aimed = keeps.session;
        same = λ was. refl;
        outline = refl;
        request_here = refl;
        request_elsewhere = λ at apart. refl;
        room_here = omega arith;
        room_elsewhere = λ at apart. omega arith;
        waiting = subst (λ wait. IfSome wait (λ wait. wait.statement < view.number + 1)) (sym left) (omega arith);
        past_more = omega arith;
        holds = ((omega arith, more), record { on = on; course_is = keeps.holds.holds.1.course_is });
        knows = ap (λ quiet. looks_of quiet.wait view.number at) call.counted_is ∙ ap (λ wait. looks_of wait view.number at) left
            ∙ looks_more view.number at before ∙ ap (λ count. count + 1) (looked_before call.met);
      })

  pub Keeps-look : IsCall world later i view.given.session (look_entries desk stamp view.number at) (look.after_look desk stamp view.number at)
      → Keeps later (after_look view i at count (look.looked desk stamp view.number at))
  Keeps-look call =
      let had = looked_before call.met in
      let turns = turns_are world view (waits i at count) keeps i keeps.aimed call.met in
      let below = keeps.holds.holds.0.1 in
      looked-as (look.looked desk stamp view.number at)
      (λ is. let more = not_last (phase desk) at desk.published before desk.terms.turns (omega (arith, had, turns, below)) is in omega (arith, more, had, turns)) call
