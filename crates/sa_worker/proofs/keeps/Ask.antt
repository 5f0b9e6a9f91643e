-- A worker still knows what it has to after it asked.
use Rattle.std.proofs.Common.{ℕ, ◌+◌, ◌-◌, ◌*◌, ◌≤◌, List, [], ◌∷◌, refl, sym, ap, ◌∙◌, arith, get_or-set_same}
use Rattle.std.specs.Prelude.{slice_set}
use Rattle.sa_ast.specs.declared.kind.AskKind.{AskKind}
use Rattle.sa_desk.specs.declared.answer.Asked.{Asked}
use Rattle.sa_desk.specs.declared.answer.Asked.TheVariants as asked
use Rattle.sa_desk.specs.declared.entry.Entry.{Entry}
use Rattle.sa_desk.specs.declared.entry.Event.TheVariants as event
use Rattle.sa_desk.specs.declared.entry.RefusedWhy.TheVariants as why
use Rattle.sa_desk.specs.declared.outcome.Outcome.TheVariants as outcome
use Rattle.sa_desk.specs.declared.stamp.Stamp.{Stamp}
use Rattle.sa_desk.specs.Contents.{Contents, phase, entry_by, with_entries}
use Rattle.sa_desk.specs.World.{World, IsCall, next_stamp}
use Rattle.sa_desk.specs.call.Ask.{ask_answer, ask_event, ask_entries}
use Rattle.sa_desk.specs.call.Ask as ask
use Rattle.sa_desk.proofs.program.May.{one_most}
use Rattle.sa_worker.specs.View.{View, me_of, asks, polls}
use Rattle.sa_worker.specs.Next.{after_ask}
use Rattle.sa_worker.specs.Keeps.{KeepsAt, Keeps}
use Rattle.sa_worker.proofs.keeps.Goes.{aimed-own, aimed-less, open_at-own, open_at-other, on_later, waiting_same, Keeps-goes, Keeps-ends}
use Rattle.sa_worker.proofs.keeps.Places.{in_polls}

module _ (world later : World) (view : View) (kind : AskKind) (i : ℕ) (keeps : KeepsAt world view (asks kind i)) where
  abbrev desk : Contents
  desk = world.contents i

  abbrev stamp : Stamp
  stamp = next_stamp world (me_of view)

  abbrev entries_for : Asked → List Entry
  entries_for answer = entry_by desk stamp (ask_event answer view.number kind desk.published view.given.turns) ∷ []

  -- what the call leaves, its polls counted from 0
  abbrev left_for : Asked → Contents
  left_for answer = record (with_entries (entries_for answer) desk) { polls = slice_set desk.polls (view.given.session - 1) 0 }

  turns_left : 0 + 1 ≤ 2 * view.given.turns
  turns_left = let least = keeps.holds.given.least_turns in omega arith

  asked-as : (answer : Asked) → IsCall world later i view.given.session (entries_for answer) (left_for answer) → Keeps later (after_ask view kind i answer)
  asked-as asked.Queued call =
      let what = event.Queued view.number kind desk.published view.given.turns in
      let three = aimed-own i 3 in
      let price = aimed-own i 1 in
      Keeps-goes world later view (asks kind i) keeps (entries_for asked.Queued) (left_for asked.Queued) call (polls kind i 0) (record {
        aimed = keeps.aimed;
        same = λ was. refl;
        outline = refl;
        request_here = sym (open_at-own view.number i);
        request_elsewhere = λ at apart. sym (open_at-other view.number i at apart);
        room_here = let two = one_most desk stamp what 2 (omega arith) in omega (arith, price, three, two);
        room_elsewhere = λ at apart. let less = aimed-less i at 1 3 (omega arith) in omega (arith, less);
        waiting = waiting_same world later view (asks kind i) keeps (entries_for asked.Queued) (left_for asked.Queued) call view.number (omega arith);
        past_more = omega arith;
        holds = (let least = keeps.holds.given.least_turns in (omega arith, omega arith), record { on = on_later view (polls kind i 0) 0 keeps.holds.holds.on; course_is = keeps.holds.holds.course_is });
        knows = ap (λ quiet. quiet.polls) call.counted_is
            ∙ get_or-set_same desk.polls (view.given.session - 1) 0 0 (in_polls world view (asks kind i) keeps i keeps.aimed call.met);
      })
  asked-as asked.NotExplainable call =
      let what = event.Refused view.number why.NotExplainable in
      Keeps-ends world later view (asks kind i) keeps (entries_for asked.NotExplainable) (left_for asked.NotExplainable) call outcome.NotExplainable (record {
        same = λ was. refl;
        outline = refl;
        request_here = refl;
        request_elsewhere = λ at apart. refl;
        owes = let price = aimed-own i 3 in let one = one_most desk stamp what 1 (omega arith) in omega (arith, price, one);
        owes_later = refl;
        owes_own = refl;
        waiting = waiting_same world later view (asks kind i) keeps (entries_for asked.NotExplainable) (left_for asked.NotExplainable) call (view.number + 1) (omega arith);
        past_more = omega arith;
        lasted = 0;
        on = keeps.holds.holds.on;
        turns = turns_left;
        knows = λ is. (cc);
      })
  asked-as asked.NoSuchThread call =
      let what = event.Refused view.number why.NoSuchThread in
      Keeps-ends world later view (asks kind i) keeps (entries_for asked.NoSuchThread) (left_for asked.NoSuchThread) call outcome.NoSuchThread (record {
        same = λ was. refl;
        outline = refl;
        request_here = refl;
        request_elsewhere = λ at apart. refl;
        owes = let price = aimed-own i 3 in let one = one_most desk stamp what 1 (omega arith) in omega (arith, price, one);
        owes_later = refl;
        owes_own = refl;
        waiting = waiting_same world later view (asks kind i) keeps (entries_for asked.NoSuchThread) (left_for asked.NoSuchThread) call (view.number + 1) (omega arith);
        past_more = omega arith;
        lasted = 0;
        on = keeps.holds.holds.on;
        turns = turns_left;
        knows = λ is. (cc);
      })

  pub Keeps-ask : IsCall world later i view.given.session (ask_entries desk stamp view.number kind view.given.turns) (ask.after_ask desk stamp view.number kind view.given.turns)
      → Keeps later (after_ask view kind i (ask_answer (phase desk)))
  Keeps-ask call = asked-as (ask_answer (phase desk)) call
