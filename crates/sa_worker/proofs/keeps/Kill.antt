-- A worker still knows what it has to after a kill.
use Rattle.std.proofs.Common.{ℕ, ◌+◌, ◌*◌, ◌≤◌, [], ◌∷◌, refl, arith}
use Rattle.sa_ast.specs.declared.kind.KillKind.{KillKind}
use Rattle.sa_desk.specs.declared.answer.Killed.{Killed}
use Rattle.sa_desk.specs.declared.answer.Killed.TheVariants as killed
use Rattle.sa_desk.specs.declared.entry.Event.TheVariants as event
use Rattle.sa_desk.specs.declared.entry.RefusedWhy.TheVariants as why
use Rattle.sa_desk.specs.declared.outcome.Outcome.TheVariants as outcome
use Rattle.sa_desk.specs.declared.stamp.Stamp.{Stamp}
use Rattle.sa_desk.specs.Contents.{Contents, phase, entry_by, with_entries}
use Rattle.sa_desk.specs.World.{World, IsCall, next_stamp}
use Rattle.sa_desk.specs.call.Kill.{kill_answer, kill_event, kill_entries}
use Rattle.sa_desk.specs.call.Kill as kill
use Rattle.sa_desk.proofs.program.May.{one_most}
use Rattle.sa_worker.specs.View.{View, me_of}
use Rattle.sa_worker.specs.View as stages
use Rattle.sa_worker.specs.Next.{after_kill}
use Rattle.sa_worker.specs.Keeps.{KeepsAt, Keeps}
use Rattle.sa_worker.proofs.keeps.Goes.{aimed-own, waiting_same, Keeps-ends}

module _ (world later : World) (view : View) (kind : KillKind) (i : ℕ) (keeps : KeepsAt world view (stages.kills kind i)) where
  abbrev desk : Contents
  desk = world.contents i

  abbrev stamp : Stamp
  stamp = next_stamp world (me_of view)

  turns_left : 0 + 1 ≤ 2 * view.given.turns
  turns_left = let least = keeps.holds.given.least_turns in omega arith

  killed-as : (answer : Killed) → IsCall world later i view.given.session (entry_by desk stamp (kill_event answer view.number kind) ∷ []) (with_entries (entry_by desk stamp (kill_event answer view.number kind) ∷ []) desk)
      → Keeps later (after_kill view answer)
  killed-as killed.Ok call =
      let what = event.KillSent view.number kind in
      let entries = entry_by desk stamp what ∷ [] in
      Keeps-ends world later view (stages.kills kind i) keeps entries (with_entries entries desk) call outcome.KillSent (record {
        same = λ was. refl;
        outline = refl;
        request_here = refl;
        request_elsewhere = λ at apart. refl;
        owes = let price = aimed-own i 1 in let one = one_most desk stamp what 1 (omega arith) in omega (arith, price, one);
        owes_later = refl;
        owes_own = refl;
        waiting = waiting_same world later view (stages.kills kind i) keeps entries (with_entries entries desk) call (view.number + 1) (omega arith);
        past_more = omega arith;
        lasted = 0;
        on = keeps.holds.holds.on;
        turns = turns_left;
        knows = λ is. (cc);
      })
  killed-as killed.NoSuchThread call =
      let what = event.Refused view.number why.NoSuchThread in
      let entries = entry_by desk stamp what ∷ [] in
      Keeps-ends world later view (stages.kills kind i) keeps entries (with_entries entries desk) call outcome.NoSuchThread (record {
        same = λ was. refl;
        outline = refl;
        request_here = refl;
        request_elsewhere = λ at apart. refl;
        owes = let price = aimed-own i 1 in let one = one_most desk stamp what 1 (omega arith) in omega (arith, price, one);
        owes_later = refl;
        owes_own = refl;
        waiting = waiting_same world later view (stages.kills kind i) keeps entries (with_entries entries desk) call (view.number + 1) (omega arith);
        past_more = omega arith;
        lasted = 0;
        on = keeps.holds.holds.on;
        turns = turns_left;
        knows = λ is. (cc);
      })

  pub Keeps-kill : IsCall world later i view.given.session (kill_entries desk stamp view.number kind) (kill.after_kill desk stamp view.number kind)
      → Keeps later (after_kill view (kill_answer (phase desk)))
  Keeps-kill call = killed-as (kill_answer (phase desk)) call
