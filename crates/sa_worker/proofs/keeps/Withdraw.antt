-- A worker still knows what it has to after it took a request back.
use Rattle.std.proofs.Common.{◌≡◌, ℕ, ◌+◌, ◌*◌, ◌≤◌, true, List, [], ◌∷◌, inl, inr, refl, sym, subst, ap, ◌∙◌, arith}
use Rattle.std.specs.Prelude.{None}
use Rattle.std.proofs.lemmas.Bool.{cases_eq}
use Rattle.sa_ast.specs.declared.kind.AskKind.{AskKind}
use Rattle.sa_desk.specs.declared.answer.Withdrawn.{Withdrawn}
use Rattle.sa_desk.specs.declared.answer.Withdrawn.TheVariants as withdrawing
use Rattle.sa_desk.specs.declared.entry.Entry.{Entry}
use Rattle.sa_desk.specs.declared.entry.Event.TheVariants as event
use Rattle.sa_desk.specs.declared.outcome.Outcome.TheVariants as outcome
use Rattle.sa_desk.specs.declared.stamp.Stamp.{Stamp}
use Rattle.sa_desk.specs.State.{Terms, Phase, State, idle, unplanned, planned, serving, closed}
use Rattle.sa_desk.specs.After.{after, taken_out}
use Rattle.sa_desk.specs.Contents.{Contents, phase, entry_by, with_entries}
use Rattle.sa_desk.specs.Runs.{state_of}
use Rattle.sa_desk.specs.Serving.{is_killed}
use Rattle.sa_desk.specs.World.{World, IsCall, Meets, next_stamp}
use Rattle.sa_desk.specs.Charge.{charge}
use Rattle.sa_desk.specs.Own.{Outline, own_from, request_from}
use Rattle.sa_desk.specs.call.Withdraw.{withdrawn, withdraw_event, withdraw_entries}
use Rattle.sa_desk.specs.call.Withdraw as withdraw
use Rattle.sa_desk.proofs.Append.{state_of-append}
use Rattle.sa_desk.proofs.program.May.{one_most}
use Rattle.sa_worker.specs.View.{View, me_of, open_at, withdraws, ends}
use Rattle.sa_worker.specs.Next.{after_withdraw}
use Rattle.sa_worker.specs.Keeps.{KeepsAt, Keeps}
use Rattle.sa_worker.proofs.May.{killed_now}
use Rattle.sa_worker.proofs.keeps.Goes.{aimed-own, open_at-other, waiting_same, Keeps-ends}
use Rattle.sa_worker.proofs.keeps.Stands.{still_elsewhere, still_here}

-- A kill stands though a request is taken out.
killed_without : (phase : Phase) (actor : ℕ) → is_killed (taken_out phase actor) ≡ is_killed phase
killed_without idle actor = refl
killed_without (unplanned statement) actor = refl
killed_without (planned statement execution) actor = refl
killed_without (serving statement execution steps turn) actor = refl
killed_without closed actor = refl

killed_after : (terms : Terms) (state : State) (desk : Contents) (stamp : Stamp) (number : ℕ) (answer : Withdrawn)
    → is_killed (after terms state (entry_by desk stamp (withdraw_event answer number))).phase ≡ is_killed state.phase
killed_after terms state desk stamp number withdrawing.Taken = refl
killed_after terms state desk stamp number withdrawing.Removed = killed_without state.phase stamp.actor

module _ (world later : World) (view : View) (kind : AskKind) (i count : ℕ) (keeps : KeepsAt world view (withdraws kind i count)) where
  abbrev desk : Contents
  desk = world.contents i

  abbrev stamp : Stamp
  stamp = next_stamp world (me_of view)

  abbrev entries_for : Withdrawn → List Entry
  entries_for answer = entry_by desk stamp (withdraw_event answer view.number) ∷ []

  abbrev left_for : Withdrawn → Contents
  left_for answer = with_entries (entries_for answer) desk

  -- on its own desk
  own_killed : (answer : Withdrawn) → Meets world i view.given.session → i ≡ view.given.session
      → is_killed (state_of (world.terms view.given.session) (left_for answer).journal).phase ≡ true
  own_killed answer met own =
      let session = view.given.session in
      let now : is_killed (phase desk) ≡ true =
      subst (λ at. is_killed (phase (world.contents at)) ≡ true) (sym own) (killed_now world view (subst (λ at. Meets world at session) own met) keeps.knows) in
      let terms : desk.terms ≡ world.terms session = met.terms ∙ ap world.terms own in
      subst (λ terms. is_killed (state_of terms (left_for answer).journal).phase ≡ true) terms
      (ap (λ state. is_killed state.phase) (state_of-append desk.terms desk.journal (entries_for answer))
      ∙ killed_after desk.terms (state_of desk.terms desk.journal) desk stamp view.number answer ∙ now)

  ends_with : (answer : Withdrawn) → ((was : Outline) → own_from was (entries_for answer) ≡ was) → request_from (open_at view.number i i) (entries_for answer) ≡ None
      → charge view.given.session (entries_for answer) ≤ 1 → IsCall world later i view.given.session (entries_for answer) (left_for answer) → Keeps later (after_withdraw view answer)
  ends_with answer same none one call =
      let stage = withdraws kind i count in
      let next = ends outcome.Interrupted in
      Keeps-ends world later view stage keeps (entries_for answer) (left_for answer) call outcome.Interrupted (record {
        same = same;
        outline = refl;
        request_here = none;
        request_elsewhere = λ at apart. open_at-other view.number i at apart;
        owes = let price = aimed-own i 1 in omega (arith, price, one);
        owes_later = refl;
        owes_own = refl;
        waiting = waiting_same world later view stage keeps (entries_for answer) (left_for answer) call (view.number + 1) (omega arith);
        past_more = omega arith;
        lasted = 1 + 2 * count;
        on = keeps.holds.holds.1.on;
        turns = let within = keeps.holds.holds.0.1 in omega (arith, within);
        knows = λ is. elim (cases_eq i view.given.session) [
          | inl own ↦ still_here world later view stage keeps (entries_for answer) (left_for answer) call next own (own_killed answer call.met own)
          | inr apart ↦ still_elsewhere world later view stage keeps (entries_for answer) (left_for answer) call next apart keeps.knows
        ];
      })

  withdrawn-as : (answer : Withdrawn) → IsCall world later i view.given.session (entries_for answer) (left_for answer) → Keeps later (after_withdraw view answer)
  withdrawn-as withdrawing.Taken call = ends_with withdrawing.Taken (λ was. refl) refl (one_most desk stamp (event.Taken view.number) 1 (omega arith)) call
  withdrawn-as withdrawing.Removed call = ends_with withdrawing.Removed (λ was. refl) refl (one_most desk stamp (event.Withdrawn view.number) 1 (omega arith)) call

  pub Keeps-withdraw : IsCall world later i view.given.session (withdraw_entries desk stamp view.number) (withdraw.after_withdraw desk stamp view.number)
      → Keeps later (after_withdraw view (withdrawn desk stamp view.number))
  Keeps-withdraw call = withdrawn-as (withdrawn desk stamp view.number) call
