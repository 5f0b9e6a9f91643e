-- The entries are those of the program so far after a request was taken back.
use Rattle.std.proofs.Common.{◌≡◌, ℕ, ◌+◌, ◌*◌, List, [], ◌∷◌, inl, inr, refl, arith}
use Rattle.std.specs.Prelude.{Option, Some, None}
use Rattle.sa_ast.specs.declared.kind.AskKind.{AskKind}
use Rattle.sa_count.specs.declared.report.Report.{Report}
use Rattle.sa_desk.specs.declared.answer.Withdrawn.{Withdrawn}
use Rattle.sa_desk.specs.declared.answer.Withdrawn.TheVariants as withdrawing
use Rattle.sa_desk.specs.declared.entry.Entry.{Entry}
use Rattle.sa_desk.specs.declared.outcome.Outcome.TheVariants as outcome
use Rattle.sa_desk.specs.declared.request.Reply.{Reply}
use Rattle.sa_desk.specs.declared.stamp.Stamp.{Stamp}
use Rattle.sa_desk.specs.Contents.{Contents, state, entry_by, with_entries}
use Rattle.sa_desk.specs.World.{World, IsCall, next_stamp}
use Rattle.sa_desk.specs.call.Poll.{reply_to}
use Rattle.sa_desk.specs.call.Withdraw.{withdraw_answer, withdrawn, withdraw_event, withdraw_entries}
use Rattle.sa_desk.specs.call.Withdraw as withdraw
use Rattle.sa_desk.specs.program.Course.{Answer}
use Rattle.sa_desk.specs.program.Between as due
use Rattle.sa_desk.proofs.program.Asks.{IsNext, poll-taken, withdrawn-removed}
use Rattle.sa_worker.specs.View.{View, me_of, withdraws, ends}
use Rattle.sa_worker.specs.Next.{after_withdraw}
use Rattle.sa_worker.specs.Keeps.{KeepsAt}
use Rattle.sa_worker.specs.Follows.{FollowsAt, Follows}
use Rattle.sa_worker.proofs.follows.Moves.{told_one, Follows-on}
use Rattle.sa_worker.proofs.follows.Asking.{row, asking_more}

-- the report that is taken
report_taken : (reply : Option Reply) → withdraw_answer reply ≡ withdrawing.Taken → Report
report_taken (Some reply) is = reply.report
report_taken None is = absurd (let other : withdrawing.Removed ≡ withdrawing.Taken = is in cc)

module _ (world later : World) (view : View) (kind : AskKind) (i count : ℕ) (keeps : KeepsAt world view (withdraws kind i count)) (answers : List Answer)
    (follows : FollowsAt view (withdraws kind i count) (world.seen view.given.session) answers (world.mine view.given.session)) where
  abbrev session : ℕ
  session = view.given.session

  abbrev desk : Contents
  desk = world.contents i

  abbrev stamp : Stamp
  stamp = next_stamp world (me_of view)

  abbrev entry_for : Withdrawn → Entry
  entry_for answer = entry_by desk stamp (withdraw_event answer view.number)

  abbrev first : Entry
  first = follows.tail_is.0

  turn_is : view.turn + 1 ≡ view.began + 2 * (count + 1)
  turn_is = let turn = keeps.holds.holds.1.on.turn in omega (arith, turn)

  withdrawn-as : (answer : Withdrawn) → (answer ≡ withdrawing.Taken → Report) → IsCall world later i session (entry_for answer ∷ []) (with_entries (entry_for answer ∷ []) desk)
      → Follows (after_withdraw view answer) (later.seen session) answers (later.mine session)
  withdrawn-as withdrawing.Taken some call =
      let entry = entry_for withdrawing.Taken in
      let report = some refl in
      let shown = outcome.Shown kind i 0 report in
      let turn = turn_is in
      let within = keeps.holds.holds.0.1 in
      let next : IsNext i entry view.turn entry.event = record { here = call.met.number; now = refl; is = refl } in
      let before = row view kind i follows.last follows.texts follows.tail (world.seen session) keeps.holds.holds.1.course_is follows.tail_is in
      let after = poll-taken view.given view.number view.began kind i first entry view.turn (count + 1) report 0 (omega arith) (omega (arith, within)) turn next before in
      Follows-on world later view (withdraws kind i count) answers follows i (entry ∷ []) (with_entries (entry ∷ []) desk) call (view.turn + 1) view.began (ends outcome.Interrupted)
      (told_one view.given (later.seen session) entry tt) (record {
        between = first ∷ entry ∷ [];
        due_is = shown;
        within = asking_more view kind i follows.last follows.texts follows.tail (world.seen session) keeps.holds.holds.1.course_is follows.tail_is (entry ∷ []) (due.ends shown) after;
        is = inr refl;
        told = tt;
      })
  withdrawn-as withdrawing.Removed some call =
      let entry = entry_for withdrawing.Removed in
      let turn = turn_is in
      let within = keeps.holds.holds.0 in
      let least = within.0 in
      let most = within.1 in
      let next : IsNext i entry view.turn entry.event = record { here = call.met.number; now = refl; is = refl } in
      let before = row view kind i follows.last follows.texts follows.tail (world.seen session) keeps.holds.holds.1.course_is follows.tail_is in
      let after = withdrawn-removed view.given view.number view.began kind i first entry view.turn (count + 1) (omega (arith, least)) (omega (arith, most)) turn next before in
      Follows-on world later view (withdraws kind i count) answers follows i (entry ∷ []) (with_entries (entry ∷ []) desk) call (view.turn + 1) view.began (ends outcome.Interrupted)
      (told_one view.given (later.seen session) entry tt) (record {
        between = first ∷ entry ∷ [];
        due_is = outcome.Interrupted;
        within = asking_more view kind i follows.last follows.texts follows.tail (world.seen session) keeps.holds.holds.1.course_is follows.tail_is (entry ∷ []) (due.ends outcome.Interrupted) after;
        is = inl refl;
        told = tt;
      })

  pub Follows-withdraw : IsCall world later i session (withdraw_entries desk stamp view.number) (withdraw.after_withdraw desk stamp view.number)
      → Follows (after_withdraw view (withdrawn desk stamp view.number)) (later.seen session) answers (later.mine session)
  Follows-withdraw call = withdrawn-as (withdrawn desk stamp view.number) (λ is. report_taken (reply_to session (state desk).replies) is) call
