-- The entries are those of the program so far after a kill.
use Rattle.std.proofs.Common.{ℕ, ◌+◌, List, [], ◌∷◌, inl, refl, sym, subst}
use Rattle.sa_ast.specs.declared.kind.KillKind.{KillKind}
use Rattle.sa_desk.specs.declared.answer.Killed.{Killed}
use Rattle.sa_desk.specs.declared.answer.Killed.TheVariants as killed
use Rattle.sa_desk.specs.declared.entry.Entry.{Entry}
use Rattle.sa_desk.specs.declared.outcome.Outcome.TheVariants as outcome
use Rattle.sa_desk.specs.declared.stamp.Stamp.{Stamp}
use Rattle.sa_desk.specs.Contents.{Contents, phase, entry_by, with_entries}
use Rattle.sa_desk.specs.World.{World, IsCall, next_stamp}
use Rattle.sa_desk.specs.call.Kill.{kill_answer, kill_event, kill_entries}
use Rattle.sa_desk.specs.call.Kill as kill
use Rattle.sa_desk.specs.program.Course.{Answer, course_of}
use Rattle.sa_desk.specs.program.Course as course
use Rattle.sa_desk.specs.program.Between.{Due, goes_on, Between}
use Rattle.sa_desk.specs.program.Between as due
use Rattle.sa_desk.proofs.program.Asks.{IsNext}
use Rattle.sa_desk.proofs.program.Waits.{kill-sent, kill-refused}
use Rattle.sa_worker.specs.View.{View, me_of, ends}
use Rattle.sa_worker.specs.View as stages
use Rattle.sa_worker.specs.Next.{after_kill}
use Rattle.sa_worker.specs.Keeps.{KeepsAt}
use Rattle.sa_worker.specs.Follows.{FollowsAt, Follows}
use Rattle.sa_worker.proofs.follows.Moves.{IsWithin-more, told_one, Follows-on}

module _ (world later : World) (view : View) (kind : KillKind) (i : ℕ) (keeps : KeepsAt world view (stages.kills kind i)) (answers : List Answer)
    (follows : FollowsAt view (stages.kills kind i) (world.seen view.given.session) answers (world.mine view.given.session)) where
  abbrev session : ℕ
  session = view.given.session

  abbrev desk : Contents
  desk = world.contents i

  abbrev stamp : Stamp
  stamp = next_stamp world (me_of view)

  abbrev entry_for : Killed → Entry
  entry_for answer = entry_by desk stamp (kill_event answer view.number kind)

  -- the table's row, before and after
  abbrev Row : List Entry → ℕ → Due → Type 0
  Row entries turn due = Between view.given view.number view.began (course.kills kind i) entries turn due

  row : Row [] view.turn goes_on
  row = subst (λ course. Between view.given view.number view.began course [] view.turn goes_on) keeps.holds.holds.course_is follows.tail_is.row

  row_after : (entries : List Entry) (due : Due) → Row entries (view.turn + 1) due → Between view.given view.number view.began (course_of view.given view.settings view.answer) entries (view.turn + 1) due
  row_after entries due = subst (λ course. Between view.given view.number view.began course entries (view.turn + 1) due) (sym keeps.holds.holds.course_is)

  killed-as : (answer : Killed) → IsCall world later i session (entry_for answer ∷ []) (with_entries (entry_for answer ∷ []) desk) → Follows (after_kill view answer) (later.seen session) answers (later.mine session)
  killed-as killed.Ok call =
      let entry = entry_for killed.Ok in
      let result = outcome.KillSent in
      let next : IsNext i entry view.turn entry.event = record { here = call.met.number; now = refl; is = refl } in
      Follows-on world later view (stages.kills kind i) answers follows i (entry ∷ []) (with_entries (entry ∷ []) desk) call (view.turn + 1) view.began (ends result)
      (told_one view.given (later.seen session) entry tt) (record {
        between = entry ∷ [];
        due_is = result;
        within = IsWithin-more view.given view.settings view.number follows.last follows.texts view.began view.answer follows.tail view.turn [] goes_on follows.tail_is (entry ∷ []) (view.turn + 1) (due.ends result)
            (row_after (entry ∷ []) (due.ends result) (kill-sent view.given view.number view.began kind i entry view.turn next row));
        is = inl refl;
        told = tt;
      })
  killed-as killed.NoSuchThread call =
      let entry = entry_for killed.NoSuchThread in
      let result = outcome.NoSuchThread in
      let next : IsNext i entry view.turn entry.event = record { here = call.met.number; now = refl; is = refl } in
      Follows-on world later view (stages.kills kind i) answers follows i (entry ∷ []) (with_entries (entry ∷ []) desk) call (view.turn + 1) view.began (ends result)
      (told_one view.given (later.seen session) entry tt) (record {
        between = entry ∷ [];
        due_is = result;
        within = IsWithin-more view.given view.settings view.number follows.last follows.texts view.began view.answer follows.tail view.turn [] goes_on follows.tail_is (entry ∷ []) (view.turn + 1) (due.ends result)
            (row_after (entry ∷ []) (due.ends result) (kill-refused view.given view.number view.began kind i entry view.turn next row));
        is = inl refl;
        told = tt;
      })

  pub Follows-kill : IsCall world later i session (kill_entries desk stamp view.number kind) (kill.after_kill desk stamp view.number kind)
      → Follows (after_kill view (kill_answer (phase desk))) (later.seen session) answers (later.mine session)
  Follows-kill call = killed-as (kill_answer (phase desk)) call
