-- The entries are those of the program so far after a request.
use Rattle.std.proofs.Common.{ℕ, ◌+◌, ◌-◌, List, [], ◌∷◌, inl, refl, sym, subst}
use Rattle.std.specs.Prelude.{slice_set}
use Rattle.sa_ast.specs.declared.kind.AskKind.{AskKind}
use Rattle.sa_desk.specs.declared.answer.Asked.{Asked}
use Rattle.sa_desk.specs.declared.answer.Asked.TheVariants as asked
use Rattle.sa_desk.specs.declared.entry.Entry.{Entry}
use Rattle.sa_desk.specs.declared.entry.RefusedWhy.TheVariants as why
use Rattle.sa_desk.specs.declared.outcome.Outcome.TheVariants as outcome
use Rattle.sa_desk.specs.declared.stamp.Stamp.{Stamp}
use Rattle.sa_desk.specs.Contents.{Contents, phase, entry_by, with_entries}
use Rattle.sa_desk.specs.World.{World, IsCall, next_stamp}
use Rattle.sa_desk.specs.call.Ask.{ask_answer, ask_event, ask_entries}
use Rattle.sa_desk.specs.call.Ask as ask
use Rattle.sa_desk.specs.program.Course.{Answer, course_of, shows}
use Rattle.sa_desk.specs.program.Between.{Due, goes_on, refused_for, Between}
use Rattle.sa_desk.specs.program.Between as due
use Rattle.sa_desk.proofs.program.Asks.{IsNext, ask-refused, ask-queued}
use Rattle.sa_worker.specs.View.{View, me_of, asks, polls, ends}
use Rattle.sa_worker.specs.Next.{after_ask}
use Rattle.sa_worker.specs.Keeps.{KeepsAt}
use Rattle.sa_worker.specs.Follows.{FollowsAt, Follows}
use Rattle.sa_worker.proofs.follows.Moves.{IsWithin-more, told_one, Follows-on}

module _ (world later : World) (view : View) (kind : AskKind) (i : ℕ) (keeps : KeepsAt world view (asks kind i)) (answers : List Answer)
    (follows : FollowsAt view (asks kind i) (world.seen view.given.session) answers (world.mine view.given.session)) where
  abbrev session : ℕ
  session = view.given.session

  abbrev desk : Contents
  desk = world.contents i

  abbrev stamp : Stamp
  stamp = next_stamp world (me_of view)

  abbrev entry_for : Asked → Entry
  entry_for answer = entry_by desk stamp (ask_event answer view.number kind desk.published view.given.turns)

  abbrev left_for : Asked → Contents
  left_for answer = record (with_entries (entry_for answer ∷ []) desk) { polls = slice_set desk.polls (session - 1) 0 }

  -- the table's row, before and after
  abbrev Row : List Entry → ℕ → Due → Type 0
  Row entries turn due = Between view.given view.number view.began (shows kind i) entries turn due

  row : Row [] view.turn goes_on
  row = subst (λ course. Between view.given view.number view.began course [] view.turn goes_on) keeps.holds.holds.course_is follows.tail_is.row

  row_after : (entries : List Entry) (due : Due) → Row entries (view.turn + 1) due → Between view.given view.number view.began (course_of view.given view.settings view.answer) entries (view.turn + 1) due
  row_after entries due = subst (λ course. Between view.given view.number view.began course entries (view.turn + 1) due) (sym keeps.holds.holds.course_is)

  asked-as : (answer : Asked) → IsCall world later i session (entry_for answer ∷ []) (left_for answer) → Follows (after_ask view kind i answer) (later.seen session) answers (later.mine session)
  asked-as asked.Queued call =
      let entry = entry_for asked.Queued in
      let next : IsNext i entry view.turn entry.event = record { here = call.met.number; now = refl; is = refl } in
      Follows-on world later view (asks kind i) answers follows i (entry ∷ []) (left_for asked.Queued) call (view.turn + 1) view.began (polls kind i 0)
      (told_one view.given (later.seen session) entry tt) (
        entry,
        IsWithin-more view.given view.settings view.number follows.last follows.texts view.began view.answer follows.tail view.turn [] goes_on follows.tail_is (entry ∷ []) (view.turn + 1) goes_on
            (row_after (entry ∷ []) goes_on (ask-queued view.given view.number view.began kind i entry view.turn desk.published keeps.holds.given.least_turns next row)),
      )
  asked-as asked.NotExplainable call =
      let entry = entry_for asked.NotExplainable in
      let result = outcome.NotExplainable in
      let next : IsNext i entry view.turn entry.event = record { here = call.met.number; now = refl; is = refl } in
      Follows-on world later view (asks kind i) answers follows i (entry ∷ []) (left_for asked.NotExplainable) call (view.turn + 1) view.began (ends result)
      (told_one view.given (later.seen session) entry tt) (record {
        between = entry ∷ [];
        due_is = result;
        within = IsWithin-more view.given view.settings view.number follows.last follows.texts view.began view.answer follows.tail view.turn [] goes_on follows.tail_is (entry ∷ []) (view.turn + 1) (due.ends result)
            (row_after (entry ∷ []) (due.ends result) (ask-refused view.given view.number view.began kind i entry view.turn why.NotExplainable next row));
        is = inl refl;
        told = tt;
      })
  asked-as asked.NoSuchThread call =
      let entry = entry_for asked.NoSuchThread in
      let result = outcome.NoSuchThread in
      let next : IsNext i entry view.turn entry.event = record { here = call.met.number; now = refl; is = refl } in
      Follows-on world later view (asks kind i) answers follows i (entry ∷ []) (left_for asked.NoSuchThread) call (view.turn + 1) view.began (ends result)
      (told_one view.given (later.seen session) entry tt) (record {
        between = entry ∷ [];
        due_is = result;
        within = IsWithin-more view.given view.settings view.number follows.last follows.texts view.began view.answer follows.tail view.turn [] goes_on follows.tail_is (entry ∷ []) (view.turn + 1) (due.ends result)
            (row_after (entry ∷ []) (due.ends result) (ask-refused view.given view.number view.began kind i entry view.turn why.NoSuchThread next row));
        is = inl refl;
        told = tt;
      })

  pub Follows-ask : IsCall world later i session (ask_entries desk stamp view.number kind view.given.turns) (ask.after_ask desk stamp view.number kind view.given.turns)
      → Follows (after_ask view kind i (ask_answer (phase desk))) (later.seen session) answers (later.mine session)
  Follows-ask call = asked-as (ask_answer (phase desk)) call
