-- The entries are those of the program so far after a poll.
use Rattle.std.proofs.Common.{◌≡◌, ℕ, ◌+◌, ◌-◌, ◌*◌, ◌<◌, List, [], ◌∷◌, ◌++◌, map, slice_index, inl, refl, sym, subst₂, ap, ◌∙◌, arith}
use Rattle.sa_ast.specs.declared.kind.AskKind.{AskKind}
use Rattle.sa_desk.specs.declared.answer.Polled.{Polled}
use Rattle.sa_desk.specs.declared.answer.Polled.TheVariants as polled
use Rattle.sa_desk.specs.declared.entry.Entry.{Entry}
use Rattle.sa_desk.specs.declared.entry.Event.TheVariants as event
use Rattle.sa_desk.specs.declared.outcome.Outcome.TheVariants as outcome
use Rattle.sa_desk.specs.declared.stamp.Stamp.{Stamp}
use Rattle.sa_desk.specs.Contents.{Contents, state, entry_by, with_entries}
use Rattle.sa_desk.specs.World.{World, IsCall, next_stamp}
use Rattle.sa_desk.specs.call.Poll.{reply_to, poll_events, count_poll, poll_entries}
use Rattle.sa_desk.specs.call.Poll as poll
use Rattle.sa_desk.specs.law.Answered.{IsAnswered}
use Rattle.sa_desk.specs.program.Course.{Answer}
use Rattle.sa_desk.specs.program.Between.{goes_on}
use Rattle.sa_desk.specs.program.Between as due
use Rattle.sa_desk.proofs.laws.Answered.{IsAnswered-grows}
use Rattle.sa_desk.proofs.program.Asks.{IsNext, asks-on, poll-taken, poll-spent}
use Rattle.sa_worker.specs.View.{View, me_of, polls, looks_asking, ends}
use Rattle.sa_worker.specs.Next.{after_poll}
use Rattle.sa_worker.specs.Keeps.{KeepsAt}
use Rattle.sa_worker.specs.Follows.{FollowsAt, Follows}
use Rattle.sa_worker.proofs.keeps.Goes.{open_at-own}
use Rattle.sa_worker.proofs.keeps.Places.{turns_are, polls_are}
use Rattle.sa_worker.proofs.keeps.Poll.{not_last}
use Rattle.sa_worker.proofs.follows.Moves.{told_one, told_none, Follows-on}
use Rattle.sa_worker.proofs.follows.Answered.{reply_answers, FitsPolled, poll_fits}
use Rattle.sa_worker.proofs.follows.Asking.{row, asking_more}

module _ (world later : World) (view : View) (kind : AskKind) (i count : ℕ) (keeps : KeepsAt world view (polls kind i count)) (answers : List Answer)
    (follows : FollowsAt view (polls kind i count) (world.seen view.given.session) answers (world.mine view.given.session)) where
  abbrev session : ℕ
  session = view.given.session

  abbrev desk : Contents
  desk = world.contents i

  abbrev stamp : Stamp
  stamp = next_stamp world (me_of view)

  abbrev entries_for : Polled → List Entry
  entries_for answer = map (entry_by desk stamp) (poll_events answer view.number)

  abbrev left_for : Polled → Contents
  left_for answer = record (with_entries (entries_for answer) desk) { polls = count_poll answer (session - 1) desk.polls }

  abbrev first : Entry
  first = follows.tail_is.0

  -- the turn of this poll
  turn_is : view.turn + 1 ≡ view.began + 2 * (count + 1)
  turn_is = let turn = keeps.holds.holds.1.on.turn in omega (arith, turn)

  polled-as : (answer : Polled) → FitsPolled desk session view.number count view.given.turns answer → (answer ≡ polled.NotYet → count + 1 < view.given.turns)
      → IsCall world later i session (entries_for answer) (left_for answer) → Follows (after_poll view kind i count answer) (later.seen session) answers (later.mine session)
  polled-as (polled.Taken report begin) fits more call =
      let answer = polled.Taken report begin in
      let entry = entry_by desk stamp (event.Taken view.number) in
      let result = outcome.Shown kind i begin report in
      let turn = turn_is in
      let within = keeps.holds.holds.0.1 in
      let next : IsNext i entry view.turn entry.event = record { here = call.met.number; now = refl; is = refl } in
      let before = row view kind i follows.last follows.texts follows.tail (world.seen session) keeps.holds.holds.1.course_is follows.tail_is in
      let after = poll-taken view.given view.number view.began kind i first entry view.turn (count + 1) report begin (omega arith) (omega (arith, within)) turn next before in
      let grown : IsAnswered desk.terms (desk.journal ++ (entry ∷ [])) session view.number report begin = IsAnswered-grows desk.terms desk.journal (entry ∷ []) session view.number report begin fits in
      let seen : desk.journal ++ (entry ∷ []) ≡ later.seen session i = sym call.seen_is in
      Follows-on world later view (polls kind i count) answers follows i (entries_for answer) (left_for answer) call (view.turn + 1) view.began (ends result)
      (told_one view.given (later.seen session) entry tt) (record {
        between = first ∷ entry ∷ [];
        due_is = result;
        within = asking_more view kind i follows.last follows.texts follows.tail (world.seen session) keeps.holds.holds.1.course_is follows.tail_is (entry ∷ []) (due.ends result) after;
        is = inl refl;
        told = subst₂ (λ terms journal. IsAnswered terms journal session view.number report begin) (call.met.terms ∙ keeps.terms i keeps.aimed) seen grown;
      })
  polled-as (polled.Spent turns) fits more call =
      let answer = polled.Spent turns in
      let entry = entry_by desk stamp (event.Spent view.number turns) in
      let result = outcome.TimedOut turns in
      let turn = turn_is in
      let last = fits.1 in
      let next : IsNext i entry view.turn (event.Spent view.number view.given.turns) = record { here = call.met.number; now = refl; is = ap (event.Spent view.number) fits.0 } in
      let before = row view kind i follows.last follows.texts follows.tail (world.seen session) keeps.holds.holds.1.course_is follows.tail_is in
      let after = poll-spent view.given view.number view.began kind i first entry view.turn (omega (arith, turn, last)) next before in
      Follows-on world later view (polls kind i count) answers follows i (entries_for answer) (left_for answer) call (view.turn + 1) view.began (ends result)
      (told_one view.given (later.seen session) entry tt) (record {
        between = first ∷ entry ∷ [];
        due_is = outcome.TimedOut view.given.turns;
        within = asking_more view kind i follows.last follows.texts follows.tail (world.seen session) keeps.holds.holds.1.course_is follows.tail_is (entry ∷ []) (due.ends (outcome.TimedOut view.given.turns)) after;
        is = inl (ap outcome.TimedOut fits.0);
        told = tt;
      })
  polled-as polled.NotYet fits more call =
      let turn = turn_is in
      let few = more refl in
      let before = row view kind i follows.last follows.texts follows.tail (world.seen session) keeps.holds.holds.1.course_is follows.tail_is in
      let after = asks-on view.given view.number view.began kind i first view.turn (omega (arith, turn, few)) before in
      Follows-on world later view (polls kind i count) answers follows i [] (left_for polled.NotYet) call (view.turn + 1) view.began (looks_asking kind i (count + 1))
      (told_none view.given (later.seen session))
      (first, asking_more view kind i follows.last follows.texts follows.tail (world.seen session) keeps.holds.holds.1.course_is follows.tail_is [] goes_on after)

  pub Follows-poll : IsCall world later i session (poll_entries desk stamp view.number) (poll.after_poll desk stamp view.number)
      → Follows (after_poll view kind i count (poll.polled desk stamp view.number)) (later.seen session) answers (later.mine session)
  Follows-poll call =
      let reply = reply_to session (state desk).replies in
      let made = slice_index desk.polls (session - 1) in
      let had : made ≡ count = polls_are world view (polls kind i count) keeps i keeps.aimed call.met ∙ keeps.knows in
      let turns = turns_are world view (polls kind i count) keeps i keeps.aimed call.met in
      let below = keeps.holds.holds.0.1 in
      let some = keeps.requests i keeps.aimed ∙ open_at-own view.number i in
      let told = poll_fits desk session view.number reply made desk.terms.turns (λ given is. reply_answers world i session view.number call.met some given is) in
      polled-as (poll.polled desk stamp view.number)
      (subst₂ (λ count turns. FitsPolled desk session view.number count turns (poll.polled desk stamp view.number)) had turns told)
      (λ is. let more = not_last reply made desk.terms.turns (omega (arith, had, turns, below)) is in omega (arith, more, had, turns))
      call
