-- A worker still knows what it has to after a poll.
use Rattle.std.proofs.Common.{◌≡◌, ℕ, ◌+◌, ◌-◌, ◌*◌, ◌<◌, List, [], map, slice_index, inl, inr, refl, subst, ap, ◌∙◌, arith, get_or-set_same}
use Rattle.std.specs.Prelude.{Option, Some, None}
use Rattle.std.proofs.lemmas.Bool.{cases_eq, eq-eqb}
use Rattle.sa_ast.specs.declared.kind.AskKind.{AskKind}
use Rattle.sa_desk.specs.declared.answer.Polled.{Polled}
use Rattle.sa_desk.specs.declared.answer.Polled.TheVariants as polled
use Rattle.sa_desk.specs.declared.entry.Entry.{Entry}
use Rattle.sa_desk.specs.declared.entry.Event.TheVariants as event
use Rattle.sa_desk.specs.declared.outcome.Outcome.TheVariants as outcome
use Rattle.sa_desk.specs.declared.request.Reply.{Reply}
use Rattle.sa_desk.specs.declared.stamp.Stamp.{Stamp}
use Rattle.sa_desk.specs.Contents.{Contents, state, entry_by, with_entries}
use Rattle.sa_desk.specs.World.{World, IsCall, Meets, next_stamp}
use Rattle.sa_desk.specs.call.Poll.{reply_to, poll_answer, poll_events, count_poll, poll_entries}
use Rattle.sa_desk.specs.call.Poll as poll
use Rattle.sa_desk.proofs.program.May.{one_most}
use Rattle.sa_worker.specs.View.{View, me_of, polls, looks_asking}
use Rattle.sa_worker.specs.Next.{goes_to, after_poll}
use Rattle.sa_worker.specs.Holds.{IsOn}
use Rattle.sa_worker.specs.Keeps.{KeepsAt, Keeps}
use Rattle.sa_worker.proofs.keeps.Goes.{aimed-own, open_at-other, on_later, waiting_same, Keeps-goes, Keeps-ends}
use Rattle.sa_worker.proofs.keeps.Places.{in_polls, turns_are, polls_are}

-- A poll that is answered NotYet isn't the last one.
pub not_last : (reply : Option Reply) (count turns : ℕ) → count < turns → poll_answer reply count turns ≡ polled.NotYet → count + 1 < turns
not_last (Some reply) count turns within is = cc
not_last None count turns within is =
    elim (cases_eq (count + 1) turns) [
      | inl last ↦ let spent : polled.Spent turns ≡ polled.NotYet = rw (eq-eqb (count + 1) turns last) at is in cc
      | inr apart ↦ omega arith
    ]

module _ (world later : World) (view : View) (kind : AskKind) (i count : ℕ) (keeps : KeepsAt world view (polls kind i count)) where
  abbrev desk : Contents
  desk = world.contents i

  abbrev stamp : Stamp
  stamp = next_stamp world (me_of view)

  abbrev entries_for : Polled → List Entry
  entries_for answer = map (entry_by desk stamp) (poll_events answer view.number)

  abbrev left_for : Polled → Contents
  left_for answer = record (with_entries (entries_for answer) desk) { polls = count_poll answer (view.given.session - 1) desk.polls }

  -- A poll that is answered NotYet is counted.
  counted : Meets world i view.given.session → slice_index desk.polls (view.given.session - 1) ≡ count
  counted met = polls_are world view (polls kind i count) keeps i keeps.aimed met ∙ keeps.knows

  polled-as : (answer : Polled) → (answer ≡ polled.NotYet → count + 1 < view.given.turns) → IsCall world later i view.given.session (entries_for answer) (left_for answer)
      → Keeps later (after_poll view kind i count answer)
  polled-as (polled.Taken report begin) fits call =
      let answer = polled.Taken report begin in
      Keeps-ends world later view (polls kind i count) keeps (entries_for answer) (left_for answer) call (outcome.Shown kind i begin report) (record {
        same = λ was. refl;
        outline = refl;
        request_here = refl;
        request_elsewhere = λ at apart. open_at-other view.number i at apart;
        owes = let price = aimed-own i 1 in let one = one_most desk stamp (event.Taken view.number) 1 (omega arith) in omega (arith, price, one);
        owes_later = refl;
        owes_own = refl;
        waiting = waiting_same world later view (polls kind i count) keeps (entries_for answer) (left_for answer) call (view.number + 1) (omega arith);
        past_more = omega arith;
        lasted = 1 + 2 * count;
        on = keeps.holds.holds.1.on;
        turns = let within = keeps.holds.holds.0.1 in omega (arith, within);
        knows = λ is. (cc);
      })
  polled-as (polled.Spent turns) fits call =
      let answer = polled.Spent turns in
      Keeps-ends world later view (polls kind i count) keeps (entries_for answer) (left_for answer) call (outcome.TimedOut turns) (record {
        same = λ was. refl;
        outline = refl;
        request_here = refl;
        request_elsewhere = λ at apart. open_at-other view.number i at apart;
        owes = let price = aimed-own i 1 in let one = one_most desk stamp (event.Spent view.number turns) 1 (omega arith) in omega (arith, price, one);
        owes_later = refl;
        owes_own = refl;
        waiting = waiting_same world later view (polls kind i count) keeps (entries_for answer) (left_for answer) call (view.number + 1) (omega arith);
        past_more = omega arith;
        lasted = 1 + 2 * count;
        on = keeps.holds.holds.1.on;
        turns = let within = keeps.holds.holds.0.1 in omega (arith, within);
        knows = λ is. (cc);
      })
  polled-as polled.NotYet fits call =
      let next = looks_asking kind i (count + 1) in
      let had = slice_index desk.polls (view.given.session - 1) in
      let more = fits refl in
      let on : IsOn (goes_to view next) (2 * (count + 1)) = subst (IsOn (goes_to view next)) (omega arith) (on_later view next (1 + 2 * count) keeps.holds.holds.1.on) in
      Keeps-goes world later view (polls kind i count) keeps [] (left_for polled.NotYet) call next (record {
        aimed = keeps.session;
        same = λ was. refl;
        outline = refl;
        request_here = refl;
        request_elsewhere = λ at apart. refl;
        room_here = omega arith;
        room_elsewhere = λ at apart. omega arith;
        waiting = waiting_same world later view (polls kind i count) keeps [] (left_for polled.NotYet) call view.number (omega arith);
        past_more = omega arith;
        holds = ((omega arith, more), record { on = on; course_is = keeps.holds.holds.1.course_is });
        knows = ap (λ quiet. quiet.polls) call.counted_is
            ∙ get_or-set_same desk.polls (view.given.session - 1) (had + 1) 0 (in_polls world view (polls kind i count) keeps i keeps.aimed call.met)
            ∙ ap (λ count. count + 1) (counted call.met);
      })

  pub Keeps-poll : IsCall world later i view.given.session (poll_entries desk stamp view.number) (poll.after_poll desk stamp view.number)
      → Keeps later (after_poll view kind i count (poll.polled desk stamp view.number))
  Keeps-poll call =
      let reply = reply_to view.given.session (state desk).replies in
      let within : slice_index desk.polls (view.given.session - 1) < desk.terms.turns =
      let had = counted call.met in
      let turns = turns_are world view (polls kind i count) keeps i keeps.aimed call.met in
      let below = keeps.holds.holds.0.1 in omega (arith, had, turns, below) in
      polled-as (poll.polled desk stamp view.number)
      (λ is.
      let more = not_last reply (slice_index desk.polls (view.given.session - 1)) desk.terms.turns within is in
      let had = counted call.met in
      let turns = turns_are world view (polls kind i count) keeps i keeps.aimed call.met in omega (arith, more, had, turns))
      call
