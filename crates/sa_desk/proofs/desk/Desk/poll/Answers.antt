use Rattle.std.proofs.Common.{◌≡◌, ◌+◌, ◌-◌, ◌<◌, Some, None, IfNone, length, slice_index, sym, subst, ap, ◌∙◌, arith}
use Rattle.std.proofs.lemmas.List.Elements.{All-get_or}
use Rattle.sa_desk.specs.declared.desk.Desk.TheInside.{Inside}
use Rattle.sa_desk.specs.declared.entry.Event.TheVariants.{Taken, Spent}
use Rattle.sa_desk.specs.Contents.{state, phase, HasRoom}
use Rattle.sa_desk.specs.inner.Desk.{contents_of}
use Rattle.sa_desk.specs.call.Poll.{MayPoll, reply_to}
use Rattle.sa_desk.proofs.Grown.{IsJournal-push}
use Rattle.sa_desk.proofs.Room.{entry_fits}
use Rattle.sa_desk.proofs.Seats.{HasSeats-sound, IsServed-answered, IsQueued-unanswered}
use Rattle.sa_desk.proofs.step.Poll.{polled-taken, polled-spent, spent-entries, taken-comes, taken-ready, counted-ready, spent-comes, spent-ready}
use Rattle.sa_desk.proofs.desk.Desk.poll.Goals as goal

pub take_reply-requires : goal.take_reply-requires
take_reply-requires c =
    let seats = HasSeats-sound (contents_of c.self.inside) c.self.invariant.sound in
    rw c.self.invariant.replies (omega (arith, seats.single c.args.stamp.actor))

-- where the request was served
pub push_entry-requires : goal.push_entry-requires
push_entry-requires c =
    let may = subst (λ desk. MayPoll desk c.args.stamp c.args.statement) (sym c.self.view_is) c.requires in
    let desk = contents_of c.self.inside in
    let found : reply_to c.args.stamp.actor (state desk).replies ≡ Some c.in-Some.reply = ap (reply_to c.args.stamp.actor) (sym c.self.invariant.replies) ∙ sym c.take_reply.ensures.reply ∙ c.in-Some.is in
    let served = IsServed-answered _ _ _ c.args.stamp.actor c.args.statement c.in-Some.reply (HasSeats-sound desk c.self.invariant.sound) may.there found in
    let comes = taken-comes desk c.args.stamp (phase desk) (state desk).doomed (state desk).replies c.args.statement c.self.invariant.sound.run.settled served.0 in
    let room = polled-taken desk c.args.stamp c.args.statement c.in-Some.reply found may.room in
    entry_fits c.self.inside _ c.self.invariant (IsJournal-push desk c.args.stamp (Taken c.args.statement) c.self.invariant.sound may.caller comes room)

pub invariant_of-self : goal.invariant_of-self
invariant_of-self c =
    let may = subst (λ desk. MayPoll desk c.args.stamp c.args.statement) (sym c.self.view_is) c.requires in
    let desk = contents_of c.self.inside in
    let found : reply_to c.args.stamp.actor (state desk).replies ≡ Some c.in-Some.reply = ap (reply_to c.args.stamp.actor) (sym c.self.invariant.replies) ∙ sym c.take_reply.ensures.reply ∙ c.in-Some.is in
    let served = IsServed-answered _ _ _ c.args.stamp.actor c.args.statement c.in-Some.reply (HasSeats-sound desk c.self.invariant.sound) may.there found in
    let comes = taken-comes desk c.args.stamp (phase desk) (state desk).doomed (state desk).replies c.args.statement c.self.invariant.sound.run.settled served.0 in
    let room = polled-taken desk c.args.stamp c.args.statement c.in-Some.reply found may.room in
    taken-ready c.self.inside (record c.self.inside { journal = c.push_entry.new.journal; replies = c.take_reply.new.replies }) c.args.stamp c.args.statement c.self.invariant may.caller comes room
    c.push_entry.ensures.entry c.push_entry.ensures.capacity c.take_reply.ensures.others

pub returns-in-Some-clause-sound : goal.returns-in-Some-clause-sound
returns-in-Some-clause-sound c = (invariant_of-self c).sound

-- where it waits on
pub invariant_of-self-then-polls-self : goal.invariant_of-self-then-polls-self
invariant_of-self-then-polls-self c =
    let kept = subst (λ result. IfNone result (c.take_reply.new.replies ≡ c.self.inside.replies)) c.in_default.is c.take_reply.ensures.kept in
    let fields : Inside = record c.self.inside { polls = c.set_polls.new.polls } in
    rw kept (counted-ready c.self.inside fields (c.args.stamp.actor - 1) (c.polls_of-polls.result + 1) c.self.invariant c.if-polls-self.true c.set_polls.ensures)

pub take_out-requires : goal.take_out-requires
take_out-requires c =
    let seats = HasSeats-sound (contents_of c.self.inside) c.self.invariant.sound in
    rw c.self.invariant.queue (omega (arith, seats.single c.args.stamp.actor))

-- where its turns are over
pub push_entry-requires-2 : goal.push_entry-requires-2
push_entry-requires-2 c =
    let may = subst (λ desk. MayPoll desk c.args.stamp c.args.statement) (sym c.self.view_is) c.requires in
    let desk = contents_of c.self.inside in
    let none : reply_to c.args.stamp.actor (state desk).replies ≡ None = ap (reply_to c.args.stamp.actor) (sym c.self.invariant.replies) ∙ sym c.take_reply.ensures.reply ∙ c.in_default.is in
    let within : c.args.stamp.actor - 1 < length desk.polls = omega (arith, may.caller.least, may.caller.most, c.self.invariant.sound.polls) in
    let below : slice_index desk.polls (c.args.stamp.actor - 1) < desk.terms.turns = All-get_or (λ count. count < desk.terms.turns) desk.polls (c.args.stamp.actor - 1) 0 within c.self.invariant.sound.unspent in
    let last : slice_index desk.polls (c.args.stamp.actor - 1) + 1 ≡ desk.terms.turns = omega (arith, below, c.if-polls-self.false, c.polls_of-polls.ensures) in
    let spent = polled-spent desk c.args.stamp c.args.statement none last in
    let room = subst (HasRoom desk c.args.stamp.actor) (spent-entries desk c.args.stamp c.args.statement spent) may.room in
    let queued = IsQueued-unanswered _ _ _ c.args.stamp.actor c.args.statement (HasSeats-sound desk c.self.invariant.sound) may.there none in
    let comes = spent-comes desk c.args.stamp (phase desk) (state desk).doomed (state desk).replies c.args.statement c.self.invariant.sound.run.settled queued in
    entry_fits c.self.inside _ c.self.invariant (IsJournal-push desk c.args.stamp (Spent c.args.statement desk.terms.turns) c.self.invariant.sound may.caller comes room)

pub invariant_of-self-2 : goal.invariant_of-self-2
invariant_of-self-2 c =
    let may = subst (λ desk. MayPoll desk c.args.stamp c.args.statement) (sym c.self.view_is) c.requires in
    let desk = contents_of c.self.inside in
    let none : reply_to c.args.stamp.actor (state desk).replies ≡ None = ap (reply_to c.args.stamp.actor) (sym c.self.invariant.replies) ∙ sym c.take_reply.ensures.reply ∙ c.in_default.is in
    let within : c.args.stamp.actor - 1 < length desk.polls = omega (arith, may.caller.least, may.caller.most, c.self.invariant.sound.polls) in
    let below : slice_index desk.polls (c.args.stamp.actor - 1) < desk.terms.turns = All-get_or (λ count. count < desk.terms.turns) desk.polls (c.args.stamp.actor - 1) 0 within c.self.invariant.sound.unspent in
    let last : slice_index desk.polls (c.args.stamp.actor - 1) + 1 ≡ desk.terms.turns = omega (arith, below, c.if-polls-self.false, c.polls_of-polls.ensures) in
    let spent = polled-spent desk c.args.stamp c.args.statement none last in
    let room = subst (HasRoom desk c.args.stamp.actor) (spent-entries desk c.args.stamp c.args.statement spent) may.room in
    let queued = IsQueued-unanswered _ _ _ c.args.stamp.actor c.args.statement (HasSeats-sound desk c.self.invariant.sound) may.there none in
    let kept = subst (λ result. IfNone result (c.take_reply.new.replies ≡ c.self.inside.replies)) c.in_default.is c.take_reply.ensures.kept in
    let fields : Inside = record c.self.inside { journal = c.push_entry-2.new.journal; queue = c.take_out.new.queue } in
    rw kept (spent-ready c.self.inside fields c.args.stamp c.args.statement c.self.invariant may.caller queued room c.push_entry-2.ensures.entry c.push_entry-2.ensures.capacity c.take_out.ensures)

pub returns-clause-sound : goal.returns-clause-sound
returns-clause-sound c = (invariant_of-self-2 c).sound
