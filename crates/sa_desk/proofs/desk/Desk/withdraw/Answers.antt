use Rattle.std.proofs.Common.{◌≡◌, Some, None, IfNone, sym, subst, ap, ◌∙◌, arith}
use Rattle.sa_desk.specs.declared.desk.Desk.TheInside.{Inside}
use Rattle.sa_desk.specs.declared.entry.Event.TheVariants.{Taken, Withdrawn}
use Rattle.sa_desk.specs.Contents.{state, phase}
use Rattle.sa_desk.specs.inner.Desk.{contents_of}
use Rattle.sa_desk.specs.call.Poll.{reply_to}
use Rattle.sa_desk.specs.call.Withdraw.{MayWithdraw}
use Rattle.sa_desk.proofs.Grown.{IsJournal-push}
use Rattle.sa_desk.proofs.Room.{entry_fits}
use Rattle.sa_desk.proofs.Seats.{HasSeats-sound, IsServed-answered, IsQueued-unanswered}
use Rattle.sa_desk.proofs.step.Poll.{taken-comes, taken-ready}
use Rattle.sa_desk.proofs.step.Withdraw.{withdrawn-taken, withdrawn-removed, taken-room, removed-room, removed-comes, removed-ready}
use Rattle.sa_desk.proofs.desk.Desk.withdraw.Goals as goal

pub take_reply-requires : goal.take_reply-requires
take_reply-requires c =
    let seats = HasSeats-sound (contents_of c.self.inside) c.self.invariant.sound in
    rw c.self.invariant.replies (omega (arith, seats.single c.args.stamp.actor))

-- where the request was served
pub push_entry-requires : goal.push_entry-requires
push_entry-requires c =
    let may = subst (λ desk. MayWithdraw desk c.args.stamp c.args.statement) (sym c.self.view_is) c.requires in
    let desk = contents_of c.self.inside in
    let found : reply_to c.args.stamp.actor (state desk).replies ≡ Some c.in-Some._reply = ap (reply_to c.args.stamp.actor) (sym c.self.invariant.replies) ∙ sym c.take_reply.ensures.reply ∙ c.in-Some.is in
    let served = IsServed-answered _ _ _ c.args.stamp.actor c.args.statement c.in-Some._reply (HasSeats-sound desk c.self.invariant.sound) may.there found in
    let comes = taken-comes desk c.args.stamp (phase desk) (state desk).doomed (state desk).replies c.args.statement c.self.invariant.sound.run.settled served.0 in
    let room = taken-room desk c.args.stamp c.args.statement (withdrawn-taken desk c.args.stamp c.args.statement c.in-Some._reply found) may.room in
    entry_fits c.self.inside _ c.self.invariant (IsJournal-push desk c.args.stamp (Taken c.args.statement) c.self.invariant.sound may.caller comes room)

pub invariant_of-self : goal.invariant_of-self
invariant_of-self c =
    let may = subst (λ desk. MayWithdraw desk c.args.stamp c.args.statement) (sym c.self.view_is) c.requires in
    let desk = contents_of c.self.inside in
    let found : reply_to c.args.stamp.actor (state desk).replies ≡ Some c.in-Some._reply = ap (reply_to c.args.stamp.actor) (sym c.self.invariant.replies) ∙ sym c.take_reply.ensures.reply ∙ c.in-Some.is in
    let served = IsServed-answered _ _ _ c.args.stamp.actor c.args.statement c.in-Some._reply (HasSeats-sound desk c.self.invariant.sound) may.there found in
    let comes = taken-comes desk c.args.stamp (phase desk) (state desk).doomed (state desk).replies c.args.statement c.self.invariant.sound.run.settled served.0 in
    let room = taken-room desk c.args.stamp c.args.statement (withdrawn-taken desk c.args.stamp c.args.statement c.in-Some._reply found) may.room in
    taken-ready c.self.inside (record c.self.inside { journal = c.push_entry.new.journal; replies = c.take_reply.new.replies }) c.args.stamp c.args.statement c.self.invariant may.caller comes room
    c.push_entry.ensures.entry c.push_entry.ensures.capacity c.take_reply.ensures.others

pub returns-in-Some-clause-sound : goal.returns-in-Some-clause-sound
returns-in-Some-clause-sound c = (invariant_of-self c).sound

-- where it waits
pub take_out-requires : goal.take_out-requires
take_out-requires c =
    let seats = HasSeats-sound (contents_of c.self.inside) c.self.invariant.sound in
    rw c.self.invariant.queue (omega (arith, seats.single c.args.stamp.actor))

pub push_entry-requires-2 : goal.push_entry-requires-2
push_entry-requires-2 c =
    let may = subst (λ desk. MayWithdraw desk c.args.stamp c.args.statement) (sym c.self.view_is) c.requires in
    let desk = contents_of c.self.inside in
    let none : reply_to c.args.stamp.actor (state desk).replies ≡ None = ap (reply_to c.args.stamp.actor) (sym c.self.invariant.replies) ∙ sym c.take_reply.ensures.reply ∙ c.in_default.is in
    let room = removed-room desk c.args.stamp c.args.statement (withdrawn-removed desk c.args.stamp c.args.statement none) may.room in
    let queued = IsQueued-unanswered _ _ _ c.args.stamp.actor c.args.statement (HasSeats-sound desk c.self.invariant.sound) may.there none in
    let comes = removed-comes desk c.args.stamp (phase desk) (state desk).doomed (state desk).replies c.args.statement c.self.invariant.sound.run.settled queued in
    entry_fits c.self.inside _ c.self.invariant (IsJournal-push desk c.args.stamp (Withdrawn c.args.statement) c.self.invariant.sound may.caller comes room)

pub invariant_of-self-2 : goal.invariant_of-self-2
invariant_of-self-2 c =
    let may = subst (λ desk. MayWithdraw desk c.args.stamp c.args.statement) (sym c.self.view_is) c.requires in
    let desk = contents_of c.self.inside in
    let none : reply_to c.args.stamp.actor (state desk).replies ≡ None = ap (reply_to c.args.stamp.actor) (sym c.self.invariant.replies) ∙ sym c.take_reply.ensures.reply ∙ c.in_default.is in
    let room = removed-room desk c.args.stamp c.args.statement (withdrawn-removed desk c.args.stamp c.args.statement none) may.room in
    let queued = IsQueued-unanswered _ _ _ c.args.stamp.actor c.args.statement (HasSeats-sound desk c.self.invariant.sound) may.there none in
    let kept = subst (λ result. IfNone result (c.take_reply.new.replies ≡ c.self.inside.replies)) c.in_default.is c.take_reply.ensures.kept in
    let fields : Inside = record c.self.inside { journal = c.push_entry-2.new.journal; queue = c.take_out.new.queue } in
    rw kept (removed-ready c.self.inside fields c.args.stamp c.args.statement c.self.invariant may.caller queued room c.push_entry-2.ensures.entry c.push_entry-2.ensures.capacity c.take_out.ensures)

pub returns-clause-sound : goal.returns-clause-sound
returns-clause-sound c = (invariant_of-self-2 c).sound
