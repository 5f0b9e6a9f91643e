use Rattle.std.proofs.Common.{sym, subst}
use Rattle.sa_desk.specs.declared.entry.Event.TheVariants.{Close}
use Rattle.sa_desk.specs.inner.Desk.{contents_of}
use Rattle.sa_desk.specs.call.Close.{MayClose}
use Rattle.sa_desk.proofs.Grown.{IsJournal-push}
use Rattle.sa_desk.proofs.Room.{entry_fits}
use Rattle.sa_desk.proofs.step.Close.{close-comes, close-ready}
use Rattle.sa_desk.proofs.desk.Desk.close.Goals as goal

pub push_entry-requires : goal.push_entry-requires
push_entry-requires c =
    let may = subst (λ desk. MayClose desk c.args.stamp) (sym c.self.view_is) c.requires in
    let desk = contents_of c.self.inside in
    entry_fits c.self.inside _ c.self.invariant (IsJournal-push desk c.args.stamp Close c.self.invariant.sound may.caller (close-comes desk c.args.stamp may) may.room)

pub invariant_of-self : goal.invariant_of-self
invariant_of-self c =
    let may = subst (λ desk. MayClose desk c.args.stamp) (sym c.self.view_is) c.requires in
    close-ready c.self.inside (record c.self.inside { journal = c.push_entry.new.journal }) c.args.stamp c.self.invariant may c.push_entry.ensures.entry c.push_entry.ensures.capacity

pub returns-clause-sound : goal.returns-clause-sound
returns-clause-sound c = (invariant_of-self c).sound
