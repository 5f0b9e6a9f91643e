use Rattle.std.proofs.Common.{◌≡◌, true, false, [], ◌∷◌, ◌++◌, cond, refl, sym, subst, ap, ◌∙◌}
use Rattle.sa_desk.specs.declared.entry.Event.TheVariants.{Begin, Gone}
use Rattle.sa_desk.specs.Comes.{Comes}
use Rattle.sa_desk.specs.Contents.{state, HasRoom, entry_by}
use Rattle.sa_desk.specs.inner.Desk.{contents_of}
use Rattle.sa_desk.specs.inner.Parts.{begun_with}
use Rattle.sa_desk.specs.call.Begin.{MayBegin, after_begin}
use Rattle.sa_desk.proofs.Grown.{IsJournal-push}
use Rattle.sa_desk.proofs.Keeps.{at_idle, with_journal}
use Rattle.sa_desk.proofs.Room.{entry_fits}
use Rattle.sa_desk.proofs.step.Begin.{gone-ready, begin-ready}
use Rattle.sa_desk.proofs.desk.Desk.begin.Goals as goal

-- where a KILL CONNECTION stands
pub push_entry-requires : goal.push_entry-requires
push_entry-requires c =
    let event = Begin c.args.statement c.args.text c.args.version c.args.plan c.args.tables in
    let may = subst (λ desk. MayBegin desk c.args.stamp event c.args.statement c.args.version c.args.plan c.args.tables) (sym c.self.view_is) c.requires in
    let desk = contents_of c.self.inside in
    let stands : (state desk).doomed ≡ true = sym c.self.invariant.doomed ∙ c.if-self.true in
    let comes = at_idle (λ state. Comes desk.terms state (entry_by desk c.args.stamp (Gone c.args.statement))) (state desk) may.free (may.own, stands) in
    let room = subst (λ doomed. HasRoom desk c.args.stamp.actor (entry_by desk c.args.stamp (cond doomed (Gone c.args.statement) event) ∷ [])) stands may.room in
    entry_fits c.self.inside _ c.self.invariant (IsJournal-push desk c.args.stamp (Gone c.args.statement) c.self.invariant.sound may.caller comes room)

pub invariant_of-self : goal.invariant_of-self
invariant_of-self c =
    let event = Begin c.args.statement c.args.text c.args.version c.args.plan c.args.tables in
    let may = subst (λ desk. MayBegin desk c.args.stamp event c.args.statement c.args.version c.args.plan c.args.tables) (sym c.self.view_is) c.requires in
    let desk = contents_of c.self.inside in
    let stands : (state desk).doomed ≡ true = sym c.self.invariant.doomed ∙ c.if-self.true in
    let room = subst (λ doomed. HasRoom desk c.args.stamp.actor (entry_by desk c.args.stamp (cond doomed (Gone c.args.statement) event) ∷ [])) stands may.room in
    gone-ready c.self.inside (record c.self.inside { journal = c.push_entry.new.journal }) c.args.stamp c.args.statement c.self.invariant may.caller may.own may.free c.if-self.true room c.push_entry.ensures.entry c.push_entry.ensures.capacity

pub returns-then-self-clause-sound : goal.returns-then-self-clause-sound
returns-then-self-clause-sound c = (invariant_of-self c).sound

-- where the statement begins
pub push_entry-requires-2 : goal.push_entry-requires-2
push_entry-requires-2 c =
    let event = Begin c.args.statement c.args.text c.args.version c.args.plan c.args.tables in
    let may = subst (λ desk. MayBegin desk c.args.stamp event c.args.statement c.args.version c.args.plan c.args.tables) (sym c.self.view_is) c.requires in
    let desk = contents_of c.self.inside in
    let free : (state desk).doomed ≡ false = sym c.self.invariant.doomed ∙ c.if-self.false in
    let comes = at_idle (λ state. Comes desk.terms state (entry_by desk c.args.stamp event)) (state desk) may.free (may.own, free, may.version_is, may.given.together) in
    let room = subst (λ doomed. HasRoom desk c.args.stamp.actor (entry_by desk c.args.stamp (cond doomed (Gone c.args.statement) event) ∷ [])) free may.room in
    entry_fits c.self.inside _ c.self.invariant (IsJournal-push desk c.args.stamp event c.self.invariant.sound may.caller comes room)

pub invariant_of-self-2 : goal.invariant_of-self-2
invariant_of-self-2 c =
    let event = Begin c.args.statement c.args.text c.args.version c.args.plan c.args.tables in
    let may = subst (λ desk. MayBegin desk c.args.stamp event c.args.statement c.args.version c.args.plan c.args.tables) (sym c.self.view_is) c.requires in
    let desk = contents_of c.self.inside in
    let free : (state desk).doomed ≡ false = sym c.self.invariant.doomed ∙ c.if-self.false in
    let comes = at_idle (λ state. Comes desk.terms state (entry_by desk c.args.stamp event)) (state desk) may.free (may.own, free, may.version_is, may.given.together) in
    let room = subst (λ doomed. HasRoom desk c.args.stamp.actor (entry_by desk c.args.stamp (cond doomed (Gone c.args.statement) event) ∷ [])) free may.room in
    begin-ready c.self.inside (record c.self.inside { journal = c.push_entry-2.new.journal; phase = c.begun_with-self-inside.result }) c.args.stamp event c.args.statement c.args.plan c.args.tables
    c.self.invariant may.caller may.free may.given.together comes room c.push_entry-2.ensures.entry c.push_entry-2.ensures.capacity
    (c.begun_with-self-inside.ensures ∙ ap (λ planned. begun_with planned (record { statement = c.args.statement; begin = c.args.stamp.seq; killed = false })) c.is_some.ensures)
    refl

pub returns-clause-sound : goal.returns-clause-sound
returns-clause-sound c = (invariant_of-self-2 c).sound

pub returns-then-self-clause-desk : goal.returns-then-self-clause-desk
returns-then-self-clause-desk c =
    let event = Begin c.args.statement c.args.text c.args.version c.args.plan c.args.tables in
    let desk = contents_of c.self.inside in
    let journal = c.push_entry.ensures.entry ∙ ap (λ doomed. desk.journal ++ entry_by desk c.args.stamp (cond doomed (Gone c.args.statement) event) ∷ []) (sym c.if-self.true ∙ c.self.invariant.doomed) in
    ap (λ journal. with_journal desk journal) journal ∙ ap (λ desk. after_begin desk c.args.stamp event c.args.statement) c.self.view_is

pub returns-clause-desk : goal.returns-clause-desk
returns-clause-desk c =
    let event = Begin c.args.statement c.args.text c.args.version c.args.plan c.args.tables in
    let desk = contents_of c.self.inside in
    let journal = c.push_entry-2.ensures.entry ∙ ap (λ doomed. desk.journal ++ entry_by desk c.args.stamp (cond doomed (Gone c.args.statement) event) ∷ []) (sym c.if-self.false ∙ c.self.invariant.doomed) in
    ap (λ journal. with_journal desk journal) journal ∙ ap (λ desk. after_begin desk c.args.stamp event c.args.statement) c.self.view_is
