use Rattle.std.proofs.Common.{◌≡◌, ◌-◌, [], ◌∷◌, ◌++◌, map, slice_set, sym, subst, ap, ◌∙◌, refl}
use Rattle.std.proofs.lemmas.List.{append-nil}
use Rattle.sa_desk.specs.Contents.{entry_by}
use Rattle.sa_desk.specs.inner.Desk.{contents_of}
use Rattle.sa_desk.specs.inner.Parts.{event_list}
use Rattle.sa_desk.specs.call.Look.{MayLook, looked, looks_before, look_events, wait_after}
use Rattle.sa_desk.proofs.Grown.{IsJournal}
use Rattle.sa_desk.proofs.Room.{entry_fits}
use Rattle.sa_desk.proofs.step.Look.{look-journal, look-ready, answer_to_look-ready}
use Rattle.sa_desk.proofs.desk.Desk.look.Goals as goal

-- where the look makes an entry
pub push_entry-requires : goal.push_entry-requires
push_entry-requires c =
    let may = subst (λ desk. MayLook desk c.args.stamp c.args.statement c.args.at c.args.budget) (sym c.self.view_is) c.requires in
    let desk = contents_of c.self.inside in
    let answer : c.look_in-looked.result ≡ looked desk c.args.stamp c.args.statement c.args.at =
    c.look_in-looked.ensures ∙ answer_to_look-ready c.self.inside c.args.stamp c.args.statement c.args.at c.args.budget c.looks_of-looks.result c.self.invariant may c.looks_of-looks.ensures in
    let events : c.in-Some.event ∷ [] ≡ look_events (looked desk c.args.stamp c.args.statement c.args.at) c.args.statement =
    ap event_list (sym c.in-Some.is) ∙ c.look_event.ensures ∙ ap (λ answer. look_events answer c.args.statement) answer in
    let journal = subst (λ events. IsJournal desk.terms desk.shares (desk.journal ++ map (entry_by desk c.args.stamp) events)) (sym events) (look-journal c.self.inside c.args.stamp c.args.statement c.args.at c.args.budget c.self.invariant may) in
    entry_fits c.self.inside (entry_by desk c.args.stamp c.in-Some.event) c.self.invariant journal

pub invariant_of-self : goal.invariant_of-self
invariant_of-self c =
    let may = subst (λ desk. MayLook desk c.args.stamp c.args.statement c.args.at c.args.budget) (sym c.self.view_is) c.requires in
    let desk = contents_of c.self.inside in
    let answer : c.look_in-looked.result ≡ looked desk c.args.stamp c.args.statement c.args.at =
    c.look_in-looked.ensures ∙ answer_to_look-ready c.self.inside c.args.stamp c.args.statement c.args.at c.args.budget c.looks_of-looks.result c.self.invariant may c.looks_of-looks.ensures in
    let waits = c.set_wait.ensures ∙ ap (slice_set c.self.inside.waits.items (c.args.stamp.actor - 1)) (c.wait_after-wait.ensures ∙ ap (λ looks. wait_after c.look_in-looked.result c.args.statement c.args.at looks) c.looks_of-looks.ensures
    ∙ ap (λ answer. wait_after answer c.args.statement c.args.at (looks_before desk c.args.stamp c.args.statement c.args.at)) answer) in
    let events : c.in-Some.event ∷ [] ≡ look_events (looked desk c.args.stamp c.args.statement c.args.at) c.args.statement =
    ap event_list (sym c.in-Some.is) ∙ c.look_event.ensures ∙ ap (λ answer. look_events answer c.args.statement) answer in
    let journal = c.push_entry.ensures.entry ∙ ap (λ events. desk.journal ++ map (entry_by desk c.args.stamp) events) events in
    look-ready c.self.inside (record c.self.inside { journal = c.push_entry.new.journal; waits = c.set_wait.new.waits }) c.args.stamp c.args.statement c.args.at c.args.budget c.self.invariant may journal c.push_entry.ensures.capacity waits

pub returns-in-Some-clause-sound : goal.returns-in-Some-clause-sound
returns-in-Some-clause-sound c = (invariant_of-self c).sound

-- where it makes none
pub invariant_of-self-in_default : goal.invariant_of-self-in_default
invariant_of-self-in_default c =
    let may = subst (λ desk. MayLook desk c.args.stamp c.args.statement c.args.at c.args.budget) (sym c.self.view_is) c.requires in
    let desk = contents_of c.self.inside in
    let answer : c.look_in-looked.result ≡ looked desk c.args.stamp c.args.statement c.args.at =
    c.look_in-looked.ensures ∙ answer_to_look-ready c.self.inside c.args.stamp c.args.statement c.args.at c.args.budget c.looks_of-looks.result c.self.invariant may c.looks_of-looks.ensures in
    let waits = c.set_wait.ensures ∙ ap (slice_set c.self.inside.waits.items (c.args.stamp.actor - 1)) (c.wait_after-wait.ensures ∙ ap (λ looks. wait_after c.look_in-looked.result c.args.statement c.args.at looks) c.looks_of-looks.ensures
    ∙ ap (λ answer. wait_after answer c.args.statement c.args.at (looks_before desk c.args.stamp c.args.statement c.args.at)) answer) in
    let events : [] ≡ look_events (looked desk c.args.stamp c.args.statement c.args.at) c.args.statement =
    ap event_list (sym c.in_default.is) ∙ c.look_event.ensures ∙ ap (λ answer. look_events answer c.args.statement) answer in
    let journal = sym (append-nil desk.journal) ∙ ap (λ events. desk.journal ++ map (entry_by desk c.args.stamp) events) events in
    look-ready c.self.inside (record c.self.inside { waits = c.set_wait.new.waits }) c.args.stamp c.args.statement c.args.at c.args.budget c.self.invariant may journal refl waits

pub returns-in_default-clause-sound : goal.returns-in_default-clause-sound
returns-in_default-clause-sound c = (invariant_of-self-in_default c).sound
