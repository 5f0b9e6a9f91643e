use Rattle.std.proofs.Common.{◌∙◌, ◌+◌, sym, subst, ap, All}
use Rattle.std.proofs.lemmas.List.Elements.{All-push}
use Rattle.sa_desk.specs.Contents.{IsSound}
use Rattle.sa_desk.specs.New.{MayMake, AreNew, new_desk}
use Rattle.sa_step.specs.Starts.{desk_in}
use Rattle.sa_step.proofs.StartLemmas.{one_more, all_made}
use Rattle.sa_step.proofs.Starting.{may_make, new_are_new}
use Rattle.sa_step.proofs.starts.new_desks.Goals as goal

pub new-requires : goal.new-requires
new-requires c =
    subst (MayMake c.args.quantum c.args.turns) (sym (c.deref.ensures.value ∙ c.in_ok-shares.ensures))
    (may_make c.args.statements.now c.requires.few c.requires.short c.args.quantum c.args.turns (c.loop-place.place + 1) c.requires.least_quantum c.requires.most_quantum c.requires.least_turns)

pub loop-place-preserved : goal.loop-place-preserved
loop-place-preserved c =
    let desk = c.in_ok-new.ensures.desk ∙ ap (new_desk (c.loop-place.place + 1) c.args.quantum c.args.turns) (c.deref.ensures.value ∙ c.in_ok-shares.ensures) in
    record {
      desks = c.in_ok-push.ensures.items ∙ one_more (desk_in c.args.statements.now c.args.quantum c.args.turns) c.loop-place.desks.items c.loop-place.place c.in_ok-new.field-0 c.loop-place.invariant.desks desk;
      sound = subst (All IsSound) (sym c.in_ok-push.ensures.items) (All-push IsSound c.loop-place.desks.items c.in_ok-new.field-0 c.loop-place.invariant.sound c.in_ok-new.ensures.sound);
    }

pub returns-clause-new : goal.returns-clause-new
returns-clause-new c =
    let made = all_made (desk_in c.args.statements.now c.args.quantum c.args.turns) c.loop-place.desks.items c.args.statements.now c.loop-place.place c.loop-place-test.false c.loop-place.auto.place-end c.loop-place.invariant.desks in
    subst AreNew (sym made) (new_are_new c.args.statements.now c.requires.few c.requires.short c.args.quantum c.args.turns (subst (All IsSound) made c.loop-place.invariant.sound))
