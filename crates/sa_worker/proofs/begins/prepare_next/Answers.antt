use Rattle.std.proofs.Common.{◌≡◌, ◌-◌, ◌∷◌, refl, sym, subst, drop, ◌∙◌}
use Rattle.sa_desk.specs.program.Prepares.{IsAnswer}
use Rattle.sa_worker.specs.Works.{is_prepared}
use Rattle.sa_worker.specs.inner.Fields.{answer_of}
use Rattle.sa_worker.proofs.Worked.{there_left, text_left}
use Rattle.sa_worker.proofs.begins.prepare_next.Goals as goal

pub returns-clause-works : goal.returns-clause-works
returns-clause-works g c =
    let session = c.args.session.now in
    let gives = g.P.Preparer.answers c.args.prepare.now in
    let answer = answer_of c.open-opening.result.1 in
    let rest = c.pop_front.new.self.items in
    let left : drop (session.number - 1) session.texts.value ≡ c.in-Some.source ∷ rest = sym c.requires.texts ∙ c.in-Some.ensures.items in
    let there = there_left session.texts.value rest c.in-Some.source session.number c.requires.number left in
    let text = text_left session.texts.value rest c.in-Some.source (session.number - 1) left in
    is_prepared answer there (subst (λ text. IsAnswer gives text answer) (sym text) c.open-opening.ensures.answer) refl
