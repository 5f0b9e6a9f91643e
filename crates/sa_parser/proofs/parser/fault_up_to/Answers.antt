use Rattle.std.proofs.Common.{Err, ◌∙◌, sym, inl, inr}
use Rattle.std.proofs.lemmas.Result.{IfOk-weaker}
use Rattle.sa_parser.specs.inner.Grammar.{form_of}
use Rattle.sa_parser.specs.Parse.{IsAnswer}
use Rattle.sa_parser.proofs.Answering.{IsJudgedFrom, deep-begun, deep-faulty}
use Rattle.sa_parser.proofs.parser.fault_up_to.Goals as goal
use Rattle.sa_parser.proofs.parser.fault_up_to.Goals.{then-is_sign, else-is_sign}

pub returns-in-None : goal.returns-in-None
returns-in-None c =
    let judged : IsJudgedFrom c.args.place c.index-tokens-place.result c.if-is_sign.judged = elim c.if-is_sign.branch [
      | then-is_sign w ↦ inl ((sym c.is_sign.ensures ∙ w.if-is_sign.true), w.judged-is)
      | else-is_sign w ↦ inr ((sym c.is_sign.ensures ∙ w.if-is_sign.false), w.judged-is)
    ] in
    let begins = rw (c.in-None.is, c.in_ok-of.ensures) at c.in_ok-first.ensures in
    deep-begun c.args.tokens.now c.args.place c.index-tokens-place.result c.requires c.index-tokens-place.is (form_of c.args.grammar) c.if-is_sign.judged judged begins

pub returns-in-Some : goal.returns-in-Some
returns-in-Some c =
    let judged : IsJudgedFrom c.args.place c.index-tokens-place.result c.if-is_sign.judged = elim c.if-is_sign.branch [
      | then-is_sign w ↦ inl ((sym c.is_sign.ensures ∙ w.if-is_sign.true), w.judged-is)
      | else-is_sign w ↦ inr ((sym c.is_sign.ensures ∙ w.if-is_sign.false), w.judged-is)
    ] in
    let faulty = rw (c.in-Some.is, c.in_ok-of.ensures) at c.in_ok-first.ensures in
    IfOk-weaker c.fault_behind.result _ (λ fault. IsAnswer (form_of c.args.grammar) c.args.tokens.now (Err fault))
    (λ fault tells. deep-faulty c.args.tokens.now c.args.place c.index-tokens-place.result c.requires c.index-tokens-place.is (form_of c.args.grammar) c.if-is_sign.judged c.in-Some.count fault judged faulty tells)
    c.fault_behind.ensures
