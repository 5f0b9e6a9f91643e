use Rattle.std.proofs.Common.{◌≡◌, ℕ, ◌+◌, ◌≤◌, [], length, true, false, refl, sym, ap, ◌∙◌, subst, arith}
use Rattle.std.proofs.lemmas.Result.{err_from_is_err_and}
use Rattle.std.proofs.lemmas.Str.{IsCharBoundary-start}
use Rattle.sa_script.specs.declared.said.Said.{Said}
use Rattle.sa_script.specs.Piece.{place_behind}
use Rattle.sa_script.proofs.Leading.{leads_more, says_there, script_ends, fails_answered}
use Rattle.sa_script.proofs.reading.read_pieces.Goals as goal

pub loop-said-init : goal.loop-said-init
loop-said-init c = record {
  leads = ([], (c.new-said.ensures, refl));
  cut = IsCharBoundary-start c.args.script.now c.utf8.script;
  few = subst (λ (said : Said). length said.sessions ≤ 16) (sym c.new-said.ensures) (omega arith);
}

pub returns-in_err-skipped : goal.returns-in_err-skipped
returns-in_err-skipped c =
    let e = c.in_ok-piece.ensures in
    let p = err_from_is_err_and c.from_residual-in_err-skipped.result c.from_residual-in_err-skipped.ensures.1 in
    rw (p.1, p.2)
    (fails_answered c.args.script.now c.loop-said.said c.loop-said.place c.in_ok-piece.piece _ c.requires c.utf8.script c.loop-said.invariant.leads e.place e.is c.in_err-skipped.ensures.fault)

pub returns-then-not-is_closed : goal.returns-then-not-is_closed
returns-then-not-is_closed c =
    let e = c.in_ok-piece.ensures in
    let piece = c.in_ok-piece.piece in
    let unclosed : piece.closed ≡ false = sym c.is_closed.ensures ∙ c.if-not-is_closed.true in
    let says = says_there c.args.script.now c.loop-said.said c.take_piece.new.said c.loop-said.place c.in_ok-skipped.skipped piece e.place e.is c.in_ok-skipped.ensures.says in
    script_ends c.args.script.now c.loop-said.said c.take_piece.new.said c.loop-said.place (place_behind piece + c.in_ok-skipped.skipped) piece c.into_script.result
    c.requires c.utf8.script c.loop-said.invariant.leads unclosed says c.into_script.ensures

pub loop-said-preserved : goal.loop-said-preserved
loop-said-preserved c =
    let e = c.in_ok-piece.ensures in
    let script = c.args.script.now in
    let piece = c.in_ok-piece.piece in
    let closed : piece.closed ≡ true = sym c.is_closed.ensures ∙ c.if-not-is_closed.false in
    let says = says_there script c.loop-said.said c.take_piece.new.said c.loop-said.place c.in_ok-skipped.skipped piece e.place e.is c.in_ok-skipped.ensures.says in
    let there : c.behind.result + c.in_ok-skipped.skipped ≡ place_behind piece + c.in_ok-skipped.skipped = ap (λ (n : ℕ). n + c.in_ok-skipped.skipped) c.behind.ensures in
    rw there (record {
      leads = leads_more script c.loop-said.said c.take_piece.new.said c.loop-said.place (place_behind piece + c.in_ok-skipped.skipped) piece c.loop-said.invariant.leads closed says;
      cut = c.in_ok-skipped.ensures.cut;
      few = c.in_ok-skipped.ensures.few;
    })
