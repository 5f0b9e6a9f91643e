use Rattle.std.proofs.Common.{◌≡◌, ◌+◌, ◌<◌, ◌++◌, ◌∙◌, List, Result, length, arith, sym, ap, subst, Vec, Global}
use Rattle.std.proofs.lemmas.Bool.Decides.{nat_tests}
use Rattle.std.proofs.lemmas.List.{append-nil}
use Rattle.std.proofs.lemmas.Result.{err_from_is_err_and}
use Rattle.sa_lexer.specs.declared.token.Token.{Token}
use Rattle.sa_lexer.specs.Fault.{Fault, Gives}
use Rattle.sa_lexer.specs.Tokens.{token_of, tokens_of}
use Rattle.sa_lexer.proofs.FaultyLemmas.{text_told}
use Rattle.sa_lexer.proofs.Laws.{are_tokens, all_rise, all_spelled}
use Rattle.sa_lexer.proofs.Steps.{goes_on, ends, is_done}
use Rattle.sa_lexer.proofs.Unique.{only_reading}
use Rattle.sa_lexer.proofs.reading.tokens.Goals as goal
use Rattle.sa_lexer.proofs.reading.tokens.Goals.{in-Some+in_ok-push, in_default}

pub returns-in_err-kind-clause-exact : goal.returns-in_err-kind-clause-exact
returns-in_err-kind-clause-exact c =
    let p = err_from_is_err_and c.from_residual.result c.from_residual.ensures.1 in
    let some : 0 < length c.loop-rest.rest.now = grind (arith, nat_tests) in
    rw (p.1, p.2) (ends c.in_err-kind.field-0.0 c.loop-rest.tokens.items c.loop-rest.place c.loop-rest.rest.now (tokens_of c.args.text.now) some c.in_err-kind.ensures.exact c.loop-rest.invariant.2)

pub returns-in_err-kind-clause-only : goal.returns-in_err-kind-clause-only
returns-in_err-kind-clause-only c = λ tokens h.
    subst (λ (read : Result (List Token) Fault). Gives c.from_residual.result read) (only_reading c.args.text.now tokens h) (returns-in_err-kind-clause-exact c)

pub returns-in_err-kind-clause-faulty : goal.returns-in_err-kind-clause-faulty
returns-in_err-kind-clause-faulty c =
    let p = err_from_is_err_and c.from_residual.result c.from_residual.ensures.1 in
    rw p.1 (text_told c.args.text.now p.0 (rw p.1 at (returns-in_err-kind-clause-exact c)))

pub loop-rest-preserved : goal.loop-rest-preserved
loop-rest-preserved c =
    let rest = c.loop-rest.rest.now in
    let place = c.loop-rest.place in
    let lexeme = c.in_ok-kind.field-0 in
    let front = c.loop-rest.tokens.items in
    let some : 0 < length rest = grind (arith, nat_tests) in
    let all : c.match-kind.tokens.items ≡ front ++ token_of place (place + lexeme.len) lexeme.kind =
    elim c.match-kind.branch [
      | in-Some+in_ok-push w ↦ ap (λ (v : Vec Token Global). v.items) w.tokens-is ∙ w.in_ok-push.ensures.items ∙ ap (λ kind. front ++ token_of place (place + lexeme.len) kind) (sym w.in-Some.is)
      | in_default w ↦ ap (λ (v : Vec Token Global). v.items) w.tokens-is ∙ sym (append-nil front) ∙ ap (λ kind. front ++ token_of place (place + lexeme.len) kind) (sym w.in_default.is)
    ] in
    let next = goes_on front place rest lexeme (tokens_of c.args.text.now) some c.in_ok-kind.ensures.some c.in_ok-kind.ensures.exact c.loop-rest.invariant.2 in
    (c.range_from-rest.utf8, omega (arith, c.range_from-rest.ensures.len), rw (all, c.range_from-rest.ensures.value) next)

pub returns-clause-exact : goal.returns-clause-exact
returns-clause-exact c =
    let none : length c.loop-rest.rest.now ≡ 0 = grind (arith, nat_tests) in
    rw c.from_vec.ensures (is_done c.loop-rest.tokens.items c.loop-rest.place c.loop-rest.rest.now (tokens_of c.args.text.now) none c.loop-rest.invariant.2)

pub returns-clause-whole : goal.returns-clause-whole
returns-clause-whole c = are_tokens c.args.text.now c.from_vec.result (returns-clause-exact c)

pub returns-clause-only : goal.returns-clause-only
returns-clause-only c = λ tokens h. sym (only_reading c.args.text.now tokens h) ∙ returns-clause-exact c

pub returns-clause-rise : goal.returns-clause-rise
returns-clause-rise c = all_rise c.args.text.now c.from_vec.result (returns-clause-whole c)

pub returns-clause-spelled : goal.returns-clause-spelled
returns-clause-spelled c = all_spelled c.args.text.now c.from_vec.result (returns-clause-whole c)
