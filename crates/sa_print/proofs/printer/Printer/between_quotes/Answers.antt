use Rattle.std.proofs.Common.{◌≡◌, ◌++◌, ◌∙◌, [], List, ℕ, length, sym, ap, arith}
use Rattle.std.proofs.lemmas.Bool.Decides.{nat_tests}
use Rattle.std.proofs.lemmas.List.{append-nil, nil_from_length}
use Rattle.sa_print.specs.Quoted.{between_quotes}
use Rattle.sa_print.proofs.printer.Printer.between_quotes.Goals as goal

pub returns : goal.returns
unfolding between_quotes
returns c =
    let none : length c.loop-rest.rest.now ≡ 0 = grind (arith, nat_tests) in
    let done : between_quotes c.args.quote c.loop-rest.rest.now ≡ [] = ap (between_quotes c.args.quote) (nil_from_length c.loop-rest.rest.now none) in
    sym (append-nil c.loop-rest.self) ∙ ap (λ (more : List ℕ). c.loop-rest.self ++ more) (sym done) ∙ c.loop-rest.invariant.1
