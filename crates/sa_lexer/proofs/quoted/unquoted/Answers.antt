use Rattle.std.proofs.Common.{◌≡◌, ◌++◌, ◌∙◌, [], List, ℕ, length, sym, ap, arith}
use Rattle.std.specs.Prelude.{string_bytes}
use Rattle.std.proofs.lemmas.Bool.Decides.{nat_tests}
use Rattle.std.proofs.lemmas.List.{append-nil, nil_from_length}
use Rattle.sa_lexer.specs.Quoted.{held_in}
use Rattle.sa_lexer.proofs.quoted.unquoted.Goals as goal

pub returns : goal.returns
unfolding held_in
returns c =
    let none : length c.loop-rest.rest.now ≡ 0 = grind (arith, nat_tests) in
    let done : held_in c.args.quote c.loop-rest.rest.now ≡ [] = ap (held_in c.args.quote) (nil_from_length c.loop-rest.rest.now none) in
    c.from_string.ensures ∙ sym (append-nil (string_bytes c.loop-rest.held)) ∙ ap (λ (more : List ℕ). string_bytes c.loop-rest.held ++ more) (sym done) ∙ c.loop-rest.invariant.1
