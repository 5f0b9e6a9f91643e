use Rattle.std.proofs.Common.{◌+◌, ◌<◌, ◌^◌, ℕ, List, length, map, sym, ap, ◌∙◌, subst, arith, zero-add}
use Rattle.sa_lexer.specs.declared.token.Token.{Token}
use Rattle.sa_lexer.specs.Grammar.{AreTokens}
use Rattle.sa_script.specs.inner.Places as places
use Rattle.sa_script.proofs.Shifts.{all_below, tokens_moved}
use Rattle.sa_script.proofs.reads.tokens_in.Goals as goal

pub moved-requires : goal.moved-requires
moved-requires c =
    let below : length c.text.result.now + c.place-place.result < 2 ^ 64 = omega (arith, c.requires, c.place-place.ensures, ap length c.text.ensures) in
    all_below (2 ^ 64) c.place-place.result 0 (length c.text.result.now) c.in-Ok.tokens below c.in-Ok.ensures.rise

pub returns-in-Ok-clause-are : goal.returns-in-Ok-clause-are
returns-in-Ok-clause-are c =
    let text = c.args.piece.now.text in
    let are : AreTokens 0 text c.in-Ok.tokens = subst (λ (bytes : List ℕ). AreTokens 0 bytes c.in-Ok.tokens) c.text.ensures c.in-Ok.ensures.whole in
    let moved = tokens_moved c.place-place.result 0 text c.in-Ok.tokens are in
    subst (λ (tokens : List Token). AreTokens c.args.piece.now.place text tokens) (sym c.moved.ensures)
    (subst (λ (n : ℕ). AreTokens n text (map (places.moved c.place-place.result) c.in-Ok.tokens)) (zero-add c.place-place.result ∙ c.place-place.ensures) moved)
