-- Expressions at a level, by the level below it.
use Rattle.std.proofs.Common.{◌≡◌, ℕ, suc, ◌-◌, ◌<◌, List, ap, arith}
use Rattle.sa_lexer.specs.declared.token.Token.{Token}
use Rattle.sa_parser.specs.declared.rule.Rule.{Rule}
use Rattle.sa_parser.specs.inner.Reading.{refuse}
use Rattle.sa_parser.specs.inner.ExprReading.{nested_read, ruled_read}

pub nested_read-none : (levels : ℕ) (rule : Rule) (tokens : List Token) → levels ≡ 0 → nested_read levels rule tokens ≡ refuse tokens
unfolding nested_read
nested_read-none levels rule tokens none = ap (λ n. nested_read n rule tokens) none

pub nested_read-inside : (levels : ℕ) (rule : Rule) (tokens : List Token) → 0 < levels → nested_read levels rule tokens ≡ ruled_read (nested_read (levels - 1)) rule tokens
unfolding nested_read
nested_read-inside levels rule tokens some =
    let below : levels ≡ suc (levels - 1) = omega arith in
    ap (λ n. nested_read n rule tokens) below

pub ruleset levels = (nested_read-none, nested_read-inside)
