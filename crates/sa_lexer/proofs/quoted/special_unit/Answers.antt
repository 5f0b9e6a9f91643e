use Rattle.std.proofs.Common.{◌≡◌, ◌<◌, length, get_or, ap, arith, inl, inr}
use Rattle.std.proofs.lemmas.Str.{IsCharBoundary-after_ascii}
use Rattle.sa_lexer.proofs.Held.{quote_small, special_small, held_last, held_doubled, held_lone, held_escaped, held_past}
use Rattle.sa_lexer.proofs.quoted.special_unit.Goals as goal

pub range-requires-else-bytes-quote-2-clause-end_boundary : goal.range-requires-else-bytes-quote-2-clause-end_boundary
range-requires-else-bytes-quote-2-clause-end_boundary c =
    IsCharBoundary-after_ascii c.args.rest.now 0 c.utf8.rest c.requires.some (special_small c.args.quote (get_or c.args.rest.now 0 0) c.requires.quote c.requires.first)

pub returns-then-bytes-eq1-clause-held : goal.returns-then-bytes-eq1-clause-held
returns-then-bytes-eq1-clause-held c =
    held_last c.args.quote c.args.rest.now (rw c.as_bytes-bytes.ensures.value at c.if-bytes-eq1.true)

pub returns-then-bytes-quote-clause-held : goal.returns-then-bytes-quote-clause-held
returns-then-bytes-quote-clause-held c =
    let rest = c.args.rest.now in
    let long : 1 < length rest = omega (arith, ap length c.as_bytes-bytes.ensures.value) in
    let apart = rw c.as_bytes-bytes.ensures.value at c.if-bytes-quote.true in
    let meant = rw c.as_bytes-bytes.ensures.value at c.escaped.ensures in
    elim meant [
      | inl h ↦ rw (h.0, h.2) (held_escaped c.args.quote rest long apart c.requires.first)
      | inr h ↦ rw (h.0, h.2) (held_past c.args.quote rest long c.requires.quote apart c.requires.first h.1)
    ]

pub returns-then-bytes-quote-clause-cut : goal.returns-then-bytes-quote-clause-cut
returns-then-bytes-quote-clause-cut c =
    let rest = c.args.rest.now in
    let long : 1 < length rest = omega (arith, ap length c.as_bytes-bytes.ensures.value) in
    let meant = rw c.as_bytes-bytes.ensures.value at c.escaped.ensures in
    elim meant [
      | inl h ↦ rw h.0 (IsCharBoundary-after_ascii rest 1 c.utf8.rest long h.1)
      | inr h ↦ rw h.0 (IsCharBoundary-after_ascii rest 0 c.utf8.rest c.requires.some (special_small c.args.quote (get_or rest 0 0) c.requires.quote c.requires.first))
    ]

pub returns-then-bytes-quote-2-clause-held : goal.returns-then-bytes-quote-2-clause-held
returns-then-bytes-quote-2-clause-held c =
    let long : 1 < length c.args.rest.now = omega (arith, ap length c.as_bytes-bytes.ensures.value) in
    let first = rw c.as_bytes-bytes.ensures.value at c.if-bytes-quote.false in
    let second = rw c.as_bytes-bytes.ensures.value at c.if-bytes-quote-2.true in
    rw c.range.ensures.value (held_doubled c.args.quote c.args.rest.now long first second)

pub returns-then-bytes-quote-2-clause-cut : goal.returns-then-bytes-quote-2-clause-cut
returns-then-bytes-quote-2-clause-cut c =
    let long : 1 < length c.args.rest.now = omega (arith, ap length c.as_bytes-bytes.ensures.value) in
    let second : get_or c.args.rest.now 1 0 ≡ c.args.quote = rw c.as_bytes-bytes.ensures.value at c.if-bytes-quote-2.true in
    IsCharBoundary-after_ascii c.args.rest.now 1 c.utf8.rest long (omega (arith, quote_small c.args.quote c.requires.quote))

pub returns-else-bytes-quote-2-clause-held : goal.returns-else-bytes-quote-2-clause-held
returns-else-bytes-quote-2-clause-held c =
    let long : 1 < length c.args.rest.now = omega (arith, ap length c.as_bytes-bytes.ensures.value) in
    let first = rw c.as_bytes-bytes.ensures.value at c.if-bytes-quote.false in
    let second = rw c.as_bytes-bytes.ensures.value at c.if-bytes-quote-2.false in
    rw c.range-else-bytes-quote-2.ensures.value (held_lone c.args.quote c.args.rest.now long c.requires.quote first second)

pub returns-else-bytes-quote-2-clause-cut : goal.returns-else-bytes-quote-2-clause-cut
returns-else-bytes-quote-2-clause-cut c =
    IsCharBoundary-after_ascii c.args.rest.now 0 c.utf8.rest c.requires.some (special_small c.args.quote (get_or c.args.rest.now 0 0) c.requires.quote c.requires.first)
