use Rattle.std.proofs.Common.{◌≡◌, ◌<◌, ◌-◌, ℕ, length, sym, subst, arith, inl, inr}
use Rattle.std.proofs.Math.Nat.{sub-zero}
use Rattle.std.specs.Str.{IsCharBoundary}
use Rattle.std.proofs.lemmas.List.{get_or-take}
use Rattle.std.proofs.lemmas.Result.{IfOk-weaker}
use Rattle.sa_lexer.specs.declared.opening.Opening.TheVariants.{LineComment, Comment, Quoted}
use Rattle.sa_lexer.specs.Opening.{opening_of}
use Rattle.sa_lexer.proofs.Openings.{quoted_part, quoted_cut, line_part, line_cut, comment_part, closed_cut}
use Rattle.sa_lexer.proofs.lexeme.first_lexeme.Goals as goal

pub range-requires-clause-end_boundary : goal.range-requires-clause-end_boundary
range-requires-clause-end_boundary c =
    let opens : opening_of c.args.rest.now ≡ Quoted = cc in
    let read = rw c.as_bytes-bytes.ensures.value at c.in_ok-len.ensures.exact in
    quoted_cut c.args.rest.now c.in_ok-len.len c.utf8.rest (quoted_part c.args.place c.args.rest.now c.in_ok-len.len c.requires.some opens read)

pub quoted-requires-clause-long : goal.quoted-requires-clause-long
quoted-requires-clause-long c =
    let opens : opening_of c.args.rest.now ≡ Quoted = cc in
    let read = rw c.as_bytes-bytes.ensures.value at c.in_ok-len.ensures.exact in
    omega (arith, c.range.ensures.len, (quoted_part c.args.place c.args.rest.now c.in_ok-len.len c.requires.some opens read).long)

pub quoted-requires-clause-quoted : goal.quoted-requires-clause-quoted
quoted-requires-clause-quoted c =
    let opens : opening_of c.args.rest.now ≡ Quoted = cc in
    let read = rw c.as_bytes-bytes.ensures.value at c.in_ok-len.ensures.exact in
    let part = quoted_part c.args.place c.args.rest.now c.in_ok-len.len c.requires.some opens read in
    let first : 0 < c.in_ok-len.len = omega (arith, part.long) in
    rw (c.range.ensures.value, sub-zero, get_or-take) part.quote

pub quoted-requires-clause-closed : goal.quoted-requires-clause-closed
quoted-requires-clause-closed c =
    let opens : opening_of c.args.rest.now ≡ Quoted = cc in
    let read = rw c.as_bytes-bytes.ensures.value at c.in_ok-len.ensures.exact in
    let part = quoted_part c.args.place c.args.rest.now c.in_ok-len.len c.requires.some opens read in
    let first : 0 < c.in_ok-len.len = omega (arith, part.long) in
    let last : c.in_ok-len.len - 1 < c.in_ok-len.len = omega (arith, part.long) in
    let all : length c.range.result.now ≡ c.in_ok-len.len = omega (arith, c.range.ensures.len) in
    rw (all, c.range.ensures.value, sub-zero, get_or-take c.in_ok-len.len c.args.rest.now (c.in_ok-len.len - 1) 0 last, get_or-take c.in_ok-len.len c.args.rest.now 0 0 first) part.last

pub returns-in-LineComment-clause-cut : goal.returns-in-LineComment-clause-cut
returns-in-LineComment-clause-cut c =
    let read = rw c.as_bytes-bytes.ensures.value at c.in_ok-len.ensures.exact in
    elim c.in-LineComment.is [
      | inl line ↦
          let opens : opening_of c.args.rest.now ≡ LineComment = cc in
          subst (λ (n : ℕ). IsCharBoundary c.args.rest.now n) (sym (line_part c.args.place c.args.rest.now c.in_ok-len.len opens read)) (line_cut c.args.rest.now)
      | inr comment ↦
          let opens : opening_of c.args.rest.now ≡ Comment = cc in
          closed_cut c.args.rest.now 47 c.in_ok-len.len (omega arith) c.utf8.rest (comment_part c.args.place c.args.rest.now c.in_ok-len.len opens read)
    ]

pub returns-in-Quoted-clause-cut : goal.returns-in-Quoted-clause-cut
returns-in-Quoted-clause-cut c =
    let opens : opening_of c.args.rest.now ≡ Quoted = cc in
    let read = rw c.as_bytes-bytes.ensures.value at c.in_ok-len.ensures.exact in
    let cut = quoted_cut c.args.rest.now c.in_ok-len.len c.utf8.rest (quoted_part c.args.place c.args.rest.now c.in_ok-len.len c.requires.some opens read) in
    IfOk-weaker c.quoted.result _ _ (λ lexeme e. let all : c.in_ok-len.len ≡ lexeme.len = omega (arith, c.range.ensures.len, e) in subst (λ (n : ℕ). IsCharBoundary c.args.rest.now n) all cut) c.quoted.ensures.len
