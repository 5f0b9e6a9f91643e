use Rattle.std.proofs.Common.{◌≡◌, ◌<◌, true, false, length, get_or, Ok, arith, rules, inl, inr}
use Rattle.std.proofs.lemmas.Bool.Decides.{nat_tests}
use Rattle.sa_lexer.specs.declared.opening.Opening.TheVariants.{LineComment, Comment, Quoted, Plain}
use Rattle.sa_lexer.specs.Byte.{is_space}
use Rattle.sa_lexer.specs.Opening.{opening_of, is_executable, len_at}
use Rattle.sa_lexer.proofs.FirstLemmas.{no_bytes, no_executed, no_unread, no_quoted, no_plain, space_front, line_comment, marked_comment}
use Rattle.sa_lexer.proofs.first.blank_len.Goals as goal

pub returns-then-is_empty : goal.returns-then-is_empty
returns-then-is_empty c =
    let none : length c.args.rest.now ≡ 0 = grind (arith, nat_tests) in
    no_bytes c.args.rest.now none

pub returns-then-is_executable : goal.returns-then-is_executable
returns-then-is_executable c =
    let executes : is_executable c.args.rest.now ≡ true = search rules in
    no_executed c.args.rest.now executes

pub returns-in-Ok : goal.returns-in-Ok
returns-in-Ok c =
    let some : 0 < length c.args.rest.now = grind (arith, nat_tests) in
    let plain : is_executable c.args.rest.now ≡ false = search rules in
    let read : len_at 0 c.args.rest.now ≡ Ok c.in-Ok.len = rw c.as_bytes-bytes.ensures.value at c.in-Ok.ensures.exact in
    elim c.in-LineComment.is [
      | inl line ↦
          let opens : opening_of c.args.rest.now ≡ LineComment = cc in
          line_comment c.args.rest.now c.in-Ok.len some plain opens read
      | inr marks ↦
          let opens : opening_of c.args.rest.now ≡ Comment = cc in
          marked_comment c.args.rest.now c.in-Ok.len c.utf8.rest some plain opens read
    ]

pub returns-in-Err : goal.returns-in-Err
returns-in-Err c =
    let plain : is_executable c.args.rest.now ≡ false = search rules in
    no_unread c.args.rest.now c.in-Err.field-0 plain (rw c.as_bytes-bytes.ensures.value at c.in-Err.ensures.exact)

pub returns-in-Quoted : goal.returns-in-Quoted
returns-in-Quoted c =
    let opens : opening_of c.args.rest.now ≡ Quoted = cc in
    no_quoted c.args.rest.now opens

pub returns-in-Plain : goal.returns-in-Plain
returns-in-Plain c =
    let some : 0 < length c.args.rest.now = grind (arith, nat_tests) in
    let space : is_space (get_or c.as_bytes-bytes.result.now 0 0) ≡ true = search rules in
    space_front c.args.rest.now c.utf8.rest some (rw c.as_bytes-bytes.ensures.value at space)

pub returns-in-Plain-2 : goal.returns-in-Plain-2
returns-in-Plain-2 c =
    let opens : opening_of c.args.rest.now ≡ Plain = cc in
    let other : is_space (get_or c.as_bytes-bytes.result.now 0 0) ≡ false = search rules in
    no_plain c.args.rest.now opens (rw c.as_bytes-bytes.ensures.value at other)
