use Rattle.std.proofs.Common.{◌≤◌, length, arith}
use Rattle.std.proofs.lemmas.List.{length-drop}
use Rattle.sa_lexer.proofs.Openings.{comment_fits, line_some, line_within}
use Rattle.sa_lexer.proofs.opening.len_at.Goals as goal

pub slice_bounds-comment_close-count : goal.slice_bounds-comment_close-count
slice_bounds-comment_close-count c = comment_fits c.args.bytes.now cc

pub slice_bounds-comment_close-start : goal.slice_bounds-comment_close-start
slice_bounds-comment_close-start c = comment_fits c.args.bytes.now cc

pub returns-in-LineComment-clause-some : goal.returns-in-LineComment-clause-some
returns-in-LineComment-clause-some c = rw c.line_len.ensures (line_some c.args.bytes.now cc)

pub returns-in-LineComment-clause-within : goal.returns-in-LineComment-clause-within
returns-in-LineComment-clause-within c = rw c.line_len.ensures (line_within c.args.bytes.now)

pub returns-in-Some-clause-within : goal.returns-in-Some-clause-within
returns-in-Some-clause-within c =
    let fits : 2 ≤ length c.args.bytes.now = comment_fits c.args.bytes.now cc in
    omega (arith, c.in-Some.ensures.within, length-drop 2 c.args.bytes.now)
