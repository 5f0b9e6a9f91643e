use Rattle.std.proofs.Common.{◌+◌, ◌<◌, drop, length, arith}
use Rattle.std.proofs.lemmas.Str.{IsCharBoundary-start, IsCharBoundary-from_rest}
use Rattle.sa_lexer.specs.declared.first.FirstToken.TheVariants.{Nothing, Word, Other}
use Rattle.sa_lexer.specs.inner.Front.{IsFrontBlank, IsFrontWord}
use Rattle.sa_lexer.proofs.FirstLemmas.{blank_none, blank_push, nothing_left, told_word, told_other, one_first}
use Rattle.sa_lexer.proofs.first.first_token.Goals as goal

pub loop-len-init : goal.loop-len-init
loop-len-init c = record { stands = blank_none c.args.text.now; cut = IsCharBoundary-start c.args.text.now c.utf8.text }

pub loop-len-preserved : goal.loop-len-preserved
loop-len-preserved c =
    let text = c.args.text.now in
    let front : IsFrontBlank (drop c.loop-len.start text) c.in-Some.len = rw c.range_from.ensures.value at c.in-Some.ensures in
    record {
      stands = blank_push text c.loop-len.start c.in-Some.len c.loop-len.invariant.stands front;
      cut = IsCharBoundary-from_rest text c.loop-len.start c.in-Some.len c.loop-len.invariant.cut.0 front.cut;
    }

pub returns-then-start-text-clause-first : goal.returns-then-start-text-clause-first
returns-then-start-text-clause-first c = nothing_left c.args.text.now c.loop-len.start c.loop-len.invariant.stands c.if-start-text.true

pub returns-then-start-text-clause-only : goal.returns-then-start-text-clause-only
returns-then-start-text-clause-only c = λ other is. one_first c.args.text.now Nothing other (returns-then-start-text-clause-first c) is

pub returns-in-Some-word_len-clause-first : goal.returns-in-Some-word_len-clause-first
returns-in-Some-word_len-clause-first c =
    let front : IsFrontWord (drop c.loop-len.start c.args.text.now) c.in-Some-word_len.len = rw c.range_from-2.ensures.value at c.in-Some-word_len.ensures in
    told_word c.args.text.now c.loop-len.start c.in-Some-word_len.len c.loop-len.invariant.stands front

pub returns-in-Some-word_len-clause-only : goal.returns-in-Some-word_len-clause-only
returns-in-Some-word_len-clause-only c = λ other is.
    one_first c.args.text.now (Word c.loop-len.start (c.loop-len.start + c.in-Some-word_len.len)) other (returns-in-Some-word_len-clause-first c) is

pub returns-in-Some-word_len-clause-cut : goal.returns-in-Some-word_len-clause-cut
returns-in-Some-word_len-clause-cut c =
    let front : IsFrontWord (drop c.loop-len.start c.args.text.now) c.in-Some-word_len.len = rw c.range_from-2.ensures.value at c.in-Some-word_len.ensures in
    (c.loop-len.invariant.cut, IsCharBoundary-from_rest c.args.text.now c.loop-len.start c.in-Some-word_len.len c.loop-len.invariant.cut.0 front.cut)

pub returns-in-None-clause-first : goal.returns-in-None-clause-first
returns-in-None-clause-first c =
    let text = c.args.text.now in
    let within : c.loop-len.start < length text = omega (arith, c.loop-len.invariant.cut.0, c.if-start-text.false) in
    let blank = rw c.range_from.ensures.value at c.in_default.ensures in
    let word = rw c.range_from-2.ensures.value at c.in-None.ensures in
    told_other text c.loop-len.start c.loop-len.invariant.stands within blank word

pub returns-in-None-clause-only : goal.returns-in-None-clause-only
returns-in-None-clause-only c = λ other is. one_first c.args.text.now (Other c.loop-len.start) other (returns-in-None-clause-first c) is
