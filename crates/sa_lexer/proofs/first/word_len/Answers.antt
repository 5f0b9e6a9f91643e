use Rattle.std.proofs.Common.{◌≡◌, ◌<◌, true, false, length, get_or, ap, arith, rules}
use Rattle.std.specs.Char.{is_ascii_digit}
use Rattle.sa_lexer.specs.Byte.{is_word_byte}
use Rattle.sa_lexer.proofs.FirstLemmas.{word_front}
use Rattle.sa_lexer.proofs.first.word_len.Goals as goal

pub returns-in-len1-up : goal.returns-in-len1-up
returns-in-len1-up c =
    let some : 0 < length c.args.rest.now = omega (arith, c.in-len1-up.len_at_least, ap length c.as_bytes.ensures.value) in
    let word : is_word_byte (get_or c.as_bytes.result.now 0 0) ≡ true = search rules in
    let digit : is_ascii_digit (get_or c.as_bytes.result.now 0 0) ≡ false = search rules in
    word_front c.args.rest.now c.run_of_word_bytes.result some (rw c.as_bytes.ensures.value at word) (rw c.as_bytes.ensures.value at digit) c.run_of_word_bytes.ensures.length c.run_of_word_bytes.ensures.cut
