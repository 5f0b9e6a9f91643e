use Rattle.std.proofs.Common.{◌≡◌, ◌<◌, get_or, length, true, arith, sym, ◌∙◌, zero-add}
use Rattle.std.proofs.lemmas.Str.{IsCharBoundary-start, IsCharBoundary-after_ascii}
use Rattle.sa_lexer.specs.Byte.{is_space}
use Rattle.sa_script.proofs.Trims.{space_ascii, more_space}
use Rattle.sa_script.proofs.source.front_space.Goals as goal

pub loop-count-init : goal.loop-count-init
loop-count-init c = record {
  within = omega arith;
  passed = sym (zero-add _);
  cut = IsCharBoundary-start c.as_bytes-bytes.result.now c.as_bytes-bytes.ensures.utf8;
}

pub loop-count-preserved : goal.loop-count-preserved
loop-count-preserved c =
    let bytes = c.as_bytes-bytes.result.now in
    let within : c.loop-count.count < length bytes = omega arith in
    let space : is_space (get_or bytes c.loop-count.count 0) ≡ true = sym c.is_space.ensures ∙ c.if-is_space.true in
    record {
      within = omega arith;
      passed = more_space bytes c.loop-count.count within space c.loop-count.invariant.passed;
      cut = IsCharBoundary-after_ascii bytes c.loop-count.count c.as_bytes-bytes.ensures.utf8 within (space_ascii _ space);
    }
