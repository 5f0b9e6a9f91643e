use Rattle.std.proofs.Common.{◌≡◌, ◌<◌, ◌≤◌, ◌-◌, List, ℕ, get_or, length, take, true, false, refl, arith, ap, sym, ◌∙◌}
use Rattle.std.specs.Prelude.{slice_range}
use Rattle.std.proofs.lemmas.Str.{IsCharBoundary-before_ascii}
use Rattle.sa_lexer.specs.Byte.{is_space}
use Rattle.sa_script.specs.Piece.{trimmed_end}
use Rattle.sa_script.proofs.Trims.{space_ascii, less_end, end_stays}
use Rattle.sa_script.proofs.source.without_end.Goals as goal
use Rattle.sa_script.proofs.source.without_end.Goals.{then-loop-end-test+else-is_space, else-loop-end-test}

pub loop-end-preserved : goal.loop-end-preserved
loop-end-preserved c =
    let bytes = c.as_bytes-bytes.result.now in
    let end = c.loop-end.end in
    let some : 0 < end = omega arith in
    let before : end - 1 < length bytes = omega (arith, c.loop-end.invariant.within) in
    let space : is_space (get_or bytes (end - 1) 0) ≡ true = sym c.is_space.ensures ∙ c.if-is_space.true in
    record {
      within = omega (arith, before);
      passed = sym (less_end bytes end some c.loop-end.invariant.within space) ∙ c.loop-end.invariant.passed;
      cut = IsCharBoundary-before_ascii bytes (end - 1) before (space_ascii _ space);
    }

nothing_left : (bytes : List ℕ) (end : ℕ) → end ≤ 0 → trimmed_end (take end bytes) ≡ take end bytes
nothing_left bytes end none = let e : end ≡ 0 = omega arith in rw e refl

from_front : (text : List ℕ) (end : ℕ) → slice_range text 0 end ≡ take end text
from_front text end = let e : end - 0 ≡ end = omega arith in ap (λ (n : ℕ). take n text) e

pub returns : goal.returns
returns c =
    let bytes = c.as_bytes-bytes.result.now in
    let end = c.loop-end.end in
    let stays : trimmed_end (take end bytes) ≡ take end bytes = elim c.loop-end-test.branch [
      | then-loop-end-test+else-is_space w ↦
          let some : 0 < end = omega (arith, w.loop-end-test.true) in
          let other : is_space (get_or bytes (end - 1) 0) ≡ false = sym w.is_space.ensures ∙ w.if-is_space.false in
          end_stays bytes end some c.loop-end.invariant.within other
      | else-loop-end-test w ↦ nothing_left bytes end w.loop-end-test.false
    ] in
    c.range.ensures.value ∙ from_front c.args.text.now end ∙ ap (take end) (sym c.as_bytes-bytes.ensures.value) ∙ sym stays ∙ c.loop-end.invariant.passed ∙ ap trimmed_end c.as_bytes-bytes.ensures.value
