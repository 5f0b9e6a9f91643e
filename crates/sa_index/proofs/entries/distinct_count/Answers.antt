use Rattle.std.proofs.Common.{◌≡◌, ℕ, Bool, true, false, cond, refl, drop, ap, ◌∙◌, arith}
use mir.Val.{bool_byte}
use Rattle.sa_index.specs.Entries.{is_alike}
use Rattle.sa_index.specs.inner.Built.{is_last}
use Rattle.sa_index.proofs.AlikeLemmas.{ends-drop, one_at_most}
use Rattle.sa_index.proofs.entries.distinct_count.Goals as goal

abbrev bit : Bool → ℕ
bit b = cond b 1 0

byte-bit : (b : Bool) → bool_byte b ≡ bit b
byte-bit true = refl
byte-bit false = refl

pub loop-index-preserved : goal.loop-index-preserved
loop-index-preserved c =
    let alike : ℕ → ℕ → Bool = is_alike c.args.tables.now c.args.table c.args.parts.now in
    let rest = ends-drop alike c.args.rows.now c.loop-index.index (omega arith) in
    let last : Bool = is_last alike (drop c.loop-index.index c.args.rows.now) in
    let here : c.from-count.result ≡ bit last = c.from-count.ensures ∙ ap bool_byte c.is_last_of_its_kind.ensures ∙ byte-bit last in
    record {
      few = omega (arith, one_at_most last);
      left = omega arith;
    }
