use Rattle.std.proofs.Common.{refl, ap, length, sym, ◌||◌, true, false, Bool, ◌≡◌, ◌∙◌}
use Rattle.std.proofs.lemmas.Bool.{lt-ltb, le-ltb}
use Rattle.std.proofs.lemmas.Str.{is_utf8-from_IsUtf8}
use Rattle.sa_value.specs.declared.value.Value.TheVariants.{Text}
use Rattle.sa_load.proofs.FieldCauses.{not_utf8, text_causes-utf8, text_causes-long, text_causes-none}
use Rattle.sa_load.proofs.field.read_text.Goals as goal
use Rattle.sa_load.proofs.field.read_text.Goals.{then-text-gt-MOST_BYTES-via-then-text-gt-MOST_BYTES, then-text-gt-MOST_BYTES-via-else-text-gt-MOST_BYTES+then-has_more}

pub returns-in_default : goal.returns-in_default
returns-in_default c =
    text_causes-utf8 c.args.column c.args.characters c.args.field.now (not_utf8 c.args.field.now c.in_default.ensures.cases.0)

or_right : (a b : Bool) → b ≡ true → (a || b) ≡ true
or_right true b e = refl
or_right false b e = e

pub returns-then-text-gt-MOST_BYTES : goal.returns-then-text-gt-MOST_BYTES
returns-then-text-gt-MOST_BYTES c =
    let utf8 = is_utf8-from_IsUtf8 c.args.field.now c.in-Ok.ensures.cases.1 in
    let same = c.in-Ok.ensures.cases.0 in
    text_causes-long c.args.column c.args.characters c.args.field.now utf8
    (elim c.then-text-gt-MOST_BYTES.branch [
      | then-text-gt-MOST_BYTES-via-then-text-gt-MOST_BYTES w ↦
          rw (lt-ltb 255 (length c.args.field.now) (rw same at w.if-text-gt-MOST_BYTES.true)) refl
      | then-text-gt-MOST_BYTES-via-else-text-gt-MOST_BYTES+then-has_more w ↦
          or_right _ _ (rw same at (sym w.has_more.ensures ∙ w.if-has_more.true))
    ])

pub returns : goal.returns
returns c =
    let utf8 = is_utf8-from_IsUtf8 c.args.field.now c.in-Ok.ensures.cases.1 in
    let same = c.in-Ok.ensures.cases.0 in
    let few = rw same at c.if-text-gt-MOST_BYTES.false in
    let short = rw same at (sym c.has_more.ensures ∙ c.if-has_more.false) in (
      text_causes-none c.args.column c.args.characters c.args.field.now utf8
          (rw (le-ltb 255 (length c.args.field.now) few) short),
      ap Text (c.in_ok-from_str.ensures ∙ same),
    )
