use Rattle.std.proofs.Common.{refl, ap, ◌∙◌, w64}
use Rattle.std.proofs.lemmas.Int.{to_z-of_z}
use Rattle.sa_value.specs.declared.value.Value.TheVariants.{Int}
use Rattle.sa_load.proofs.FieldCauses.{Spells, number_causes-none, number_causes-range, within-fits}
use Rattle.sa_load.proofs.field.read_number.Goals as goal

pub returns-in-Some-within : goal.returns-in-Some-within
returns-in-Some-within c =
    let parts = c.split_minus-minus.ensures in
    let found = c.in-Some.ensures in
    let spells : Spells c.args.field.now c.split_minus-minus.result.0 c.in-Some.magnitude =
    record { sign = parts.minus; number = rw parts.digits at (found.digits.0 refl); kept = rw parts.digits at found.number } in
    let fine = number_causes-none c.args.column c.args.limit _ _ c.args.field.now c.in-Some-within.number c.requires spells c.in-Some-within.ensures in
    (fine.0, ap Int (to_z-of_z w64 _ (within-fits _ _ _ _ c.requires c.in-Some-within.ensures) ∙ fine.1))

pub returns-in-None : goal.returns-in-None
returns-in-None c =
    let parts = c.split_minus-minus.ensures in
    let found = c.in-Some.ensures in
    let spells : Spells c.args.field.now c.split_minus-minus.result.0 c.in-Some.magnitude =
    record { sign = parts.minus; number = rw parts.digits at (found.digits.0 refl); kept = rw parts.digits at found.number } in
    number_causes-range c.args.column c.args.limit _ _ c.args.field.now c.requires spells c.in-None.ensures
