use Rattle.std.proofs.Common.{refl, sym}
use Rattle.sa_load.proofs.FieldCauses.{field_causes-null, field_causes-int, field_causes-bigint, field_value-null, field_value-int, field_value-bigint}
use Rattle.sa_load.proofs.field.read_field.Goals as goal

pub returns-then-def : goal.returns-then-def
returns-then-def c =
    let null = sym c.if-is_null.ensures in
    rw (field_causes-null c.args.column c.args.def.now c.args.field.now null, c.if-def.true) refl

pub returns-then-is_null : goal.returns-then-is_null
returns-then-is_null c =
    let null = sym c.if-is_null.ensures in (
      rw (field_causes-null c.args.column c.args.def.now c.args.field.now null, c.if-def.false) refl,
      sym (field_value-null c.args.def.now.kind c.args.field.now null),
    )

pub returns-in-Int : goal.returns-in-Int
returns-in-Int c =
    let other = sym c.if-is_null.ensures in
    rw (field_causes-int c.args.column c.args.def.now c.args.field.now c.in-Int.is other, c.in-Int.is, field_value-int c.args.field.now other)
    c.read_number.ensures

pub returns-in-BigInt : goal.returns-in-BigInt
returns-in-BigInt c =
    let other = sym c.if-is_null.ensures in
    rw (field_causes-bigint c.args.column c.args.def.now c.args.field.now c.in-BigInt.is other, c.in-BigInt.is, field_value-bigint c.args.field.now other)
    c.read_number-in-BigInt.ensures
