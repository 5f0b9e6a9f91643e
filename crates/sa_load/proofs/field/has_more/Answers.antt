use Rattle.std.proofs.Common.{rules}
use Rattle.std.proofs.lemmas.Str.{chars_from_encodes}
use Rattle.std.proofs.lemmas.Bool.{le-ltb}
use Rattle.sa_load.proofs.FieldCauses.{few_chars}
use Rattle.sa_load.proofs.field.has_more.Goals as goal

pub returns-then-text-characters : goal.returns-then-text-characters
returns-then-text-characters c = search (rules, chars_from_encodes)

pub returns-else-text-characters : goal.returns-else-text-characters
returns-else-text-characters c =
    let few = few_chars c.args.text.now c.args.characters c.utf8.text c.if-text-characters.false in
    rw few (le-ltb _ _ c.if-text-characters.false)
