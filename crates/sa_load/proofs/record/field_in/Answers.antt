use Rattle.std.proofs.Common.{◌∙◌}
use Rattle.csv.specs.Records.{fields_of}
use Rattle.sa_load.proofs.RecordCauses.{slice_get-field_at, some_there, some_same}
use Rattle.sa_load.proofs.record.field_in.Goals as goal

pub unwrap-requires : goal.unwrap-requires
unwrap-requires c =
    some_there _ (fields_of c.args.record.now) c.args.index c.requires
    (c.get.ensures.value ∙ slice_get-field_at (fields_of c.args.record.now) c.args.index)

pub returns : goal.returns
returns c =
    some_same _ _ _ c.unwrap.ensures (c.get.ensures.value ∙ slice_get-field_at (fields_of c.args.record.now) c.args.index)
