use Rattle.std.proofs.Common.{ap, ◌∙◌}
use Rattle.std.specs.List.{list_all}
use Rattle.sa_cond.specs.Typed.{is_well_typed}
use Rattle.sa_sample.specs.Sample.{sample_kinds}
use Rattle.sa_sample.proofs.Members.{all_of_and, all_of_or}
use Rattle.sa_sample.proofs.typed.+typed.Goals as goal

pub is_typed-returns-in-And : goal.is_typed-returns-in-And
is_typed-returns-in-And t c =
    c.all_typed.ensures ∙ ap (list_all (is_well_typed sample_kinds)) c.as_slice-in-And.ensures
    ∙ all_of_and c.args.cond.now c.in-And.members c.in-And.is

pub is_typed-returns-in-Or : goal.is_typed-returns-in-Or
is_typed-returns-in-Or t c =
    c.all_typed-in-Or.ensures ∙ ap (list_all (is_well_typed sample_kinds)) c.as_slice-in-Or.ensures
    ∙ all_of_or c.args.cond.now c.in-Or.members c.in-Or.is
