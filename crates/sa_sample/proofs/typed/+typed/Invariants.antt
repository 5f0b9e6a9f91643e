use Rattle.std.proofs.Common.{◌≡◌, drop}
use Rattle.std.specs.List.{list_all}
use Rattle.sa_cond.specs.Typed.{is_well_typed}
use Rattle.sa_sample.specs.Sample.{sample_kinds}
use Rattle.sa_sample.proofs.typed.+typed.Given as goal

abbrev pub invariant-all_typed-loop-member : goal.invariant-all_typed-loop-member
invariant-all_typed-loop-member l =
    list_all (is_well_typed sample_kinds) (drop l.member-index l.members)
    ≡ list_all (is_well_typed sample_kinds) l.members
