use Rattle.std.proofs.Common.{◌≡◌, drop}
use Rattle.std.specs.List.{list_all}
use Rattle.sa_cond.specs.Interval.{expr_kind}
use Rattle.sa_cond.specs.Typed.{can_compare}
use Rattle.sa_sample.specs.Sample.{sample_kinds}
use Rattle.sa_sample.proofs.typed.all_comparable.Given as goal

abbrev pub invariant-loop-member : goal.invariant-loop-member
invariant-loop-member l =
    list_all (λ member. can_compare (expr_kind sample_kinds l.value) (expr_kind sample_kinds member))
    (drop l.member-index l.list)
    ≡ list_all (λ member. can_compare (expr_kind sample_kinds l.value) (expr_kind sample_kinds member))
    l.list
