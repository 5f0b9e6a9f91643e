-- What is told of ON and WHERE: the literals first.
use Rattle.std.proofs.Common.{◌≡◌, ℕ, ◌≤◌, ◌++◌, length, take, Option, sym, ap, ◌∙◌}
use Rattle.std.proofs.lemmas.List.{take_all}
use Rattle.std.specs.List.{flat_map}
use Rattle.sa_query.specs.declared.refusal.ResolveKind.TheVariants.{TooManyConstants}
use Rattle.sa_resolve.specs.Clauses.{Clauses}
use Rattle.sa_resolve.specs.Fault.{Fault, least}
use Rattle.sa_resolve.specs.Faults.{constant_faults, filter_faults, too_many}
use Rattle.sa_resolve.specs.Reading.{Reading}
use Rattle.sa_resolve.specs.inner.Knowing.{filters_faults}
use Rattle.sa_resolve.specs.inner.Least.{sooner}
use Rattle.sa_resolve.proofs.LeastLemmas.{least-append}
use Rattle.sa_resolve.proofs.judging.Sooner.{sooner-comm}

pub filters_told : (clauses : Clauses) (n : ℕ) (fault : Option Fault) → length (clauses.on ++ clauses.filter) ≤ n
    → fault ≡ sooner (least (too_many TooManyConstants 1024 (flat_map (λ (one : Reading). one.literals) (clauses.on ++ clauses.filter))))
    (least (flat_map filter_faults (take n (clauses.on ++ clauses.filter))))
    → fault ≡ least (filters_faults clauses)
filters_told clauses n fault all is =
    is
    ∙ ap (λ ones. sooner (least (constant_faults clauses)) (least (flat_map filter_faults ones))) (take_all n (clauses.on ++ clauses.filter) all)
    ∙ sooner-comm (least (constant_faults clauses)) (least (flat_map filter_faults (clauses.on ++ clauses.filter)))
    ∙ sym (least-append (flat_map filter_faults (clauses.on ++ clauses.filter)) (constant_faults clauses))
