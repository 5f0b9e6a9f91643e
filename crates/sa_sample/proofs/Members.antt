-- An AND or an OR is well-typed where its members are.
use Rattle.std.proofs.Common.{◌≡◌, List, ap, sym, ◌∙◌}
use Rattle.std.specs.List.{list_all}
use Rattle.std.proofs.lemmas.List.Folds.{list_all-map}
use Rattle.sa_cond.specs.declared.cond.Cond.{Cond}
use Rattle.sa_cond.specs.declared.cond.Cond.TheVariants as node
use Rattle.sa_cond.specs.Typed.{is_well_typed}
use Rattle.sa_cond.proofs.CondForms.{typed-And, typed-Or}
use Rattle.sa_sample.specs.Sample.{sample_kinds}

pub all_of_and : (cond : Cond) (members : List Cond) → cond ≡ node.And members
    → list_all (is_well_typed sample_kinds) members ≡ is_well_typed sample_kinds cond
all_of_and cond members is =
    sym (ap (is_well_typed sample_kinds) is ∙ typed-And sample_kinds members
    ∙ list_all-map (λ typed. typed) (is_well_typed sample_kinds) members)

pub all_of_or : (cond : Cond) (members : List Cond) → cond ≡ node.Or members
    → list_all (is_well_typed sample_kinds) members ≡ is_well_typed sample_kinds cond
all_of_or cond members is =
    sym (ap (is_well_typed sample_kinds) is ∙ typed-Or sample_kinds members
    ∙ list_all-map (λ typed. typed) (is_well_typed sample_kinds) members)
