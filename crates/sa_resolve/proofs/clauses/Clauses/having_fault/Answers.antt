use Rattle.std.proofs.Common.{Option, option_map, refl, sym, ap, subst, ◌∙◌}
use Rattle.sa_resolve.specs.Clauses.{clauses_with}
use Rattle.sa_resolve.specs.declared.look.Looked.{Looked}
use Rattle.sa_resolve.specs.inner.Building.{slots_at}
use Rattle.sa_resolve.specs.inner.Knowing.{AreLooked, as_looked}
use Rattle.sa_resolve.specs.inner.Least.{fault_of}
use Rattle.sa_resolve.specs.inner.Looking.{loose_at}
use Rattle.sa_resolve.proofs.judging.Ones.{grouped_is, having_one, no_having_told, one_having_told, some_map}
use Rattle.sa_resolve.proofs.clauses.Clauses.having_fault.Goals as goal

pub returns-in_err-one : goal.returns-in_err-one
returns-in_err-one c = λ tables tree found sight known slots.
    ap fault_of c.from_residual.ensures
    ∙ no_having_told (clauses_with tables tree found) (as_looked c.args.self.now.having) c.args.place known.having
    (ap as_looked (sym c.in_err-one.ensures.value))

pub returns : goal.returns
returns c = λ tables tree found sight known slots.
    let clauses = clauses_with tables tree found in
    one_having_told clauses c.in_ok-one.one.now c.args.place _
    (subst (λ (having : Option Looked). AreLooked (as_looked having) clauses.having) (sym c.in_ok-one.ensures.value) known.having)
    (λ item looked. having_one item _ _ looked.gist refl clauses c.args.place _ _ _ _ _ _ c.is_none.result
    c.condition_fault.ensures
    (c.loose_fault-loose.ensures clauses item slots (ap loose_at c.deref.ensures.value ∙ looked.loose))
    (grouped_is clauses (option_map slots_at c.args.slots.now) c.is_none.result slots (some_map slots_at c.args.slots.now ∙ c.is_none.ensures))
    c.told-alone.ensures c.sooner-own.ensures c.sooner.ensures c.sooner-2.ensures)
