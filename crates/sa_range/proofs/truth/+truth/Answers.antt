use denote.Enum.Bare.{same_true}
use Rattle.sa_value.specs.contracts.truth.Truth.{the_type}
use Rattle.std.proofs.Common.{◌≡◌, ◌<◌, length, take, fold, sym, ◌∙◌, rules, arith}
use Rattle.sa_value.specs.declared.truth.Truth.{Truth}
use Rattle.sa_value.specs.declared.truth.Truth.TheVariants.{False, True}
use Rattle.sa_value.specs.Logic.{conjunction, disjunction}
use Rattle.sa_cond.specs.declared.cond.Cond.{Cond}
use Rattle.sa_cond.proofs.Truths.{in_terms_of, and_next, or_next, decided, conjunction-False, disjunction-True, all_of-map, any_of-map}
use Rattle.sa_range.specs.Atom.{truth_on}
use Rattle.sa_range.specs.inner.Placed.{chosen_at}
use Rattle.sa_range.proofs.truth.+truth.Goals as goal

pub all_of-returns-then-eq : goal.all_of-returns-then-eq
all_of-returns-then-eq t c =
    let test : Cond → Truth = truth_on c.args.table (chosen_at c.args.chosen.now) in
    let within : c.loop-member.member-index < length c.args.members.now = omega arith in
    let next : c.and-truth.result ≡ conjunction (fold (and_next test) True (take c.loop-member.member-index c.args.members.now)) (test c.member-item.result) =
    in_terms_of conjunction c.and-truth.result c.loop-member.truth c.truth_on.result (fold (and_next test) True (take c.loop-member.member-index c.args.members.now)) (test c.member-item.result)
    c.and-truth.ensures c.loop-member.invariant c.truth_on.ensures in
    let told : c.and-truth.result ≡ False = same_true the_type (search rules) _ _ (sym c.if-eq.ensures) in
    sym (all_of-map test c.args.members.now
    ∙ decided (and_next test) True c.args.members.now c.loop-member.member-index c.member-item.result within c.member-item.is c.and-truth.result False (λ member. conjunction-False (test member)) next told)

pub any_of-returns-then-eq : goal.any_of-returns-then-eq
any_of-returns-then-eq t c =
    let test : Cond → Truth = truth_on c.args.table (chosen_at c.args.chosen.now) in
    let within : c.loop-member.member-index < length c.args.members.now = omega arith in
    let next : c.or-truth.result ≡ disjunction (fold (or_next test) False (take c.loop-member.member-index c.args.members.now)) (test c.member-item.result) =
    in_terms_of disjunction c.or-truth.result c.loop-member.truth c.truth_on.result (fold (or_next test) False (take c.loop-member.member-index c.args.members.now)) (test c.member-item.result)
    c.or-truth.ensures c.loop-member.invariant c.truth_on.ensures in
    let told : c.or-truth.result ≡ True = same_true the_type (search rules) _ _ (sym c.if-eq.ensures) in
    sym (any_of-map test c.args.members.now
    ∙ decided (or_next test) False c.args.members.now c.loop-member.member-index c.member-item.result within c.member-item.is c.or-truth.result True (λ member. disjunction-True (test member)) next told)
