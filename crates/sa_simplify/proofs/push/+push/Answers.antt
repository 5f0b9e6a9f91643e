use Rattle.std.proofs.Common.{ap, ◌∙◌}
use Rattle.std.proofs.lemmas.Result.{IfOk-weaker}
use Rattle.sa_cond.specs.declared.cond.Cond.{Cond-F}
use Rattle.sa_cond.specs.declared.cond.Cond.TheVariants.{And, Or}
use Rattle.sa_simplify.specs.declared.push.Sense.TheVariants.{Plain, Denied}
use Rattle.sa_simplify.specs.Push.{pushed}
use Rattle.sa_simplify.proofs.PushLemmas.{pushed_at, members_pushed, leaf_plain, leaf_is_denied}
use Rattle.sa_simplify.proofs.push.+push.Goals as goal

pub pushed-returns-in-Plain : goal.pushed-returns-in-Plain
pushed-returns-in-Plain t c =
    pushed_at (Cond-F.And c.in-And.members) c.args.cond c.args.sense Plain _ c.in-And.is c.in-Plain.is
    (ap And (members_pushed c.in-And.members _ _ Plain c.in-Plain.is c.in_ok-members-in-And.ensures))

pub pushed-returns-in-Denied : goal.pushed-returns-in-Denied
pushed-returns-in-Denied t c =
    pushed_at (Cond-F.And c.in-And.members) c.args.cond c.args.sense Denied _ c.in-And.is c.in-Denied.is
    (ap Or (members_pushed c.in-And.members _ _ Denied c.in-Denied.is c.in_ok-members-in-And.ensures))

pub pushed-returns-in-Plain-sense : goal.pushed-returns-in-Plain-sense
pushed-returns-in-Plain-sense t c =
    pushed_at (Cond-F.Or c.in-Or.members) c.args.cond c.args.sense Plain _ c.in-Or.is c.in-Plain-sense.is
    (ap Or (members_pushed c.in-Or.members _ _ Plain c.in-Plain-sense.is c.in_ok-members-in-Or.ensures))

pub pushed-returns-in-Denied-sense : goal.pushed-returns-in-Denied-sense
pushed-returns-in-Denied-sense t c =
    pushed_at (Cond-F.Or c.in-Or.members) c.args.cond c.args.sense Denied _ c.in-Or.is c.in-Denied-sense.is
    (ap And (members_pushed c.in-Or.members _ _ Denied c.in-Denied-sense.is c.in_ok-members-in-Or.ensures))

pub pushed-returns-in-Plain-sense-2 : goal.pushed-returns-in-Plain-sense-2
pushed-returns-in-Plain-sense-2 t c =
    IfOk-weaker _ _ _ (λ done is. pushed_at (Cond-F.Not c.in-Not.inner) c.args.cond c.args.sense Plain done c.in-Not.is c.in-Plain-sense-2.is
    (is ∙ ap (λ x. pushed x Denied) c.into_inner.ensures)) c.pushed.ensures

pub pushed-returns-in-Denied-sense-2 : goal.pushed-returns-in-Denied-sense-2
pushed-returns-in-Denied-sense-2 t c =
    IfOk-weaker _ _ _ (λ done is. pushed_at (Cond-F.Not c.in-Not.inner) c.args.cond c.args.sense Denied done c.in-Not.is c.in-Denied-sense-2.is
    (is ∙ ap (λ x. pushed x Plain) c.into_inner-in-Denied-sense-2.ensures)) c.pushed-in-Denied-sense-2.ensures

pub pushed-returns-in-Plain-sense-3 : goal.pushed-returns-in-Plain-sense-3
pushed-returns-in-Plain-sense-3 t c =
    leaf_plain c.args.cond c.args.sense (record { no_and = c.in_default.not-And; no_or = c.in_default.not-Or; no_not = c.in_default.not-Not }) c.in-Plain-sense-3.is

pub pushed-returns-in-Denied-sense-3 : goal.pushed-returns-in-Denied-sense-3
pushed-returns-in-Denied-sense-3 t c =
    IfOk-weaker _ _ _ (λ done is. leaf_is_denied c.args.cond done c.args.sense
    (record { no_and = c.in_default.not-And; no_or = c.in_default.not-Or; no_not = c.in_default.not-Not }) c.in-Denied-sense-3.is
    is) c.denied.ensures
