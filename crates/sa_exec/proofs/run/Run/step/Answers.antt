use Rattle.std.proofs.Common.{◌≡◌, ◌+◌, ◌<◌, Err, length, sym, ap, subst, arith}
use Rattle.sa_meaning.specs.Items.{items}
use Rattle.sa_meaning.specs.Progress.{Progress}
use Rattle.sa_exec.specs.declared.step.StepFault.TheVariants.{TooManyRows, OutOfMemory}
use Rattle.sa_exec.specs.Step.{IsTooMany, MayLackMemory}
use Rattle.sa_exec.specs.inner.Place.{IsFull}
use Rattle.sa_exec.proofs.IsAtLemmas.{done-iff}
use Rattle.sa_exec.proofs.SoundLemmas.{IsReady-from, IsSound-next, IsTooMany-iff, MayLackMemory-from}
use Rattle.sa_exec.proofs.run.Run.step.Goals as goal

abbrev IsUnfinished : Progress → Type 0
IsUnfinished run = run.steps < length (items run.plan run.data_read)

abbrev IsWaiting : Progress → Type 0
IsWaiting run = run.since_looked < run.quantum

pub make_item-requires : goal.make_item-requires
make_item-requires c =
    let unfinished = subst IsUnfinished (sym c.self.view_is) c.requires.unfinished in
    rw (c.tables.ensures, c.plan.ensures) (IsReady-from c.self.inside c.self.invariant unfinished)

pub invariant_of-self-in-Ok : goal.invariant_of-self-in-Ok
invariant_of-self-in-Ok c =
    let run = c.self.inside in
    let unfinished = subst IsUnfinished (sym c.self.view_is) c.requires.unfinished in
    let looked = subst IsWaiting (sym c.self.view_is) c.requires.looked in
    let not_full : IsFull run.level.place run.rows → ⊥ = λ full. let is = c.in-Ok.ensures.too_many.1 full in cc in
    IsSound-next run c.self.invariant unfinished c.if-self.false looked not_full c.make_item.new.state c.make_item.new.rows
    (rw (c.tables.ensures, c.plan.ensures) at c.in-Ok.ensures.ok)
    (rw (c.tables.ensures, c.plan.ensures) at c.in-Ok.ensures.rows)

pub returns-in-Ok-clause-last : goal.returns-in-Ok-clause-last
returns-in-Ok-clause-last c =
    let sound = invariant_of-self-in-Ok c in
    let done = done-iff c.self.inside.tables c.self.inside.plan (c.self.inside.steps + 1) c.make_item.new.state c.make_item.new.rows sound.at in
    (λ is. done.0 (c.is_done.ensures.0 (c.step_of.ensures.finished.0 is)), λ finished. c.step_of.ensures.finished.1 (c.is_done.ensures.1 (done.1 finished)))

pub returns-in-Ok-clause-more : goal.returns-in-Ok-clause-more
returns-in-Ok-clause-more c =
    let sound = invariant_of-self-in-Ok c in
    let done = done-iff c.self.inside.tables c.self.inside.plan (c.self.inside.steps + 1) c.make_item.new.state c.make_item.new.rows sound.at in (
      λ is.
          let unmade : (c.self.inside.steps + 1 ≡ length (items c.self.inside.plan c.self.inside.tables)) → ⊥ =
          λ finished. c.step_of.ensures.more.0 is (c.is_done.ensures.1 (done.1 finished)) in
          omega (arith, unmade, sound.at.within),
      λ unfinished. c.step_of.ensures.more.1 (λ is_done. let finished = done.0 (c.is_done.ensures.0 is_done) in omega arith),
    )

pub returns-in-Ok-clause-too_many : goal.returns-in-Ok-clause-too_many
returns-in-Ok-clause-too_many c =
    let unfinished = subst IsUnfinished (sym c.self.view_is) c.requires.unfinished in
    let iff = IsTooMany-iff c.self.inside c.self.invariant unfinished c.if-self.false in
    (λ is. cc, λ too_many. let is = c.in-Ok.ensures.too_many.1 (iff.1 (subst IsTooMany (sym c.self.view_is) too_many)) in cc)

pub returns-in-Err-clause-too_many : goal.returns-in-Err-clause-too_many
returns-in-Err-clause-too_many c =
    let unfinished = subst IsUnfinished (sym c.self.view_is) c.requires.unfinished in
    let iff = IsTooMany-iff c.self.inside c.self.invariant unfinished c.if-self.false in (
      λ is.
          let same : c.in-Err.fault ≡ TooManyRows = cc in
          subst IsTooMany c.self.view_is (iff.0 (c.in-Err.ensures.too_many.0 (ap Err same))),
      λ too_many.
          let is = c.in-Err.ensures.too_many.1 (iff.1 (subst IsTooMany (sym c.self.view_is) too_many)) in
          let same : c.in-Err.fault ≡ TooManyRows = cc in
          ap Err same,
    )

pub returns-in-Err-clause-memory : goal.returns-in-Err-clause-memory
returns-in-Err-clause-memory c = λ is.
    let run = c.self.inside in
    let unfinished = subst IsUnfinished (sym c.self.view_is) c.requires.unfinished in
    let same : c.in-Err.fault ≡ OutOfMemory = cc in
    let emit = c.in-Err.ensures.memory (ap Err same) in
    let not_full : IsFull run.level.place run.rows → ⊥ = λ full. let other = c.in-Err.ensures.too_many.1 full in cc in
    subst MayLackMemory c.self.view_is (MayLackMemory-from run c.self.invariant unfinished c.if-self.false emit not_full)
