use Rattle.std.proofs.Common.{[], ◌∷◌, All, refl, sym, subst}
use Rattle.std.proofs.lemmas.List.{take_all}
use Rattle.std.proofs.lemmas.List.Elements.{All-more}
use Rattle.sa_cond.specs.declared.cond.Cond.{Cond}
use Rattle.sa_plan.specs.Lawful.{IsLawfulCond}
use Rattle.sa_plan_fixtures.proofs.Fitting.{lawful_compare, lawful_between, lawful_and, lawful_or}
use Rattle.sa_plan_fixtures.proofs.lawful.+lawful.Goals as goal

pub are_lawful_conds-loop-cond-preserved : goal.are_lawful_conds-loop-cond-preserved
are_lawful_conds-loop-cond-preserved t c =
    let P : Cond → Type 0 = IsLawfulCond c.args.only.now.tables.now (c.args.only.now.level.now ∷ []) in
    All-more P c.args.conds.now c.loop-cond.cond-index c.cond-item.result c.loop-cond-test.true c.loop-cond.invariant
    (subst P c.cond-item.is (c.if-not-is_lawful_cond.ensures refl))

pub are_lawful_conds-returns : goal.are_lawful_conds-returns
are_lawful_conds-returns t c = λ is.
    let P : Cond → Type 0 = IsLawfulCond c.args.only.now.tables.now (c.args.only.now.level.now ∷ []) in
    subst (All P) (take_all c.loop-cond.cond-index c.args.conds.now c.loop-cond-test.false) c.loop-cond.invariant

pub is_lawful_cond-returns-in-Compare : goal.is_lawful_cond-returns-in-Compare
is_lawful_cond-returns-in-Compare t c = λ is.
    let P : Cond → Type 0 = IsLawfulCond c.args.only.now.tables.now (c.args.only.now.level.now ∷ []) in
    let told = c.compare.ensures in
    subst P (sym c.in-Compare.is)
    (lawful_compare c.args.only.now.tables.now c.args.only.now.level.now c.in-Compare.op c.in-Compare.left c.in-Compare.right (told.left is) (told.right is) (told.typed is))

pub is_lawful_cond-returns-then-compare : goal.is_lawful_cond-returns-then-compare
is_lawful_cond-returns-then-compare t c = λ is.
    let P : Cond → Type 0 = IsLawfulCond c.args.only.now.tables.now (c.args.only.now.level.now ∷ []) in
    let low = c.if-compare.ensures in
    let high = c.compare-then-compare.ensures in
    subst P (sym c.in-Between.is)
    (lawful_between c.args.only.now.tables.now c.args.only.now.level.now c.in-Between.value c.in-Between.low c.in-Between.high
    (low.left refl) (low.right refl) (high.right is) (low.typed refl) (high.typed is))

pub is_lawful_cond-returns-in-And : goal.is_lawful_cond-returns-in-And
is_lawful_cond-returns-in-And t c = λ is.
    let P : Cond → Type 0 = IsLawfulCond c.args.only.now.tables.now (c.args.only.now.level.now ∷ []) in
    subst P (sym c.in-And.is)
    (lawful_and c.args.only.now.tables.now c.args.only.now.level.now c.in-And.members (subst (All P) c.as_slice.ensures (c.are_lawful_conds.ensures is)))

pub is_lawful_cond-returns-in-Or : goal.is_lawful_cond-returns-in-Or
is_lawful_cond-returns-in-Or t c = λ is.
    let P : Cond → Type 0 = IsLawfulCond c.args.only.now.tables.now (c.args.only.now.level.now ∷ []) in
    subst P (sym c.in-Or.is)
    (lawful_or c.args.only.now.tables.now c.args.only.now.level.now c.in-Or.members (subst (All P) c.as_slice-in-Or.ensures (c.are_lawful_conds-in-Or.ensures is)))
