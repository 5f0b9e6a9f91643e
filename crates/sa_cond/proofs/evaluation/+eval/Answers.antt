use denote.Enum.Bare.{same_true}
use Rattle.sa_value.specs.contracts.truth.Truth.{the_type}
use Rattle.std.proofs.Common.{◌≡◌, ◌<◌, All, length, take, fold, sym, subst, ◌∙◌, rules, arith}
use Rattle.sa_value.specs.declared.truth.Truth.TheVariants.{False, True}
use Rattle.sa_value.specs.Logic.{conjunction, disjunction}
use Rattle.sa_cond.specs.declared.cond.Cond.{the_lemmas}
use Rattle.sa_cond.specs.Choice.{Choice}
use Rattle.sa_cond.specs.Cited.{Name, IsThere, CanTest, cond_names, expr_names}
use Rattle.sa_cond.specs.Condition.{holds}
use Rattle.sa_cond.specs.inner.Compared.{CanRelate}
use Rattle.sa_cond.proofs.Testing.{relates, relates_low, relates_high, is_null_names, is_null_can, not_null_names, not_null_can, value_names, member_names, member_can, value_can, and_names, and_can, or_names, or_can}
use Rattle.sa_cond.proofs.Truths.{in_terms_of, and_next, or_next, further, decided, conjunction-False, disjunction-True, all_of-map, any_of-map}
use Rattle.sa_cond.proofs.evaluation.+eval.Goals as goal

pub eval-compared-requires-clause-left_there : goal.eval-compared-requires-clause-left_there
eval-compared-requires-clause-left_there g t c =
    let there : Name → Type 0 = IsThere (g.R.Cells.has_cell c.args.rows.now) (g.R.Cells.has_slot c.args.rows.now) in
    let choice : Choice = record { cell = g.R.Cells.cell_of c.args.rows.now; slot = g.R.Cells.slot_of c.args.rows.now } in
    (relates there choice c.args.cond.now c.requires.there c.requires.typed c.in-Compare.op c.in-Compare.left c.in-Compare.right c.in-Compare.is).left_names

pub eval-compared-requires-clause-right_there : goal.eval-compared-requires-clause-right_there
eval-compared-requires-clause-right_there g t c =
    let there : Name → Type 0 = IsThere (g.R.Cells.has_cell c.args.rows.now) (g.R.Cells.has_slot c.args.rows.now) in
    let choice : Choice = record { cell = g.R.Cells.cell_of c.args.rows.now; slot = g.R.Cells.slot_of c.args.rows.now } in
    (relates there choice c.args.cond.now c.requires.there c.requires.typed c.in-Compare.op c.in-Compare.left c.in-Compare.right c.in-Compare.is).right_names

pub eval-compared-requires-clause-typed : goal.eval-compared-requires-clause-typed
eval-compared-requires-clause-typed g t c =
    let there : Name → Type 0 = IsThere (g.R.Cells.has_cell c.args.rows.now) (g.R.Cells.has_slot c.args.rows.now) in
    let choice : Choice = record { cell = g.R.Cells.cell_of c.args.rows.now; slot = g.R.Cells.slot_of c.args.rows.now } in
    (relates there choice c.args.cond.now c.requires.there c.requires.typed c.in-Compare.op c.in-Compare.left c.in-Compare.right c.in-Compare.is).can

pub eval-is_null-requires-clause-there : goal.eval-is_null-requires-clause-there
eval-is_null-requires-clause-there g t c =
    let there : Name → Type 0 = IsThere (g.R.Cells.has_cell c.args.rows.now) (g.R.Cells.has_slot c.args.rows.now) in
    let choice : Choice = record { cell = g.R.Cells.cell_of c.args.rows.now; slot = g.R.Cells.slot_of c.args.rows.now } in
    is_null_names there choice c.args.cond.now c.requires.there c.requires.typed c.in-IsNull.expr c.in-IsNull.is

pub eval-is_null-requires-clause-typed : goal.eval-is_null-requires-clause-typed
eval-is_null-requires-clause-typed g t c =
    let there : Name → Type 0 = IsThere (g.R.Cells.has_cell c.args.rows.now) (g.R.Cells.has_slot c.args.rows.now) in
    let choice : Choice = record { cell = g.R.Cells.cell_of c.args.rows.now; slot = g.R.Cells.slot_of c.args.rows.now } in
    is_null_can there choice c.args.cond.now c.requires.there c.requires.typed c.in-IsNull.expr c.in-IsNull.is

pub eval-is_null-requires-in-NotNull-clause-there : goal.eval-is_null-requires-in-NotNull-clause-there
eval-is_null-requires-in-NotNull-clause-there g t c =
    let there : Name → Type 0 = IsThere (g.R.Cells.has_cell c.args.rows.now) (g.R.Cells.has_slot c.args.rows.now) in
    let choice : Choice = record { cell = g.R.Cells.cell_of c.args.rows.now; slot = g.R.Cells.slot_of c.args.rows.now } in
    not_null_names there choice c.args.cond.now c.requires.there c.requires.typed c.in-NotNull.expr c.in-NotNull.is

pub eval-is_null-requires-in-NotNull-clause-typed : goal.eval-is_null-requires-in-NotNull-clause-typed
eval-is_null-requires-in-NotNull-clause-typed g t c =
    let there : Name → Type 0 = IsThere (g.R.Cells.has_cell c.args.rows.now) (g.R.Cells.has_slot c.args.rows.now) in
    let choice : Choice = record { cell = g.R.Cells.cell_of c.args.rows.now; slot = g.R.Cells.slot_of c.args.rows.now } in
    not_null_can there choice c.args.cond.now c.requires.there c.requires.typed c.in-NotNull.expr c.in-NotNull.is

pub eval-between-requires-clause-value_there : goal.eval-between-requires-clause-value_there
eval-between-requires-clause-value_there g t c =
    let there : Name → Type 0 = IsThere (g.R.Cells.has_cell c.args.rows.now) (g.R.Cells.has_slot c.args.rows.now) in
    let choice : Choice = record { cell = g.R.Cells.cell_of c.args.rows.now; slot = g.R.Cells.slot_of c.args.rows.now } in
    (relates_low there choice c.args.cond.now c.requires.there c.requires.typed c.in-Between.value c.in-Between.low c.in-Between.high c.in-Between.is).left_names

pub eval-between-requires-clause-low_there : goal.eval-between-requires-clause-low_there
eval-between-requires-clause-low_there g t c =
    let there : Name → Type 0 = IsThere (g.R.Cells.has_cell c.args.rows.now) (g.R.Cells.has_slot c.args.rows.now) in
    let choice : Choice = record { cell = g.R.Cells.cell_of c.args.rows.now; slot = g.R.Cells.slot_of c.args.rows.now } in
    (relates_low there choice c.args.cond.now c.requires.there c.requires.typed c.in-Between.value c.in-Between.low c.in-Between.high c.in-Between.is).right_names

pub eval-between-requires-clause-high_there : goal.eval-between-requires-clause-high_there
eval-between-requires-clause-high_there g t c =
    let there : Name → Type 0 = IsThere (g.R.Cells.has_cell c.args.rows.now) (g.R.Cells.has_slot c.args.rows.now) in
    let choice : Choice = record { cell = g.R.Cells.cell_of c.args.rows.now; slot = g.R.Cells.slot_of c.args.rows.now } in
    (relates_high there choice c.args.cond.now c.requires.there c.requires.typed c.in-Between.value c.in-Between.low c.in-Between.high c.in-Between.is).right_names

pub eval-between-requires-clause-low_typed : goal.eval-between-requires-clause-low_typed
eval-between-requires-clause-low_typed g t c =
    let there : Name → Type 0 = IsThere (g.R.Cells.has_cell c.args.rows.now) (g.R.Cells.has_slot c.args.rows.now) in
    let choice : Choice = record { cell = g.R.Cells.cell_of c.args.rows.now; slot = g.R.Cells.slot_of c.args.rows.now } in
    (relates_low there choice c.args.cond.now c.requires.there c.requires.typed c.in-Between.value c.in-Between.low c.in-Between.high c.in-Between.is).can

pub eval-between-requires-clause-high_typed : goal.eval-between-requires-clause-high_typed
eval-between-requires-clause-high_typed g t c =
    let there : Name → Type 0 = IsThere (g.R.Cells.has_cell c.args.rows.now) (g.R.Cells.has_slot c.args.rows.now) in
    let choice : Choice = record { cell = g.R.Cells.cell_of c.args.rows.now; slot = g.R.Cells.slot_of c.args.rows.now } in
    (relates_high there choice c.args.cond.now c.requires.there c.requires.typed c.in-Between.value c.in-Between.low c.in-Between.high c.in-Between.is).can

pub eval-among-requires-clause-value_there : goal.eval-among-requires-clause-value_there
eval-among-requires-clause-value_there g t c =
    let there : Name → Type 0 = IsThere (g.R.Cells.has_cell c.args.rows.now) (g.R.Cells.has_slot c.args.rows.now) in
    let choice : Choice = record { cell = g.R.Cells.cell_of c.args.rows.now; slot = g.R.Cells.slot_of c.args.rows.now } in
    value_names there choice c.args.cond.now c.requires.there c.requires.typed c.in-Among.value c.in-Among.list c.in-Among.is

pub eval-among-requires-clause-value_typed : goal.eval-among-requires-clause-value_typed
eval-among-requires-clause-value_typed g t c =
    let there : Name → Type 0 = IsThere (g.R.Cells.has_cell c.args.rows.now) (g.R.Cells.has_slot c.args.rows.now) in
    let choice : Choice = record { cell = g.R.Cells.cell_of c.args.rows.now; slot = g.R.Cells.slot_of c.args.rows.now } in
    value_can there choice c.args.cond.now c.requires.there c.requires.typed c.in-Among.value c.in-Among.list c.in-Among.is

pub eval-among-requires-clause-there : goal.eval-among-requires-clause-there
eval-among-requires-clause-there g t c =
    let there : Name → Type 0 = IsThere (g.R.Cells.has_cell c.args.rows.now) (g.R.Cells.has_slot c.args.rows.now) in
    let choice : Choice = record { cell = g.R.Cells.cell_of c.args.rows.now; slot = g.R.Cells.slot_of c.args.rows.now } in
    subst (All (λ member. All there (expr_names member))) (sym c.as_slice.ensures) (member_names there choice c.args.cond.now c.requires.there c.requires.typed c.in-Among.value c.in-Among.list c.in-Among.is)

pub eval-among-requires-clause-typed : goal.eval-among-requires-clause-typed
eval-among-requires-clause-typed g t c =
    let there : Name → Type 0 = IsThere (g.R.Cells.has_cell c.args.rows.now) (g.R.Cells.has_slot c.args.rows.now) in
    let choice : Choice = record { cell = g.R.Cells.cell_of c.args.rows.now; slot = g.R.Cells.slot_of c.args.rows.now } in
    subst (All (CanRelate choice c.in-Among.value)) (sym c.as_slice.ensures) (member_can there choice c.args.cond.now c.requires.there c.requires.typed c.in-Among.value c.in-Among.list c.in-Among.is)

pub eval-all_of-requires : goal.eval-all_of-requires
eval-all_of-requires g t c κs within =
    let there : Name → Type 0 = IsThere (g.R.Cells.has_cell c.args.rows.now) (g.R.Cells.has_slot c.args.rows.now) in
    let choice : Choice = record { cell = g.R.Cells.cell_of c.args.rows.now; slot = g.R.Cells.slot_of c.args.rows.now } in
    (search (rules, the_lemmas), (search rules, (subst (All (λ member. All there (cond_names member))) (sym c.as_slice-in-And.ensures) (and_names there choice c.args.cond.now c.requires.there c.requires.typed c.in-And.members c.in-And.is), subst (All (CanTest choice)) (sym c.as_slice-in-And.ensures) (and_can there choice c.args.cond.now c.requires.there c.requires.typed c.in-And.members c.in-And.is))))

pub eval-any_of-requires : goal.eval-any_of-requires
eval-any_of-requires g t c κs within =
    let there : Name → Type 0 = IsThere (g.R.Cells.has_cell c.args.rows.now) (g.R.Cells.has_slot c.args.rows.now) in
    let choice : Choice = record { cell = g.R.Cells.cell_of c.args.rows.now; slot = g.R.Cells.slot_of c.args.rows.now } in
    (search (rules, the_lemmas), (search rules, (subst (All (λ member. All there (cond_names member))) (sym c.as_slice-in-Or.ensures) (or_names there choice c.args.cond.now c.requires.there c.requires.typed c.in-Or.members c.in-Or.is), subst (All (CanTest choice)) (sym c.as_slice-in-Or.ensures) (or_can there choice c.args.cond.now c.requires.there c.requires.typed c.in-Or.members c.in-Or.is))))

pub all_of-returns-then-eq : goal.all_of-returns-then-eq
all_of-returns-then-eq g t c =
    let there : Name → Type 0 = IsThere (g.R.Cells.has_cell c.args.rows.now) (g.R.Cells.has_slot c.args.rows.now) in
    let choice : Choice = record { cell = g.R.Cells.cell_of c.args.rows.now; slot = g.R.Cells.slot_of c.args.rows.now } in
    let within : c.loop-member.member-index < length c.args.members.now = omega arith in
    let next : c.and-truth.result ≡ conjunction (fold (and_next (holds choice)) True (take c.loop-member.member-index c.args.members.now)) (holds choice c.member-item.result) =
    in_terms_of conjunction c.and-truth.result c.loop-member.truth c.eval.result (fold (and_next (holds choice)) True (take c.loop-member.member-index c.args.members.now)) (holds choice c.member-item.result)
    c.and-truth.ensures c.loop-member.invariant c.eval.ensures in
    let told : c.and-truth.result ≡ False = same_true the_type (search rules) _ _ (sym c.if-eq.ensures) in
    sym (all_of-map (holds choice) c.args.members.now
    ∙ decided (and_next (holds choice)) True c.args.members.now c.loop-member.member-index c.member-item.result within c.member-item.is c.and-truth.result False (λ member. conjunction-False (holds choice member)) next told)

pub all_of-loop-member-preserved : goal.all_of-loop-member-preserved
all_of-loop-member-preserved g t c =
    let there : Name → Type 0 = IsThere (g.R.Cells.has_cell c.args.rows.now) (g.R.Cells.has_slot c.args.rows.now) in
    let choice : Choice = record { cell = g.R.Cells.cell_of c.args.rows.now; slot = g.R.Cells.slot_of c.args.rows.now } in
    let within : c.loop-member.member-index < length c.args.members.now = omega arith in
    let next : c.and-truth.result ≡ conjunction (fold (and_next (holds choice)) True (take c.loop-member.member-index c.args.members.now)) (holds choice c.member-item.result) =
    in_terms_of conjunction c.and-truth.result c.loop-member.truth c.eval.result (fold (and_next (holds choice)) True (take c.loop-member.member-index c.args.members.now)) (holds choice c.member-item.result)
    c.and-truth.ensures c.loop-member.invariant c.eval.ensures in
    next ∙ sym (further (and_next (holds choice)) True c.args.members.now c.loop-member.member-index c.member-item.result within c.member-item.is)

pub any_of-returns-then-eq : goal.any_of-returns-then-eq
any_of-returns-then-eq g t c =
    let there : Name → Type 0 = IsThere (g.R.Cells.has_cell c.args.rows.now) (g.R.Cells.has_slot c.args.rows.now) in
    let choice : Choice = record { cell = g.R.Cells.cell_of c.args.rows.now; slot = g.R.Cells.slot_of c.args.rows.now } in
    let within : c.loop-member.member-index < length c.args.members.now = omega arith in
    let next : c.or-truth.result ≡ disjunction (fold (or_next (holds choice)) False (take c.loop-member.member-index c.args.members.now)) (holds choice c.member-item.result) =
    in_terms_of disjunction c.or-truth.result c.loop-member.truth c.eval.result (fold (or_next (holds choice)) False (take c.loop-member.member-index c.args.members.now)) (holds choice c.member-item.result)
    c.or-truth.ensures c.loop-member.invariant c.eval.ensures in
    let told : c.or-truth.result ≡ True = same_true the_type (search rules) _ _ (sym c.if-eq.ensures) in
    sym (any_of-map (holds choice) c.args.members.now
    ∙ decided (or_next (holds choice)) False c.args.members.now c.loop-member.member-index c.member-item.result within c.member-item.is c.or-truth.result True (λ member. disjunction-True (holds choice member)) next told)

pub any_of-loop-member-preserved : goal.any_of-loop-member-preserved
any_of-loop-member-preserved g t c =
    let there : Name → Type 0 = IsThere (g.R.Cells.has_cell c.args.rows.now) (g.R.Cells.has_slot c.args.rows.now) in
    let choice : Choice = record { cell = g.R.Cells.cell_of c.args.rows.now; slot = g.R.Cells.slot_of c.args.rows.now } in
    let within : c.loop-member.member-index < length c.args.members.now = omega arith in
    let next : c.or-truth.result ≡ disjunction (fold (or_next (holds choice)) False (take c.loop-member.member-index c.args.members.now)) (holds choice c.member-item.result) =
    in_terms_of disjunction c.or-truth.result c.loop-member.truth c.eval.result (fold (or_next (holds choice)) False (take c.loop-member.member-index c.args.members.now)) (holds choice c.member-item.result)
    c.or-truth.ensures c.loop-member.invariant c.eval.ensures in
    next ∙ sym (further (or_next (holds choice)) False c.args.members.now c.loop-member.member-index c.member-item.result within c.member-item.is)
