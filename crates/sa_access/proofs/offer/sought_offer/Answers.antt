use Rattle.std.proofs.Common.{◌≡◌, List, ℕ, length, sym, ap, ◌∙◌}
use Rattle.std.specs.List.{list_all}
use Rattle.sa_table.specs.declared.def.KeyDef.{KeyDef}
use Rattle.sa_access.specs.Asked.{Asked}
use Rattle.sa_access.specs.Offered.{key_at}
use Rattle.sa_access.specs.Sought.{is_literal, sought_of, sought_parts}
use Rattle.sa_access.specs.inner.Asking.{asked_at}
use Rattle.sa_access.proofs.OfferLemmas.{not_empty, row_offered}
use Rattle.sa_access.proofs.offer.sought_offer.Goals as goal

pub returns-then-finds_one : goal.returns-then-finds_one
returns-then-finds_one g c =
    let asked : Asked = asked_at c.args.asking.now in
    let parts_are : c.as_slice.result.now ≡ (key_at asked c.args.key).parts = c.as_slice.ensures ∙ ap (λ (key : KeyDef). key.parts) c.key_at.ensures.value in
    let count_is : c.tallied-tally.result.count ≡ length (sought_of asked c.args.key) =
    c.tallied-tally.ensures.tally.count ∙ ap (λ (parts : List ℕ). length (sought_parts asked parts)) parts_are in
    let literal_is : c.tallied-tally.result.literal ≡ list_all is_literal (sought_of asked c.args.key) =
    c.tallied-tally.ensures.tally.literal ∙ ap (λ (parts : List ℕ). list_all is_literal (sought_parts asked parts)) parts_are in (
      not_empty (sought_of asked c.args.key) c.tallied-tally.result.count count_is c.if-tally-eq0.false,
      c.row_offer.ensures ∙ row_offered asked c.args.key c.tallied-tally.result.literal literal_is (sym c.if-finds_one.true ∙ c.finds_one.ensures),
    )
