use Rattle.std.proofs.Common.{ℕ, ◌≤◌, List, length, get_or, sym, subst, ap, ◌∙◌, arith}
use Rattle.sa_index.specs.Indexed.{Indexed, key_parts}
use Rattle.sa_index.specs.Entries.{distinct_prefixes}
use Rattle.sa_index.proofs.BuiltLemmas.{length-counts, count_at}
use Rattle.sa_index.proofs.list_index.ListIndexIndex.distinct.Goals as goal

pub bounds-as_slice-parts : goal.bounds-as_slice-parts
bounds-as_slice-parts c =
    let fits = subst (λ (index : Indexed). c.args.parts ≤ length (key_parts index)) (sym c.self.view_is) c.requires.fits in
    let long = ap length c.as_slice.ensures.value ∙ length-counts _ _ _ _ c.self.invariant in
    omega arith

pub returns : goal.returns
returns c =
    let fits = subst (λ (index : Indexed). c.args.parts ≤ length (key_parts index)) (sym c.self.view_is) c.requires.fits in
    ap (λ (counts : List ℕ). get_or counts c.args.parts 0) c.as_slice.ensures.value
    ∙ count_at _ _ _ _ c.self.invariant c.args.parts 0 fits
    ∙ ap (λ (index : Indexed). distinct_prefixes index c.args.parts) c.self.view_is
