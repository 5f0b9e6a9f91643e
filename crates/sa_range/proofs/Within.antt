-- Which cuts lie from one cut to another, by the total order of cuts.
use Rattle.std.proofs.Common.{◌≡◌, Bool, true, false, not, ◌&&◌, ◌∙◌, ap}
use Rattle.std.specs.Cmp.{IsTotalOrder}
use Rattle.std.specs.Ordering.{is_lt}
use Rattle.sa_key.specs.declared.cut.Cut.{Cut}
use Rattle.sa_key.specs.declared.range.KeyRange.{KeyRange}
use Rattle.sa_key.specs.Range.{IsCanonicalCut, canonical_cut, is_cut_in, order_of_cuts}
use Rattle.sa_key.proofs.RangeLemmas.{lt_le, lt_less}
use Rattle.sa_interval.specs.inner.Growing.{IsUpto}

-- what comes before a cut comes before each that isn't in front of it
pub lt_up : IsTotalOrder order_of_cuts → (c x y : Cut) → IsUpto x y → is_lt (order_of_cuts c x) ≡ true → is_lt (order_of_cuts c y) ≡ true
lt_up total c x y upto before = ap is_lt (lt_le total c x y (lt_less (order_of_cuts c x) before) upto)

-- whether a cut lies from one to another
abbrev pub within : Cut → Cut → Cut → Bool
within from to cut = not (is_lt (order_of_cuts cut from)) && is_lt (order_of_cuts cut to)

pub cut_in : (range : KeyRange) (cut : Cut) → IsCanonicalCut range.from → IsCanonicalCut range.to → is_cut_in range cut ≡ within range.from range.to cut
cut_in range cut from to =
    ap (λ start. within start (canonical_cut range.to) cut) from
    ∙ ap (λ stop. within range.from stop cut) to

-- a cut before the range isn't in it
pub none_before : (from to c : Cut) → is_lt (order_of_cuts c from) ≡ true → within from to c ≡ false
none_before from to c before = ap (λ first. not first && is_lt (order_of_cuts c to)) before
