-- A canonical list that grows by one range after another, as they begin.
use Rattle.std.specs.Prelude.{◌≡◌, Bool, true, false, ◌||◌, cond, List, [], ◌∷◌, All}
use Rattle.std.specs.Ordering.{is_gt, is_le, is_lt}
use Rattle.sa_key.specs.declared.cut.Cut.{Cut}
use Rattle.sa_key.specs.declared.range.KeyRange.{KeyRange}
use Rattle.sa_key.specs.Range.{IsCanonicalCut, is_cut_in, order_of_cuts}
use Rattle.sa_interval.specs.Canonical.{AreCanonical, lies_in}

-- The cut doesn't come behind the other.
abbrev pub IsUpto : Cut → Cut → Type 0
IsUpto cut other = is_gt (order_of_cuts cut other) ≡ false

-- No range begins behind the cut.
abbrev pub BeginBy : Cut → List KeyRange → Type 0
BeginBy cut ranges = All (λ range. IsUpto range.from cut) ranges

-- The list is canonical, and has in it what the old one has and what the range has.
pub record IsWith (old : List KeyRange) (range : KeyRange) (new : List KeyRange) : Type 0 where
  pub canonical : AreCanonical new
  pub exact : (cut : Cut) → IsCanonicalCut cut →
      lies_in new cut ≡ (lies_in old cut || is_cut_in range cut)
  pub begin : BeginBy range.from new

-- the later of two cuts
abbrev pub later : Cut → Cut → Cut
later a b = cond (is_lt (order_of_cuts a b)) b a

-- the earlier of two cuts
abbrev pub earlier : Cut → Cut → Cut
earlier a b = cond (is_lt (order_of_cuts b a)) b a

-- from the start of the first range to the later of their ends
abbrev pub united : KeyRange → KeyRange → KeyRange
united first second = record { from = first.from; to = later first.to second.to }

-- what lies in both ranges
abbrev pub common : KeyRange → KeyRange → KeyRange
common a b = record { from = later a.from b.from; to = earlier a.to b.to }

-- whether a list has a range, and the other begins with none that begins before it
abbrev pub is_first : List KeyRange → List KeyRange → Bool
is_first [] others = false
is_first (range ∷ ranges) [] = true
is_first (range ∷ ranges) (other ∷ others) = is_le (order_of_cuts range.from other.from)
