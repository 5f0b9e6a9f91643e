-- A range behind others.
use Rattle.std.specs.Prelude.{List, [], ◌∷◌}
use Rattle.sa_key.specs.declared.range.KeyRange.{KeyRange}
use Rattle.sa_range.specs.RangeList.{joined}

-- the ranges with one more at the end, which is united with the last one where they touch
abbrev pub put_last : List KeyRange → KeyRange → List KeyRange
put_last [] range = range ∷ []
put_last (last ∷ []) range = joined last (range ∷ [])
put_last (first ∷ next ∷ others) range = first ∷ put_last (next ∷ others) range
