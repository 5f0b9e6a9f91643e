-- The laws of the list of ranges: it is canonical, and covers each row once.
use Rattle.std.proofs.Common.{◌≡◌, ℕ, ◌+◌, ◌≤◌, suc, Bool, true, false, not, ◌&&◌, ◌||◌, cond, List, [], ◌∷◌, ◌++◌, length, take, drop, map, flat_map, All, Some, None, refl, sym, ap, ap₂, ◌∙◌, subst, arith, length-append}
use Rattle.std.specs.List.{filter}
use Rattle.std.specs.Ordering.{is_eq, is_lt}
use Rattle.std.proofs.lemmas.List.{length-map, map-append, take-append-drop}
use Rattle.std.proofs.lemmas.List.Elements.{All-nil, All-cons, All-append, All-map, All-weaker, All-head, All-tail}
use Rattle.sa_value.specs.declared.truth.Truth.TheVariants.{True}
use Rattle.sa_value.specs.declared.value.Value.{Value}
use Rattle.sa_key.specs.declared.cut.Cut.{Cut}
use Rattle.sa_key.specs.declared.range.KeyRange.{KeyRange}
use Rattle.sa_key.specs.Range.{canonical_cut, canonical_range, is_cut_in, is_tuple_in, order_of_cuts}
use Rattle.sa_key.proofs.RangeLemmas.{below, canonical_cut-again, canonical_cut-length, order_of_cuts-total, tuple_as_cut}
use Rattle.sa_interval.specs.declared.list.RangeList.{RangeList}
use Rattle.sa_interval.specs.Canonical.{AreCanonical, lies_in}
use Rattle.sa_cond.specs.declared.cond.Cond.{Cond}
use Rattle.sa_cond.specs.Choice.{Choice}
use Rattle.sa_cond.specs.Condition.{holds}
use Rattle.sa_range.specs.declared.line.Piece.{Piece}
use Rattle.sa_range.specs.declared.line.Piece.TheVariants.{Point, Gap}
use Rattle.sa_range.specs.RangeList.{continued, joined, kept_pieces, parts_of, range_list, range_of, sequences, united}
use Rattle.sa_range.proofs.Agreeing.{Fits}
use Rattle.sa_range.proofs.Rising.{IsTotal, Rising, bottom, rising, top}
use Rattle.sa_range.proofs.Covering.{covered, covers}
use Rattle.sa_range.proofs.Once.{once, starts_canonical, united_lies, united_starts}

-- Sequences aren't longer than the parts, and so their ranges aren't.

short_piece : (n : ℕ) (follow : Value → List (List Piece)) → ((value : Value) → All (λ walk. length walk ≤ n) (follow value)) → (piece : Piece) → All (λ walk. length walk ≤ suc n) (continued follow piece)
short_piece n follow each (Point value) =
    All-map (λ (walk : List Piece). length walk ≤ suc n) (λ (others : List Piece). Point value ∷ others) (follow value)
    (All-weaker (λ (walk : List Piece). length walk ≤ n) (λ (walk : List Piece). suc (length walk) ≤ suc n) (λ walk fits. omega arith) (follow value) (each value))
short_piece n follow each (Gap lower upper) = All-cons (λ (walk : List Piece). length walk ≤ suc n) (Gap lower upper ∷ []) [] (omega arith) (All-nil (λ (walk : List Piece). length walk ≤ suc n))

short_pieces : (n : ℕ) (follow : Value → List (List Piece)) → ((value : Value) → All (λ walk. length walk ≤ n) (follow value)) → (pieces : List Piece) → All (λ walk. length walk ≤ suc n) (flat_map (continued follow) pieces)
short_pieces n follow each [] = All-nil (λ (walk : List Piece). length walk ≤ suc n)
short_pieces n follow each (piece ∷ pieces) =
    All-append (λ (walk : List Piece). length walk ≤ suc n) (continued follow piece) (flat_map (continued follow) pieces) (short_piece n follow each piece) (short_pieces n follow each pieces)

pub sequences_short : (condition : Cond) (table : ℕ) (chosen : List (ℕ × Piece)) (columns : List ℕ) → All (λ walk. length walk ≤ length columns) (sequences condition table chosen columns)
sequences_short condition table chosen [] = All-cons (λ (walk : List Piece). length walk ≤ 0) [] [] (omega arith) (All-nil (λ (walk : List Piece). length walk ≤ 0))
sequences_short condition table chosen (column ∷ columns) =
    short_pieces (length columns) (λ value. sequences condition table (chosen ++ (column, Point value) ∷ []) columns)
    (λ value. sequences_short condition table (chosen ++ (column, Point value) ∷ []) columns) (kept_pieces condition table chosen column)

abbrev Short : ℕ → KeyRange → Type 0
Short n range = (length range.from.tuple ≤ n) × (length range.to.tuple ≤ n)

range_short : (n : ℕ) (points : List Value) (walk : List Piece) → length points + length walk ≤ n → Short n (range_of points walk)
range_short n points [] fits = (omega arith, omega arith)
range_short n points (Point value ∷ walk) fits = range_short n (points ++ value ∷ []) walk (omega (arith, length-append points (value ∷ [])))
range_short n points (Gap lower None ∷ walk) fits = (omega (arith, length-append points (lower ∷ [])), omega arith)
range_short n points (Gap lower (Some upper) ∷ walk) fits = (omega (arith, length-append points (lower ∷ [])), omega (arith, length-append points (upper ∷ [])))

form_short : (n : ℕ) (range : KeyRange) → Short n range → Short n (canonical_range range)
form_short n range short =
    let from = canonical_cut-length range.from in
    let to = canonical_cut-length range.to in
    (omega (arith, from, short.0), omega (arith, to, short.1))

joined_short : (n : ℕ) (range : KeyRange) (ranges : List KeyRange) → Short n range → All (Short n) ranges → All (Short n) (joined range ranges)
joined_short n range [] short all = All-cons (Short n) range [] short (All-nil (Short n))
joined_short n range (next ∷ others) short all = at_end (is_eq (order_of_cuts range.to next.from))
  where
    at_end : (touch : Bool) → All (Short n) (cond touch (record { from = range.from; to = next.to } ∷ others) (range ∷ next ∷ others))
    at_end true = All-cons (Short n) (record { from = range.from; to = next.to }) others (short.0, (All-head (Short n) next others all).1) (All-tail (Short n) next others all)
    at_end false = All-cons (Short n) range (next ∷ others) short all

united_short : (n : ℕ) (ranges : List KeyRange) → All (Short n) ranges → All (Short n) (united ranges)
united_short n [] all = All-nil (Short n)
united_short n (range ∷ ranges) all = joined_short n range (united ranges) (All-head (Short n) range ranges all) (united_short n ranges (All-tail (Short n) range ranges all))

-- where no piece is chosen, all is as it should be
nothing_chosen : (choice : Choice) (condition : Cond) (table : ℕ) → Fits choice table [] condition
nothing_chosen choice condition table column piece at = cc

-- A tuple, and the cut below it.
module _ (tuple : List Value) where
  abbrev its_cut : Cut
  its_cut = canonical_cut (below tuple)

  filter_same : (ranges : List KeyRange) → All (Short (length tuple)) ranges → filter (λ range. is_tuple_in range tuple) ranges ≡ filter (λ range. is_cut_in range its_cut) ranges
  filter_same [] all = refl
  filter_same (range ∷ ranges) all =
      let short = All-head (Short (length tuple)) range ranges all in
      ap₂ (λ (test : Bool) (rest : List KeyRange). cond test (range ∷ rest) rest) (sym (tuple_as_cut tuple range short.0 short.1)) (filter_same ranges (All-tail (Short (length tuple)) range ranges all))

  form_lies : (range : KeyRange) → is_cut_in (canonical_range range) its_cut ≡ is_cut_in range its_cut
  form_lies range =
      ap₂ (λ (from to : Cut). not (is_lt (order_of_cuts its_cut from)) && is_lt (order_of_cuts its_cut to)) (canonical_cut-again range.from) (canonical_cut-again range.to)

  covered_lies : (ranges : List KeyRange) → All (Short (length tuple)) ranges → lies_in (map canonical_range ranges) its_cut ≡ covered tuple ranges
  covered_lies [] all = refl
  covered_lies (range ∷ ranges) all =
      let short = All-head (Short (length tuple)) range ranges all in
      ap₂ (λ (first rest : Bool). first || rest) (form_lies range ∙ tuple_as_cut tuple range short.0 short.1) (covered_lies ranges (All-tail (Short (length tuple)) range ranges all))

map-map : (walks : List (List Piece)) → map (λ walk. canonical_range (range_of [] walk)) walks ≡ map canonical_range (map (range_of []) walks)
map-map [] = refl
map-map (walk ∷ walks) = ap (λ rest. canonical_range (range_of [] walk) ∷ rest) (map-map walks)

-- sequences over a key of four parts or fewer
pub sequences_four : (condition : Cond) (table count : ℕ) (columns : List ℕ) → length columns ≤ 4 → All (λ walk. length walk ≤ 4) (sequences condition table [] (take count columns))
sequences_four condition table count columns few =
    All-weaker (λ (walk : List Piece). length walk ≤ length (take count columns)) (λ (walk : List Piece). length walk ≤ 4)
    (λ walk fits. omega (arith, ap length (take-append-drop count columns), length-append (take count columns) (drop count columns)))
    (sequences condition table [] (take count columns)) (sequences_short condition table [] (take count columns))

abbrev made : ℕ → List KeyRange → RangeList
made count ranges = record { parts = count; ranges = ranges }

-- what was found is the list
pub made_list : (condition : Cond) (table : ℕ) (columns : List ℕ) (count : ℕ) (walks : List (List Piece)) (ranges : List KeyRange) → count ≡ parts_of condition table columns → walks ≡ sequences condition table [] (take (parts_of condition table columns) columns)
    → ranges ≡ united (map (λ walk. canonical_range (range_of [] walk)) walks) → made count ranges ≡ range_list condition table columns
unfolding range_list
made_list condition table columns count walks ranges counted found is =
    ap₂ made counted (is ∙ ap (λ all. united (map (λ walk. canonical_range (range_of [] walk)) all)) found)

module _ (total : IsTotal) (condition : Cond) (table : ℕ) (columns : List ℕ) where
  abbrev parts : List ℕ
  parts = take (parts_of condition table columns) columns

  abbrev spans : List KeyRange
  spans = map (range_of []) (sequences condition table [] parts)

  listed : (range_list condition table columns).ranges ≡ united (map canonical_range spans)
  unfolding range_list
  listed = ap united (map-map (sequences condition table [] parts))

  pub list_canonical : AreCanonical (range_list condition table columns).ranges
  list_canonical =
      subst AreCanonical (sym listed)
      (starts_canonical (order_of_cuts-total total) (canonical_cut bottom) (united (map canonical_range spans))
      (united_starts (order_of_cuts-total total) bottom spans top (rising total condition table [] parts)))

  pub exactly_one : (choice : Choice) → holds choice condition ≡ True
      → length (filter (λ range. is_tuple_in range (map (choice.cell table) columns)) (range_list condition table columns).ranges) ≡ 1
  exactly_one choice told =
      ap (λ ranges. length (filter (λ range. is_tuple_in range tuple) ranges)) listed
      ∙ ap length (filter_same tuple (united (map canonical_range spans)) (united_short (length tuple) (map canonical_range spans) forms_short))
      ∙ once (order_of_cuts-total total) (its_cut tuple) (canonical_cut bottom) (united (map canonical_range spans))
      (united_starts (order_of_cuts-total total) bottom spans top rises)
      (united_lies (order_of_cuts-total total) (its_cut tuple) bottom spans top rises (covered_lies tuple spans spans_short ∙ found))
    where
      tuple : List Value
      tuple = map (choice.cell table) columns

      rises : Rising bottom spans top
      rises = rising total condition table [] parts

      fewer : length parts ≤ length tuple
      fewer = omega (arith, length-map columns (choice.cell table), ap length (take-append-drop (parts_of condition table columns) columns), length-append parts (drop (parts_of condition table columns) columns))

      spans_short : All (Short (length tuple)) spans
      spans_short =
          All-map (Short (length tuple)) (range_of []) (sequences condition table [] parts)
          (All-weaker (λ (walk : List Piece). length walk ≤ length parts) (λ (walk : List Piece). Short (length tuple) (range_of [] walk))
          (λ walk fits. range_short (length tuple) [] walk (omega (arith, fewer))) (sequences condition table [] parts) (sequences_short condition table [] parts))

      forms_short : All (Short (length tuple)) (map canonical_range spans)
      forms_short = All-map (Short (length tuple)) canonical_range spans (All-weaker (Short (length tuple)) (λ range. Short (length tuple) (canonical_range range)) (form_short (length tuple)) spans spans_short)

      whole : map (choice.cell table) parts ++ map (choice.cell table) (drop (parts_of condition table columns) columns) ≡ tuple
      whole = sym (map-append (choice.cell table) parts (drop (parts_of condition table columns) columns)) ∙ ap (map (choice.cell table)) (take-append-drop (parts_of condition table columns) columns)

      found : covered tuple spans ≡ true
      found = subst (λ all. covered all spans ≡ true) whole
          (covers total choice condition table told [] parts (map (choice.cell table) (drop (parts_of condition table columns) columns)) (nothing_chosen choice condition table))
