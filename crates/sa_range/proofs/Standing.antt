-- In which piece of a line a cell lies, and that literals compare with the piece as with the cell.
use Rattle.std.proofs.Common.{◌≡◌, Bool, true, false, not, ◌||◌, cond, List, [], ◌∷◌, All, Option, Some, None, refl, sym, ap, ◌∙◌, inl, inr, ◌⊎◌}
use Rattle.std.specs.List.{list_any}
use Rattle.std.specs.Ordering.{is_gt, is_eq, ordering_reverse}
use Rattle.std.specs.declared.cmp.Ordering.{Ordering}
use Rattle.std.specs.declared.cmp.Ordering.TheVariants.{Less, Equal, Greater}
use Rattle.std.proofs.lemmas.Cmp.{tied_itself, tied_back, alike_right}
use Rattle.std.proofs.lemmas.List.Elements.{All-nil, All-cons, All-weaker}
use Rattle.sa_value.specs.declared.truth.CompareOp.{CompareOp}
use Rattle.sa_value.specs.declared.truth.CompareOp.TheVariants.{NullEq}
use Rattle.sa_value.specs.declared.truth.Truth.{Truth}
use Rattle.sa_value.specs.declared.truth.Truth.TheVariants.{Unknown}
use Rattle.sa_value.specs.declared.value.Value.{Value}
use Rattle.sa_value.specs.declared.value.Value.TheVariants.{Null, Int, Big, Text}
use Rattle.sa_value.specs.Compare.{known, holds_at, order_of, truth_of}
use Rattle.sa_key.proofs.RangeLemmas.{le_lt}
use Rattle.sa_cond.specs.Condition.{is_null}
use Rattle.sa_range.specs.declared.line.Piece.{Piece}
use Rattle.sa_range.specs.declared.line.Piece.TheVariants.{Point, Gap}
use Rattle.sa_range.specs.Line.{put_before, put_in, put_constant, constants, pieces_from, pieces_of}
use Rattle.sa_range.specs.Atom.{beside, tested_on, truth_beside}
use Rattle.sa_range.proofs.Agreeing.{Agrees, Suits, test_of}
use Rattle.sa_range.proofs.Rising.{IsTotal, Ascends}

-- A comparison by whether the value is NULL, and its order to the literal.
abbrev truth_at : CompareOp → (null : Bool) → (literal : Value) → Ordering → Truth
truth_at NullEq null literal order = known (holds_at NullEq order)
truth_at op true literal order = Unknown
truth_at op false literal order = truth_beside op literal order

truth_of-at : (op : CompareOp) (value literal : Value) → truth_of op value literal ≡ truth_at op (is_null value) literal (order_of value literal)
truth_of-at NullEq value literal = refl
truth_of-at op Null literal = refl
truth_of-at op (Int value) Null = refl
truth_of-at op (Int value) (Int literal) = refl
truth_of-at op (Int value) (Big literal) = refl
truth_of-at op (Int value) (Text literal) = refl
truth_of-at op (Big value) Null = refl
truth_of-at op (Big value) (Int literal) = refl
truth_of-at op (Big value) (Big literal) = refl
truth_of-at op (Big value) (Text literal) = refl
truth_of-at op (Text value) Null = refl
truth_of-at op (Text value) (Int literal) = refl
truth_of-at op (Text value) (Big literal) = refl
truth_of-at op (Text value) (Text literal) = refl

beside-at : (op : CompareOp) (literal : Value) (order : Ordering) → truth_beside op literal order ≡ truth_at op false literal order
beside-at NullEq literal order = refl
beside-at op literal order = refl

same_null : (cell value : Value) → order_of cell value ≡ Equal → is_null value ≡ is_null cell
same_null Null Null same = refl
same_null Null (Int value) same = cc
same_null Null (Big value) same = cc
same_null Null (Text value) same = cc
same_null (Int cell) Null same = cc
same_null (Int cell) (Int value) same = refl
same_null (Int cell) (Big value) same = refl
same_null (Int cell) (Text value) same = refl
same_null (Big cell) Null same = cc
same_null (Big cell) (Int value) same = refl
same_null (Big cell) (Big value) same = refl
same_null (Big cell) (Text value) same = refl
same_null (Text cell) Null same = cc
same_null (Text cell) (Int value) same = refl
same_null (Text cell) (Big value) same = refl
same_null (Text cell) (Text value) same = refl

no_null : (lower cell : Value) → order_of lower cell ≡ Less → is_null cell ≡ false
no_null Null Null above = cc
no_null (Int lower) Null above = cc
no_null (Big lower) Null above = cc
no_null (Text lower) Null above = cc
no_null lower (Int cell) above = refl
no_null lower (Big cell) above = refl
no_null lower (Text cell) above = refl

-- The cell lies in the piece.
abbrev pub Stands : Value → Piece → Type 0
Stands cell (Point value) = order_of cell value ≡ Equal
Stands cell (Gap lower None) = order_of lower cell ≡ Less
Stands cell (Gap lower (Some upper)) = (order_of lower cell ≡ Less) × (order_of cell upper ≡ Less)

module _ (total : IsTotal) (cell : Value) where
  point_agrees : (value : Value) → order_of cell value ≡ Equal → (literal : Value) → Agrees cell (Point value) literal
  point_agrees value same literal op =
      truth_of-at op value literal
      ∙ ap (λ null. truth_at op null literal (order_of value literal)) (same_null cell value same)
      ∙ ap (truth_at op (is_null cell) literal) (sym (total.congr cell value literal same))
      ∙ sym (truth_of-at op cell literal)

  point_tests : (value : Value) → order_of cell value ≡ Equal → (for_null : Bool) → tested_on for_null (Point value) ≡ test_of for_null cell
  point_tests value same true = ap known (same_null cell value same)
  point_tests value same false = not_if (is_null value) ∙ ap (λ null. known (not null)) (same_null cell value same)
    where
      not_if : (null : Bool) → known (cond null false true) ≡ known (not null)
      not_if true = refl
      not_if false = refl

  -- A literal isn't above the start of a gap, or it is above the cell.
  abbrev Outside : (lower : Value) → Value → Type 0
  Outside lower literal = (is_gt (order_of literal lower) ≡ false) ⊎ (order_of cell literal ≡ Less)

  turned : (a b : Value) (order : Ordering) → order_of a b ≡ order → order_of b a ≡ ordering_reverse order
  turned a b order is = total.antisymm b a ∙ ap ordering_reverse is

  order_beside : (lower literal : Value) → order_of lower cell ≡ Less → Outside lower literal → beside lower literal ≡ order_of cell literal
  order_beside lower literal above (inl low) =
      ap (λ (test : Bool). cond test Less Greater) low ∙ sym (turned literal cell Less (le_lt total literal lower cell low above))
  order_beside lower literal above (inr high) =
      ap (λ (order : Ordering). cond (is_gt order) Less Greater) (turned lower literal Less (total.trans lower cell literal above high)) ∙ sym high

  gap_agrees : (lower : Value) (upper : Option Value) → order_of lower cell ≡ Less → (literal : Value) → Outside lower literal → Agrees cell (Gap lower upper) literal
  gap_agrees lower upper above literal outside op =
      beside-at op literal (beside lower literal)
      ∙ ap (truth_at op false literal) (order_beside lower literal above outside)
      ∙ ap (λ null. truth_at op null literal (order_of cell literal)) (sym (no_null lower cell above))
      ∙ sym (truth_of-at op cell literal)

  gap_tests : (lower : Value) (upper : Option Value) → order_of lower cell ≡ Less → (for_null : Bool) → tested_on for_null (Gap lower upper) ≡ test_of for_null cell
  gap_tests lower upper above true = ap known (sym (no_null lower cell above))
  gap_tests lower upper above false = ap (λ null. known (not null)) (sym (no_null lower cell above))

  -- Where a literal stands among constants above a value.
  abbrev Among : (lower : Value) → List Value → Value → Type 0
  Among lower values literal = (is_gt (order_of literal lower) ≡ false) ⊎ (list_any (λ value. is_eq (order_of literal value)) values ≡ true)

  is_equal : (order : Ordering) → is_eq order ≡ true → order ≡ Equal
  is_equal Less is = cc
  is_equal Equal is = refl
  is_equal Greater is = cc

  or_one : (a b : Bool) → a ≡ true → (a || b) ≡ true
  or_one a b is = ap (λ first. first || b) is

  or_other : (a b : Bool) → b ≡ true → (a || b) ≡ true
  or_other true b is = refl
  or_other false b is = is

  or_either : (a b : Bool) → (a || b) ≡ true → (a ≡ true) ⊎ (b ≡ true)
  or_either true b is = inl refl
  or_either false b is = inr is

  -- a cell below the first constant is below each
  below_either : (literal first : Value) (others : List Value) → order_of cell first ≡ Less
      → (is_eq (order_of literal first) ≡ true) ⊎ (list_any (λ value. is_eq (order_of literal value)) others ≡ true)
      → (list_any (λ value. is_eq (order_of literal value)) others ≡ true → order_of cell literal ≡ Less) → order_of cell literal ≡ Less
  below_either literal first others below (inl same) later = alike_right total literal first cell (is_equal (order_of literal first) same) ∙ below
  below_either literal first others below (inr found) later = later found

  below_all : (literal first : Value) (others : List Value) → order_of cell first ≡ Less → Ascends total first others
      → list_any (λ value. is_eq (order_of literal value)) (first ∷ others) ≡ true → order_of cell literal ≡ Less
  below_all literal first [] below all found =
      below_either literal first [] below (or_either (is_eq (order_of literal first)) false found) (λ later. cc)
  below_all literal first (next ∷ others) below all found =
      below_either literal first (next ∷ others) below (or_either (is_eq (order_of literal first)) (list_any (λ value. is_eq (order_of literal value)) (next ∷ others)) found)
      (λ later. below_all literal next others (total.trans cell first next below all.0) all.1 later)

  outside : (lower first : Value) (others : List Value) → order_of cell first ≡ Less → Ascends total first others → (literal : Value) → Among lower (first ∷ others) literal → Outside lower literal
  outside lower first others below all literal (inl low) = inl low
  outside lower first others below all literal (inr found) = inr (below_all literal first others below all found)

  outside_last : (lower literal : Value) → Among lower [] literal → Outside lower literal
  outside_last lower literal (inl low) = inl low
  outside_last lower literal (inr found) = cc

  further : (lower first : Value) (others : List Value) → order_of lower first ≡ Less → (literal : Value) → Among lower (first ∷ others) literal → Among first others literal
  further lower first others rises literal (inl low) = inl (ap is_gt (le_lt total literal lower first low rises))
  further lower first others rises literal (inr found) = further_either (or_either (is_eq (order_of literal first)) (list_any (λ value. is_eq (order_of literal value)) others) found)
    where
      further_either : (is_eq (order_of literal first) ≡ true) ⊎ (list_any (λ value. is_eq (order_of literal value)) others ≡ true) → Among first others literal
      further_either (inl same) = inl (ap is_gt (is_equal (order_of literal first) same))
      further_either (inr later) = inr later

  module _ (literals : List Value) (test : Piece → Bool) (found : (piece : Piece) → Stands cell piece → Suits cell piece literals → test piece ≡ true) where
    at_point : (value : Value) → order_of cell value ≡ Equal → test (Point value) ≡ true
    at_point value same = found (Point value) same (record {
      compared = λ k d here. point_agrees value same _;
      tested = point_tests value same;
    })

    in_gap : (lower : Value) (upper : Option Value) → order_of lower cell ≡ Less → Stands cell (Gap lower upper) → All (Outside lower) literals → test (Gap lower upper) ≡ true
    in_gap lower upper above stands all = found (Gap lower upper) stands (record {
      compared = All-weaker (Outside lower) (Agrees cell (Gap lower upper)) (gap_agrees lower upper above) literals all;
      tested = gap_tests lower upper above;
    })

    find_from : (lower : Value) (values : List Value) → order_of lower cell ≡ Less → Ascends total lower values → All (Among lower values) literals → list_any test (pieces_from lower values) ≡ true
    find_from lower [] above all among =
        or_one (test (Gap lower None)) false (in_gap lower None above above (All-weaker (Among lower []) (Outside lower) (outside_last lower) literals among))
    find_from lower (value ∷ values) above all among =
        find_at (order_of cell value) refl
        (λ below. find_from value values below all.1 (All-weaker (Among lower (value ∷ values)) (Among value values) (further lower value values all.0) literals among))
      where
        find_at : (order : Ordering) → order_of cell value ≡ order → (order_of value cell ≡ Less → list_any test (pieces_from value values) ≡ true) → list_any test (pieces_from lower (value ∷ values)) ≡ true
        find_at Less is later =
            or_one (test (Gap lower (Some value))) (test (Point value) || list_any test (pieces_from value values))
            (in_gap lower (Some value) above (above, is) (All-weaker (Among lower (value ∷ values)) (Outside lower) (outside lower value values is all.1) literals among))
        find_at Equal is later =
            or_other (test (Gap lower (Some value))) (test (Point value) || list_any test (pieces_from value values))
            (or_one (test (Point value)) (list_any test (pieces_from value values)) (at_point value is))
        find_at Greater is later =
            or_other (test (Gap lower (Some value))) (test (Point value) || list_any test (pieces_from value values))
            (or_other (test (Point value)) (list_any test (pieces_from value values))
            (later (turned cell value Greater is)))

    -- A piece of the line passes, if the one does in which the cell lies.
    pub find : (values : List Value) → Ascends total Null values → All (Among Null values) literals → list_any test (pieces_of values) ≡ true
    find values all among = find_at (order_of Null cell) refl
      where
        not_below : (other : Value) → order_of Null other ≡ Greater → ⊥
        not_below Null is = cc
        not_below (Int other) is = cc
        not_below (Big other) is = cc
        not_below (Text other) is = cc

        find_at : (order : Ordering) → order_of Null cell ≡ order → list_any test (pieces_of values) ≡ true
        find_at Less is = or_other (test (Point Null)) (list_any test (pieces_from Null values)) (find_from Null values is all among)
        find_at Equal is = or_one (test (Point Null)) (list_any test (pieces_from Null values)) (at_point Null (tied_back total Null cell is))
        find_at Greater is = absurd (not_below cell is)

  -- Each literal is NULL, or equal to a constant.

  put_itself : (value : Value) (values : List Value) → list_any (λ other. is_eq (order_of value other)) (put_in value values) ≡ true
  put_itself value [] = or_one (is_eq (order_of value value)) false (ap is_eq (tied_itself total value))
  put_itself value (first ∷ others) = itself_at (order_of value first) refl (put_itself value others)
    where
      itself_at : (order : Ordering) → order_of value first ≡ order → list_any (λ other. is_eq (order_of value other)) (put_in value others) ≡ true → list_any (λ other. is_eq (order_of value other)) (put_before order value first others (put_in value others)) ≡ true
      itself_at Less is later = or_one (is_eq (order_of value value)) (list_any (λ other. is_eq (order_of value other)) (first ∷ others)) (ap is_eq (tied_itself total value))
      itself_at Equal is later = or_one (is_eq (order_of value first)) (list_any (λ other. is_eq (order_of value other)) others) (ap is_eq is)
      itself_at Greater is later = or_other (is_eq (order_of value first)) (list_any (λ other. is_eq (order_of value other)) (put_in value others)) later

  put_keeps : (literal value : Value) (values : List Value) → list_any (λ other. is_eq (order_of literal other)) values ≡ true → list_any (λ other. is_eq (order_of literal other)) (put_in value values) ≡ true
  put_keeps literal value [] is = cc
  put_keeps literal value (first ∷ others) is = keeps_at (order_of value first) (λ later. put_keeps literal value others later)
    where
      keeps_either : (is_eq (order_of literal first) ≡ true) ⊎ (list_any (λ other. is_eq (order_of literal other)) others ≡ true)
          → (list_any (λ other. is_eq (order_of literal other)) others ≡ true → list_any (λ other. is_eq (order_of literal other)) (put_in value others) ≡ true)
          → list_any (λ other. is_eq (order_of literal other)) (first ∷ put_in value others) ≡ true
      keeps_either (inl same) more = or_one (is_eq (order_of literal first)) (list_any (λ other. is_eq (order_of literal other)) (put_in value others)) same
      keeps_either (inr later) more = or_other (is_eq (order_of literal first)) (list_any (λ other. is_eq (order_of literal other)) (put_in value others)) (more later)

      keeps_at : (order : Ordering) → (list_any (λ other. is_eq (order_of literal other)) others ≡ true → list_any (λ other. is_eq (order_of literal other)) (put_in value others) ≡ true)
          → list_any (λ other. is_eq (order_of literal other)) (put_before order value first others (put_in value others)) ≡ true
      keeps_at Less more = or_other (is_eq (order_of literal value)) (list_any (λ other. is_eq (order_of literal other)) (first ∷ others)) is
      keeps_at Equal more = is
      keeps_at Greater more = keeps_either (or_either (is_eq (order_of literal first)) (list_any (λ other. is_eq (order_of literal other)) others) is) more

  among_more : (value : Value) (values : List Value) (literal : Value) → Among Null values literal → Among Null (put_constant value values) literal
  among_more value values literal (inl low) = inl low
  among_more Null values literal (inr found) = inr found
  among_more (Int value) values literal (inr found) = inr (put_keeps literal (Int value) values found)
  among_more (Big value) values literal (inr found) = inr (put_keeps literal (Big value) values found)
  among_more (Text value) values literal (inr found) = inr (put_keeps literal (Text value) values found)

  among_itself : (value : Value) (values : List Value) → Among Null (put_constant value values) value
  among_itself Null values = inl refl
  among_itself (Int value) values = inr (put_itself (Int value) values)
  among_itself (Big value) values = inr (put_itself (Big value) values)
  among_itself (Text value) values = inr (put_itself (Text value) values)

  pub all_among : (literals : List Value) → All (Among Null (constants literals)) literals
  all_among [] = All-nil (Among Null [])
  all_among (literal ∷ literals) =
      All-cons (Among Null (constants (literal ∷ literals))) literal literals (among_itself literal (constants literals))
      (All-weaker (Among Null (constants literals)) (Among Null (constants (literal ∷ literals))) (among_more literal (constants literals)) literals (all_among literals))
