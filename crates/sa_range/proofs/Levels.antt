-- Sequences of kept pieces over one part more, and how many parts serve.
use Rattle.std.proofs.Common.{◌≡◌, ℕ, ◌+◌, ◌<◌, Bool, true, false, cond, List, [], ◌∷◌, ◌++◌, length, take, drop, get_or, map, flat_map, Option, Some, None, refl, sym, ap, ◌∙◌, arith, append-nil}
use Rattle.std.specs.Prelude.{nat_le}
use Rattle.std.specs.List.{filter}
use Rattle.std.proofs.lemmas.List.{append_assoc, map-append, take_more, drop_more, length-take-le}
use Rattle.std.proofs.lemmas.List.Concat.{flat_map-append}
use Rattle.sa_value.specs.declared.value.Value.{Value}
use Rattle.sa_cond.specs.declared.cond.Cond.{Cond}
use Rattle.sa_range.specs.declared.line.Piece.{Piece}
use Rattle.sa_range.specs.declared.line.Piece.TheVariants.{Point, Gap}
use Rattle.sa_range.specs.Line.{constants, pieces_of}
use Rattle.sa_range.specs.Atom.{literals_of}
use Rattle.sa_range.specs.RangeList.{continued, kept_pieces, sequences, parts_from, parts_of}
use Rattle.sa_range.specs.inner.Placed.{placed}
use Rattle.sa_range.specs.inner.Longer.{is_ended, keeps, longer_of, at_most}

-- members that pass, each in a list of its own
flat_filter : {A B : Type 0} (keep : A → Bool) (f : A → B) (xs : List A) → flat_map (λ x. cond (keep x) (f x ∷ []) []) xs ≡ map f (filter keep xs)
flat_filter keep f [] = refl
flat_filter keep f (x ∷ xs) =
    elim (keep x) as (λ kept. cond kept (f x ∷ []) [] ++ flat_map (λ x. cond (keep x) (f x ∷ []) []) xs ≡ map f (cond kept (x ∷ filter keep xs) (filter keep xs))) [
      | true ↦ ap (λ ys. f x ∷ ys) (flat_filter keep f xs)
      | false ↦ flat_filter keep f xs
    ]

-- sequences that go on from others, each behind one more piece
in_front : (piece : Piece) (grow grow_all : List Piece → List (List Piece)) → ((walk : List Piece) → grow_all (piece ∷ walk) ≡ map (λ others. piece ∷ others) (grow walk))
    → (walks : List (List Piece)) → map (λ others. piece ∷ others) (flat_map grow walks) ≡ flat_map grow_all (map (λ others. piece ∷ others) walks)
in_front piece grow grow_all same [] = refl
in_front piece grow grow_all same (walk ∷ walks) =
    map-append (λ (others : List Piece). piece ∷ others) (grow walk) (flat_map grow walks)
    ∙ ap (λ rest. map (λ others. piece ∷ others) (grow walk) ++ rest) (in_front piece grow grow_all same walks)
    ∙ ap (λ first. first ++ flat_map grow_all (map (λ others. piece ∷ others) walks)) (sym (same walk))

module _ (more less : Value → List (List Piece)) (grow : List Piece → List (List Piece))
    (at_gap : (lower : Value) (upper : Option Value) → grow (Gap lower upper ∷ []) ≡ (Gap lower upper ∷ []) ∷ [])
    (at_point : (value : Value) → map (λ others. Point value ∷ others) (more value) ≡ flat_map grow (map (λ others. Point value ∷ others) (less value))) where
  one_grown : (piece : Piece) → continued more piece ≡ flat_map grow (continued less piece)
  one_grown (Point value) = at_point value
  one_grown (Gap lower upper) = sym (append-nil (grow (Gap lower upper ∷ [])) ∙ at_gap lower upper)

  all_grown : (pieces : List Piece) → flat_map (continued more) pieces ≡ flat_map grow (flat_map (continued less) pieces)
  all_grown [] = refl
  all_grown (piece ∷ pieces) =
      ap (λ first. first ++ flat_map (continued more) pieces) (one_grown piece)
      ∙ ap (λ rest. flat_map grow (continued less piece) ++ rest) (all_grown pieces)
      ∙ sym (flat_map-append grow (continued less piece) (flat_map (continued less) pieces))

single : (piece : Piece) → continued (λ value. [] ∷ []) piece ≡ (piece ∷ []) ∷ []
single (Point value) = refl
single (Gap lower upper) = refl

singles : (pieces : List Piece) → flat_map (continued (λ value. [] ∷ [])) pieces ≡ map (λ piece. piece ∷ []) pieces
singles [] = refl
singles (piece ∷ pieces) =
    ap (λ first. first ++ flat_map (continued (λ value. [] ∷ [])) pieces) (single piece)
    ∙ ap (λ rest. (piece ∷ []) ∷ rest) (singles pieces)

map_twice : (piece : Piece) (walk : List Piece) (pieces : List Piece) → map (λ last. (piece ∷ walk) ++ last ∷ []) pieces ≡ map (λ others. piece ∷ others) (map (λ last. walk ++ last ∷ []) pieces)
map_twice piece walk [] = refl
map_twice piece walk (last ∷ pieces) = ap (λ rest. ((piece ∷ walk) ++ last ∷ []) ∷ rest) (map_twice piece walk pieces)

module _ (condition : Cond) (table : ℕ) where
  abbrev grown : (chosen : List (ℕ × Piece)) (before : List ℕ) (column : ℕ) → List Piece → List (List Piece)
  grown chosen before column walk =
      cond (is_ended walk) (walk ∷ []) (map (λ last. walk ++ last ∷ []) (kept_pieces condition table (chosen ++ placed before walk) column))

  grown_behind : (chosen : List (ℕ × Piece)) (first : ℕ) (before : List ℕ) (column : ℕ) (value : Value) (walk : List Piece)
      → grown chosen (first ∷ before) column (Point value ∷ walk) ≡ map (λ others. Point value ∷ others) (grown (chosen ++ (first, Point value) ∷ []) before column walk)
  grown_behind chosen first before column value walk =
      elim (is_ended walk) as (λ ended. cond ended ((Point value ∷ walk) ∷ []) (map (λ last. (Point value ∷ walk) ++ last ∷ []) (kept_pieces condition table (chosen ++ (first, Point value) ∷ placed before walk) column))
      ≡ map (λ others. Point value ∷ others) (cond ended (walk ∷ []) (map (λ last. walk ++ last ∷ []) (kept_pieces condition table ((chosen ++ (first, Point value) ∷ []) ++ placed before walk) column)))) [
        | true ↦ refl
        | false ↦
            map_twice (Point value) walk (kept_pieces condition table (chosen ++ (first, Point value) ∷ placed before walk) column)
            ∙ ap (λ all. map (λ others. Point value ∷ others) (map (λ last. walk ++ last ∷ []) (kept_pieces condition table all column))) (sym (append_assoc chosen ((first, Point value) ∷ []) (placed before walk)))
      ]

  sequences_more : (chosen : List (ℕ × Piece)) (before : List ℕ) (column : ℕ)
      → sequences condition table chosen (before ++ column ∷ []) ≡ flat_map (grown chosen before column) (sequences condition table chosen before)
  sequences_more chosen [] column =
      singles (kept_pieces condition table chosen column)
      ∙ ap (λ all. map (λ last. last ∷ []) (kept_pieces condition table all column)) (sym (append-nil chosen))
      ∙ sym (append-nil (map (λ (last : Piece). last ∷ []) (kept_pieces condition table (chosen ++ []) column)))
  sequences_more chosen (first ∷ before) column =
      all_grown (λ value. sequences condition table (chosen ++ (first, Point value) ∷ []) (before ++ column ∷ [])) (λ value. sequences condition table (chosen ++ (first, Point value) ∷ []) before)
      (grown chosen (first ∷ before) column)
      (λ lower upper. refl)
      (λ value. ap (map (λ others. Point value ∷ others)) (sequences_more (chosen ++ (first, Point value) ∷ []) before column)
      ∙ in_front (Point value) (grown (chosen ++ (first, Point value) ∷ []) before column) (grown chosen (first ∷ before) column) (grown_behind chosen first before column value) (sequences condition table (chosen ++ (first, Point value) ∷ []) before))
      (kept_pieces condition table chosen first)

  -- the pieces of a column's line
  abbrev pub line : ℕ → List Piece
  line column = pieces_of (constants (literals_of table column condition))

  longer-grown : (columns : List ℕ) (column : ℕ) (walk : List Piece) → longer_of condition table columns column (line column) walk ≡ grown [] columns column walk
  unfolding keeps
  longer-grown columns column walk =
      ap (cond (is_ended walk) (walk ∷ [])) (flat_filter (keeps condition table columns column walk) (λ last. walk ++ last ∷ []) (line column))

  longer_all : (columns : List ℕ) (column : ℕ) (walks : List (List Piece)) → flat_map (longer_of condition table columns column (line column)) walks ≡ flat_map (grown [] columns column) walks
  longer_all columns column [] = refl
  longer_all columns column (walk ∷ walks) =
      ap (λ first. first ++ flat_map (longer_of condition table columns column (line column)) walks) (longer-grown columns column walk)
      ∙ ap (λ rest. grown [] columns column walk ++ rest) (longer_all columns column walks)

  -- what the sequences over some parts become over one more
  pub one_more : (columns : List ℕ) (column : ℕ)
      → flat_map (longer_of condition table columns column (line column)) (sequences condition table [] columns) ≡ sequences condition table [] (columns ++ column ∷ [])
  one_more columns column = longer_all columns column (sequences condition table [] columns) ∙ sym (sequences_more [] columns column)

  -- The sequences over the first parts, all of which serve.
  pub record Serving (parts : List ℕ) (i : ℕ) (walks : List (List Piece)) : Type 0 where
    pub found : walks ≡ sequences condition table [] (take i parts)
    pub counted : parts_of condition table parts ≡ parts_from condition table (take i parts) (drop i parts)

  module _ (parts : List ℕ) (i column : ℕ) (walks : List (List Piece)) (here : i < length parts) (is : column ≡ get_or parts i column) (at : Serving parts i walks) where
    taken : take (i + 1) parts ≡ take i parts ++ column ∷ []
    taken = take_more parts i column here ∙ ap (λ last. take i parts ++ last ∷ []) (sym is)

    left : drop i parts ≡ column ∷ drop (i + 1) parts
    left = drop_more parts i column here ∙ ap (λ first. first ∷ drop (i + 1) parts) (sym is)

    all_longer : flat_map (longer_of condition table (take i parts) column (line column)) walks ≡ sequences condition table [] (take i parts ++ column ∷ [])
    all_longer = ap (flat_map (longer_of condition table (take i parts) column (line column))) at.found ∙ one_more (take i parts) column

    fits_or_not : parts_of condition table parts ≡ cond (nat_le (length (sequences condition table [] (take i parts ++ column ∷ []))) 1024) (parts_from condition table (take i parts ++ column ∷ []) (drop (i + 1) parts)) (length (take i parts))
    fits_or_not = at.counted ∙ ap (parts_from condition table (take i parts)) left

    some_more : (walks' : List (List Piece)) (more : List (List Piece)) (fits : Bool) → Some more ≡ cond fits (Some walks') None → (fits ≡ true) × (more ≡ walks')
    some_more walks' more true is = (refl, cc)
    some_more walks' more false is = cc

    none_more : (walks' : List (List Piece)) (fits : Bool) → None ≡ cond fits (Some walks') None → fits ≡ false
    none_more walks' true is = cc
    none_more walks' false is = refl

    -- one part more serves
    pub serving_more : (more : List (List Piece)) → Some more ≡ at_most (flat_map (longer_of condition table (take i parts) column (line column)) walks) → Serving parts (i + 1) more
    serving_more more found =
        let all = some_more (sequences condition table [] (take i parts ++ column ∷ [])) more (nat_le (length (sequences condition table [] (take i parts ++ column ∷ []))) 1024) (found ∙ ap at_most all_longer) in
        record {
          found = all.1 ∙ ap (sequences condition table []) (sym taken);
          counted = fits_or_not ∙ ap (λ fits. cond fits (parts_from condition table (take i parts ++ column ∷ []) (drop (i + 1) parts)) (length (take i parts))) all.0
              ∙ ap (λ front. parts_from condition table front (drop (i + 1) parts)) (sym taken);
        }

    -- it doesn't
    pub serving_stops : None ≡ at_most (flat_map (longer_of condition table (take i parts) column (line column)) walks) → i ≡ parts_of condition table parts
    serving_stops found =
        let past = none_more (sequences condition table [] (take i parts ++ column ∷ [])) (nat_le (length (sequences condition table [] (take i parts ++ column ∷ []))) 1024) (found ∙ ap at_most all_longer) in
        sym (fits_or_not ∙ ap (λ fits. cond fits (parts_from condition table (take i parts ++ column ∷ []) (drop (i + 1) parts)) (length (take i parts))) past ∙ length-take-le i parts (omega arith))
