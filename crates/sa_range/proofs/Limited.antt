-- Sequences that are counted as they are found.
use Rattle.std.proofs.Common.{◌≡◌, ℕ, ◌+◌, ◌<◌, ◌≤◌, Bool, false, cond, List, [], ◌∷◌, ◌++◌, length, take, drop, get_or, flat_map, Some, None, sym, ap, ◌∙◌, arith, length-append, inl, inr}
use Rattle.std.specs.Prelude.{nat_le}
use Rattle.std.proofs.lemmas.Bool.{le-leb}
use Rattle.std.proofs.lemmas.Bool.Decides.{leb_tells}
use Rattle.std.proofs.lemmas.List.{append-nil, take_more, take_all, take-append-drop}
use Rattle.std.proofs.lemmas.List.Concat.{flat_map-append}
use Rattle.sa_range.specs.declared.line.Piece.{Piece}
use Rattle.sa_range.specs.inner.Longer.{at_most}

pub few : (walks : List (List Piece)) → length walks ≤ 1024 → Some walks ≡ at_most walks
few walks fits = ap (λ (test : Bool). cond test (Some walks) None) (sym (le-leb (length walks) 1024 fits))

past : (a b : ℕ) → b < a → nat_le a b ≡ false
past a b more =
    elim (leb_tells a b) as (λ told. nat_le a b ≡ false) [
      | inl fits ↦ absurd (omega (arith, fits.1, more))
      | inr beyond ↦ beyond.0
    ]

pub too_many : (walks : List (List Piece)) → 1024 < length walks → None ≡ at_most walks
too_many walks more = ap (λ (test : Bool). cond test (Some walks) None) (sym (past (length walks) 1024 more))

module _ (grow : List Piece → List (List Piece)) (walks : List (List Piece)) (i : ℕ) where
  pub found_all : length walks ≤ i → (found : List (List Piece)) → found ≡ flat_map grow (take i walks) → length found ≤ 1024 → Some found ≡ at_most (flat_map grow walks)
  found_all all found is fits = few found fits ∙ ap at_most (is ∙ ap (flat_map grow) (take_all i walks all))

  module _ (walk given : List Piece) (here : i < length walks) (is : walk ≡ get_or walks i walk) (same : given ≡ walk)
      (found new : List (List Piece)) (before : found ≡ flat_map grow (take i walks)) (made : new ≡ found ++ grow given) where
    pub found_more : new ≡ flat_map grow (take (i + 1) walks)
    found_more =
        made ∙ ap (λ front. front ++ grow given) before ∙ ap (λ one. flat_map grow (take i walks) ++ grow one) (same ∙ is)
        ∙ ap (λ last. flat_map grow (take i walks) ++ last) (sym (append-nil (grow (get_or walks i walk))))
        ∙ sym (flat_map-append grow (take i walks) (get_or walks i walk ∷ []))
        ∙ ap (flat_map grow) (sym (take_more walks i walk here))

    whole : new ++ flat_map grow (drop (i + 1) walks) ≡ flat_map grow walks
    whole =
        ap (λ front. front ++ flat_map grow (drop (i + 1) walks)) found_more
        ∙ sym (flat_map-append grow (take (i + 1) walks) (drop (i + 1) walks))
        ∙ ap (flat_map grow) (take-append-drop (i + 1) walks)

    pub found_too_many : 1024 < length new → None ≡ at_most (flat_map grow walks)
    found_too_many more = too_many (flat_map grow walks) (omega (arith, more, ap length whole, length-append new (flat_map grow (drop (i + 1) walks))))
