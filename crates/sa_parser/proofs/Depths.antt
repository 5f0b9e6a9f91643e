-- How deep tokens go, one token after another.
use Rattle.std.proofs.Common.{◌≡◌, ℕ, ◌+◌, ◌<◌, ◌≤◌, ◌⊎◌, inl, inr, List, [], ◌∷◌, ◌++◌, length, take, get_or, fold, refl, sym, ap, ◌∙◌, arith}
use Rattle.std.proofs.lemmas.List.{append-nil, take_more}
use Rattle.std.proofs.lemmas.List.Sums.{fold_more}
use Rattle.std.proofs.lemmas.Bool.Decides.{leb_tells}
use Rattle.sa_lexer.specs.declared.token.Token.{Token}
use Rattle.sa_parser.specs.Depth.{Depth, at_first, with_token, depth_of, most_levels, StaysFlat}
use Rattle.sa_parser.specs.inner.Levels.{Nests}
use Rattle.sa_parser.proofs.Lists.{Same, Sooner, Later, parting}

-- There are no more open brackets than levels.
pub length-Nests : (depth : ℕ) (opened : List ℕ) → Nests depth opened → length opened ≤ depth
length-Nests depth [] nests = omega arith
length-Nests depth (before ∷ opened) nests = omega (arith, nests.0, length-Nests before opened nests.1)

pub Nests-deeper : (depth : ℕ) (opened : List ℕ) → Nests depth opened → Nests (depth + 1) opened
Nests-deeper depth [] nests = tt
Nests-deeper depth (before ∷ opened) nests = (omega (arith, nests.0), nests.1)

pub depth_of-fold : (tokens : List Token) → depth_of tokens ≡ (fold with_token at_first tokens).depth
unfolding depth_of
depth_of-fold tokens = refl

pub StaysFlat-none : StaysFlat []
StaysFlat-none before behind parts =
    let none : before ≡ [] = nothing before behind parts in
    rw (none, depth_of-fold []) (omega arith)
  where
    nothing : (before behind : List Token) → [] ≡ before ++ behind → before ≡ []
    nothing [] behind e = refl
    nothing (token ∷ before) behind e = cc

-- One more token that doesn't go too deep.
pub StaysFlat-push : (tokens : List Token) (token : Token) → StaysFlat tokens → depth_of (tokens ++ token ∷ []) ≤ most_levels → StaysFlat (tokens ++ token ∷ [])
StaysFlat-push tokens token flat least before behind parts =
    elim (parting tokens (token ∷ []) before behind parts) [
      | Same front back ↦ flat before [] (front ∙ sym (append-nil before))
      | Sooner next more front back ↦ rw (front ∙ ap (λ (some : List Token). tokens ++ some) (whole next more behind back)) least
      | Later next more front back ↦ flat before (next ∷ more) front
    ]
  where
    whole : (next : Token) (more behind : List Token) → token ∷ [] ≡ next ∷ (more ++ behind) → next ∷ more ≡ token ∷ []
    whole next [] behind e = cc
    whole next (other ∷ more) behind e = cc

pub deeper_or_least : (least depth : ℕ) → (least < depth) ⊎ (depth ≤ least)
deeper_or_least least depth = elim (leb_tells depth least) [ inl within ↦ inr within.1 | inr deeper ↦ inl deeper.1 ]

-- What the first tokens come to, and what they come to with one more.
module _ (tokens : List Token) (place : ℕ) (levels : Depth) (counted : levels ≡ fold with_token at_first (take place tokens)) where
  pub counted-least : StaysFlat (take place tokens) → levels.depth ≤ most_levels
  counted-least flat =
      rw (counted, ← depth_of-fold (take place tokens)) (flat (take place tokens) [] (sym (append-nil (take place tokens))))

  module _ (token : Token) (within : place < length tokens) (is : token ≡ get_or tokens place token) where
    pub counted-more : with_token levels token ≡ fold with_token at_first (take (place + 1) tokens)
    counted-more = rw counted (ap (λ (next : Token). with_token (fold with_token at_first (take place tokens)) next) is ∙ sym (fold_more with_token at_first tokens place token within))

    pub depth-more : (with_token levels token).depth ≡ depth_of (take (place + 1) tokens)
    depth-more = ap (λ (seen : Depth). seen.depth) counted-more ∙ sym (depth_of-fold (take (place + 1) tokens))

    pub flat-more : StaysFlat (take place tokens) → (most_levels < (with_token levels token).depth → ⊥) → StaysFlat (take (place + 1) tokens)
    flat-more flat not_deeper =
        let up_to : take (place + 1) tokens ≡ take place tokens ++ token ∷ [] =
        take_more tokens place token within ∙ ap (λ (last : Token). take place tokens ++ last ∷ []) (sym is) in
        let least : (with_token levels token).depth ≤ most_levels =
        elim (deeper_or_least most_levels (with_token levels token).depth) [ inl deeper ↦ absurd (not_deeper deeper) | inr least ↦ least ] in
        rw up_to (StaysFlat-push (take place tokens) token flat (rw (depth-more, up_to) at least))
