-- Lists are read back.
use Rattle.std.proofs.Common.{◌≡◌, ℕ, ◌+◌, List, [], ◌∷◌, ◌++◌, map, length, codes, refl, sym, ap, ap₂, ◌∙◌, subst, append_assoc, append-nil, add-zero}
use Rattle.std.specs.Prelude.{flat_map, fold}
use Rattle.std.specs.List.{AllByRecursion}
use Rattle.std.proofs.lemmas.List.Folds.{flat_map-map}
use Rattle.sa_lexer.specs.declared.sign.Sign.TheVariants as signs
use Rattle.sa_lexer.specs.declared.token.Token.{Token}
use Rattle.sa_lexer.specs.Grammar.{AreTokens}
use Rattle.sa_print.specs.Lists.{listed}
use Rattle.sa_parser.specs.Form.{Form, Many, Sign, Commas, ◌<$>◌, ◌<*>◌}
use Rattle.sa_parser.proofs.canonical_text.Build.{made, then, no_more, more, chained}
use Rattle.sa_parser.proofs.canonical_text.Fine.{Reads, wider}
use Rattle.sa_parser.proofs.canonical_text.Lexed.{Quiet, quiet_at, Lexed, joined-Lexed, same-Lexed}
use Rattle.sa_parser.proofs.canonical_text.Pieces.{comma_space-Lexed}
use Rattle.sa_parser.proofs.canonical_text.Tokens.{sign_is}

pub empty-Lexed : (Before : List ℕ → Type 0) (place : ℕ) → Lexed Before place [] []
empty-Lexed Before place = record { joins = λ after more before are. subst (λ (n : ℕ). AreTokens n after more) (add-zero place) are }

-- each of these is read back wherever it stands
abbrev pub AllRead : {A B C : Type 0} → Form A → (A → B) → (C → List ℕ) → (C → B) → List C → Type 0
AllRead Is bare text value items = AllByRecursion (λ item. (place : ℕ) → Reads Is bare Quiet place (text item) (value item)) items

module _ {A B C : Type 0} (Is Wide : Form A) (bare : A → B) (text : C → List ℕ) (value : C → B) (within : (tokens : List Token) (again : A) → Is tokens again → Wide tokens again) where
  pub all_wider : (items : List C) → AllRead Is bare text value items → AllRead Wide bare text value items
  all_wider [] are = tt
  all_wider (item ∷ items) are = ((λ place. wider Wide within (are.0 place)), all_wider items are.1)

-- a text that stands apart from any word before it
abbrev pub Apart : List ℕ → Type 0
Apart text = (after : List ℕ) → Quiet (text ++ after)

pub parts_quiet : {C : Type 0} (text : C → List ℕ) → ((item : C) → Apart (text item)) → (items : List C) (after : List ℕ) → Quiet after → Quiet (flat_map text items ++ after)
parts_quiet text apart [] after quiet = quiet
parts_quiet text apart (item ∷ items) after quiet = subst Quiet (sym (append_assoc (text item) (flat_map text items) after)) (apart item (flat_map text items ++ after))

module _ {A B C : Type 0} (Is : Form A) (bare : A → B) (text : C → List ℕ) (value : C → B) (apart : (item : C) → Apart (text item)) where
  -- parts one after another, each of which stands apart from the one before it
  pub many_reads : (items : List C) → AllRead Is bare text value items → (place : ℕ)
      → Reads (Many Is) (map bare) Quiet place (flat_map text items) (map value items)
  many_reads [] are place = record { tokens = []; again = []; lexed = empty-Lexed Quiet place; is = no_more Is; same = refl }
  many_reads (item ∷ items) are place =
      let first = are.0 place in
      let rest = many_reads items are.1 (place + length (text item)) in
      record {
        tokens = first.tokens ++ rest.tokens;
        again = first.again ∷ rest.again;
        lexed = joined-Lexed first.lexed rest.lexed (λ after quiet. parts_quiet text apart items after quiet);
        is = more Is rest.tokens rest.again first.is rest.is;
        same = ap₂ (λ x xs. x ∷ xs) first.same rest.same;
      }

pub fold-pushed : {A : Type 0} (found next : List A) → fold (λ found value. found ++ value ∷ []) found next ≡ found ++ next
fold-pushed found [] = sym (append-nil found)
fold-pushed found (value ∷ next) = fold-pushed (found ++ value ∷ []) next ∙ append_assoc found (value ∷ []) next

-- a part of a list behind its comma
abbrev Next : {A : Type 0} → Form A → Form A
Next Is = (λ _ next. next) <$> Sign signs.Comma <*> Is

module _ {A B C : Type 0} (Is : Form A) (bare : A → B) (text : C → List ℕ) (value : C → B) where
  next_reads : (items : List C) → AllRead Is bare text value items → AllRead (Next Is) bare (λ item. codes ", " ++ text item) value items
  next_reads [] are = tt
  next_reads (item ∷ items) are = (
    λ place.
        let inner = are.0 (place + 2) in
        record {
          tokens = _;
          again = inner.again;
          lexed = joined-Lexed (comma_space-Lexed place) inner.lexed (λ after quiet. tt);
          is = then _ _ (made (Sign signs.Comma) (λ _ next. next) (sign_is signs.Comma place 1)) inner.is;
          same = inner.same;
        },
    next_reads items are.1,
  )

  -- a list with commas between its members
  pub commas_reads : (item : C) (items : List C) → AllRead Is bare text value (item ∷ items) → (place : ℕ)
      → Reads (Commas Is) (map bare) Quiet place (listed (map text (item ∷ items))) (map value (item ∷ items))
  commas_reads item items are place =
      let first = are.0 place in
      let behind : C → List ℕ = λ item. codes ", " ++ text item in
      let apart : (item : C) → Apart (behind item) = λ item after. quiet_at 44 _ refl in
      let rest = many_reads (Next Is) bare behind value apart items (next_reads items are.1) (place + length (text item)) in
      let all : fold (λ found next. found ++ next ∷ []) (first.again ∷ []) rest.again ≡ first.again ∷ rest.again = fold-pushed (first.again ∷ []) rest.again in
      let written : text item ++ flat_map behind items ≡ listed (map text (item ∷ items)) =
      ap (λ texts. text item ++ texts) (sym (flat_map-map (λ next. codes ", " ++ next) text items)) in
      record {
        tokens = _;
        again = _;
        lexed = same-Lexed written (joined-Lexed first.lexed rest.lexed (λ after quiet. parts_quiet behind apart items after quiet));
        is = chained _ _ _ _ _ (made Is (λ first. first ∷ []) first.is) rest.is;
        same = ap (map bare) all ∙ ap₂ (λ x xs. x ∷ xs) first.same rest.same;
      }
