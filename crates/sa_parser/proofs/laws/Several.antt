-- A reading again and again, as long as a look allows it, a bounded number of times.
use Rattle.std.proofs.Common.{◌≡◌, ℕ, zero, suc, ◌⊎◌, Bool, true, false, List, [], ◌∷◌, ◌++◌, Ok, Err, refl, sym, ap, ◌∙◌, inl, inr, append_assoc}
use Rattle.sa_lexer.specs.declared.token.Token.{Token}
use Rattle.sa_parser.specs.inner.Reading.{Reader, given, made, then_read, either}
use Rattle.sa_parser.proofs.Outcomes.{same_value, same_rest}
use Rattle.sa_parser.proofs.laws.Either.{either-first, either-second, either-cases}
use Rattle.sa_parser.proofs.laws.Made.{made-computes, made-fails, made-found, made-faulty}
use Rattle.sa_parser.proofs.laws.Then.{then-computes, then-fails_first, then-fails_second, then-found, then-faulty}

-- the values of as many readings as there are, at most so many
unfoldable pub several : {B : Type 0} → (List Token → Bool) → Reader B → ℕ → Reader (List B)
several looks next zero = given []
several looks next (suc turns) = either looks (then_read (made ◌∷◌ next) (several looks next turns)) (given [])

module _ {B : Type 0} (looks : List Token → Bool) (next : Reader B) where
  once : ℕ → Reader (List B)
  once turns = then_read (made ◌∷◌ next) (several looks next turns)

  pub several-none : (tokens : List Token) → several looks next zero tokens ≡ Ok ([], tokens)
  unfolding several
  several-none tokens = refl

  several-turn : (turns : ℕ) (tokens : List Token) → several looks next (suc turns) tokens ≡ either looks (once turns) (given []) tokens
  unfolding several once
  several-turn turns tokens = refl

  pub several-stops : (turns : ℕ) (tokens : List Token) → looks tokens ≡ false → several looks next turns tokens ≡ Ok ([], tokens)
  several-stops zero tokens not = several-none tokens
  several-stops (suc turns) tokens not = several-turn turns tokens ∙ either-second looks (once turns) (given []) tokens not

  pub several-computes : (turns : ℕ) (tokens : List Token) (part : B) (between : List Token) (parts : List B) (rest : List Token) → looks tokens ≡ true
      → next tokens ≡ Ok (part, between) → several looks next turns between ≡ Ok (parts, rest) → several looks next (suc turns) tokens ≡ Ok (part ∷ parts, rest)
  unfolding once
  several-computes turns tokens part between parts rest sees e f =
      several-turn turns tokens ∙ either-first looks (once turns) (given []) tokens sees
      ∙ then-computes (made ◌∷◌ next) (several looks next turns) tokens (λ parts. part ∷ parts) between parts rest
      (made-computes ◌∷◌ next tokens part between e) f

  pub several-fails : (turns : ℕ) (tokens : List Token) (left : ℕ) → looks tokens ≡ true → next tokens ≡ Err left
      → several looks next (suc turns) tokens ≡ Err left
  unfolding once
  several-fails turns tokens left sees e =
      several-turn turns tokens ∙ either-first looks (once turns) (given []) tokens sees
      ∙ then-fails_first (made ◌∷◌ next) (several looks next turns) tokens left (made-fails ◌∷◌ next tokens left e)

  pub several-fails_later : (turns : ℕ) (tokens : List Token) (part : B) (between : List Token) (left : ℕ) → looks tokens ≡ true
      → next tokens ≡ Ok (part, between) → several looks next turns between ≡ Err left → several looks next (suc turns) tokens ≡ Err left
  unfolding once
  several-fails_later turns tokens part between left sees e f =
      several-turn turns tokens ∙ either-first looks (once turns) (given []) tokens sees
      ∙ then-fails_second (made ◌∷◌ next) (several looks next turns) tokens (λ parts. part ∷ parts) between left
      (made-computes ◌∷◌ next tokens part between e) f

  pub several-found : (turns : ℕ) (tokens : List Token) (values : List B) (rest : List Token) → several looks next (suc turns) tokens ≡ Ok (values, rest)
      → ((part : B) × (between : List Token) × (parts : List B) × (looks tokens ≡ true) × (next tokens ≡ Ok (part, between))
      × (several looks next turns between ≡ Ok (parts, rest)) × (values ≡ part ∷ parts))
      ⊎ ((looks tokens ≡ false) × (values ≡ []) × (tokens ≡ rest))
  unfolding once
  several-found turns tokens values rest e =
      elim (either-cases looks (once turns) (given []) tokens (Ok (values, rest)) (sym (several-turn turns tokens) ∙ e)) [
        | inl found ↦
            let (make, between, parts, f, g, v) = then-found (made ◌∷◌ next) (several looks next turns) tokens values rest found.1 in
            let (part, h, m) = made-found ◌∷◌ next tokens make between f in
            inl (part, between, parts, found.0, h, g, v ∙ ap (λ put. put parts) m)
        | inr found ↦
            inr (found.0, sym (same_value [] values tokens rest found.1), same_rest [] values tokens rest found.1)
      ]

  pub several-faulty : (turns : ℕ) (tokens : List Token) (left : ℕ) → several looks next (suc turns) tokens ≡ Err left
      → (looks tokens ≡ true) × ((next tokens ≡ Err left) ⊎ ((part : B) × (between : List Token) × (next tokens ≡ Ok (part, between)) × (several looks next turns between ≡ Err left)))
  unfolding once
  several-faulty turns tokens left e =
      elim (either-cases looks (once turns) (given []) tokens (Err left) (sym (several-turn turns tokens) ∙ e)) [
        | inl found ↦ (
          found.0,
          elim (then-faulty (made ◌∷◌ next) (several looks next turns) tokens left found.1) [
            | inl f ↦ inl (made-faulty ◌∷◌ next tokens left f)
            | inr more ↦
                let (make, between, f, g) = more in
                let (part, h, m) = made-found ◌∷◌ next tokens make between f in
                inr (part, between, h, g)
          ],
        )
        | inr found ↦ let never = found.1 in cc
      ]

  -- a reading of tokens that are parted
  pub several-parted : (turns : ℕ) (before front back rest : List Token) (part : B) (parts values : List B) → before ≡ front ++ back → values ≡ part ∷ parts
      → looks (before ++ rest) ≡ true → next (front ++ (back ++ rest)) ≡ Ok (part, back ++ rest) → several looks next turns (back ++ rest) ≡ Ok (parts, rest)
      → several looks next (suc turns) (before ++ rest) ≡ Ok (values, rest)
  several-parted turns before front back rest part parts values whole v sees e f =
      rw v (several-computes turns (before ++ rest) part (back ++ rest) parts rest sees (rw (whole, append_assoc front back rest) e) f)

  pub several-parted_faulty : (turns : ℕ) (before front back rest : List Token) (part : B) (left : ℕ) → before ≡ front ++ back
      → looks (before ++ rest) ≡ true → next (front ++ (back ++ rest)) ≡ Ok (part, back ++ rest) → several looks next turns (back ++ rest) ≡ Err left
      → several looks next (suc turns) (before ++ rest) ≡ Err left
  several-parted_faulty turns before front back rest part left whole sees e f =
      several-fails_later turns (before ++ rest) part (back ++ rest) left sees (rw (whole, append_assoc front back rest) e) f
