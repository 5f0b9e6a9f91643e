-- The first seat gives the other sessions their numbers.
use Rattle.std.proofs.Common.{◌≡◌, ℕ, ◌+◌, ◌<◌, ◌≤◌, List, [], ◌∷◌, length, refl, sym, ap, subst, ◌∙◌}
use Rattle.sa_desk.specs.Contents.{Contents}
use Rattle.sa_board.specs.declared.view.View.{View}
use Rattle.sa_board.specs.View.{newcomer}
use Rattle.sa_board.specs.Steps.{Sitter, IsFounder, founder_left, founder_right}
use Rattle.sa_board.specs.inner.Pass.{one_of}

-- the first seat, when so many numbers were given
abbrev pub first_seat : List Contents → ℕ → Sitter
first_seat founded made = (record { known = newcomer 1 founded ∷ []; made = made; out = 0 }, [])

pub IsFounder-first : (founded : List Contents) (me : Sitter) (made : ℕ) → me ≡ first_seat founded made → 1 ≤ made → made < length founded → IsFounder founded me.0
IsFounder-first founded me made is least most =
    subst (λ (m : Sitter). IsFounder founded m.0) (sym is) (record { alone = refl; out = refl; least = least; most = most })

-- It gives one number more, and the new seat stands for a newcomer.
pub first-more : (founded : List Contents) (me : Sitter) (made : ℕ) → me ≡ first_seat founded made → (founder_left me.0, me.1) ≡ first_seat founded (made + 1)
first-more founded me made is = ap (λ (m : Sitter). (founder_left m.0, m.1)) is

module _ (founded : List Contents) (me new : Sitter) (session made : ℕ) (is : me ≡ first_seat founded made) (next : made + 1 ≡ session) (new_is : new ≡ (founder_right me.0, [])) where
  right : new.0 ≡ record { known = newcomer session founded ∷ []; made = 0; out = 0 }
  right =
      ap (λ (m : Sitter). m.0) new_is ∙ ap (λ (m : Sitter). founder_right m.0) is
      ∙ ap (λ (n : ℕ). let view : View = record { known = newcomer n founded ∷ []; made = 0; out = 0 } in view) next

  pub new-away : new.1 ≡ []
  new-away = ap (λ (m : Sitter). m.1) new_is

  pub new-out : new.0.out ≡ 0
  new-out = ap (λ (v : View). v.out) right

  pub new-met : (one_of new.0).met ≡ founded
  new-met = ap (λ (v : View). (one_of v).met) right

  pub new-alone : new.0.known ≡ newcomer session (one_of new.0).met ∷ []
  new-alone = ap (λ (v : View). v.known) right ∙ ap (λ (met : List Contents). newcomer session met ∷ []) (sym new-met)
