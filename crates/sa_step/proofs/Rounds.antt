-- A round, session by session.
use Rattle.std.proofs.Common.{◌≡◌, ℕ, ◌+◌, ◌<◌, ◌≤◌, ◌||◌, Bool, true, false, inl, inr, refl, sym, subst, ap, ◌∙◌, arith}
use Rattle.std.specs.Prelude.{IsTrue}
use Rattle.std.proofs.lemmas.Bool.{cases_eq}
use Rattle.sa_worker.specs.View.{done}
use Rattle.sa_step.specs.Sessions.{AllSessions, view_in}
use Rattle.sa_step.specs.Remaining.{remaining}

-- All sessions up to this number are done.
abbrev pub AreDoneTo : AllSessions → ℕ → Type 0
AreDoneTo all count = (session : ℕ) → 1 ≤ session → session ≤ count → (view_in all.views session).stage ≡ done

module _ (first before after : AllSessions) (index : ℕ)
    (less : remaining after.views < remaining before.views) where
  -- a turn was taken
  pub less_taken : (any : Bool) → (any ≡ true → remaining before.views < remaining first.views) → (any ≡ false → (before ≡ first) × AreDoneTo before index) → remaining after.views < remaining first.views
  less_taken true some none = let earlier = some refl in omega (arith, less, earlier)
  less_taken false some none = let same = ap (λ (all : AllSessions). remaining all.views) (none refl).0 in omega (arith, less, same)

module _ (first before after : AllSessions) (index : ℕ) where
  pub some_left : (any taken : Bool) → (any ≡ true → remaining before.views < remaining first.views) → (any ≡ false → (before ≡ first) × AreDoneTo before index)
      → (IsTrue taken → remaining after.views < remaining before.views) → (taken ≡ false → (after ≡ before) × ((view_in before.views (index + 1)).stage ≡ done))
      → (any || taken) ≡ true → remaining after.views < remaining first.views
  some_left any true some none less same is = less_taken first before after index (less refl) any some none
  some_left true false some none less same is = subst (λ (all : AllSessions). remaining all.views < remaining first.views) (sym (same refl).0) (some refl)
  some_left false false some none less same is = cc

  pub none_left : (any taken : Bool) → (any ≡ false → (before ≡ first) × AreDoneTo before index)
      → (taken ≡ false → (after ≡ before) × ((view_in before.views (index + 1)).stage ≡ done)) → (any || taken) ≡ false → (after ≡ first) × AreDoneTo after (index + 1)
  none_left true taken none same is = cc
  none_left false true none same is = cc
  none_left false false none same is =
      let kept = (same refl).0 in
      let were = none refl in
      let now = (same refl).1 in (
        kept ∙ were.0,
        subst (λ (all : AllSessions). AreDoneTo all (index + 1)) (sym kept)
            (λ session least most. elim (cases_eq session (index + 1)) [
              | inl here ↦ subst (λ session. (view_in before.views session).stage ≡ done) (sym here) now
              | inr apart ↦ were.1 session least (omega arith)
            ]),
      )
