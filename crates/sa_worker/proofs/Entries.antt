-- Which of a list of entries are a session's, and which stand on a desk.
use Rattle.std.proofs.Common.{◌≡◌, ◌≢◌, ℕ, ◌==◌, true, false, List, [], ◌∷◌, ◌++◌, inl, inr, All, sym, ap, ◌∙◌, append-nil}
use Rattle.std.proofs.lemmas.Bool.{cases_eq, eq-eqb, ne_eqb}
use Rattle.std.proofs.lemmas.List.Elements.{All-nil, All-cons, All-weaker}
use Rattle.sa_desk.specs.declared.entry.Entry.{Entry}
use Rattle.sa_desk.specs.World.{made_by, standing_on}
use Rattle.sa_desk.proofs.Numbered.{filter-nothing, filter-everything}
use Rattle.sa_desk.proofs.laws.Outline.{made_by-own, made_by-other}
use Rattle.sa_desk.proofs.program.Own.{standing-append}

-- Where a session has made none of them, they are others'.
pub none_of : (session : ℕ) (entries : List Entry) → made_by session entries ≡ [] → All (λ entry. entry.actor ≢ session) entries
none_of session [] none = All-nil (λ entry. entry.actor ≢ session)
none_of session (entry ∷ rest) none =
    elim (cases_eq entry.actor session) [
      | inl same ↦ let some : entry ∷ made_by session rest ≡ [] = sym (made_by-own session entry rest same) ∙ none in cc
      | inr other ↦ All-cons (λ entry. entry.actor ≢ session) entry rest other (none_of session rest (sym (made_by-other session entry rest other) ∙ none))
    ]

-- Entries that all stand on one desk.
module _ (desk : ℕ) (entries : List Entry) (here : All (λ entry. entry.desk ≡ desk) entries) where
  pub standing-here : standing_on desk entries ≡ entries
  standing-here = filter-everything (λ (entry : Entry). entry.desk == desk) entries
      (All-weaker (λ (entry : Entry). entry.desk ≡ desk) (λ entry. (entry.desk == desk) ≡ true) (λ entry is. eq-eqb entry.desk desk is) entries here)

  pub standing-elsewhere : (at : ℕ) → at ≢ desk → standing_on at entries ≡ []
  standing-elsewhere at apart = filter-nothing (λ (entry : Entry). entry.desk == at) entries
      (All-weaker (λ (entry : Entry). entry.desk ≡ desk) (λ entry. (entry.desk == at) ≡ false) (λ entry is. ne_eqb entry.desk at (λ same. apart (sym same ∙ is))) entries here)

  -- with them at the end
  pub standing-more : (mine : List Entry) → standing_on desk (mine ++ entries) ≡ standing_on desk mine ++ entries
  standing-more mine = standing-append desk mine entries ∙ ap (λ more. standing_on desk mine ++ more) standing-here

  pub standing-same : (mine : List Entry) (at : ℕ) → at ≢ desk → standing_on at (mine ++ entries) ≡ standing_on at mine
  standing-same mine at apart = standing-append at mine entries ∙ ap (λ more. standing_on at mine ++ more) (standing-elsewhere at apart) ∙ append-nil (standing_on at mine)
