-- Before anybody has called, the session of a new pass has made, seen and counted nothing.
use Rattle.std.proofs.Common.{◌≡◌, ℕ, ◌-◌, ◌<◌, ◌≤◌, inl, inr, List, [], ◌∷◌, length, map, All, refl, sym, ap, subst, ◌∙◌, arith}
use Rattle.std.specs.Prelude.{nat_lt}
use Rattle.std.proofs.lemmas.Bool.{cases_Bool, cases_eq}
use Rattle.std.proofs.lemmas.Bool.Decides.{nat_tests}
use Rattle.std.proofs.lemmas.List.{get_or_past}
use Rattle.std.proofs.lemmas.List.Elements.{All-nil, All-cons}
use Rattle.sa_desk.specs.Contents.{Contents}
use Rattle.sa_desk.specs.New.{AreNew, no_desk}
use Rattle.sa_desk.specs.World.{no_quiet, quiet_of, IsFirst}
use Rattle.sa_board.specs.View.{desk_in}
use Rattle.sa_board.specs.Board.{BoardState, new_pass}
use Rattle.sa_board.specs.Pass.{PassState, known_desk, world_of}
use Rattle.sa_board.proofs.NewDesks.{quiet_of-new, founded-journal, founded-unborn}
use Rattle.sa_board.proofs.Calls.{known-out, known-else, own-mine, others-mine, own-seen, others-seen, own-quiet, others-quiet, allowed-is}
use Rattle.sa_board.proofs.Still.{none_new}

-- Nothing stands on a desk, and nobody has counted anything.
record IsUntouched (desk : Contents) : Type 0 where
  journal : desk.journal ≡ []
  quiet : (session : ℕ) → quiet_of desk session ≡ no_quiet

untouched-none : IsUntouched no_desk
untouched-none = record { journal = refl; quiet = quiet_of-new 0 1 1 [] }

module _ (board : BoardState) (are : AreNew board.founded) (session : ℕ) where
  abbrev pass : PassState
  pass = new_pass board session

  untouched-founded : (index : ℕ) → IsUntouched (desk_in board.founded index)
  untouched-founded index =
      elim (cases_Bool (nat_lt index (length board.founded))) [
        | inl below ↦
            let within : index < length board.founded = grind (arith, nat_tests) in
            record { journal = founded-journal board.founded are index within; quiet = λ other. (founded-unborn board.founded are index within other).quiet }
        | inr past ↦
            let past : length board.founded ≤ index = grind (arith, nat_tests) in
            subst IsUntouched (sym (get_or_past board.founded index no_desk past)) untouched-none
      ]

  untouched-known : (desk : ℕ) → IsUntouched (known_desk pass desk)
  untouched-known desk =
      elim (cases_eq desk 0) [
        | inl here ↦ subst IsUntouched (sym (ap (known_desk pass) here ∙ known-out pass)) untouched-none
        | inr apart ↦ subst IsUntouched (sym (known-else pass desk apart)) (untouched-founded (desk - 1))
      ]

  pub IsFirst-new : IsFirst (world_of pass)
  IsFirst-new = record {
    met = λ desk other may. let none = (allowed-is pass desk other may).least in absurd (omega (arith, none));
    mine = λ other. elim (cases_eq other session) [
      | inl own ↦ ap (world_of pass).mine own ∙ own-mine pass ∙ none_new pass refl
      | inr apart ↦ others-mine pass other apart
    ];
    seen = λ other desk. elim (cases_eq other session) [
      | inl own ↦ ap (λ (s : ℕ). (world_of pass).seen s desk) own ∙ own-seen pass desk ∙ (untouched-known desk).journal
      | inr apart ↦ others-seen pass other desk apart
    ];
    quiet = λ other desk. elim (cases_eq other session) [
      | inl own ↦ ap (λ (s : ℕ). (world_of pass).quiet s desk) own ∙ own-quiet pass desk ∙ (untouched-known desk).quiet session
      | inr apart ↦ others-quiet pass other desk apart
    ];
  }

pub are-first : (board : BoardState) → AreNew board.founded → (sessions : List ℕ) → All (λ (pass : PassState). IsFirst (world_of pass)) (map (new_pass board) sessions)
are-first board are [] = All-nil (λ (pass : PassState). IsFirst (world_of pass))
are-first board are (session ∷ rest) =
    All-cons (λ (pass : PassState). IsFirst (world_of pass)) (new_pass board session) (map (new_pass board) rest) (IsFirst-new board are session) (are-first board are rest)
