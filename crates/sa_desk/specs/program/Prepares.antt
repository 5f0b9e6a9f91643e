-- Which answers of preparation the statements of a session may have.
use Rattle.std.specs.Prelude.{◌≡◌, ⊤, ℕ, ◌⊎◌, List, [], ◌∷◌}
use Rattle.std.specs.declared.result.Result.{Result}
use Rattle.std.specs.declared.result.Result.TheVariants.{Ok, Err}
use Rattle.sa_query.specs.declared.refusal.Refusal.{Refusal}
use Rattle.sa_plan.specs.declared.prepared.Prepared.{Prepared}
use Rattle.sa_plan.specs.declared.prepared.Work.{Work}
use Rattle.sa_desk.specs.program.Course.{Answer, prepared, refused, starved}

-- the meaning of a preparer: which answers it may give to a text
abbrev pub Answers : Type 1
Answers = List ℕ → Result Prepared Refusal → Type 0

-- A text has this answer. Where memory ran out, the text that a Begin then shows is the source or
-- that of an answer.
abbrev pub IsAnswer : Answers → List ℕ → Answer → Type 0
IsAnswer gives text (prepared canonical work) =
    gives text (Ok (record { text = canonical; work = work }))
IsAnswer gives text (refused why) = gives text (Err why)
IsAnswer gives text (starved said) =
    (said ≡ text) ⊎ (work : Work) × gives text (Ok (record { text = said; work = work }))

-- These are answers to the first of the texts, one to each.
abbrev pub AreAnswers : Answers → List (List ℕ) → List Answer → Type 0
AreAnswers gives texts [] = ⊤
AreAnswers gives [] (answer ∷ answers) = ⊥
AreAnswers gives (text ∷ texts) (answer ∷ answers) =
    IsAnswer gives text answer × AreAnswers gives texts answers
