-- Which statement is on after the first entries of a journal, as the entries themselves tell.
use Rattle.std.specs.Prelude.{◌≡◌, ℕ, ⊤, List, ◌∷◌, ◌++◌, Option, All}
use Rattle.sa_value.specs.declared.text.Text.{Text}
use Rattle.sa_plan.specs.declared.plan.Plan.{Plan}
use Rattle.sa_meaning.specs.Data.{RunData}
use Rattle.sa_desk.specs.declared.entry.Entry.{Entry}
use Rattle.sa_desk.specs.declared.entry.Event.{Event}
use Rattle.sa_desk.specs.declared.entry.Event.TheVariants.{Begin, End}
use Rattle.sa_desk.specs.State.{Terms}

-- neither a Begin nor an End
abbrev pub IsWithin : Event → Type 0
IsWithin (Begin number text version plan tables) = ⊥
IsWithin (End number outcome steps) = ⊥
IsWithin event = ⊤

-- After these entries the statement of this number is on: the desk's own session has begun it, and
-- neither a Begin nor an End stands in the entries since.
pub record IsOn (terms : Terms) (number : ℕ) (before : List Entry) : Type 0 where
  pub earlier : List Entry
  pub begin : Entry
  pub since : List Entry
  pub parts : before ≡ earlier ++ begin ∷ since
  pub own : begin.actor ≡ terms.desk
  pub text : Text
  pub version : ℕ
  pub plan : Option Plan
  pub tables : Option RunData
  pub begins : begin.event ≡ Begin number text version plan tables
  pub within : All (λ entry. IsWithin entry.event) since
