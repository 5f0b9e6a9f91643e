-- What parts of a key are sought by, as the code finds it.
use Rattle.std.specs.Prelude.{◌≡◌, List, length}
use Rattle.std.specs.List.{list_all}
use Rattle.sa_plan.specs.declared.access.RefPart.{RefPart}
use Rattle.sa_plan.specs.declared.access.RefPart.TheVariants as parts
use Rattle.sa_access.specs.Sought.{is_literal}
use Rattle.sa_access.specs.declared.sought.Found.{Found}
use Rattle.sa_access.specs.declared.sought.Found.TheVariants.{Literal, Column}
use Rattle.sa_access.specs.declared.sought.Tally.{Tally}

-- the part that is found
abbrev pub part_at : Found → RefPart
part_at (Literal value) = parts.Literal value.now
part_at (Column table column) = parts.Column table column

-- A tally counts these parts, and says whether each is a literal.
pub record IsTallyOf (from : List RefPart) (tally : Tally) : Type 0 where
  pub count : tally.count ≡ length from
  pub literal : tally.literal ≡ list_all is_literal from
