-- A session begins a statement.
use Rattle.std.specs.Prelude.{◌≡◌, ℕ, ◌↔◌, Bool, List, [], ◌∷◌, Option, IsSome, IfSome, if◌then◌else◌}
use Rattle.sa_plan.specs.declared.plan.Plan.{Plan}
use Rattle.sa_meaning.specs.Data.{RunData}
use Rattle.sa_plan.specs.Lawful.{IsLawful}
use Rattle.sa_desk.specs.declared.entry.Entry.{Entry}
use Rattle.sa_desk.specs.declared.entry.Event.{Event}
use Rattle.sa_desk.specs.declared.entry.Event.TheVariants.{Gone}
use Rattle.sa_desk.specs.declared.answer.Begun.{Begun}
use Rattle.sa_desk.specs.declared.answer.Begun.TheVariants as begun
use Rattle.sa_desk.specs.declared.stamp.Stamp.{Stamp}
use Rattle.sa_desk.specs.State.{idle}
use Rattle.sa_desk.specs.Comes.{IsVersion}
use Rattle.sa_desk.specs.Contents.{Contents, state, phase, IsCaller, HasRoom, IsOwner, entry_by, with_entries}

-- The plan and its tables are given together, and the plan is lawful for them.
pub record AreGiven (plan : Option Plan) (tables : Option RunData) : Type 0 where
  pub together : IsSome plan ↔ IsSome tables
  pub lawful : IfSome plan (λ plan. IfSome tables (λ tables. IsLawful tables plan))

-- Gone where a KILL CONNECTION stands.
abbrev pub begin_answer : Bool → Begun
begin_answer doomed = if doomed then begun.Gone else begun.Ok

module _ (desk : Contents) (stamp : Stamp) (event : Event) (number : ℕ) where
  -- the one entry: the Begin that is given, or Gone
  abbrev pub begin_entries : List Entry
  begin_entries = entry_by desk stamp (if (state desk).doomed then Gone number else event) ∷ []

  abbrev pub after_begin : Contents
  after_begin = with_entries begin_entries desk

-- Nothing is on the desk of the caller, which isn't closed.
pub record MayBegin (desk : Contents) (stamp : Stamp) (event : Event) (number version : ℕ)
    (plan : Option Plan) (tables : Option RunData) : Type 0 where
  pub caller : IsCaller desk stamp
  pub own : IsOwner desk stamp
  pub free : phase desk ≡ idle
  pub version_is : IsVersion version
  pub given : AreGiven plan tables
  pub room : HasRoom desk stamp.actor (begin_entries desk stamp event number)
