-- What a session's entries tell of other desks stays true of longer journals.
use Rattle.std.proofs.Common.{ℕ, List, All, sym, subst, rules}
use Rattle.std.proofs.lemmas.List.Elements.{All-weaker}
use Rattle.sa_desk.specs.declared.entry.Entry.{Entry}
use Rattle.sa_desk.specs.declared.entry.Event.{Event}
use Rattle.sa_desk.specs.declared.entry.Event.TheVariants.{End}
use Rattle.sa_desk.specs.declared.outcome.Outcome.TheVariants.{Shown}
use Rattle.sa_desk.specs.World.{Begins}
use Rattle.sa_desk.specs.law.Answered.{IsAnswered}
use Rattle.sa_desk.specs.program.Course.{Given}
use Rattle.sa_desk.specs.program.SoFar.{terms_of, IsTold}
use Rattle.sa_desk.proofs.laws.Answered.{IsAnswered-grows}

pub IsTold-grows : (given : Given) (journals longer : ℕ → List Entry) → ((desk : ℕ) → Begins (journals desk) (longer desk)) → (event : Event)
    → IsTold given journals event → IsTold given longer event
IsTold-grows given journals longer grown (End number (Shown kind desk begin report) steps) told =
    let more = grown desk in
    subst (λ journal. IsAnswered (terms_of given desk) journal given.session number report begin) (sym more.1)
    (IsAnswered-grows (terms_of given desk) (journals desk) more.0 given.session number report begin told)
IsTold-grows given journals longer grown event told = search rules

pub all_told-grow : (given : Given) (journals longer : ℕ → List Entry) → ((desk : ℕ) → Begins (journals desk) (longer desk)) → (mine : List Entry)
    → All (λ entry. IsTold given journals entry.event) mine → All (λ entry. IsTold given longer entry.event) mine
all_told-grow given journals longer grown mine told =
    All-weaker (λ (entry : Entry). IsTold given journals entry.event) (λ entry. IsTold given longer entry.event)
    (λ entry is. IsTold-grows given journals longer grown entry.event is) mine told
