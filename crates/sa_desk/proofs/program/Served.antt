-- The Served entries of a run, over its turns.
use Rattle.std.proofs.Common.{◌≡◌, ℕ, ◌<◌, ◌≤◌, List, [], ◌∷◌, ◌++◌, arith}
use Rattle.std.proofs.lemmas.List.Elements.{All-append, All-cons, All-nil, All-weaker}
use Rattle.sa_count.specs.declared.report.Report.{Report}
use Rattle.sa_desk.specs.declared.entry.Entry.{Entry}
use Rattle.sa_desk.specs.declared.entry.Event.TheVariants.{Served}
use Rattle.sa_desk.specs.declared.request.Request.{Request}
use Rattle.sa_desk.specs.declared.stamp.Stamp.{Stamp}
use Rattle.sa_desk.specs.Contents.{Contents, entry_by, later}
use Rattle.sa_desk.specs.Serving.{served_with}
use Rattle.sa_desk.specs.program.Statement.{IsServing, AreServed}

-- What each of them is.
abbrev IsServedIn : (session b t : ℕ) → Entry → Type 0
IsServedIn session b t entry = (entry.desk ≡ session) × (b < entry.turn) × (entry.turn ≤ t) × IsServing entry.event

-- those of later turns too
pub AreServed-append : (session b t next : ℕ) (first last : List Entry) → t ≤ next → AreServed session b t first → AreServed session b next last → AreServed session b next (first ++ last)
AreServed-append session b t next first last rises served more =
    All-append (IsServedIn session b next) first last
    (All-weaker (IsServedIn session b t) (IsServedIn session b next) (λ entry is. (is.0, is.1, (let most = is.2 in omega arith), is.3)) first served) more

-- whoever is served in one turn
pub AreServed-with : (desk : Contents) (report : Report) (stamp : Stamp) (queue : List Request) (session b : ℕ) → desk.terms.desk ≡ session → b < stamp.turn
    → AreServed session b stamp.turn (served_with desk report stamp queue)
AreServed-with desk report stamp [] session b own after = All-nil (IsServedIn session b stamp.turn)
AreServed-with desk report stamp (request ∷ rest) session b own after =
    All-cons (IsServedIn session b stamp.turn) (entry_by desk stamp (Served request.asker request.request report)) (served_with desk report (later 1 stamp) rest)
    (own, after, omega arith, tt) (AreServed-with desk report (later 1 stamp) rest session b own after)
