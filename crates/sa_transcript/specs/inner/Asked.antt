-- The events of requests, and those of a session's own statements, but for their ends.
use Rattle.std.specs.Prelude.{⊤}
use Rattle.sa_desk.specs.declared.entry.Event.{Event}
use Rattle.sa_desk.specs.declared.entry.Event.TheVariants.{Begin, Queued, Refused, Served, Taken, Spent, Withdrawn, KillSent, Waited, WaitSpent, Gone, Close}

-- A request is queued, refused, answered, taken, spent or withdrawn; a KILL is refused as a request is.
abbrev pub IsOfRequest : Event → Type 0
IsOfRequest (Queued statement kind at budget) = ⊤
IsOfRequest (Refused statement why) = ⊤
IsOfRequest (Served asker request report) = ⊤
IsOfRequest (Taken statement) = ⊤
IsOfRequest (Spent statement turns) = ⊤
IsOfRequest (Withdrawn statement) = ⊤
IsOfRequest happened = ⊥

-- A statement begins, kills, waits, or never comes; or the session is done.
abbrev pub IsOfSession : Event → Type 0
IsOfSession (Begin statement text version plan tables) = ⊤
IsOfSession (KillSent statement kind) = ⊤
IsOfSession (Waited statement steps) = ⊤
IsOfSession (WaitSpent statement steps turns) = ⊤
IsOfSession (Gone statement) = ⊤
IsOfSession Close = ⊤
IsOfSession happened = ⊥
