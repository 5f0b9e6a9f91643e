-- A desk's journal has room for the entries of a call.
use Rattle.std.proofs.Common.{◌+◌, ◌<◌, ◌≤◌, List, [], ◌∷◌, ◌++◌, length, length-append, ap, vec_len, vec_capacity, arith}
use Rattle.sa_desk.specs.declared.desk.Desk.TheInside.{Inside}
use Rattle.sa_desk.specs.declared.entry.Entry.{Entry}
use Rattle.sa_desk.specs.inner.Desk.{contents_of, IsReady}
use Rattle.sa_desk.proofs.Capacity.{journal_fits}
use Rattle.sa_desk.proofs.Seats.{requests_fit}
use Rattle.sa_desk.proofs.Grown.{IsJournal}

-- all of them fit
pub entries_fit : (desk : Inside) (entries : List Entry) → IsReady desk → IsJournal (contents_of desk).terms desk.shares.items (desk.journal.items ++ entries)
    → vec_len desk.journal + length entries ≤ vec_capacity desk.journal
entries_fit desk entries ready grown =
    let fits = journal_fits (contents_of desk).terms desk.shares.items (desk.journal.items ++ entries) grown.run grown.entries grown.charges in
    omega (arith, fits, length-append desk.journal.items entries, desk.journal.ok.0, ready.room)

-- one of them fits
pub entry_fits : (desk : Inside) (entry : Entry) → IsReady desk → IsJournal (contents_of desk).terms desk.shares.items (desk.journal.items ++ entry ∷ [])
    → vec_len desk.journal < vec_capacity desk.journal
entry_fits desk entry ready grown = omega (arith, entries_fit desk (entry ∷ []) ready grown)

-- There is room for an answer to each request that waits.
pub answers_fit : (desk : Inside) → IsReady desk → length desk.replies.items + length desk.queue.items ≤ 16
answers_fit desk ready = omega (arith, requests_fit (contents_of desk) ready.sound, ap length ready.queue, ap length ready.replies, ready.sound.sessions)
