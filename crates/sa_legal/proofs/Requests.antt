-- A session's requests at a desk are those of its statements, one after another.
use Rattle.std.proofs.Common.{◌≡◌, ℕ, ◌+◌, ◌<◌, ◌≤◌, List, [], ◌∷◌, ◌++◌, length, append-nil, ◌==◌, None, refl, sym, subst, ap, ◌∙◌, arith}
use Rattle.sa_desk.specs.declared.entry.Entry.{Entry}
use Rattle.sa_desk.specs.declared.entry.Event.{Event}
use Rattle.sa_desk.specs.declared.entry.Event.TheVariants.{Gone}
use Rattle.sa_desk.specs.Legal.{Sessions, given_of, journal_at, HasProgram, IsLegal}
use Rattle.sa_desk.specs.law.Talk.{nothing_open, IsTalk}
use Rattle.sa_desk.specs.program.Course.{Given, Answer, Settings, settings_after, at_first}
use Rattle.sa_desk.specs.program.Prepares.{Answers}
use Rattle.sa_desk.specs.program.Statement.{Statements}
use Rattle.sa_desk.specs.program.SoFar.{terms_of, IsGone, Tail, closed}
use Rattle.sa_desk.proofs.laws.Talk.{requests_in_turn}
use Rattle.sa_legal.specs.Requests.{Note, refuses, queues, takes, leaves, notes_of, AreRequests}
use Rattle.sa_legal.proofs.Talks.{own_note, own_notes, own_in, AreOwn, joined, words_noted, own_is_made}
use Rattle.sa_legal.proofs.Asks.{IsOneRequest, notes_at, notes_standing, notes_append, silent, statement_one}

later : (last next : ℕ) (notes : List Note) → last ≤ next → AreOwn next notes → AreOwn last notes
later last next [] rises own = tt
later last next (refuses request ∷ rest) rises own = ((let most = own.0 in omega arith), own.1)
later last next (queues request ∷ takes taken ∷ rest) rises own = ((let most = own.0 in omega arith), own.1, own.2)
later last next (queues request ∷ leaves gone ∷ rest) rises own = ((let most = own.0 in omega arith), own.1, own.2)
later last next notes rises own = absurd own

-- One request, and those of later statements.
one_more : (last number : ℕ) (first rest : List Note) → last < number → IsOneRequest number first → AreOwn number rest → AreOwn last (first ++ rest)
one_more last number [] rest rises one own = later last number rest (omega arith) own
one_more last number (refuses request ∷ []) rest rises one own = ((let is = one in omega arith), subst (λ n. AreOwn n rest) (sym one) own)
one_more last number (queues request ∷ takes taken ∷ []) rest rises one own =
    ((let is = one.0 in omega arith), one.1 ∙ sym one.0, subst (λ n. AreOwn n rest) (sym one.0) own)
one_more last number (queues request ∷ leaves gone ∷ []) rest rises one own =
    ((let is = one.0 in omega arith), one.1 ∙ sym one.0, subst (λ n. AreOwn n rest) (sym one.0) own)
one_more last number first rest rises one own = absurd one

statements_own : (given : Given) (desk : ℕ) (settings : Settings) (number turn : ℕ) (taken : List (List ℕ)) (answers : List Answer) (entries : List Entry) (left : Settings) (next end : ℕ) (before : ℕ)
    → before < number → Statements given settings number turn taken answers entries left next end → AreOwn before (notes_at desk entries)
statements_own given desk settings number turn [] [] entries left next end before rises row = subst (λ xs. AreOwn before (notes_at desk xs)) (sym row.0) tt
statements_own given desk settings number turn [] (answer ∷ answers) entries left next end before rises row = absurd row
statements_own given desk settings number turn (text ∷ taken) [] entries left next end before rises row = absurd row
statements_own given desk settings number turn (text ∷ taken) (answer ∷ answers) entries left next end before rises row =
    let one = statement_one given settings number (turn + 1) text answer row.0 row.2 row.3 desk row.5 in
    let rest = statements_own given desk (settings_after settings answer row.3) (number + 1) row.2 taken answers row.1 left next end number (omega arith) row.6 in
    subst (AreOwn before) (sym (ap (notes_at desk) row.4 ∙ notes_append desk row.0 row.1))
    (one_more before number (notes_at desk row.0) (notes_at desk row.1) rises one rest)

gone_silent : (number : ℕ) (event : Event) → IsGone number event → own_note event ≡ None
gone_silent number (Gone own) is = refl
gone_silent number event is = absurd is

tail_silent : (given : Given) (settings : Settings) (number last : ℕ) (texts : List (List ℕ)) (tail : List Entry) (t desk : ℕ)
    → Tail given settings number last texts closed tail t → notes_at desk tail ≡ []
tail_silent given settings number last texts (entry ∷ []) t desk is =
    silent (entry.desk == desk) entry.event [] (ap own_note is.3)
tail_silent given settings number last texts (entry ∷ close ∷ []) t desk is =
    silent (entry.desk == desk) entry.event (notes_at desk (close ∷ [])) (gone_silent number entry.event is.3)
    ∙ silent (close.desk == desk) close.event [] (ap own_note is.5)
tail_silent given settings number last texts tail t desk is = absurd is

program_own : (gives : Answers) (sessions : Sessions) (journals : List (List Entry)) (session desk : ℕ) → (has : HasProgram gives sessions journals session) → AreOwn 0 (notes_at desk has.mine)
program_own gives sessions journals session desk has =
    let given : Given = given_of sessions session in
    let so_far = has.program.1 in
    let done = statements_own given desk at_first 1 0 so_far.taken has.answers so_far.done so_far.settings so_far.number so_far.last 0 (omega arith) so_far.ended in
    let tail = tail_silent given so_far.settings so_far.number so_far.last so_far.texts so_far.tail has.program.0 desk so_far.tail_is in
    subst (AreOwn 0)
    (sym (ap (notes_at desk) so_far.parts ∙ notes_append desk so_far.done so_far.tail ∙ ap (λ rest. notes_at desk so_far.done ++ rest) tail ∙ append-nil (notes_at desk so_far.done)))
    done

pub requests_answered : (gives : Answers) (sessions : Sessions) (journals : List (List Entry)) → IsLegal gives sessions journals
    → (desk : ℕ) → 1 ≤ desk → desk ≤ length journals → (session : ℕ) → 1 ≤ session → session ≤ length sessions.texts
    → AreRequests 0 (notes_of session (journal_at journals desk))
requests_answered gives sessions journals legal desk least most session from upto =
    let journal : List Entry = journal_at journals desk in
    let has = legal.programs session from upto in
    let own_is : own_in (notes_of session journal) ≡ notes_at desk has.mine =
    own_is_made session journal ∙ ap own_notes (has.made.standing desk least most) ∙ notes_standing desk has.mine in
    joined 0 (notes_of session journal)
    (subst (AreOwn 0) (sym own_is) (program_own gives sessions journals session desk has))
    (subst (IsTalk nothing_open) (sym (words_noted session journal)) (requests_in_turn (terms_of (given_of sessions desk) desk) journal session (legal.desks desk least most)))
