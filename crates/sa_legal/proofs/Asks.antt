-- What a whole statement notes at a desk: one request at most, of its own number, which is refused or ends.
use Rattle.std.proofs.Common.{◌≡◌, ℕ, ◌==◌, Bool, true, false, if◌then◌else◌, List, [], ◌∷◌, ◌++◌, All, Option, Some, None, slice_index_or, append-nil, refl, sym, subst, ap, ◌∙◌}
use Rattle.std.specs.Prelude.{⊤}
use Rattle.std.specs.List.{cons_option}
use Rattle.std.proofs.lemmas.List.Elements.{All-head, All-tail}
use Rattle.sa_ast.specs.declared.kind.AskKind.{AskKind}
use Rattle.sa_ast.specs.declared.kind.KillKind.{KillKind}
use Rattle.sa_desk.specs.declared.entry.Entry.{Entry}
use Rattle.sa_desk.specs.declared.entry.Event.{Event}
use Rattle.sa_desk.specs.declared.entry.Event.TheVariants.{Begin, Queued, Refused, Served, Taken, Spent, Withdrawn, KillSent, Waited, WaitSpent, End}
use Rattle.sa_desk.specs.declared.entry.RefusedWhy.TheVariants as why
use Rattle.sa_desk.specs.declared.outcome.Outcome.{Outcome}
use Rattle.sa_desk.specs.World.{standing_on}
use Rattle.sa_desk.specs.program.Course.{Given, Answer, text_of, Settings, Course, says, shows, waits, kills, runs, course_of}
use Rattle.sa_desk.specs.program.Between.{Due, goes_on, ends, Leaves, AfterQueued, AfterAsk, Sees, Hits, Between}
use Rattle.sa_desk.specs.program.Statement.{BeginsAs, IsServing, EndsAs, IsStatement}
use Rattle.sa_legal.specs.Requests.{Note, refuses, queues, takes, leaves}
use Rattle.sa_legal.proofs.Talks.{own_note, own_notes}

-- what an entry notes, where it stands here
abbrev pub note_here : Bool → Event → Option Note
note_here true event = own_note event
note_here false event = None

-- what a session's entries note at a desk
abbrev pub notes_at : ℕ → List Entry → List Note
notes_at desk [] = []
notes_at desk (entry ∷ rest) = cons_option (note_here (entry.desk == desk) entry.event) (notes_at desk rest)

kept_here : (here : Bool) (entry : Entry) (rest : List Entry) (notes : List Note) → own_notes rest ≡ notes
    → own_notes (if here then entry ∷ rest else rest) ≡ cons_option (note_here here entry.event) notes
kept_here true entry rest notes same = ap (cons_option (own_note entry.event)) same
kept_here false entry rest notes same = same

pub notes_standing : (desk : ℕ) (entries : List Entry) → own_notes (standing_on desk entries) ≡ notes_at desk entries
notes_standing desk [] = refl
notes_standing desk (entry ∷ rest) = kept_here (entry.desk == desk) entry (standing_on desk rest) (notes_at desk rest) (notes_standing desk rest)

more_of : (note : Option Note) (first last whole : List Note) → whole ≡ first ++ last → cons_option note whole ≡ cons_option note first ++ last
more_of (Some note) first last whole same = ap (λ rest. note ∷ rest) same
more_of None first last whole same = same

pub notes_append : (desk : ℕ) (first last : List Entry) → notes_at desk (first ++ last) ≡ notes_at desk first ++ notes_at desk last
notes_append desk [] last = refl
notes_append desk (entry ∷ rest) last =
    more_of (note_here (entry.desk == desk) entry.event) (notes_at desk rest) (notes_at desk last) (notes_at desk (rest ++ last)) (notes_append desk rest last)

-- no request, or one of this number
abbrev pub IsOneRequest : ℕ → List Note → Type 0
IsOneRequest number [] = ⊤
IsOneRequest number (refuses request ∷ []) = request ≡ number
IsOneRequest number (queues request ∷ takes taken ∷ []) = (request ≡ number) × (taken ≡ number)
IsOneRequest number (queues request ∷ leaves gone ∷ []) = (request ≡ number) × (gone ≡ number)
IsOneRequest number notes = ⊥

-- What notes nothing of a request adds nothing.
pub silent : (here : Bool) (event : Event) (notes : List Note) → own_note event ≡ None → cons_option (note_here here event) notes ≡ notes
silent true event notes none = ap (λ note. cons_option note notes) none
silent false event notes none = refl

all_silent : (desk : ℕ) (entries : List Entry) → All (λ entry. own_note entry.event ≡ None) entries → notes_at desk entries ≡ []
all_silent desk [] all = refl
all_silent desk (entry ∷ rest) all =
    silent (entry.desk == desk) entry.event (notes_at desk rest) (All-head (λ entry. own_note entry.event ≡ None) entry rest all)
    ∙ all_silent desk rest (All-tail (λ entry. own_note entry.event ≡ None) entry rest all)

module _ (given : Given) (number b : ℕ) where
  -- the entry that ends a request, behind the one that queued it
  leaves_one : (here : Bool) (kind : AskKind) (i t request : ℕ) (event : Event) (due : Due) → request ≡ number → Leaves given number b kind i t event due
      → IsOneRequest number (cons_option (if here then Some (queues request) else None) (cons_option (note_here here event) []))
  leaves_one true kind i t request (Taken taken) due own is = (own, is.0)
  leaves_one true kind i t request (Spent gone turns) due own is = (own, is.0)
  leaves_one true kind i t request (Withdrawn gone) due own is = (own, is.0)
  leaves_one false kind i t request (Taken taken) due own is = tt
  leaves_one false kind i t request (Spent gone turns) due own is = tt
  leaves_one false kind i t request (Withdrawn gone) due own is = tt
  leaves_one here kind i t request event due own is = absurd is

  queued_one : (desk : ℕ) (here : Bool) (kind : AskKind) (i : ℕ) (request : ℕ) (entries : List Entry) (t : ℕ) (result : Outcome) → (i == desk) ≡ here → request ≡ number
      → AfterQueued given number b kind i entries t (ends result)
      → IsOneRequest number (cons_option (if here then Some (queues request) else None) (notes_at desk entries))
  queued_one desk here kind i request [] t result stands own is = let never : ends result ≡ goes_on = is.2 in absurd (cc never)
  queued_one desk here kind i request (last ∷ []) t result stands own is =
      let also : (last.desk == desk) ≡ here = ap (λ x. x == desk) is.0 ∙ stands in
      subst (λ its. IsOneRequest number (cons_option (if here then Some (queues request) else None) (cons_option (note_here its last.event) []))) (sym also)
      (leaves_one here kind i t request last.event (ends result) own is.2)
  queued_one desk here kind i request (last ∷ more ∷ rest) t result stands own is = absurd is

  asked_one : (desk : ℕ) (here : Bool) (kind : AskKind) (i : ℕ) (event : Event) (entries : List Entry) (t : ℕ) (result : Outcome) → (i == desk) ≡ here
      → AfterAsk given number b kind i event entries t (ends result)
      → IsOneRequest number (cons_option (note_here here event) (notes_at desk entries))
  asked_one desk true kind i (Refused request reason) [] t result stands is = is.0
  asked_one desk false kind i (Refused request reason) [] t result stands is = tt
  asked_one desk true kind i (Queued request asked at budget) entries t result stands is = queued_one desk true kind i request entries t result stands is.0 is.3
  asked_one desk false kind i (Queued request asked at budget) entries t result stands is = queued_one desk false kind i request entries t result stands is.0 is.3
  asked_one desk here kind i event entries t result stands is = absurd is

  sees_one : (here : Bool) (i at t : ℕ) (event : Event) (due : Due) → Sees given number b i at t event due → IsOneRequest number (cons_option (note_here here event) [])
  sees_one true i at t (Refused waiter why.NoSuchThread) due is = is.0
  sees_one false i at t (Refused waiter why.NoSuchThread) due is = tt
  sees_one here i at t (Refused waiter why.NotExplainable) due is = absurd is
  sees_one true i at t (Waited waiter steps) due is = tt
  sees_one false i at t (Waited waiter steps) due is = tt
  sees_one true i at t (WaitSpent waiter steps turns) due is = tt
  sees_one false i at t (WaitSpent waiter steps turns) due is = tt
  sees_one here i at t event due is = absurd is

  hits_one : (here : Bool) (kind : KillKind) (event : Event) (due : Due) → Hits given number b kind event due → IsOneRequest number (cons_option (note_here here event) [])
  hits_one true kind (KillSent killer sent) due is = tt
  hits_one false kind (KillSent killer sent) due is = tt
  hits_one true kind (Refused killer why.NoSuchThread) due is = is.0
  hits_one false kind (Refused killer why.NoSuchThread) due is = tt
  hits_one here kind (Refused killer why.NotExplainable) due is = absurd is
  hits_one here kind event due is = absurd is

  between_one : (desk : ℕ) (course : Course) (entries : List Entry) (t : ℕ) (result : Outcome) → Between given number b course entries t (ends result) → IsOneRequest number (notes_at desk entries)
  between_one desk (says said) [] t result is = tt
  between_one desk (shows kind i) [] t result is = tt
  between_one desk (shows kind i) (first ∷ entries) t result is =
      asked_one desk (first.desk == desk) kind i first.event entries t result (ap (λ x. x == desk) (sym is.0)) is.2
  between_one desk (waits i at) [] t result is = tt
  between_one desk (waits i at) (only ∷ []) t result is = sees_one (only.desk == desk) i at t only.event (ends result) is.2
  between_one desk (kills kind i) [] t result is = tt
  between_one desk (kills kind i) (only ∷ []) t result is = hits_one (only.desk == desk) kind only.event (ends result) is.3
  between_one desk course entries t result is = absurd is

serving_silent : (event : Event) → IsServing event → own_note event ≡ None
serving_silent (Served asker request report) is = refl
serving_silent event is = absurd is

middle_one : (given : Given) (limit number b t : ℕ) (desk : ℕ) (course : Course) (between : List Entry) (turn : ℕ) (event : Event) (shown : Outcome)
    → EndsAs given limit number b t course between turn event shown → IsOneRequest number (notes_at desk between)
middle_one given limit number b t desk (runs analyze planned) between turn (End own result steps) shown is =
    let none : notes_at desk between ≡ [] =
    all_silent desk between (λ k d within. serving_silent (slice_index_or between k d).event (is.2 k d within).3) in
    subst (IsOneRequest number) (sym none) tt
middle_one given limit number b t desk (says said) between turn (End own result steps) shown is = between_one given number b desk (says said) between t is.4 is.5
middle_one given limit number b t desk (shows kind i) between turn (End own result steps) shown is = between_one given number b desk (shows kind i) between t is.4 is.5
middle_one given limit number b t desk (waits i at) between turn (End own result steps) shown is = between_one given number b desk (waits i at) between t is.4 is.5
middle_one given limit number b t desk (kills kind i) between turn (End own result steps) shown is = between_one given number b desk (kills kind i) between t is.4 is.5
middle_one given limit number b t desk course between turn event shown is = absurd is

begin_silent : (given : Given) (course : Course) (number : ℕ) (text : List ℕ) (event : Event) → BeginsAs given course number text event → own_note event ≡ None
begin_silent given (runs analyze planned) number text (Begin own said version plan tables) is = refl
begin_silent given course number text (Begin own said version plan tables) is = refl
begin_silent given course number text event is = absurd is

end_silent : (given : Given) (limit number b t : ℕ) (course : Course) (between : List Entry) (turn : ℕ) (event : Event) (shown : Outcome)
    → EndsAs given limit number b t course between turn event shown → own_note event ≡ None
end_silent given limit number b t (runs analyze planned) between turn (End own result steps) shown is = refl
end_silent given limit number b t course between turn (End own result steps) shown is = refl
end_silent given limit number b t course between turn event shown is = absurd is

pub statement_one : (given : Given) (settings : Settings) (number b : ℕ) (source : List ℕ) (answer : Answer) (entries : List Entry) (last : ℕ) (result : Outcome) (desk : ℕ)
    → IsStatement given settings number b source answer entries last result → IsOneRequest number (notes_at desk entries)
statement_one given settings number b source answer entries last result desk is =
    let course : Course = course_of given settings answer in
    let begins = begin_silent given course number (text_of source answer) is.begin.event is.begins in
    let ends = end_silent given settings.limit number b is.before course is.between last is.end.event result is.ends_so in
    let whole : notes_at desk entries ≡ notes_at desk is.between =
    ap (notes_at desk) is.parts
    ∙ silent (is.begin.desk == desk) is.begin.event (notes_at desk (is.between ++ is.end ∷ [])) begins
    ∙ notes_append desk is.between (is.end ∷ [])
    ∙ ap (λ rest. notes_at desk is.between ++ rest) (silent (is.end.desk == desk) is.end.event [] ends)
    ∙ append-nil (notes_at desk is.between) in
    subst (IsOneRequest number) (sym whole) (middle_one given settings.limit number b is.before desk course is.between last is.end.event result is.ends_so)
