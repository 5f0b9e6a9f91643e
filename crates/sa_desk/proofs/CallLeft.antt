-- What each call leaves at its desk.
use Rattle.std.proofs.Common.{◌≡◌, ◌≢◌, ℕ, ◌+◌, ◌-◌, ◌≤◌, ◌==◌, false, List, [], ◌∷◌, ◌++◌, length, slice_set, Some, None, Option, All, refl, sym, ap, ◌∙◌, arith, get_or-set_other, slice_index, map}
use Rattle.std.proofs.lemmas.Bool.{ne_eqb}
use Rattle.std.proofs.lemmas.List.Elements.{All-append, All-cons, All-nil}
use Rattle.sa_ast.specs.declared.kind.AskKind.{AskKind}
use Rattle.sa_meaning.specs.Progress.{Progress}
use Rattle.sa_count.specs.declared.report.Report.{Report}
use Rattle.sa_desk.specs.declared.entry.Entry.{Entry}
use Rattle.sa_desk.specs.declared.entry.Event.{Event}
use Rattle.sa_desk.specs.declared.entry.Event.TheVariants.{Served, Close}
use Rattle.sa_desk.specs.declared.request.Request.{Request}
use Rattle.sa_desk.specs.declared.outcome.Outcome.{Outcome}
use Rattle.sa_desk.specs.declared.answer.Polled.{Polled}
use Rattle.sa_desk.specs.declared.answer.Polled.TheVariants.{Taken, Spent, NotYet}
use Rattle.sa_desk.specs.declared.stamp.Caller.{Caller}
use Rattle.sa_desk.specs.declared.stamp.Stamp.{Stamp}
use Rattle.sa_desk.specs.State.{queue_of}
use Rattle.sa_desk.specs.Contents.{Contents, phase, IsSound, IsCaller, IsOwner, entry_by, later, with_entries}
use Rattle.sa_desk.specs.Serving.{served_with, served_entries, report_of}
use Rattle.sa_desk.specs.World.{Quiet, quiet_of, Leaves, next_stamp}
use Rattle.sa_desk.specs.Plain.{Plain, world_of}
use Rattle.sa_desk.specs.call.Ask.{ask_entries, after_ask}
use Rattle.sa_desk.specs.call.Begin.{begin_entries, after_begin}
use Rattle.sa_desk.specs.call.Close.{close_entries, after_close}
use Rattle.sa_desk.specs.call.End.{served_by, end_entry, end_entries, after_end}
use Rattle.sa_desk.specs.call.Point.{after_point}
use Rattle.sa_desk.specs.call.Poll.{count_poll, poll_events, polled, poll_entries, after_poll}
use Rattle.sa_desk.proofs.Numbered.{AreNumbered, AreNumbered-append}

-- The entries stand on the desk, and are the actor's, numbered in a row from the stamp's number on.
pub record AreStamped (desk : Contents) (stamp : Stamp) (entries : List Entry) : Type 0 where
  pub standing : All (λ entry. entry.desk ≡ desk.terms.desk) entries
  pub made : All (λ entry. entry.actor ≡ stamp.actor) entries
  pub numbered : AreNumbered stamp.seq entries

pub AreStamped-none : (desk : Contents) (stamp : Stamp) → AreStamped desk stamp []
AreStamped-none desk stamp = record {
  standing = All-nil (λ entry. entry.desk ≡ desk.terms.desk);
  made = All-nil (λ entry. entry.actor ≡ stamp.actor);
  numbered = refl;
}

pub AreStamped-one : (desk : Contents) (stamp : Stamp) (event : Event) → AreStamped desk stamp (entry_by desk stamp event ∷ [])
AreStamped-one desk stamp event = record {
  standing = All-cons (λ entry. entry.desk ≡ desk.terms.desk) (entry_by desk stamp event) [] refl (All-nil (λ entry. entry.desk ≡ desk.terms.desk));
  made = All-cons (λ entry. entry.actor ≡ stamp.actor) (entry_by desk stamp event) [] refl (All-nil (λ entry. entry.actor ≡ stamp.actor));
  numbered = refl;
}

pub AreStamped-append : (desk : Contents) (stamp : Stamp) (first last : List Entry) → AreStamped desk stamp first → AreStamped desk (later (length first) stamp) last → AreStamped desk stamp (first ++ last)
AreStamped-append desk stamp first last before next = record {
  standing = All-append (λ entry. entry.desk ≡ desk.terms.desk) first last before.standing next.standing;
  made = All-append (λ entry. entry.actor ≡ stamp.actor) first last before.made next.made;
  numbered = AreNumbered-append stamp.seq first last before.numbered next.numbered;
}

-- whoever is served
pub AreStamped-served : (desk : Contents) (report : Report) (stamp : Stamp) (queue : List Request) → AreStamped desk stamp (served_with desk report stamp queue)
AreStamped-served desk report stamp [] = AreStamped-none desk stamp
AreStamped-served desk report stamp (request ∷ rest) =
    AreStamped-append desk stamp (entry_by desk stamp (Served request.asker request.request report) ∷ []) (served_with desk report (later 1 stamp) rest)
    (AreStamped-one desk stamp (Served request.asker request.request report)) (AreStamped-served desk report (later 1 stamp) rest)

pub AreStamped-served_by : (desk : Contents) (stamp : Stamp) (run : Option Progress) → AreStamped desk stamp (served_by desk stamp run)
AreStamped-served_by desk stamp None = AreStamped-none desk stamp
AreStamped-served_by desk stamp (Some run) = AreStamped-served desk (report_of run) stamp (queue_of (phase desk))

-- a poll
pub AreStamped-polled : (desk : Contents) (stamp : Stamp) (answer : Polled) (number : ℕ) → AreStamped desk stamp (map (entry_by desk stamp) (poll_events answer number))
AreStamped-polled desk stamp (Taken report begin) number = AreStamped-one desk stamp _
AreStamped-polled desk stamp (Spent turns) number = AreStamped-one desk stamp _
AreStamped-polled desk stamp NotYet number = AreStamped-none desk stamp

-- A session's polls at a desk are no other session's.
pub quiet-polls : (desk : Contents) (entries : List Entry) (session other count : ℕ) → 1 ≤ session → 1 ≤ other → other ≢ session
    → let next : Contents = record (with_entries entries desk) { polls = slice_set desk.polls (session - 1) count } in quiet_of next other ≡ quiet_of desk other
quiet-polls desk entries session other count least from apart =
    let same = get_or-set_other desk.polls (session - 1) (other - 1) count 0 (λ is. apart (omega arith)) in
    ap (λ polls. let quiet : Quiet = record (quiet_of desk other) { polls = polls } in quiet) same

pub quiet-counted : (desk : Contents) (entries : List Entry) (answer : Polled) (session other : ℕ) → 1 ≤ session → 1 ≤ other → other ≢ session
    → let next : Contents = record (with_entries entries desk) { polls = count_poll answer (session - 1) desk.polls } in quiet_of next other ≡ quiet_of desk other
quiet-counted desk entries (Taken report begin) session other least from apart = refl
quiet-counted desk entries (Spent turns) session other least from apart = refl
quiet-counted desk entries NotYet session other least from apart = quiet-polls desk entries session other (slice_index desk.polls (session - 1) + 1) least from apart

-- The steps that the desk's own session publishes are its own.
pub quiet-published : (desk : Contents) (entries : List Entry) (session other steps : ℕ) → session ≡ desk.terms.desk → other ≢ session
    → let next : Contents = record (with_entries entries desk) { published = steps } in quiet_of next other ≡ quiet_of desk other
quiet-published desk entries session other steps own apart =
    let others : (other == desk.terms.desk) ≡ false = ne_eqb other desk.terms.desk (λ is. apart (is ∙ sym own)) in
    rw others refl

-- A call whose entries bear the stamp, and which changes nothing else of the others, leaves what it has to.
pub Leaves-stamped : (desk : Contents) (stamp : Stamp) (entries : List Entry) (next : Contents) → IsSound next → next.terms ≡ desk.terms → next.shares ≡ desk.shares
    → next.journal ≡ desk.journal ++ entries → AreStamped desk stamp entries → ((other : ℕ) → 1 ≤ other → other ≢ stamp.actor → quiet_of next other ≡ quiet_of desk other)
    → Leaves desk next stamp.actor stamp.seq entries
Leaves-stamped desk stamp entries next sound terms shares grown stamped quiet = record {
  sound = sound;
  terms = terms;
  shares = shares;
  grown = grown;
  standing = stamped.standing;
  own = stamped.made;
  numbered = stamped.numbered;
  quiet = quiet;
}

-- the stamp of the call's first entry
abbrev pub stamp_of : Plain → Caller → Stamp
stamp_of plain me = next_stamp (world_of plain) me

module _ (desk : Contents) (stamp : Stamp) where
  pub begin-left : (event : Event) (number : ℕ) → IsSound (after_begin desk stamp event number)
      → Leaves desk (after_begin desk stamp event number) stamp.actor stamp.seq (begin_entries desk stamp event number)
  begin-left event number sound = Leaves-stamped desk stamp _ _ sound refl refl refl (AreStamped-one desk stamp _) (λ other least apart. refl)

  pub close-left : IsSound (after_close desk stamp) → Leaves desk (after_close desk stamp) stamp.actor stamp.seq (close_entries desk stamp)
  close-left sound = Leaves-stamped desk stamp _ _ sound refl refl refl (AreStamped-one desk stamp Close) (λ other least apart. refl)

  pub ask-left : IsCaller desk stamp → (number : ℕ) (kind : AskKind) (budget : ℕ) → IsSound (after_ask desk stamp number kind budget)
      → Leaves desk (after_ask desk stamp number kind budget) stamp.actor stamp.seq (ask_entries desk stamp number kind budget)
  ask-left caller number kind budget sound =
      Leaves-stamped desk stamp _ _ sound refl refl refl (AreStamped-one desk stamp _)
      (λ other least apart. quiet-polls desk (ask_entries desk stamp number kind budget) stamp.actor other 0 caller.least least apart)

  pub poll-left : IsCaller desk stamp → (number : ℕ) → IsSound (after_poll desk stamp number) → Leaves desk (after_poll desk stamp number) stamp.actor stamp.seq (poll_entries desk stamp number)
  poll-left caller number sound =
      let answer = polled desk stamp number in
      Leaves-stamped desk stamp _ _ sound refl refl refl (AreStamped-polled desk stamp answer number)
      (λ other least apart. quiet-counted desk (poll_entries desk stamp number) answer stamp.actor other caller.least least apart)

  pub point-left : IsOwner desk stamp → (run : Progress) → IsSound (after_point desk stamp run) → Leaves desk (after_point desk stamp run) stamp.actor stamp.seq (served_entries desk stamp run)
  point-left own run sound =
      Leaves-stamped desk stamp _ _ sound refl refl refl (AreStamped-served desk (report_of run) stamp (queue_of (phase desk)))
      (λ other least apart. quiet-published desk (served_entries desk stamp run) stamp.actor other run.steps own apart)

  pub end-left : IsOwner desk stamp → (number : ℕ) (run : Option Progress) (given : Outcome) → IsSound (after_end desk stamp number run given)
      → Leaves desk (after_end desk stamp number run given) stamp.actor stamp.seq (end_entries desk stamp number run given)
  end-left own number run given sound =
      Leaves-stamped desk stamp _ _ sound refl refl refl
      (AreStamped-append desk stamp (served_by desk stamp run) (end_entry desk stamp number run given ∷ [])
      (AreStamped-served_by desk stamp run) (AreStamped-one desk (later (length (served_by desk stamp run)) stamp) _))
      (λ other least apart. quiet-published desk (end_entries desk stamp number run given) stamp.actor other 0 own apart)
