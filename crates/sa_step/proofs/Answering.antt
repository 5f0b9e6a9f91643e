-- Each answer that isn't taken has its entry, which came after a number of the asker's turns.
use Rattle.std.proofs.Common.{◌≡◌, ◌≢◌, ℕ, not, ◌==◌, ◌<◌, ◌≤◌, List, [], ◌∷◌, ◌++◌, All, Any, refl, sym, subst, ap, ◌∙◌, arith, append_assoc, append-nil}
use Rattle.std.proofs.lemmas.List.Elements.{All-head, All-tail, All-push, All-weaker, All-filter}
use Rattle.std.proofs.lemmas.List.Quantifiers.{Any-push}
use Rattle.sa_count.specs.declared.report.Report.{Report}
use Rattle.sa_desk.specs.declared.entry.Entry.{Entry}
use Rattle.sa_desk.specs.declared.entry.Event.{Event}
use Rattle.sa_desk.specs.declared.entry.Event.TheVariants.{Begin, Queued, Refused, Served, Taken, Spent, Withdrawn, KillSent, Waited, WaitSpent, End, Gone, Close}
use Rattle.sa_desk.specs.declared.request.Reply.{Reply}
use Rattle.sa_desk.specs.State.{Terms, State}
use Rattle.sa_desk.specs.After.{after, after_event}
use Rattle.sa_desk.specs.Runs.{state_after}
use Rattle.sa_step.specs.Schedule.{IsAnswer, slot_of}
use Rattle.sa_step.specs.inner.Timely.{IsLateFor, AreLateFor}
use Rattle.sa_step.proofs.Waiting.{Any-more, Any-weaker}

-- The asker has no answer here.
abbrev pub HasNoReply : ℕ → List Reply → Type 0
HasNoReply asker replies = All (λ reply. reply.asker ≢ asker) replies

module _ (slot : (session turn : ℕ) → ℕ) (asker : ℕ) where
  pub none_late : (turns : ℕ) (replies : List Reply) (journal : List Entry) → HasNoReply asker replies → AreLateFor slot asker turns replies journal
  none_late turns replies journal none =
      All-weaker (λ reply. reply.asker ≢ asker) (λ reply. reply.asker ≡ asker → Any (IsLateFor slot asker turns reply.request) journal) (λ reply apart is. absurd (apart is)) replies none

  -- So they came after fewer turns, too.
  pub fewer_late : (turns least : ℕ) (replies : List Reply) (journal : List Entry) → least ≤ turns → AreLateFor slot asker turns replies journal → AreLateFor slot asker least replies journal
  fewer_late turns least replies journal less late =
      All-weaker (λ reply. reply.asker ≡ asker → Any (IsLateFor slot asker turns reply.request) journal) (λ reply. reply.asker ≡ asker → Any (IsLateFor slot asker least reply.request) journal)
      (λ reply some is. Any-weaker (IsLateFor slot asker turns reply.request) (IsLateFor slot asker least reply.request)
      (λ was one. (one.0, λ turn low high. one.1 turn low (omega (arith, high, less)))) journal (some is)) replies late

  module _ (terms : Terms) (turns : ℕ) where
    -- Where an entry answers the asker, it comes after those turns.
    abbrev pub ComesLate : Entry → Type 0
    ComesLate entry = (number : ℕ) (report : Report) → entry.event ≡ Served asker number report → (turn : ℕ) → 1 ≤ turn → turn ≤ turns → slot asker turn < slot_of slot entry

    module _ (journal : List Entry) (entry : Entry) (late : ComesLate entry) where
      abbrev longer : List Entry
      longer = journal ++ entry ∷ []

      still_late : (replies : List Reply) → AreLateFor slot asker turns replies journal → AreLateFor slot asker turns replies longer
      still_late replies all =
          All-weaker (λ reply. reply.asker ≡ asker → Any (IsLateFor slot asker turns reply.request) journal) (λ reply. reply.asker ≡ asker → Any (IsLateFor slot asker turns reply.request) longer)
          (λ reply some is. Any-more (IsLateFor slot asker turns reply.request) journal (entry ∷ []) (some is)) replies all

      late_now : (to number : ℕ) (report : Report) → entry.event ≡ Served to number report → to ≡ asker → IsLateFor slot asker turns number entry
      late_now to number report is same =
          (subst (IsAnswer asker number) (sym is) (same, refl), late number report (is ∙ ap (λ to. Served to number report) same))

      late_after : (state : State) (event : Event) → entry.event ≡ event → AreLateFor slot asker turns state.replies journal → AreLateFor slot asker turns (after_event terms state entry event).replies longer
      late_after state (Served to number report) is all =
          All-push (λ reply. reply.asker ≡ asker → Any (IsLateFor slot asker turns reply.request) longer) state.replies _ (still_late state.replies all)
          (λ same. Any-push (IsLateFor slot asker turns number) journal entry (late_now to number report is same))
      late_after state (Taken number) is all =
          All-filter (λ reply. not (reply.asker == entry.actor)) (λ reply. reply.asker ≡ asker → Any (IsLateFor slot asker turns reply.request) longer) state.replies (still_late state.replies all)
      late_after state (Begin number text version plan tables) is all = still_late state.replies all
      late_after state (Queued number kind at budget) is all = still_late state.replies all
      late_after state (Refused number why) is all = still_late state.replies all
      late_after state (Spent number turns) is all = still_late state.replies all
      late_after state (Withdrawn number) is all = still_late state.replies all
      late_after state (KillSent number kind) is all = still_late state.replies all
      late_after state (Waited number steps) is all = still_late state.replies all
      late_after state (WaitSpent number steps turns) is all = still_late state.replies all
      late_after state (End number outcome steps) is all = still_late state.replies all
      late_after state (Gone number) is all = still_late state.replies all
      late_after state Close is all = still_late state.replies all

    -- All along the entries of a call.
    pub late_along : (state : State) (journal entries : List Entry) → All ComesLate entries → AreLateFor slot asker turns state.replies journal
        → AreLateFor slot asker turns (state_after terms state entries).replies (journal ++ entries)
    late_along state journal [] late all = subst (AreLateFor slot asker turns state.replies) (sym (append-nil journal)) all
    late_along state journal (entry ∷ rest) late all =
        subst (AreLateFor slot asker turns (state_after terms (after terms state entry) rest).replies) (append_assoc journal (entry ∷ []) rest)
        (late_along (after terms state entry) (journal ++ entry ∷ []) rest (All-tail ComesLate entry rest late)
        (late_after journal entry (All-head ComesLate entry rest late) state entry.event refl all))
