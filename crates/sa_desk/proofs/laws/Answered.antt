-- Each answer that waits to be taken comes from a Served entry.
use Rattle.std.proofs.Common.{◌≡◌, ℕ, ◌==◌, not, List, [], ◌∷◌, ◌++◌, All, refl, sym, ap, ◌∙◌, append_assoc}
use Rattle.std.proofs.lemmas.List.Elements.{All-nil, All-push, All-filter, All-weaker}
use Rattle.sa_count.specs.declared.report.Report.{Report}
use Rattle.sa_desk.specs.declared.entry.Entry.{Entry}
use Rattle.sa_desk.specs.declared.entry.Event.{Event}
use Rattle.sa_desk.specs.declared.entry.Event.TheVariants.{Served, Taken}
use Rattle.sa_desk.specs.declared.request.Reply.{Reply}
use Rattle.sa_desk.specs.State.{Terms, Phase, planned, serving, State, start}
use Rattle.sa_desk.specs.Comes.{ComesIn}
use Rattle.sa_desk.specs.After.{after_event, begin_of}
use Rattle.sa_desk.specs.Runs.{state_of, IsDeskRun}
use Rattle.sa_desk.specs.law.Answered.{IsAnswered}
use Rattle.sa_desk.proofs.laws.Along.{kept_with}
use Rattle.sa_desk.proofs.laws.On.{TellsIn, TellsIn-after}
use Rattle.sa_desk.proofs.laws.Talk.{AllStand, AllStand-start, AllStand-after}

-- It stays true of a longer journal.
pub IsAnswered-grows : (terms : Terms) (journal more : List Entry) (asker request : ℕ) (report : Report) (begin : ℕ)
    → IsAnswered terms journal asker request report begin → IsAnswered terms (journal ++ more) asker request report begin
IsAnswered-grows terms journal more asker request report begin is = record {
  before = is.before;
  answer = is.answer;
  rest = is.rest ++ more;
  parts = ap (λ entries. entries ++ more) is.parts ∙ append_assoc is.before (is.answer ∷ is.rest) more;
  serves = is.serves;
  number = is.number;
  on = is.on;
  under = is.under;
}

abbrev IsReplied : Terms → List Entry → Reply → Type 0
IsReplied terms journal reply = IsAnswered terms journal reply.asker reply.request reply.report reply.begin

all_grow : (terms : Terms) (before : List Entry) (entry : Entry) (replies : List Reply) → All (IsReplied terms before) replies → All (IsReplied terms (before ++ entry ∷ [])) replies
all_grow terms before entry replies all =
    All-weaker (IsReplied terms before) (IsReplied terms (before ++ entry ∷ []))
    (λ reply is. IsAnswered-grows terms before (entry ∷ []) reply.asker reply.request reply.report reply.begin is) replies all

module _ (terms : Terms) (before : List Entry) (entry : Entry) where
  -- the answer that an entry makes
  served_now : (state : State) (phase : Phase) (asker number : ℕ) (report : Report) → entry.event ≡ Served asker number report → ComesIn terms state entry phase (Served asker number report)
      → TellsIn terms before phase → IsAnswered terms (before ++ entry ∷ []) asker number report (begin_of phase)
  served_now state (planned statement execution) asker number report is comes tells = record {
    before = before;
    answer = entry;
    rest = [];
    parts = refl;
    serves = is;
    number = statement.number;
    on = tells.statement_is.on;
    under = sym tells.statement_is.begin;
  }
  served_now state (serving statement execution steps turn) asker number report is comes tells = record {
    before = before;
    answer = entry;
    rest = [];
    parts = refl;
    serves = is;
    number = statement.number;
    on = tells.statement_is.on;
    under = sym tells.statement_is.begin;
  }
  served_now state phase asker number report is comes tells = absurd comes

  replied_after : (state : State) (event : Event) → entry.event ≡ event → ComesIn terms state entry state.phase event → TellsIn terms before state.phase
      → All (IsReplied terms before) state.replies → All (IsReplied terms (before ++ entry ∷ [])) (after_event terms state entry event).replies
  replied_after state (Served asker number report) is comes tells all =
      All-push (IsReplied terms (before ++ entry ∷ [])) state.replies (record { asker = asker; request = number; report = report; begin = begin_of state.phase })
      (all_grow terms before entry state.replies all) (served_now state state.phase asker number report is comes tells)
  replied_after state (Taken number) is comes tells all =
      All-filter (λ reply. not (reply.asker == entry.actor)) (IsReplied terms (before ++ entry ∷ [])) state.replies (all_grow terms before entry state.replies all)
  replied_after state event is comes tells all = all_grow terms before entry state.replies all

pub replies_are_served : (terms : Terms) (journal : List Entry) → IsDeskRun terms journal → All (IsReplied terms journal) (state_of terms journal).replies
replies_are_served terms journal run =
    (kept_with terms (λ entries state. TellsIn terms entries state.phase × AllStand state × All (IsReplied terms entries) state.replies)
    (λ entries state entry comes both. (
      TellsIn-after terms entries state entry comes both.1 both.0,
      AllStand-after terms state entry comes both.1,
      replied_after terms entries entry state entry.event refl comes both.0 both.2,
    ))
    [] start journal run.runs (tt, AllStand-start, All-nil (IsReplied terms []))).2
