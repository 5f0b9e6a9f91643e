-- Which entries a session makes for one statement, and for statements one after another.
use Rattle.std.specs.Prelude.{◌≡◌, ℕ, ◌+◌, ◌<◌, ◌≤◌, ◌⊎◌, ⊤, List, [], ◌∷◌, ◌++◌, All, Some, None}
use Rattle.sa_desk.specs.declared.entry.Entry.{Entry}
use Rattle.sa_desk.specs.declared.entry.Event.{Event}
use Rattle.sa_desk.specs.declared.entry.Event.TheVariants.{Begin, Served, End}
use Rattle.sa_desk.specs.declared.outcome.Outcome.{Outcome}
use Rattle.sa_desk.specs.declared.outcome.Outcome.TheVariants as outcome
use Rattle.sa_desk.specs.Comes.{IsVersion}
use Rattle.sa_desk.specs.program.Course.{Given, Answer, text_of, Settings, settings_after, Course, runs, course_of}
use Rattle.sa_desk.specs.program.Between.{ends, Between}
use Rattle.sa_desk.specs.program.RunEnds.{RunEnds}

-- The entry stands on the session's own desk, made in this turn.
abbrev pub IsOwnEntry : Given → (turn : ℕ) → Entry → Type 0
IsOwnEntry given turn entry = (entry.desk ≡ given.session) × (entry.turn ≡ turn)

-- The Begin has the statement's number and text. A statement with a run has its plan and the tables
-- too.
abbrev pub BeginsAs : Given → Course → (number : ℕ) → List ℕ → Event → Type 0
BeginsAs given (runs analyze planned) number text (Begin own said version plan tables) =
    (own ≡ number) × (said ≡ text) × IsVersion version × (plan ≡ Some planned.plan)
    × (tables ≡ Some given.tables)
BeginsAs given course number text (Begin own said version plan tables) =
    (own ≡ number) × (said ≡ text) × IsVersion version × (plan ≡ None) × (tables ≡ None)
BeginsAs given course number text event = ⊥

-- answers to requests, made on the session's own desk in turns after b and up to t
abbrev pub IsServing : Event → Type 0
IsServing (Served asker request report) = ⊤
IsServing event = ⊥

abbrev pub AreServed : (session b t : ℕ) → List Entry → Type 0
AreServed session b t entries =
    All (λ entry. (entry.desk ≡ session) × (b < entry.turn) × (entry.turn ≤ t)
    × IsServing entry.event) entries

-- The End has the statement's number and the outcome that is due, or Interrupted.
abbrev pub EndsAs : Given → (limit number b t : ℕ) → Course → List Entry → (turn : ℕ) → Event
    → Outcome → Type 0
EndsAs given limit number b t (runs analyze planned) between turn (End own result steps) shown =
    (own ≡ number) × (result ≡ shown) × AreServed given.session b turn between ×
    (due : Outcome) × RunEnds given limit number b analyze planned steps turn due
    × ((result ≡ due) ⊎ (result ≡ outcome.Interrupted))
EndsAs given limit number b t course between turn (End own result steps) shown =
    (own ≡ number) × (result ≡ shown) × (steps ≡ 0) × (turn ≡ t + 1) ×
    (due : Outcome) × Between given number b course between t (ends due)
    × ((result ≡ due) ⊎ (result ≡ outcome.Interrupted))
EndsAs given limit number b t course between turn event shown = ⊥

-- A whole statement: its Begin in turn b, what comes between, and its End in the last turn.
pub record IsStatement (given : Given) (settings : Settings) (number b : ℕ) (source : List ℕ)
    (answer : Answer) (entries : List Entry) (last : ℕ) (result : Outcome) : Type 0 where
  pub begin : Entry
  pub between : List Entry
  pub end : Entry
  pub parts : entries ≡ begin ∷ between ++ end ∷ []
  pub begin_own : IsOwnEntry given b begin
  pub begins : BeginsAs given (course_of given settings answer) number
      (text_of source answer) begin.event
  pub before : ℕ
  pub end_own : IsOwnEntry given last end
  pub ends_so : EndsAs given settings.limit number b before
      (course_of given settings answer) between last end.event result

-- Whole statements, from this number on, the first of which begins after this turn. What they
-- leave: the settings, the number of the next statement, and the turn of the last End.
abbrev pub Statements : Given → Settings → (number turn : ℕ) → List (List ℕ) → List Answer
    → List Entry → Settings → (next last : ℕ) → Type 0
Statements given settings number turn [] [] entries left next last =
    (entries ≡ []) × (left ≡ settings) × (next ≡ number) × (last ≡ turn)
Statements given settings number turn [] (answer ∷ answers) entries left next last = ⊥
Statements given settings number turn (text ∷ texts) [] entries left next last = ⊥
Statements given settings number turn (text ∷ texts) (answer ∷ answers) entries left next last =
    (first : List Entry) × (more : List Entry) × (at : ℕ) × (result : Outcome) ×
    (entries ≡ first ++ more)
    × IsStatement given settings number (turn + 1) text answer first at result ×
    Statements given (settings_after settings answer result)
    (number + 1) at texts answers more left next last
