-- Each Begin and each End of a session is that of one of its statements.
use Rattle.std.proofs.Common.{◌≡◌, ℕ, ◌-◌, ◌<◌, ◌≤◌, List, [], ◌∷◌, ◌++◌, Some, slice_get, All}
use Rattle.std.specs.Prelude.{⊤}
use Rattle.std.proofs.lemmas.List.Elements.{All-nil, All-cons, All-append, All-weaker, All-same}
use Rattle.sa_desk.specs.declared.entry.Entry.{Entry}
use Rattle.sa_desk.specs.declared.entry.Event.{Event}
use Rattle.sa_desk.specs.declared.entry.Event.TheVariants.{Begin, Served, End}
use Rattle.sa_desk.specs.declared.outcome.Outcome.{Outcome}
use Rattle.sa_desk.specs.law.On.{IsWithin}
use Rattle.sa_desk.specs.program.Course.{Given, Answer, text_of, Settings, Course, says, shows, waits, kills, runs, course_of}
use Rattle.sa_desk.specs.program.Between.{ends}
use Rattle.sa_desk.specs.program.Prepares.{Answers, IsAnswer}
use Rattle.sa_desk.specs.program.Statement.{BeginsAs, IsServing, EndsAs, IsStatement}
use Rattle.sa_legal.proofs.Between.{IsInside, between_events}

-- The session has a statement of this number, with these settings, and preparation answered to its text.
pub record Part (gives : Answers) (given : Given) (number : ℕ) : Type 0 where
  pub least : 1 ≤ number
  pub source : List ℕ
  pub text : slice_get given.texts (number - 1) ≡ Some source
  pub settings : Settings
  pub answer : Answer
  pub gives_it : IsAnswer gives source answer

-- This is its Begin.
pub record BeginPart (gives : Answers) (given : Given) (entry : Entry) : Type 0 where
  pub number : ℕ
  pub part : Part gives given number
  pub own : entry.desk ≡ given.session
  pub begins : BeginsAs given (course_of given part.settings part.answer) number (text_of part.source part.answer) entry.event

-- This is its End.
pub record EndPart (gives : Answers) (given : Given) (entry : Entry) : Type 0 where
  pub number : ℕ
  pub part : Part gives given number
  pub own : entry.desk ≡ given.session
  pub b : ℕ
  pub before : ℕ
  pub between : List Entry
  pub turn : ℕ
  pub result : Outcome
  pub ends_so : EndsAs given part.settings.limit number b before (course_of given part.settings part.answer) between turn entry.event result

-- A Begin, and an End, is that of a statement.
abbrev pub IsPartOf : Answers → Given → Entry → Event → Type 0
IsPartOf gives given entry (Begin number text version plan tables) = BeginPart gives given entry
IsPartOf gives given entry (End number result steps) = EndPart gives given entry
IsPartOf gives given entry event = ⊤

abbrev pub IsPart : Answers → Given → Entry → Type 0
IsPart gives given entry = IsPartOf gives given entry entry.event

abbrev IsBegin : Event → Type 0
IsBegin (Begin number text version plan tables) = ⊤
IsBegin event = ⊥

abbrev IsEnd : Event → Type 0
IsEnd (End number result steps) = ⊤
IsEnd event = ⊥

begin_is : (given : Given) (course : Course) (number : ℕ) (text : List ℕ) (event : Event) → BeginsAs given course number text event → IsBegin event
begin_is given (runs analyze planned) number text (Begin own said version plan tables) is = tt
begin_is given course number text (Begin own said version plan tables) is = tt
begin_is given course number text event is = absurd is

end_is : (given : Given) (limit number b t : ℕ) (course : Course) (between : List Entry) (turn : ℕ) (event : Event) (shown : Outcome)
    → EndsAs given limit number b t course between turn event shown → IsEnd event
end_is given limit number b t (runs analyze planned) between turn (End own result steps) shown is = tt
end_is given limit number b t course between turn (End own result steps) shown is = tt
end_is given limit number b t course between turn event shown is = absurd is

serving_inside : (event : Event) → IsServing event → IsWithin event
serving_inside (Served asker request report) is = tt
serving_inside event is = absurd is

-- What comes between is neither.
between_is : (given : Given) (limit number b t : ℕ) (course : Course) (between : List Entry) (turn : ℕ) (event : Event) (shown : Outcome)
    → EndsAs given limit number b t course between turn event shown → All IsInside between
between_is given limit number b t (runs analyze planned) between turn (End own result steps) shown is =
    All-weaker (λ (entry : Entry). (entry.desk ≡ given.session) × (b < entry.turn) × (entry.turn ≤ turn) × IsServing entry.event) IsInside
    (λ entry served. serving_inside entry.event served.3) between is.2
between_is given limit number b t (says said) between turn (End own result steps) shown is = between_events given number b (says said) between t (ends is.4) is.5
between_is given limit number b t (shows kind i) between turn (End own result steps) shown is = between_events given number b (shows kind i) between t (ends is.4) is.5
between_is given limit number b t (waits i at) between turn (End own result steps) shown is = between_events given number b (waits i at) between t (ends is.4) is.5
between_is given limit number b t (kills kind i) between turn (End own result steps) shown is = between_events given number b (kills kind i) between t (ends is.4) is.5
between_is given limit number b t course between turn event shown is = absurd is

module _ (gives : Answers) (given : Given) where
  at_begin : (entry : Entry) (event : Event) → BeginPart gives given entry → IsBegin event → IsPartOf gives given entry event
  at_begin entry (Begin number text version plan tables) part is = part
  at_begin entry event part is = absurd is

  at_end : (entry : Entry) (event : Event) → EndPart gives given entry → IsEnd event → IsPartOf gives given entry event
  at_end entry (End number result steps) part is = part
  at_end entry event part is = absurd is

  inside : (entry : Entry) (event : Event) → IsWithin event → IsPartOf gives given entry event
  inside entry (Begin number text version plan tables) within = absurd within
  inside entry (End number result steps) within = absurd within
  inside entry event within = tt

  -- Each entry of a whole statement is a part of it.
  pub statement_parts : (number b : ℕ) (part : Part gives given number) (entries : List Entry) (last : ℕ) (result : Outcome)
      → IsStatement given part.settings number b part.source part.answer entries last result → All (IsPart gives given) entries
  statement_parts number b part entries last result is =
      let course : Course = course_of given part.settings part.answer in
      let begin : BeginPart gives given is.begin = record { number = number; part = part; own = is.begin_own.0; begins = is.begins } in
      let end : EndPart gives given is.end = record {
        number = number;
        part = part;
        own = is.end_own.0;
        b = b;
        before = is.before;
        between = is.between;
        turn = last;
        result = result;
        ends_so = is.ends_so;
      } in
      let middle = between_is given part.settings.limit number b is.before course is.between last is.end.event result is.ends_so in
      All-same (IsPart gives given) entries (is.begin ∷ is.between ++ is.end ∷ []) is.parts
      (All-cons (IsPart gives given) is.begin (is.between ++ is.end ∷ [])
      (at_begin is.begin is.begin.event begin (begin_is given course number (text_of part.source part.answer) is.begin.event is.begins))
      (All-append (IsPart gives given) is.between (is.end ∷ [])
      (All-weaker IsInside (IsPart gives given) (λ entry within. inside entry entry.event within) is.between middle)
      (All-cons (IsPart gives given) is.end []
      (at_end is.end is.end.event end (end_is given part.settings.limit number b is.before course is.between last is.end.event result is.ends_so))
      (All-nil (IsPart gives given)))))
