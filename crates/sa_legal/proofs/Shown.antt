-- The plan of what was shown is lawful, and is found in the journal that it was shown from.
use Rattle.std.proofs.Common.{◌≡◌, ℕ, zero, suc, ◌≤◌, ◌==◌, ◌&&◌, Bool, true, List, [], ◌∷◌, ◌++◌, append_assoc, length, filter, All, Option, Some, None, slice_get, slice_index_or, inl, inr, sym, subst, ap, ◌∙◌, arith}
use Rattle.std.specs.Prelude.{option_and_then}
use Rattle.std.proofs.lemmas.Bool.{cases_Bool, cases_lt}
use Rattle.std.proofs.lemmas.Bool.Decides.{nat_tests}
use Rattle.std.proofs.lemmas.List.{get_or_past}
use Rattle.std.proofs.lemmas.List.Elements.{All-head, All-tail, All-weaker}
use Rattle.sa_count.specs.declared.report.Report.{Report}
use Rattle.sa_ast.specs.declared.kind.AskKind.{AskKind}
use Rattle.sa_plan.specs.declared.plan.Plan.{Plan}
use Rattle.sa_plan.specs.Lawful.{IsLawful}
use Rattle.sa_meaning.specs.Data.{RunData}
use Rattle.sa_desk.specs.declared.entry.Entry.{Entry}
use Rattle.sa_desk.specs.declared.entry.Event.{Event}
use Rattle.sa_desk.specs.declared.entry.Event.TheVariants.{Begin}
use Rattle.sa_desk.specs.declared.outcome.Outcome.TheVariants.{Shown}
use Rattle.sa_desk.specs.State.{Terms}
use Rattle.sa_desk.specs.Runs.{IsEntryOf}
use Rattle.sa_desk.specs.Legal.{Sessions, given_of, journal_at, IsLegal}
use Rattle.sa_desk.specs.law.On.{IsWithin, IsOn}
use Rattle.sa_desk.specs.law.Answered.{IsAnswered}
use Rattle.sa_desk.specs.program.Prepares.{Answers}
use Rattle.sa_desk.specs.program.SoFar.{terms_of}
use Rattle.sa_desk.proofs.laws.Shown.{plan_shown}
use Rattle.sa_transcript.specs.Outcome.{plan_in, plan_begun}
use Rattle.sa_transcript.specs.Transcript.{CanTellOutcome}
use Rattle.sa_legal.proofs.Fine.{IsFineEvent, IsFine, counts_reported}
use Rattle.sa_legal.proofs.Standing.{All-there, carried, for_each, told_apart, journal_past}

-- Where each element that passes gives the same, and one passes, the first that passes gives it.
first_gives : {X Y : Type 0} (test : X → Bool) (f : X → Option Y) (y : Y) (first rest : List X) (x : X)
    → All (λ each. test each ≡ true → f each ≡ Some y) (first ++ x ∷ rest) → test x ≡ true
    → option_and_then f (slice_get (filter test (first ++ x ∷ rest)) 0) ≡ Some y
first_gives test f y [] rest x all passes =
    rw passes (All-head (λ each. test each ≡ true → f each ≡ Some y) x rest all passes)
first_gives test f y (z ∷ first) rest x all passes =
    elim (cases_Bool (test z)) [
      | inl here ↦ rw here (All-head (λ each. test each ≡ true → f each ≡ Some y) z (first ++ x ∷ rest) all here)
      | inr not ↦ rw not (first_gives test f y first rest x (All-tail (λ each. test each ≡ true → f each ≡ Some y) z (first ++ x ∷ rest) all) passes)
    ]

-- The last Begin of a list is one.
same_begin : (first since other more : List Entry) (begin also : Entry) → first ++ begin ∷ since ≡ other ++ also ∷ more
    → (IsWithin begin.event → ⊥) → (IsWithin also.event → ⊥) → All (λ entry. IsWithin entry.event) since → All (λ entry. IsWithin entry.event) more
    → begin ≡ also
same_begin [] since [] more begin also same begins starts quiet still = cc
same_begin [] since (entry ∷ other) more begin also same begins starts quiet still =
    let rest : since ≡ other ++ also ∷ more = cc in
    absurd (starts (All-there (λ (entry : Entry). IsWithin entry.event) other more also (subst (All (λ (entry : Entry). IsWithin entry.event)) rest quiet)))
same_begin (entry ∷ first) since [] more begin also same begins starts quiet still =
    let rest : more ≡ first ++ begin ∷ since = cc in
    absurd (begins (All-there (λ (entry : Entry). IsWithin entry.event) first since begin (subst (All (λ (entry : Entry). IsWithin entry.event)) rest still)))
same_begin (entry ∷ first) since (next ∷ other) more begin also same begins starts quiet still =
    let rest : first ++ begin ∷ since ≡ other ++ also ∷ more = cc in
    same_begin first since other more begin also rest begins starts quiet still

-- A Begin is none of the entries within a statement.
not_within : (terms : Terms) (number : ℕ) (before : List Entry) (on : IsOn terms number before) → IsWithin on.begin.event → ⊥
not_within terms number before on within = subst IsWithin on.begins within

pub same_on : (terms : Terms) (number also : ℕ) (before : List Entry) (on : IsOn terms number before) (other : IsOn terms also before) → on.begin ≡ other.begin
same_on terms number also before on other =
    same_begin on.earlier on.since other.earlier other.since on.begin other.begin (sym on.parts ∙ other.parts)
    (not_within terms number before on) (not_within terms also before other) on.within other.within

plan_on : (terms : Terms) (number : ℕ) (before : List Entry) (on : IsOn terms number before) (plan : Plan) → on.plan ≡ Some plan → plan_in on.begin.event ≡ Some plan
plan_on terms number before on plan has = ap plan_in on.begins ∙ has

-- A list with an element isn't empty.
some_there : {X : Type 0} (first rest : List X) (x : X) → [] ≡ first ++ x ∷ rest → ⊥
some_there [] rest x none = cc
some_there (y ∷ first) rest x none = cc

both_same : (actor desk seq number : ℕ) → ((actor == desk) && (seq == number)) ≡ true → (actor ≡ desk) × (seq ≡ number)
both_same actor desk seq number passes = (grind (arith, nat_tests), grind (arith, nat_tests))

passes_itself : (actor desk seq : ℕ) → actor ≡ desk → ((actor == desk) && (seq == seq)) ≡ true
passes_itself actor desk seq same = grind (arith, nat_tests)

-- The plan that a fine entry begins is lawful.
lawful_in : (tables : RunData) (event : Event) (plan : Plan) → IsFineEvent tables event → plan_in event ≡ Some plan → IsLawful tables plan
lawful_in tables (Begin number text version (Some own) over) plan fine is =
    let same : own ≡ plan = cc in subst (IsLawful tables) same fine
lawful_in tables (Begin number text version None over) plan fine is = absurd (cc is)
lawful_in tables event plan fine is = absurd (cc is)

module _ (gives : Answers) (sessions : Sessions) (journals : List (List Entry)) (legal : IsLegal gives sessions journals) where
  -- The journal of what has a Begin of its own session is there.
  desk_there : (desk : ℕ) (first rest : List Entry) (entry : Entry) → journal_at journals desk ≡ first ++ entry ∷ rest → entry.actor ≡ desk
      → (1 ≤ desk) × (desk ≤ length journals)
  desk_there zero first rest entry parts own =
      elim (cases_lt 0 (length journals)) [
        | inl some ↦
            let all = subst (All (IsEntryOf 1 (length sessions.texts))) parts (legal.entries 1 (omega arith) (omega arith)) in
            let least = (All-there (IsEntryOf 1 (length sessions.texts)) first rest entry all).least in
            absurd (omega arith)
        | inr none ↦ absurd (some_there first rest entry (sym (get_or_past journals 0 [] none) ∙ parts))
      ]
  desk_there (suc desk) first rest entry parts own =
      elim (cases_lt (length journals) (suc desk)) [
        | inl past ↦ absurd (some_there first rest entry (sym (journal_past journals (suc desk) past) ∙ parts))
        | inr within ↦ (omega arith, within)
      ]

  -- In a journal a session's entries are told apart by their numbers.
  apart_at : (desk : ℕ) → 1 ≤ desk → desk ≤ length journals
      → All (λ one. All (λ other. other.actor ≡ one.actor → other.seq ≡ one.seq → other ≡ one) (journal_at journals desk)) (journal_at journals desk)
  apart_at desk least most =
      for_each gives sessions journals legal (λ session one. All (λ other. other.actor ≡ session → other.seq ≡ one.seq → other ≡ one) (journal_at journals desk))
      (λ session from upto.
      let has = legal.programs session from upto in
      All-weaker (λ (one : Entry). All (λ (other : Entry). other.seq ≡ one.seq → other ≡ one) has.mine)
      (λ one. All (λ other. other.actor ≡ session → other.seq ≡ one.seq → other ≡ one) (journal_at journals desk))
      (λ one all. carried journals session has.mine has.made (λ other. other.seq ≡ one.seq → other ≡ one) all desk least most)
      has.mine (told_apart has.mine has.program.1.numbered))
      desk least most

  -- So the plan of a Begin of a desk's own session is found by its number.
  plan_found : (desk : ℕ) → 1 ≤ desk → desk ≤ length journals → (first rest : List Entry) (entry : Entry) (plan : Plan)
      → journal_at journals desk ≡ first ++ entry ∷ rest → entry.actor ≡ desk → plan_in entry.event ≡ Some plan → plan_begun journals desk entry.seq ≡ Some plan
  plan_found desk least most first rest entry plan parts own begins =
      let journal : List Entry = journal_at journals desk in
      let alone = All-there (λ one. All (λ other. other.actor ≡ one.actor → other.seq ≡ one.seq → other ≡ one) journal) first rest entry
      (subst (All (λ one. All (λ other. other.actor ≡ one.actor → other.seq ≡ one.seq → other ≡ one) journal)) parts (apart_at desk least most)) in
      let gives_it : All (λ each. ((each.actor == desk) && (each.seq == entry.seq)) ≡ true → plan_in each.event ≡ Some plan) journal =
      λ k d within passes.
      let each : Entry = slice_index_or journal k d in
      let both = both_same each.actor desk each.seq entry.seq passes in
      ap (λ (e : Entry). plan_in e.event) (alone k d within (both.0 ∙ sym own) both.1) ∙ begins in
      subst (λ xs. option_and_then (λ (each : Entry). plan_in each.event) (slice_get (filter (λ (each : Entry). (each.actor == desk) && (each.seq == entry.seq)) xs) 0) ≡ Some plan)
      (sym parts)
      (first_gives (λ (each : Entry). (each.actor == desk) && (each.seq == entry.seq)) (λ (each : Entry). plan_in each.event) plan first rest entry
      (subst (All (λ each. ((each.actor == desk) && (each.seq == entry.seq)) ≡ true → plan_in each.event ≡ Some plan)) parts gives_it)
      (passes_itself entry.actor desk entry.seq own))

  -- What a session was shown can be told, where all entries are fine.
  pub shown_told : ((session : ℕ) (least : 1 ≤ session) (most : session ≤ length sessions.texts) → All (IsFine sessions.tables) (legal.programs session least most).mine)
      → (session : ℕ) (kind : AskKind) (desk begin request : ℕ) (report : Report)
      → IsAnswered (terms_of (given_of sessions session) desk) (journal_at journals desk) session request report begin
      → CanTellOutcome sessions.tables journals (Shown kind desk begin report)
  shown_told fine session kind desk begin request report answered =
      let terms : Terms = terms_of (given_of sessions session) desk in
      let on = answered.on in
      let parts : journal_at journals desk ≡ on.earlier ++ on.begin ∷ (on.since ++ answered.answer ∷ answered.rest) =
      answered.parts ∙ ap (λ xs. xs ++ answered.answer ∷ answered.rest) on.parts ∙ append_assoc on.earlier (on.begin ∷ on.since) (answered.answer ∷ answered.rest) in
      let there = desk_there desk on.earlier (on.since ++ answered.answer ∷ answered.rest) on.begin parts on.own in
      let shown = plan_shown terms (journal_at journals desk) answered.before answered.rest answered.answer session request report (legal.desks desk there.0 there.1) answered.parts answered.serves in
      let same = same_on terms shown.number answered.number answered.before shown.on on in
      let begins : plan_in on.begin.event ≡ Some shown.plan =
      ap (λ (e : Entry). plan_in e.event) (sym same) ∙ plan_on terms shown.number answered.before shown.on shown.plan shown.has_plan in
      let all = subst (All (IsFine sessions.tables)) parts
      (for_each gives sessions journals legal (λ actor entry. IsFine sessions.tables entry) fine desk there.0 there.1) in
      let lawful = lawful_in sessions.tables on.begin.event shown.plan
      (All-there (IsFine sessions.tables) on.earlier (on.since ++ answered.answer ∷ answered.rest) on.begin all) begins in (
        shown.plan,
        subst (λ number. plan_begun journals desk number ≡ Some shown.plan) answered.under
            (plan_found desk there.0 there.1 on.earlier (on.since ++ answered.answer ∷ answered.rest) on.begin shown.plan parts on.own begins),
        counts_reported sessions.tables shown.tables shown.plan shown.number report.steps report lawful shown.counted,
      )
