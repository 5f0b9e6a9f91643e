-- What holds of all entries that a session has made holds of those that stand in a journal, and their numbers tell them apart.
use Rattle.std.proofs.Common.{◌≡◌, ℕ, zero, suc, ◌+◌, ◌-◌, ◌<◌, ◌≤◌, ◌==◌, List, [], ◌∷◌, ◌++◌, length, map, All, inl, inr, slice_index_or, refl, subst, ap, ◌∙◌, arith}
use Rattle.std.specs.List.{range_with_len}
use Rattle.std.proofs.lemmas.Bool.{cases_eq}
use Rattle.std.proofs.lemmas.List.{get_or_default, get_or_past}
use Rattle.std.proofs.lemmas.List.Elements.{All-nil, All-cons, All-head, All-tail, All-same, All-filter}
use Rattle.sa_desk.specs.declared.entry.Entry.{Entry}
use Rattle.sa_desk.specs.World.{made_by, standing_on}
use Rattle.sa_desk.specs.Legal.{Sessions, journal_at, IsMade, IsLegal}
use Rattle.sa_desk.specs.program.Prepares.{Answers}
use Rattle.sa_desk.proofs.laws.Outline.{made_by-own, made_by-other}

-- what holds of all holds of one among them
pub All-there : {X : Type 0} (P : X → Type 0) (first rest : List X) (x : X) → All P (first ++ x ∷ rest) → P x
All-there P [] rest x all = All-head P x rest all
All-there P (y ∷ first) rest x all = All-there P first rest x (All-tail P y (first ++ x ∷ rest) all)

-- What holds of a session's entries holds of each that it has made.
kept_made : (P : Entry → Type 0) (session : ℕ) (entries : List Entry) → All P (made_by session entries) → All (λ entry. entry.actor ≡ session → P entry) entries
kept_made P session [] all = All-nil (λ entry. entry.actor ≡ session → P entry)
kept_made P session (entry ∷ rest) all =
    elim (cases_eq entry.actor session) [
      | inl same ↦
          let whole : All P (entry ∷ made_by session rest) = subst (All P) (made_by-own session entry rest same) all in
          All-cons (λ entry. entry.actor ≡ session → P entry) entry rest (λ by. All-head P entry (made_by session rest) whole)
          (kept_made P session rest (All-tail P entry (made_by session rest) whole))
      | inr other ↦
          All-cons (λ entry. entry.actor ≡ session → P entry) entry rest (λ by. absurd (other by))
          (kept_made P session rest (subst (All P) (made_by-other session entry rest other) all))
    ]

pub carried : (journals : List (List Entry)) (session : ℕ) (mine : List Entry) → IsMade journals session mine → (P : Entry → Type 0) → All P mine
    → (desk : ℕ) → 1 ≤ desk → desk ≤ length journals → All (λ entry. entry.actor ≡ session → P entry) (journal_at journals desk)
carried journals session mine made P all desk least most =
    kept_made P session (journal_at journals desk)
    (All-same P (made_by session (journal_at journals desk)) (standing_on desk mine) (made.standing desk least most)
    (All-filter (λ (entry : Entry). entry.desk == desk) P mine all))

-- What holds of the entries that each session has made holds of each entry of a legal journal.
pub for_each : (gives : Answers) (sessions : Sessions) (journals : List (List Entry)) (legal : IsLegal gives sessions journals) (P : ℕ → Entry → Type 0)
    → ((session : ℕ) (least : 1 ≤ session) (most : session ≤ length sessions.texts) → All (P session) (legal.programs session least most).mine)
    → (desk : ℕ) → 1 ≤ desk → desk ≤ length journals → All (λ entry. P entry.actor entry) (journal_at journals desk)
for_each gives sessions journals legal P all desk least most k d within =
    let here = legal.entries desk least most k d within in
    let entry : Entry = slice_index_or (journal_at journals desk) k d in
    let has = legal.programs entry.actor here.least here.most in
    carried journals entry.actor has.mine has.made (P entry.actor) (all entry.actor here.least here.most) desk least most k d within refl

-- Entries that are numbered in a row have their numbers by their places.
number_at : (start : ℕ) (entries : List Entry) → map (λ entry. entry.seq) entries ≡ range_with_len start (length entries)
    → (k : ℕ) (d : Entry) → k < length entries → (slice_index_or entries k d).seq ≡ start + k
number_at start [] numbered k d within = absurd (omega arith)
number_at start (entry ∷ rest) numbered zero d within =
    let whole : entry.seq ∷ map (λ entry. entry.seq) rest ≡ start ∷ range_with_len (start + 1) (length rest) = numbered in
    let first : entry.seq ≡ start = cc in omega arith
number_at start (entry ∷ rest) numbered (suc k) d within =
    let whole : entry.seq ∷ map (λ entry. entry.seq) rest ≡ start ∷ range_with_len (start + 1) (length rest) = numbered in
    let others : map (λ entry. entry.seq) rest ≡ range_with_len (start + 1) (length rest) = cc in
    let more = number_at (start + 1) rest others k d (omega arith) in omega arith

-- So those with the same number are the same.
pub told_apart : (entries : List Entry) → map (λ entry. entry.seq) entries ≡ range_with_len 1 (length entries)
    → All (λ one. All (λ other. other.seq ≡ one.seq → other ≡ one) entries) entries
told_apart entries numbered k d within j e inside same =
    let first : (slice_index_or entries k d).seq ≡ 1 + k = number_at 1 entries numbered k d within in
    let second : (slice_index_or entries j e).seq ≡ 1 + j = number_at 1 entries numbered j e inside in
    let places : j ≡ k = omega arith in
    ap (λ i. slice_index_or entries i e) places ∙ get_or_default entries k e d within

-- No journal stands past the last.
pub journal_past : (journals : List (List Entry)) (desk : ℕ) → length journals < desk → journal_at journals desk ≡ []
journal_past journals desk past = get_or_past journals (desk - 1) [] (omega arith)
