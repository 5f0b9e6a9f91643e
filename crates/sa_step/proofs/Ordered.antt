-- Entries that are made at one place come in order after those that were made before it.
use Rattle.std.proofs.Common.{◌≡◌, ℕ, ◌+◌, ◌<◌, ◌≤◌, List, [], ◌∷◌, ◌++◌, All, sym, subst, arith, append_assoc, append-nil}
use Rattle.std.proofs.lemmas.List.Elements.{All-head, All-tail, All-append, All-push, All-weaker}
use Rattle.sa_desk.specs.declared.entry.Entry.{Entry}
use Rattle.sa_step.specs.Schedule.{AreEach, slot_of, ComesLast}

-- What is so of each entry of two parts is so of the whole.
pub AreEach-append : (Is : List Entry → Entry → Type 0) (before xs ys : List Entry) → AreEach Is before xs → AreEach Is (before ++ xs) ys → AreEach Is before (xs ++ ys)
AreEach-append Is before [] ys first second = subst (λ before. AreEach Is before ys) (append-nil before) second
AreEach-append Is before (x ∷ xs) ys first second =
    (first.0, AreEach-append Is (before ++ x ∷ []) xs ys first.1 (subst (λ before. AreEach Is before ys) (sym (append_assoc before (x ∷ []) xs)) second))

module _ (slot : (session turn : ℕ) → ℕ) (place : ℕ) where
  rising_after : (before entries : List Entry) → All (λ entry. slot_of slot entry ≤ place) before → All (λ entry. slot_of slot entry ≡ place) entries → AreEach (ComesLast slot) before entries
  rising_after before [] earlier here = tt
  rising_after before (entry ∷ rest) earlier here =
      let now = All-head (λ entry. slot_of slot entry ≡ place) entry rest here in (
        All-weaker (λ was. slot_of slot was ≤ place) (λ was. slot_of slot was ≤ slot_of slot entry) (λ was most. omega (arith, most, now)) before earlier,
        rising_after (before ++ entry ∷ []) rest (All-push (λ entry. slot_of slot entry ≤ place) before entry earlier (omega (arith, now)))
            (All-tail (λ entry. slot_of slot entry ≡ place) entry rest here),
      )

  module _ (journal entries : List Entry) (behind : All (λ entry. slot_of slot entry < place) journal) (here : All (λ entry. slot_of slot entry ≡ place) entries) where
    pub behind_more : All (λ entry. slot_of slot entry < place + 1) (journal ++ entries)
    behind_more =
        All-append (λ entry. slot_of slot entry < place + 1) journal entries
        (All-weaker (λ entry. slot_of slot entry < place) (λ entry. slot_of slot entry < place + 1) (λ entry less. omega (arith, less)) journal behind)
        (All-weaker (λ entry. slot_of slot entry ≡ place) (λ entry. slot_of slot entry < place + 1) (λ entry is. omega (arith, is)) entries here)

    pub rising_more : AreEach (ComesLast slot) [] journal → AreEach (ComesLast slot) [] (journal ++ entries)
    rising_more rising =
        AreEach-append (ComesLast slot) [] journal entries rising
        (rising_after journal entries
        (All-weaker (λ entry. slot_of slot entry < place) (λ entry. slot_of slot entry ≤ place) (λ entry less. omega (arith, less)) journal behind) here)
