-- What a journal notes of a session's requests, taken apart: what the session itself says, and what the desk's machine knows.
use Rattle.std.proofs.Common.{◌≡◌, ℕ, ◌<◌, ◌==◌, Bool, true, false, if◌then◌else◌, List, [], ◌∷◌, Option, Some, None, inl, inr, refl, sym, ap, ◌∙◌}
use Rattle.std.specs.Prelude.{⊤, filter_map}
use Rattle.std.specs.List.{cons_option}
use Rattle.std.proofs.lemmas.Bool.{cases_eq, eq-eqb, ne_eqb}
use Rattle.sa_desk.specs.declared.entry.Entry.{Entry}
use Rattle.sa_desk.specs.declared.entry.Event.{Event}
use Rattle.sa_desk.specs.declared.entry.Event.TheVariants.{Queued, Refused, Served, Taken, Spent, Withdrawn}
use Rattle.sa_desk.specs.World.{made_by}
use Rattle.sa_desk.specs.law.Talk.{Word, asks, answers as replies, takes as fetches, leaves as quits, word_by, words, nothing_open, IsTalk}
use Rattle.sa_desk.proofs.laws.Outline.{made_by-own, made_by-other}
use Rattle.sa_legal.specs.Requests.{Note, refuses, queues, answers, takes, leaves, note_by, notes_of, AreRequests}

-- what a session's own entry notes
abbrev pub own_note : Event → Option Note
own_note (Refused number why) = Some (refuses number)
own_note (Queued number kind at budget) = Some (queues number)
own_note (Taken number) = Some (takes number)
own_note (Spent number turns) = Some (leaves number)
own_note (Withdrawn number) = Some (leaves number)
own_note event = None

abbrev pub own_notes : List Entry → List Note
own_notes entries = filter_map (λ entry. own_note entry.event) entries

-- the notes without answers
abbrev pub own_in : List Note → List Note
own_in [] = []
own_in (answers number ∷ rest) = own_in rest
own_in (note ∷ rest) = note ∷ own_in rest

-- the notes without refusals, as a desk's machine has them
abbrev pub words_in : List Note → List Word
words_in [] = []
words_in (refuses number ∷ rest) = words_in rest
words_in (queues number ∷ rest) = asks number ∷ words_in rest
words_in (answers number ∷ rest) = replies number ∷ words_in rest
words_in (takes number ∷ rest) = fetches number ∷ words_in rest
words_in (leaves number ∷ rest) = quits number ∷ words_in rest

-- What a session itself says: each request is of a later statement, and is refused or ends.
abbrev pub AreOwn : (last : ℕ) → List Note → Type 0
AreOwn last [] = ⊤
AreOwn last (refuses request ∷ rest) = (last < request) × AreOwn request rest
AreOwn last (queues request ∷ takes taken ∷ rest) = (last < request) × (taken ≡ request) × AreOwn request rest
AreOwn last (queues request ∷ leaves gone ∷ rest) = (last < request) × (gone ≡ request) × AreOwn request rest
AreOwn last notes = ⊥

-- Both together say all.
pub joined : (last : ℕ) (notes : List Note) → AreOwn last (own_in notes) → IsTalk nothing_open (words_in notes) → AreRequests last notes
joined last [] own talk = tt
joined last (refuses request ∷ rest) own talk = (own.0, joined request rest own.1 talk)
joined last (answers request ∷ rest) own talk = absurd talk
joined last (takes request ∷ rest) own talk = absurd talk
joined last (leaves request ∷ rest) own talk = absurd talk
joined last (queues request ∷ []) own talk = absurd own
joined last (queues request ∷ refuses other ∷ rest) own talk = absurd own
joined last (queues request ∷ queues other ∷ rest) own talk = absurd own
joined last (queues request ∷ takes other ∷ rest) own talk = absurd talk
joined last (queues request ∷ leaves gone ∷ rest) own talk = (own.0, own.1, joined request rest own.2 talk.1)
joined last (queues request ∷ answers served ∷ []) own talk = absurd own
joined last (queues request ∷ answers served ∷ refuses other ∷ rest) own talk = absurd own
joined last (queues request ∷ answers served ∷ queues other ∷ rest) own talk = absurd own
joined last (queues request ∷ answers served ∷ answers other ∷ rest) own talk = absurd talk.1
joined last (queues request ∷ answers served ∷ leaves other ∷ rest) own talk = absurd talk.1
joined last (queues request ∷ answers served ∷ takes taken ∷ rest) own talk = (own.0, talk.0, own.1, joined request rest own.2 talk.1.1)

-- An entry notes something or nothing, and so does the machine.
noted : (said : Bool) (note : Note) (word : Word) (notes : List Note) (rest : List Word) → ((more : List Note) → words_in (note ∷ more) ≡ word ∷ words_in more) → words_in notes ≡ rest
    → words_in (cons_option (if said then Some note else None) notes) ≡ cons_option (if said then Some word else None) rest
noted true note word notes rest each same = each notes ∙ ap (λ more. word ∷ more) same
noted false note word notes rest each same = same

unnoted : (said : Bool) (note : Note) (notes : List Note) (rest : List Word) → ((more : List Note) → words_in (note ∷ more) ≡ words_in more) → words_in notes ≡ rest
    → words_in (cons_option (if said then Some note else None) notes) ≡ rest
unnoted true note notes rest each same = each notes ∙ same
unnoted false note notes rest each same = same

word_noted : (session actor : ℕ) (event : Event) (notes : List Note) (rest : List Word) → words_in notes ≡ rest
    → words_in (cons_option (note_by session actor event) notes) ≡ cons_option (word_by session actor event) rest
word_noted session actor (Refused number why) notes rest same = unnoted (actor == session) (refuses number) notes rest (λ more. refl) same
word_noted session actor (Queued number kind at budget) notes rest same = noted (actor == session) (queues number) (asks number) notes rest (λ more. refl) same
word_noted session actor (Served asker number report) notes rest same = noted (asker == session) (answers number) (replies number) notes rest (λ more. refl) same
word_noted session actor (Taken number) notes rest same = noted (actor == session) (takes number) (fetches number) notes rest (λ more. refl) same
word_noted session actor (Spent number turns) notes rest same = noted (actor == session) (leaves number) (quits number) notes rest (λ more. refl) same
word_noted session actor (Withdrawn number) notes rest same = noted (actor == session) (leaves number) (quits number) notes rest (λ more. refl) same
word_noted session actor event notes rest same = same

pub words_noted : (session : ℕ) (journal : List Entry) → words_in (notes_of session journal) ≡ words session journal
words_noted session [] = refl
words_noted session (entry ∷ rest) =
    word_noted session entry.actor entry.event (notes_of session rest) (words session rest) (words_noted session rest)

-- A session's own entries note what it says, and those of others note answers alone.
dropped : (said : Bool) (number : ℕ) (notes : List Note) → own_in (cons_option (if said then Some (answers number) else None) notes) ≡ own_in notes
dropped true number notes = refl
dropped false number notes = refl

own_noted : (session actor : ℕ) (event : Event) (notes : List Note) → (actor == session) ≡ true
    → own_in (cons_option (note_by session actor event) notes) ≡ cons_option (own_note event) (own_in notes)
own_noted session actor (Refused number why) notes own = rw own refl
own_noted session actor (Queued number kind at budget) notes own = rw own refl
own_noted session actor (Served asker number report) notes own = dropped (asker == session) number notes
own_noted session actor (Taken number) notes own = rw own refl
own_noted session actor (Spent number turns) notes own = rw own refl
own_noted session actor (Withdrawn number) notes own = rw own refl
own_noted session actor event notes own = refl

other_noted : (session actor : ℕ) (event : Event) (notes : List Note) → (actor == session) ≡ false
    → own_in (cons_option (note_by session actor event) notes) ≡ own_in notes
other_noted session actor (Refused number why) notes other = rw other refl
other_noted session actor (Queued number kind at budget) notes other = rw other refl
other_noted session actor (Served asker number report) notes other = dropped (asker == session) number notes
other_noted session actor (Taken number) notes other = rw other refl
other_noted session actor (Spent number turns) notes other = rw other refl
other_noted session actor (Withdrawn number) notes other = rw other refl
other_noted session actor event notes other = refl

pub own_is_made : (session : ℕ) (journal : List Entry) → own_in (notes_of session journal) ≡ own_notes (made_by session journal)
own_is_made session [] = refl
own_is_made session (entry ∷ rest) =
    let more = own_is_made session rest in
    elim (cases_eq entry.actor session) [
      | inl same ↦
          own_noted session entry.actor entry.event (notes_of session rest) (eq-eqb entry.actor session same)
          ∙ ap (cons_option (own_note entry.event)) more ∙ ap own_notes (sym (made_by-own session entry rest same))
      | inr other ↦
          other_noted session entry.actor entry.event (notes_of session rest) (ne_eqb entry.actor session other)
          ∙ more ∙ ap own_notes (sym (made_by-other session entry rest other))
    ]
