-- Which request of a session is open on a desk is what the session's own entries tell.
use Rattle.std.proofs.Common.{◌≡◌, ◌≢◌, ℕ, ◌==◌, Bool, true, false, if◌then◌else◌, List, [], ◌∷◌, ◌++◌, Option, Some, None, All, inl, inr, refl, sym, subst, ap, ◌∙◌}
use Rattle.std.proofs.lemmas.Bool.{cases_eq, eq-eqb, ne_eqb}
use Rattle.std.proofs.lemmas.List.Elements.{All-cons, All-nil, filter-append}
use Rattle.sa_desk.specs.declared.entry.Entry.{Entry}
use Rattle.sa_desk.specs.declared.entry.Event.{Event}
use Rattle.sa_desk.specs.declared.entry.Event.TheVariants.{Queued, Served, Taken, Spent, Withdrawn}
use Rattle.sa_desk.specs.declared.request.Request.{Request}
use Rattle.sa_desk.specs.declared.request.Reply.{Reply}
use Rattle.sa_desk.specs.State.{Terms, State, start, queue_of}
use Rattle.sa_desk.specs.Comes.{Comes}
use Rattle.sa_desk.specs.After.{after}
use Rattle.sa_desk.specs.Runs.{state_of, IsDeskRun}
use Rattle.sa_desk.specs.World.{made_by}
use Rattle.sa_desk.specs.Own.{request_event, request_from, HasOpen}
use Rattle.sa_desk.specs.law.Talk.{Word, asks, answers, takes, leaves, word_by, Standing, nothing_open, waiting, answered, IsTalk}
use Rattle.sa_desk.proofs.Seats.{asker_of, replied_to}
use Rattle.sa_desk.proofs.laws.Along.{kept_with}
use Rattle.sa_desk.proofs.laws.Mine.{none-mine, mine-there, mine-each}
use Rattle.sa_desk.proofs.laws.Outline.{made_by-own, made_by-other}
use Rattle.sa_desk.proofs.laws.Talk.{number_of, number_in, led_to, Led, StandsIn, Led-after}

-- the request of a session that stands so
abbrev pub open_at : Standing → Option ℕ
open_at nothing_open = None
open_at (waiting request) = Some request
open_at (answered request) = Some request

-- its standing, and its request, after a word or none
abbrev stands_after : Option Word → Standing → Standing
stands_after None standing = standing
stands_after (Some word) standing = led_to word

abbrev open_after : Option Word → Option ℕ → Option ℕ
open_after None was = was
open_after (Some word) was = open_at (led_to word)

open_at-after : (word : Option Word) (standing : Standing) → open_at (stands_after word standing) ≡ open_after word (open_at standing)
open_at-after None standing = refl
open_at-after (Some word) standing = refl

StandsIn-after : (session : ℕ) (word : Option Word) (standing : Standing) (state : State) → Led session standing word (queue_of state.phase) state.replies
    → StandsIn session (stands_after word standing) state
StandsIn-after session None standing state led = led
StandsIn-after session (Some word) standing state led = led.1

-- An answer is to the request that is open.
answers_open : (standing : Standing) (number : ℕ) → IsTalk standing (answers number ∷ []) → Some number ≡ open_at standing
answers_open nothing_open number talk = absurd talk
answers_open (waiting request) number talk = ap Some talk.0
answers_open (answered request) number talk = absurd talk

after_answer : (session : ℕ) (standing : Standing) (queue : List Request) (replies : List Reply) (number : ℕ) (test : Bool)
    → Led session standing (if test then Some (answers number) else None) queue replies → open_after (if test then Some (answers number) else None) (open_at standing) ≡ open_at standing
after_answer session standing queue replies number true led = answers_open standing number (led.0 [] tt)
after_answer session standing queue replies number false led = refl

-- A word of the actor's own counts where the actor is the session.
said_own : (word : Word) (was : Option ℕ) (test : Bool) → test ≡ true → open_after (if test then Some word else None) was ≡ open_at (led_to word)
said_own word was test own = rw own refl

said_other : (word : Word) (was : Option ℕ) (test : Bool) → test ≡ false → open_after (if test then Some word else None) was ≡ was
said_other word was test other = rw other refl

module _ (session actor : ℕ) (standing : Standing) (queue : List Request) (replies : List Reply) where
  own_says : actor ≡ session → (event : Event) → Led session standing (word_by session actor event) queue replies
      → open_after (word_by session actor event) (open_at standing) ≡ request_event (open_at standing) event
  own_says own (Queued number kind at budget) led = said_own (asks number) (open_at standing) (actor == session) (eq-eqb actor session own)
  own_says own (Served asker number report) led = after_answer session standing queue replies number (asker == session) led
  own_says own (Taken number) led = said_own (takes number) (open_at standing) (actor == session) (eq-eqb actor session own)
  own_says own (Spent number turns) led = said_own (leaves number) (open_at standing) (actor == session) (eq-eqb actor session own)
  own_says own (Withdrawn number) led = said_own (leaves number) (open_at standing) (actor == session) (eq-eqb actor session own)
  own_says own event led = refl

  other_says : actor ≢ session → (event : Event) → Led session standing (word_by session actor event) queue replies
      → open_after (word_by session actor event) (open_at standing) ≡ open_at standing
  other_says apart (Queued number kind at budget) led = said_other (asks number) (open_at standing) (actor == session) (ne_eqb actor session apart)
  other_says apart (Served asker number report) led = after_answer session standing queue replies number (asker == session) led
  other_says apart (Taken number) led = said_other (takes number) (open_at standing) (actor == session) (ne_eqb actor session apart)
  other_says apart (Spent number turns) led = said_other (leaves number) (open_at standing) (actor == session) (ne_eqb actor session apart)
  other_says apart (Withdrawn number) led = said_other (leaves number) (open_at standing) (actor == session) (ne_eqb actor session apart)
  other_says apart event led = refl

request_from-append : (was : Option ℕ) (xs ys : List Entry) → request_from was (xs ++ ys) ≡ request_from (request_from was xs) ys
request_from-append was [] ys = refl
request_from-append was (entry ∷ rest) ys = request_from-append (request_event was entry.event) rest ys

-- The session stands so, and its entries tell so.
abbrev Tells : ℕ → List Entry → State → Type 0
Tells session before state = (standing : Standing) × StandsIn session standing state × (open_at standing ≡ request_from None (made_by session before))

tells_more : (session : ℕ) (before : List Entry) (entry : Entry) (was : Option ℕ) → was ≡ request_from None (made_by session before)
    → request_from None (made_by session (before ++ entry ∷ [])) ≡ request_from was (made_by session (entry ∷ []))
tells_more session before entry was is =
    ap (request_from None) (filter-append (λ entry. entry.actor == session) before (entry ∷ []))
    ∙ request_from-append None (made_by session before) (made_by session (entry ∷ []))
    ∙ ap (λ was. request_from was (made_by session (entry ∷ []))) (sym is)

tells_next : (session : ℕ) (before : List Entry) (entry : Entry) (standing : Standing) (queue : List Request) (replies : List Reply)
    → Led session standing (word_by session entry.actor entry.event) queue replies → open_at standing ≡ request_from None (made_by session before)
    → open_after (word_by session entry.actor entry.event) (open_at standing) ≡ request_from None (made_by session (before ++ entry ∷ []))
tells_next session before entry standing queue replies led is =
    let more = tells_more session before entry (open_at standing) is in
    elim (cases_eq entry.actor session) [
      | inl own ↦ own_says session entry.actor standing queue replies own entry.event led
          ∙ sym (more ∙ ap (request_from (open_at standing)) (made_by-own session entry [] own))
      | inr apart ↦ other_says session entry.actor standing queue replies apart entry.event led
          ∙ sym (more ∙ ap (request_from (open_at standing)) (made_by-other session entry [] apart))
    ]

Tells-after : (terms : Terms) (session : ℕ) (before : List Entry) (state : State) (entry : Entry) → Comes terms state entry → Tells session before state
    → Tells session (before ++ entry ∷ []) (after terms state entry)
Tells-after terms session before state entry comes tells =
    let led = Led-after terms session tells.0 state entry comes tells.1 in
    let word = word_by session entry.actor entry.event in
    let next = after terms state entry in (
      stands_after word tells.0,
      StandsIn-after session word tells.0 next led,
      open_at-after word tells.0 ∙ tells_next session before entry tells.0 (queue_of next.phase) next.replies led tells.2,
    )

-- What the standing says of the state.
HasOpen-stands : (session : ℕ) (standing : Standing) (state : State) → StandsIn session standing state → HasOpen (open_at standing) session state
HasOpen-stands session nothing_open state stands =
    (none-mine asker_of number_of session (queue_of state.phase) stands.waits, none-mine replied_to number_in session state.replies stands.replied)
HasOpen-stands session (waiting n) state stands =
    let one : All (λ m. m ≡ n) (n ∷ []) = All-cons (λ m. m ≡ n) n [] refl (All-nil (λ m. m ≡ n)) in
    let none : All (λ m. m ≡ n) [] = All-nil (λ m. m ≡ n) in
    record {
      there = inl (mine-there asker_of number_of session n [] (queue_of state.phase) stands.waits);
      waits = mine-each asker_of number_of (λ m. m ≡ n) session (queue_of state.phase) (subst (All (λ m. m ≡ n)) (sym stands.waits) one);
      served = mine-each replied_to number_in (λ m. m ≡ n) session state.replies (subst (All (λ m. m ≡ n)) (sym stands.replied) none);
    }
HasOpen-stands session (answered n) state stands =
    let one : All (λ m. m ≡ n) (n ∷ []) = All-cons (λ m. m ≡ n) n [] refl (All-nil (λ m. m ≡ n)) in
    let none : All (λ m. m ≡ n) [] = All-nil (λ m. m ≡ n) in
    record {
      there = inr (mine-there replied_to number_in session n [] state.replies stands.replied);
      waits = mine-each asker_of number_of (λ m. m ≡ n) session (queue_of state.phase) (subst (All (λ m. m ≡ n)) (sym stands.waits) none);
      served = mine-each replied_to number_in (λ m. m ≡ n) session state.replies (subst (All (λ m. m ≡ n)) (sym stands.replied) one);
    }

pub request_is_own : (terms : Terms) (journal : List Entry) (session : ℕ) → IsDeskRun terms journal
    → HasOpen (request_from None (made_by session journal)) session (state_of terms journal)
request_is_own terms journal session run =
    let tells = kept_with terms (Tells session) (Tells-after terms session) [] start journal run.runs
    (nothing_open, (record { waits = refl; replied = refl }), refl) in
    subst (λ request. HasOpen request session (state_of terms journal)) tells.2 (HasOpen-stands session tells.0 (state_of terms journal) tells.1)
