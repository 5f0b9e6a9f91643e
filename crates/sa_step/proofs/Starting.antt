-- What the sessions of a script begin with suits them.
use Rattle.std.proofs.Common.{◌≡◌, ℕ, ◌+◌, ◌-◌, ◌*◌, ◌<◌, ◌≤◌, ◌==◌, Bool, true, false, inl, inr, List, [], ◌∷◌, length, drop, All, slice_index, slice_index_or, refl, sym, subst, ap, ◌∙◌, arith}
use Rattle.std.proofs.lemmas.Bool.{cases_eq, eq-eqb, ne_eqb}
use Rattle.std.proofs.lemmas.List.{get_or_default, get_or-drop}
use Rattle.std.proofs.lemmas.List.Elements.{All-map}
use Rattle.std.specs.List.{range_with_len}
use Rattle.std.proofs.lemmas.List.FromFn.{get_or-map-range_with_len, length-map-range_with_len}
use Rattle.sa_meaning.specs.Data.{RunData}
use Rattle.sa_desk.specs.Contents.{Contents, IsSound}
use Rattle.sa_desk.specs.Legal.{Sessions, given_of}
use Rattle.sa_desk.specs.New.{MayMake, IsNew, AreNew, no_desk}
use Rattle.sa_desk.specs.Plain.{Plain, desk_at, world_of}
use Rattle.sa_desk.specs.World.{IsFirst}
use Rattle.sa_desk.specs.program.Prepares.{Answers}
use Rattle.sa_worker.specs.View.{View, first_view, aimed}
use Rattle.sa_worker.specs.Holds.{IsGiven}
use Rattle.sa_worker.specs.Keeps.{Suits}
use Rattle.sa_step.specs.Sessions.{MayStart, AreSound, AreRunning, first_in, first_views, view_in}
use Rattle.sa_step.specs.Starts.{share_of, share_in, shares_for, desk_in, desks_of}
use Rattle.sa_step.proofs.Driven.{AreWorking-same}
use Rattle.sa_worker.proofs.working.All.{AreWorking-first}

-- A share is small.
share_small : (count : ℕ) (own : Bool) → count ≤ 256 → share_of count own ≤ 65536
share_small count true few = omega (arith, few)
share_small count false few = omega (arith, few)

-- The share that the loop reckons is the session's.
pub share_is : (texts : List (List (List ℕ))) (own place : ℕ) (text : List (List ℕ)) (count share : ℕ) → text ≡ slice_index_or texts place text → place < length texts
    → count ≡ length text → share ≡ share_of count (place + 1 == own) → share ≡ share_in texts own (place + 1)
share_is texts own place text count share is there count_is reckoned =
    let same : place + 1 - 1 ≡ place = omega arith in
    let read : length text ≡ length (slice_index_or texts (place + 1 - 1) []) =
    ap length (is ∙ get_or_default texts place text [] there) ∙ ap (λ at. length (slice_index_or texts at [])) (sym same) in
    reckoned ∙ ap (λ count. share_of count (place + 1 == own)) (count_is ∙ read)

module _ (texts : List (List (List ℕ))) (few : length texts ≤ 16) (short : All (λ texts. length texts ≤ 256) texts) (quantum turns : ℕ) where
  shares_count : (own : ℕ) → length (shares_for texts own) ≡ length texts
  shares_count own = length-map-range_with_len (share_in texts own) 1 (length texts)

  few_texts : (session : ℕ) → 1 ≤ session → session ≤ length texts → length (slice_index_or texts (session - 1) []) ≤ 256
  few_texts session least most = short (session - 1) [] (omega (arith, least, most))

  -- Such a desk may be made.
  pub may_make : (own : ℕ) → 1 ≤ quantum → quantum ≤ 64 → 1 ≤ turns → MayMake quantum turns (shares_for texts own)
  may_make own least most lasts = record {
    sessions = let count = shares_count own in omega (arith, count, few);
    small = λ k d below.
        let count = shares_count own in
        let there : k < length texts = omega (arith, count, below) in
        let at : slice_index_or (shares_for texts own) k d ≡ share_in texts own (k + 1) = get_or-map-range_with_len (share_in texts own) 1 (length texts) k (k + 1) d there (omega arith) in
        subst (λ share. share ≤ 65536) (sym at) (share_small (length (slice_index_or texts (k + 1 - 1) [])) (k + 1 == own) (few_texts (k + 1) (omega arith) (omega (arith, there))));
    least = least;
    most = most;
    lasts = lasts;
  }

  desks_count : length (desks_of texts quantum turns) ≡ length texts
  desks_count = length-map-range_with_len (desk_in texts quantum turns) 1 (length texts)

  desk_is : (index : ℕ) (d : Contents) → index < length texts → slice_index_or (desks_of texts quantum turns) index d ≡ desk_in texts quantum turns (index + 1)
  desk_is index d there = get_or-map-range_with_len (desk_in texts quantum turns) 1 (length texts) index (index + 1) d there (omega arith)

  -- They are new.
  pub new_are_new : All IsSound (desks_of texts quantum turns) → AreNew (desks_of texts quantum turns)
  new_are_new sound = record {
    few = let count = desks_count in omega (arith, count, few);
    sound = λ index below. sound index no_desk below;
    new = λ index below. let count = desks_count in subst (IsNew (index + 1)) (sym (desk_is index no_desk (omega (arith, count, below)))) refl;
    shares = λ index below.
        let count = desks_count in
        ap (λ (desk : Contents). length desk.shares) (desk_is index no_desk (omega (arith, count, below))) ∙ shares_count (index + 1) ∙ sym count;
  }

module _ (gives : Answers) (script : Sessions) (start : MayStart script) (sound : AreSound gives script) (plain : Plain) (desks : plain.desks ≡ desks_of script.texts script.quantum script.turns) where
  abbrev total : ℕ
  total = length script.texts

  plain_desk : (desk : ℕ) → 1 ≤ desk → desk ≤ total → desk_at plain desk ≡ desk_in script.texts script.quantum script.turns desk
  plain_desk desk least most =
      ap (λ desks. slice_index_or desks (desk - 1) no_desk) desks
      ∙ get_or-map-range_with_len (desk_in script.texts script.quantum script.turns) 1 total (desk - 1) desk no_desk (omega (arith, least, most)) (omega (arith, least))

  module _ (session : ℕ) (least : 1 ≤ session) (most : session ≤ total) where
    is_given : IsGiven (given_of script session)
    is_given = record {
      least_session = least;
      most_session = most;
      most_sessions = start.few;
      least_quantum = start.least_quantum;
      most_quantum = start.most_quantum;
      least_turns = start.least_turns;
      most_turns = start.most_turns;
      texts = start.short (session - 1) [] (omega (arith, least, most));
    }

    abbrev statements : ℕ
    statements = length (slice_index_or script.texts (session - 1) [])

    -- its share of a desk is what it asks for
    enough : (desk : ℕ) → 3 * statements + aimed session desk (2 * statements + 1) ≤ share_in script.texts desk session
    enough desk = elim (cases_eq desk session) [
      | inl same ↦ rw (eq-eqb desk session same, eq-eqb session desk (sym same)) (omega arith)
      | inr apart ↦ rw (ne_eqb desk session apart, ne_eqb session desk (λ same. apart (sym same))) (omega arith)
    ]

    suits : Suits (world_of plain) (given_of script session)
    suits = record {
      terms = λ desk is. ap (λ (desk : Contents). desk.terms) (plain_desk desk is.least is.most);
      shares = λ desk is. ap (λ (desk : Contents). length desk.shares) (plain_desk desk is.least is.most) ∙ length-map-range_with_len (share_in script.texts desk) 1 total;
      room = λ desk is.
          let share : slice_index (desk_at plain desk).shares (session - 1) ≡ share_in script.texts desk session =
          ap (λ (desk : Contents). slice_index desk.shares (session - 1)) (plain_desk desk is.least is.most)
          ∙ get_or-map-range_with_len (share_in script.texts desk) 1 total (session - 1) session 0 (omega (arith, least, most)) (omega (arith, least)) in
          subst (λ share. 3 * statements + aimed session desk (2 * statements + 1) ≤ share) (sym share) (enough desk);
    }

    first_is : first_in script session ≡ view_in (first_views script) session
    first_is = sym (get_or-map-range_with_len (first_in script) 1 total (session - 1) session _ (omega (arith, least, most)) (omega (arith, least)))

  -- The sessions stand at their beginning.
  pub starts_running : IsFirst (world_of plain) → AreRunning gives (record { script = script; plain = plain; views = first_views script })
  starts_running first = record {
    sound = sound;
    desks = ap length desks ∙ length-map-range_with_len (desk_in script.texts script.quantum script.turns) 1 total;
    workers = length-map-range_with_len (first_in script) 1 total;
    working = AreWorking-same gives script (world_of plain) (first_in script) (view_in (first_views script)) (λ session least most. first_is session least most)
        (AreWorking-first gives script (world_of plain) first (λ session least most. (is_given session least most, suits session least most)));
  }

-- The worker of a session that is made so is at its beginning.
pub worker_first : (script : Sessions) (count : ℕ) (texts : List (List ℕ)) (rest : List (List (List ℕ))) (worker : View) (session sessions : ℕ) (tables : RunData)
    → drop count script.texts ≡ texts ∷ rest → session ≡ count + 1 → sessions ≡ length script.texts → tables ≡ script.tables
    → worker ≡ first_view (record { session = session; sessions = sessions; quantum = script.quantum; turns = script.turns; tables = tables; texts = texts }) → worker ≡ first_in script (count + 1)
worker_first script count texts rest worker session sessions tables left number total same is =
    let at : slice_index_or script.texts (count + 1 - 1) [] ≡ texts =
    ap (λ at. slice_index_or script.texts at []) (let one : count + 1 - 1 ≡ count + 0 = omega arith in one) ∙ sym (get_or-drop count script.texts 0 []) ∙ ap (λ texts. slice_index_or texts 0 []) left in
    is ∙ rw (number, total, same, at) refl

-- What is made so stands at its beginning.
pub started : (gives : Answers) (script : Sessions) → MayStart script → AreSound gives script → (plain : Plain) → plain.desks ≡ desks_of script.texts script.quantum script.turns → IsFirst (world_of plain)
    → (tables : RunData) (texts : List (List (List ℕ))) (views : List View) → tables ≡ script.tables → texts ≡ script.texts → views ≡ first_views script
    → AreRunning gives (record { script = record { tables = tables; texts = texts; quantum = script.quantum; turns = script.turns }; plain = plain; views = views })
started gives script start sound plain desks first tables texts views same_tables same_texts same_views = rw (same_tables, same_texts, same_views) (starts_running gives script start sound plain desks first)

-- Nothing is entered yet.
pub starts_empty : (texts : List (List (List ℕ))) (quantum turns : ℕ) (desks : List Contents) → desks ≡ desks_of texts quantum turns → All (λ (desk : Contents). desk.journal ≡ []) desks
starts_empty texts quantum turns desks is =
    subst (All (λ (desk : Contents). desk.journal ≡ [])) (sym is)
    (All-map (λ (desk : Contents). desk.journal ≡ []) (desk_in texts quantum turns) (range_with_len 1 (length texts)) (λ k d there. refl))
