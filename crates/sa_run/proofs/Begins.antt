-- A session that has a new pass is along before its first turn.
use Rattle.std.proofs.Common.{◌≡◌, ℕ, ◌+◌, ◌-◌, ◌*◌, ◌≤◌, inl, inr, List, [], length, slice_index, slice_index_or, refl, sym, subst, ap, ◌∙◌, arith}
use Rattle.std.proofs.lemmas.Bool.{cases_eq, eq-eqb, ne_eqb}
use Rattle.std.proofs.lemmas.List.FromFn.{get_or-map-range_with_len, length-map-range_with_len}
use Rattle.sa_desk.specs.Contents.{Contents}
use Rattle.sa_desk.specs.Legal.{Sessions, given_of}
use Rattle.sa_desk.specs.New.{no_desk}
use Rattle.sa_desk.specs.World.{IsFirst}
use Rattle.sa_desk.specs.program.Prepares.{Answers}
use Rattle.sa_board.specs.View.{desk_in}
use Rattle.sa_board.specs.Board.{BoardState, new_pass}
use Rattle.sa_board.specs.Pass.{PassState, known_desk, world_of}
use Rattle.sa_board.proofs.Calls.{known-else}
use Rattle.sa_worker.specs.View.{first_view, aimed}
use Rattle.sa_worker.specs.Holds.{IsGiven}
use Rattle.sa_worker.specs.Keeps.{IsSession, Suits}
use Rattle.sa_worker.proofs.working.All.{IsWorking-first}
use Rattle.sa_step.specs.Sessions.{MayStart, AreSound}
use Rattle.sa_step.specs.Starts.{share_in, desks_of}
use Rattle.sa_step.specs.Starts as starts
use Rattle.sa_run.specs.inner.Along.{IsAlong}

-- The desks that a script begins with.
module _ (script : Sessions) where
  abbrev total : ℕ
  total = length script.texts

  abbrev made : ℕ → Contents
  made = starts.desk_in script.texts script.quantum script.turns

  pub founded_count : (founded : List Contents) → founded ≡ desks_of script.texts script.quantum script.turns → length founded ≡ length script.texts
  founded_count founded is = ap length is ∙ length-map-range_with_len made 1 total

  pub founded_desk : (founded : List Contents) → founded ≡ desks_of script.texts script.quantum script.turns → (desk : ℕ) → 1 ≤ desk → desk ≤ total
      → desk_in founded (desk - 1) ≡ starts.desk_in script.texts script.quantum script.turns desk
  founded_desk founded is desk least most =
      ap (λ (desks : List Contents). slice_index_or desks (desk - 1) no_desk) is
      ∙ get_or-map-range_with_len made 1 total (desk - 1) desk no_desk (omega (arith, least, most)) (omega (arith, least))

module _ (gives : Answers) (script : Sessions) (start : MayStart script) (sound : AreSound gives script) (board : BoardState)
    (founded : board.founded ≡ desks_of script.texts script.quantum script.turns) (session : ℕ) (least : 1 ≤ session) (most : session ≤ length script.texts) where
  abbrev pass : PassState
  pass = new_pass board session

  is_given : IsGiven (given_of script session)
  is_given = record {
    least_session = least;
    most_session = most;
    most_sessions = start.few;
    least_quantum = start.least_quantum;
    most_quantum = start.most_quantum;
    least_turns = start.least_turns;
    most_turns = start.most_turns;
    texts = start.short (session - 1) [] (omega (arith, least, most));
  }

  abbrev statements : ℕ
  statements = length (slice_index_or script.texts (session - 1) [])

  -- its share of a desk is what it asks for
  enough : (desk : ℕ) → 3 * statements + aimed session desk (2 * statements + 1) ≤ share_in script.texts desk session
  enough desk = elim (cases_eq desk session) [
    | inl same ↦ rw (eq-eqb desk session same, eq-eqb session desk (sym same)) (omega arith)
    | inr apart ↦ rw (ne_eqb desk session apart, ne_eqb session desk (λ same. apart (sym same))) (omega arith)
  ]

  -- what it knows of a desk is the new one
  known : (desk : ℕ) → IsSession (given_of script session) desk → known_desk pass desk ≡ starts.desk_in script.texts script.quantum script.turns desk
  known desk is =
      let some = is.least in
      known-else pass desk (λ out. absurd (omega (arith, out, some))) ∙ founded_desk script board.founded founded desk is.least is.most

  suits : Suits (world_of pass) (given_of script session)
  suits = record {
    terms = λ desk is. ap (λ (desk : Contents). desk.terms) (known desk is);
    shares = λ desk is. ap (λ (desk : Contents). length desk.shares) (known desk is) ∙ length-map-range_with_len (share_in script.texts desk) 1 (length script.texts);
    room = λ desk is.
        let shares : (known_desk pass desk).shares ≡ starts.shares_for script.texts desk = ap (λ (desk : Contents). desk.shares) (known desk is) in
        let share : slice_index (starts.shares_for script.texts desk) (session - 1) ≡ share_in script.texts desk session =
        get_or-map-range_with_len (share_in script.texts desk) 1 (length script.texts) (session - 1) session 0 (omega (arith, least, most)) (omega (arith, least)) in
        subst (λ (share : ℕ). 3 * statements + aimed session desk (2 * statements + 1) ≤ share)
        (sym (ap (λ (shares : List ℕ). slice_index shares (session - 1)) shares ∙ share)) (enough desk);
  }

  pub session_begins : IsFirst (world_of (new_pass board session)) → IsAlong gives script board (new_pass board session) (first_view (given_of script session))
  session_begins first = record {
    table = refl;
    idle = refl;
    home = refl;
    least = least;
    most = most;
    sessions = founded_count script board.founded founded;
    given = refl;
    sound = sound;
    working = IsWorking-first gives (world_of pass) (given_of script session) is_given first suits;
  }
