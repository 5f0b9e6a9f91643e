-- What the threads are given, and what their sessions come to in the end.
use Rattle.std.proofs.Common.{◌≡◌, ℕ, ◌+◌, ◌<◌, List, ◌++◌, length, map, take, All, slice_index_or, IsTrue, refl, sym, subst, ap, ◌∙◌, arith}
use Rattle.std.specs.List.{range_with_len}
use Rattle.std.proofs.lemmas.List.{get_or-map, length-map, ext_get_or, take-append-le, take_all}
use Rattle.std.proofs.lemmas.List.FromFn.{get_or-map-range_with_len, length-map-range_with_len, get_or-range_with_len, length-range_with_len}
use Rattle.sa_desk.specs.Legal.{Sessions}
use Rattle.sa_desk.specs.World.{IsFirst}
use Rattle.sa_desk.specs.program.Prepares.{Answers}
use Rattle.sa_board.specs.Board.{BoardState, new_pass, new_passes}
use Rattle.sa_board.specs.Pass.{PassState, world_of}
use Rattle.sa_step.specs.Sessions.{MayStart, AreSound}
use Rattle.sa_step.specs.Starts.{desks_of}
use Rattle.sa_run.specs.declared.member.Member.{Member}
use Rattle.sa_run.specs.inner.Along.{HasEnded}
use Rattle.sa_run.specs.inner.Members.{member_in, members_of, MayRun, HasRun}
use Rattle.sa_run.proofs.Ended.{new_is_first}

-- What a slice of a whole list has written is the list.
pub written : {X : Type 0} (count : ℕ) (items more : List X) → count ≡ length items → take count (items ++ more) ≡ items
written count items more is = take-append-le count items more (omega (arith, is)) ∙ take_all count items (omega (arith, is))

module _ (gives : Answers) (script : Sessions) (board : BoardState) (founded : board.founded ≡ desks_of script.texts script.quantum script.turns) where
  abbrev total : ℕ
  total = length script.texts

  abbrev nobody : Member
  nobody = member_in board script.texts 0

  members_count : length (members_of board script.texts) ≡ total
  members_count = length-map-range_with_len (member_in board script.texts) 1 total

  -- the member at a place
  member_at : (place : ℕ) (none : Member) → place < total → slice_index_or (members_of board script.texts) place none ≡ member_in board script.texts (place + 1)
  member_at place none below = get_or-map-range_with_len (member_in board script.texts) 1 total place (place + 1) none below (omega arith)

  -- Each member may run.
  pub members_may : MayStart script → AreSound gives script → (passes : List PassState) → passes ≡ new_passes board → All (λ (pass : PassState). IsFirst (world_of pass)) passes
      → (members : List Member) → members ≡ members_of board script.texts → All (MayRun gives script board) members
  members_may start sound passes are first members is =
      subst (All (MayRun gives script board)) (sym is) (λ place none there.
      let count = members_count in
      let below : place < total = omega (arith, there, count) in
      subst (MayRun gives script board) (sym (member_at place none below))
      (record {
        start = start;
        sound = sound;
        founded = founded;
        least = omega arith;
        most = omega (arith, below);
        pass_is = refl;
        first = new_is_first script board founded passes are first (place + 1) (omega arith) (omega (arith, below));
        statements_are = refl;
        waits = refl;
      }))

  module _ (before after : List Member) (are : before ≡ members_of board script.texts) (same : length after ≡ length before)
      (each : (place : ℕ) (none : Member) → place < length before → HasRun gives script board (slice_index_or before place none) (slice_index_or after place none))
      (passes : List PassState) (passes_are : passes ≡ map (λ (member : Member). member.pass) after) where
    after_count : length after ≡ total
    after_count = same ∙ ap length are ∙ members_count

    passes_count : length passes ≡ length after
    passes_count = ap length passes_are ∙ length-map after (λ (member : Member). member.pass)

    pass_at : (place : ℕ) (none : PassState) → place < total → slice_index_or passes place none ≡ (slice_index_or after place nobody).pass
    pass_at place none below =
        let count = after_count in
        ap (λ (passes : List PassState). slice_index_or passes place none) passes_are
        ∙ get_or-map (λ (member : Member). member.pass) after place nobody none (omega (arith, below, count))

    run_at : (place : ℕ) → place < total → HasRun gives script board (member_in board script.texts (place + 1)) (slice_index_or after place nobody)
    run_at place below =
        let count = after_count in
        subst (λ (member : Member). HasRun gives script board member (slice_index_or after place nobody))
        (ap (λ (members : List Member). slice_index_or members place nobody) are ∙ member_at place nobody below) (each place nobody (omega (arith, below, count, same)))

    -- They are the passes of all sessions, in their order.
    pub sessions_are : map (λ (pass : PassState). pass.session) passes ≡ range_with_len 1 (length script.texts)
    sessions_are =
        let many = passes_count in
        let count = after_count in
        let here = length-map passes (λ (pass : PassState). pass.session) in
        ext_get_or 0 (map (λ (pass : PassState). pass.session) passes) (range_with_len 1 total) (here ∙ many ∙ count ∙ sym (length-range_with_len 1 total)) (λ place there.
        let below : place < total = omega (arith, there, here, many, count) in
        get_or-map (λ (pass : PassState). pass.session) passes place (new_pass board 0) 0 (omega (arith, below, many, count))
        ∙ ap (λ (pass : PassState). pass.session) (pass_at place (new_pass board 0) below) ∙ (run_at place below).session
        ∙ (let next : place + 1 ≡ 1 + place = omega arith in next) ∙ sym (get_or-range_with_len 1 total place 0 below))

    -- Where all members have ended, so have the sessions of their passes.
    pub passes_ended : All (λ (member : Member). IsTrue member.ended) after → All (HasEnded gives script board) passes
    passes_ended ended place none there =
        let many = passes_count in
        let count = after_count in
        let below : place < total = omega (arith, there, many, count) in
        subst (HasEnded gives script board) (sym (pass_at place none below)) ((run_at place below).ended (ended place nobody (omega (arith, below, count))))
