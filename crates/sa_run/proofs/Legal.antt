-- Where all sessions have ended the histories of their desks are legal journals.
use Rattle.std.proofs.Common.{◌≡◌, ℕ, ◌+◌, ◌-◌, ◌≤◌, List, ◌++◌, length, map, All, slice_index_or, sym, subst, subst₂, ap, ◌∙◌, arith, append-nil}
use Rattle.std.specs.List.{range_with_len}
use Rattle.std.proofs.lemmas.List.{length-map, get_or-map}
use Rattle.std.proofs.lemmas.List.Elements.{All-weaker}
use Rattle.std.proofs.lemmas.List.FromFn.{length-range_with_len, get_or-range_with_len}
use Rattle.sa_desk.specs.declared.entry.Entry.{Entry}
use Rattle.sa_desk.specs.Contents.{Contents}
use Rattle.sa_desk.specs.Legal.{Sessions, given_of, journal_at, HasProgram, IsLegal}
use Rattle.sa_desk.specs.Runs.{IsDeskRun, IsEntryOf}
use Rattle.sa_desk.specs.World.{made_by, standing_on, Begins}
use Rattle.sa_desk.specs.program.Course.{Given}
use Rattle.sa_desk.specs.program.Prepares.{Answers, AreAnswers}
use Rattle.sa_desk.specs.program.SoFar.{closed, IsSoFar, IsProgram}
use Rattle.sa_board.specs.View.{desk_in}
use Rattle.sa_board.specs.Board.{BoardState, new_pass}
use Rattle.sa_board.specs.Pass.{PassState, met_at, world_of}
use Rattle.sa_board.specs.History.{IsHistory, AreHistories}
use Rattle.sa_board.proofs.Calls.{known-else, own-mine, own-seen}
use Rattle.sa_board.proofs.Still.{none_new}
use Rattle.sa_worker.specs.View.{done, View}
use Rattle.sa_worker.specs.Follows.{FollowsAt}
use Rattle.sa_worker.specs.Working.{IsWorking}
use Rattle.sa_worker.proofs.follows.SoFar.{Follows-so_far}
use Rattle.sa_step.specs.Starts.{desks_of}
use Rattle.sa_run.specs.inner.Along.{IsAlong, HasEnded}
use Rattle.sa_run.proofs.Begins.{founded_count, founded_desk}
use Rattle.sa_run.proofs.Placed.{IsPlaced}
use Rattle.sa_run.proofs.Growing.{mine_placed, Follows-more}

-- One session, which has ended, and journals that begin with what it has seen of the script's desks.
module _ (gives : Answers) (script : Sessions) (board : BoardState) (pass : PassState) (ended : HasEnded gives script board pass) where
  abbrev view : View
  view = ended.view

  abbrev along : IsAlong gives script board pass view
  along = ended.along

  abbrev working : IsWorking gives (world_of pass) view
  working = along.working

  session_is : view.given.session ≡ pass.session
  session_is = ap (λ (given : Given). given.session) along.given

  mine_is : (world_of pass).mine view.given.session ≡ pass.mine
  mine_is =
      ap (world_of pass).mine session_is ∙ own-mine pass ∙ ap (λ (new : List Entry). pass.mine ++ new) (none_new pass along.home) ∙ append-nil pass.mine

  seen_is : (desk : ℕ) → 1 ≤ desk → (world_of pass).seen view.given.session desk ≡ (met_at pass desk).journal
  seen_is desk least =
      ap (λ (session : ℕ). (world_of pass).seen session desk) session_is ∙ own-seen pass desk
      ∙ ap (λ (desk : Contents). desk.journal) (known-else pass desk (λ out. let idle = along.idle in absurd (omega (arith, out, idle, least))))

  -- its entries, where its worker is done
  at_end : FollowsAt view done ((world_of pass).seen view.given.session) working.answers pass.mine
  at_end =
      subst (λ (mine : List Entry). FollowsAt view done ((world_of pass).seen view.given.session) working.answers mine) mine_is
      (subst (λ stage. FollowsAt view stage ((world_of pass).seen view.given.session) working.answers ((world_of pass).mine view.given.session)) ended.done_is working.follows)

  placed : All (IsPlaced view.given) pass.mine
  placed = mine_placed view done ((world_of pass).seen view.given.session) working.answers pass.mine working.keeps.session at_end

  there : All (λ (entry : Entry). (1 ≤ entry.desk) × (entry.desk ≤ length script.texts)) pass.mine
  there =
      All-weaker (IsPlaced view.given) (λ (entry : Entry). (1 ≤ entry.desk) × (entry.desk ≤ length script.texts))
      (λ entry is. (is.0.least, subst (λ (given : Given). entry.desk ≤ given.sessions) along.given is.0.most)) pass.mine placed

  module _ (journals : ℕ → List Entry) (grown : (desk : ℕ) → 1 ≤ desk → desk ≤ length script.texts → Begins (met_at pass desk).journal (journals desk)) where
    -- It has made its whole program.
    whole : IsProgram (given_of script pass.session) journals working.answers pass.mine
    whole =
        let more = Follows-more view done ((world_of pass).seen view.given.session) working.answers pass.mine working.keeps.session at_end journals
        (λ desk is. subst (λ (journal : List Entry). Begins journal (journals desk)) (sym (seen_is desk is.least)) (grown desk is.least (subst (λ (given : Given). desk ≤ given.sessions) along.given is.most))) in
        let stands = Follows-so_far view done journals working.answers pass.mine more in
        let closing = subst (IsSoFar view.given journals working.answers pass.mine view.turn) stands.now_is stands.so_far in
        (view.turn, subst (λ (given : Given). IsSoFar given journals working.answers pass.mine view.turn closed) along.given closing)

  answered : AreAnswers gives (given_of script pass.session).texts working.answers
  answered = subst (λ (given : Given). AreAnswers gives given.texts working.answers) along.given working.given.ended

-- All sessions.
module _ (gives : Answers) (script : Sessions) (board : BoardState) (founded : board.founded ≡ desks_of script.texts script.quantum script.turns)
    (passes : List PassState) (journals : List (List Entry)) (are : AreHistories board.founded passes journals)
    (sessions : map (λ (pass : PassState). pass.session) passes ≡ range_with_len 1 (length script.texts)) (all : All (HasEnded gives script board) passes) where
  abbrev total : ℕ
  total = length script.texts

  abbrev number_of : PassState → ℕ
  number_of pass = pass.session

  -- there are as many desks, journals and passes as sessions
  desks_count : length board.founded ≡ total
  desks_count = founded_count script board.founded founded

  journals_count : length journals ≡ total
  journals_count = are.count ∙ desks_count

  passes_count : length passes ≡ total
  passes_count = sym (length-map passes number_of) ∙ ap length sessions ∙ length-range_with_len 1 total

  abbrev pass_of : ℕ → PassState
  pass_of session = slice_index_or passes (session - 1) (new_pass board 0)

  -- the pass of a session is at its number
  number_is : (session : ℕ) → 1 ≤ session → session ≤ total → (pass_of session).session ≡ session
  number_is session least most =
      let count = passes_count in
      let at : 1 + (session - 1) ≡ session = omega (arith, least) in
      sym (get_or-map number_of passes (session - 1) (new_pass board 0) 0 (omega (arith, least, most, count)))
      ∙ ap (λ (numbers : List ℕ). slice_index_or numbers (session - 1) 0) sessions ∙ get_or-range_with_len 1 total (session - 1) 0 (omega (arith, least, most)) ∙ at

  has_ended : (session : ℕ) → 1 ≤ session → session ≤ total → HasEnded gives script board (pass_of session)
  has_ended session least most = let count = passes_count in all (session - 1) (new_pass board 0) (omega (arith, least, most, count))

  -- the history of a desk
  history_of : (desk : ℕ) → 1 ≤ desk → desk ≤ total → IsHistory (desk_in board.founded (desk - 1)) (length board.founded) (desk - 1) passes (journal_at journals desk)
  history_of desk least most = let count = desks_count in are.each (desk - 1) (omega (arith, least, most, count))

  after : (desk : ℕ) → 1 ≤ desk → desk - 1 + 1 ≡ desk
  after desk least = omega (arith, least)

  -- It begins with what a session has seen of it, and has the session's entries on it.
  seen_of : (session : ℕ) → 1 ≤ session → session ≤ total → (desk : ℕ) → 1 ≤ desk → desk ≤ total → Begins (met_at (pass_of session) desk).journal (journal_at journals desk)
  seen_of session least most desk low high =
      let count = passes_count in
      subst (λ (desk_is : ℕ). Begins (met_at (pass_of session) desk_is).journal (journal_at journals desk)) (after desk low)
      ((history_of desk low high).seen (session - 1) (new_pass board 0) (omega (arith, least, most, count)))

  own_of : (session : ℕ) → 1 ≤ session → session ≤ total → (desk : ℕ) → 1 ≤ desk → desk ≤ total → made_by session (journal_at journals desk) ≡ standing_on desk (pass_of session).mine
  own_of session least most desk low high =
      let count = passes_count in
      subst₂ (λ (number desk_is : ℕ). made_by number (journal_at journals desk) ≡ standing_on desk_is (pass_of session).mine) (number_is session least most) (after desk low)
      ((history_of desk low high).own (session - 1) (new_pass board 0) (omega (arith, least, most, count)))

  has_program : (session : ℕ) → 1 ≤ session → session ≤ total → HasProgram gives script journals session
  has_program session least most =
      let pass = pass_of session in
      let ended = has_ended session least most in
      let number = number_is session least most in
      let many = journals_count in
      record {
        mine = pass.mine;
        made = record {
          there = subst (λ (count : ℕ). All (λ (entry : Entry). (1 ≤ entry.desk) × (entry.desk ≤ count)) pass.mine) (sym journals_count) (there gives script board pass ended);
          standing = λ desk low high. own_of session least most desk low (omega (arith, high, many));
        };
        answers = ended.along.working.answers;
        given = subst (λ (session : ℕ). AreAnswers gives (given_of script session).texts ended.along.working.answers) number (answered gives script board pass ended);
        program =
            subst (λ (session : ℕ). IsProgram (given_of script session) (journal_at journals) ended.along.working.answers pass.mine) number
            (whole gives script board pass ended (journal_at journals) (λ desk low high. seen_of session least most desk low high));
      }

  pub histories_are_legal : IsLegal gives script journals
  histories_are_legal =
      let many = journals_count in
      record {
        one_each = journals_count;
        entries = λ desk low high.
            subst₂ (λ (number sessions : ℕ). All (IsEntryOf number sessions) (journal_at journals desk)) (after desk low) desks_count (history_of desk low (omega (arith, high, many))).entries;
        desks = λ desk low high.
            subst (λ terms. IsDeskRun terms (journal_at journals desk)) (ap (λ (desk : Contents). desk.terms) (founded_desk script board.founded founded desk low (omega (arith, high, many))))
            (history_of desk low (omega (arith, high, many))).run;
        programs = has_program;
      }
