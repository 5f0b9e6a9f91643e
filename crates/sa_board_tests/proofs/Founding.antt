-- Desks with equal shares are new, and a board's passes in their order are all of its passes.
use Rattle.std.proofs.Common.{◌≡◌, ℕ, ◌+◌, ◌<◌, ◌≤◌, List, length, map, All, refl, sym, ap, subst, ◌∙◌, arith, ext_get_or}
use Rattle.std.specs.Prelude.{slice_index_or}
use Rattle.std.specs.List.{range_with_len}
use Rattle.std.proofs.lemmas.List.{length-map, get_or-map, length-replicate}
use Rattle.std.proofs.lemmas.List.FromFn.{length-range_with_len, get_or-range_with_len, length-map-range_with_len, get_or-map-range_with_len}
use Rattle.std.proofs.lemmas.List.Elements.{All-get_or, All-from_get_or}
use Rattle.sa_desk.specs.Contents.{Contents, IsSound}
use Rattle.sa_desk.specs.New.{no_desk, IsNew}
use Rattle.sa_board.specs.Board.{BoardState, new_pass, new_passes, AreAll}
use Rattle.sa_board.specs.Pass.{PassState}
use Rattle.sa_board_tests.specs.Start.{even_desk, AreEven}
use Rattle.sa_board_tests.specs.Home.{IsHome, AreHome}

module _ (sessions quantum turns share : ℕ) where
  abbrev desk : ℕ → Contents
  desk = even_desk sessions quantum turns share

  module _ (desks : List Contents) (each : desks ≡ map desk (range_with_len 1 sessions)) where
    pub desks-count : length desks ≡ sessions
    desks-count = ap length each ∙ length-map-range_with_len desk 1 sessions

    pub desk-at : (index : ℕ) (default : Contents) → index < sessions → slice_index_or desks index default ≡ desk (index + 1)
    desk-at index default within =
        ap (λ (all : List Contents). slice_index_or all index default) each
        ∙ get_or-map-range_with_len desk 1 sessions index (index + 1) default within (let same : 1 + index ≡ index + 1 = omega arith in same)

    within-desks : (index : ℕ) → index < length desks → index < sessions
    within-desks index within = subst (λ (count : ℕ). index < count) desks-count within

    pub are_even : sessions ≤ 16 → All IsSound desks → AreEven desks sessions quantum turns share
    are_even few sound = record {
      each = each;
      new = record {
        few = subst (λ (count : ℕ). count ≤ 16) (sym desks-count) few;
        sound = λ index within. All-get_or IsSound desks index no_desk within sound;
        new = λ index within. subst (IsNew (index + 1)) (sym (desk-at index no_desk (within-desks index within))) refl;
        shares = λ index within. ap (λ (one : Contents). length one.shares) (desk-at index no_desk (within-desks index within)) ∙ length-replicate sessions share ∙ sym desks-count;
      };
    }

module _ (board : BoardState) where
  abbrev count : ℕ
  count = length board.founded

  pub passes-count : length (new_passes board) ≡ count
  passes-count = length-map-range_with_len (new_pass board) 1 count

  pub pass-at : (index : ℕ) (default : PassState) → index < count → slice_index_or (new_passes board) index default ≡ new_pass board (index + 1)
  pass-at index default within = get_or-map-range_with_len (new_pass board) 1 count index (index + 1) default within (let same : 1 + index ≡ index + 1 = omega arith in same)

  module _ (passes : List PassState) (home : AreHome board passes) where
    abbrev default : PassState
    default = new_pass board 0

    home-at : (index : ℕ) → index < length passes → IsHome board (index + 1) (slice_index_or passes index default)
    home-at index within = home.each index default (subst (λ (n : ℕ). index < n) home.count within)

    session-at : (index : ℕ) → index < length (map (λ (pass : PassState). pass.session) passes)
        → slice_index_or (map (λ (pass : PassState). pass.session) passes) index 0 ≡ slice_index_or (range_with_len 1 count) index 0
    session-at index within =
        let there : index < length passes = subst (λ (n : ℕ). index < n) (length-map passes (λ (pass : PassState). pass.session)) within in
        get_or-map (λ (pass : PassState). pass.session) passes index default 0 there
        ∙ (home-at index there).session_is
        ∙ (let same : index + 1 ≡ 1 + index = omega arith in same)
        ∙ sym (get_or-range_with_len 1 count index 0 (subst (λ (n : ℕ). index < n) home.count there))

    pub are_all : AreAll board passes
    are_all = record {
      sessions = ext_get_or 0 (map (λ (pass : PassState). pass.session) passes) (range_with_len 1 count)
          (length-map passes (λ (pass : PassState). pass.session) ∙ home.count ∙ sym (length-range_with_len 1 count)) session-at;
      tables = All-from_get_or (λ (pass : PassState). pass.table ≡ board.table) passes default (λ index within. (home-at index within).table);
      idle = All-from_get_or (λ (pass : PassState). pass.out ≡ 0) passes default (λ index within. (home-at index within).idle);
    }
