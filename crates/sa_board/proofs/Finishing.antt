-- The journals of a board whose sessions have ended in one seat.
use Rattle.std.proofs.Common.{◌≡◌, Option, ℕ, zero, suc, ◌+◌, ◌-◌, ◌<◌, List, [], ◌∷◌, ◌++◌, length, map, get_or, All, refl, sym, ap, subst, subst₂, ◌∙◌, arith, ext_get_or}
use Rattle.std.specs.List.{range_with_len, remove}
use Rattle.std.proofs.lemmas.List.{length-map}
use Rattle.std.proofs.lemmas.List.FromFn.{length-range_with_len}
use Rattle.std.proofs.lemmas.List.Elements.{All-nil, All-cons, All-head, All-tail, All-weaker}
use Rattle.atomic_table.specs.Table.{Final, Seen}
use Rattle.sa_desk.specs.declared.entry.Entry.{Entry}
use Rattle.sa_desk.specs.State.{Terms}
use Rattle.sa_desk.specs.Contents.{Contents}
use Rattle.sa_desk.specs.New.{no_desk, AreNew}
use Rattle.sa_desk.specs.Runs.{IsDeskRun, IsEntryOf}
use Rattle.sa_desk.specs.World.{made_by, standing_on, Begins}
use Rattle.sa_board.specs.declared.view.Known.{Known}
use Rattle.sa_board.specs.declared.view.View.{View}
use Rattle.sa_board.specs.View.{desk_in}
use Rattle.sa_board.specs.Rule.{Fits, IsKnown, IsKept}
use Rattle.sa_board.proofs.step.Ended.{ended}
use Rattle.sa_board.specs.Steps.{IsEnded}
use Rattle.sa_board.specs.Board.{BoardState, AreAll}
use Rattle.sa_board.specs.Pass.{PassState, met_at, known_of}
use Rattle.sa_board.specs.History.{IsHistory, AreHistories}

-- What is true of all that a function gives of a list.
unmap : {X Y : Type 0} (P : Y → Type 0) (f : X → Y) (xs : List X) → All P (map f xs) → All (λ x. P (f x)) xs
unmap P f [] all = All-nil (λ x. P (f x))
unmap P f (x ∷ xs) all = All-cons (λ x. P (f x)) x xs (All-head P (f x) (map f xs) all) (unmap P f xs (All-tail P (f x) (map f xs) all))

-- A function of an element of a list.
read-map : {X Y : Type 0} (f : X → Y) (xs : List X) (index : ℕ) (d : X) (e : Y) → index < length xs → get_or (map f xs) index e ≡ f (get_or xs index d)
read-map f [] index d e within = absurd (omega arith)
read-map f (x ∷ xs) zero d e within = refl
read-map f (x ∷ xs) (suc index) d e within = read-map f xs index d e (omega arith)

module _ (founded : List Contents) (are : AreNew founded) (view : View) (homes : List (Option Contents)) (passes : List PassState) (ended : IsEnded founded view homes)
    (known_is : view.known ≡ map known_of passes) where
  known : All (λ (pass : PassState). IsKnown ended.now (known_of pass)) passes
  known = unmap (IsKnown ended.now) known_of passes (subst (All (IsKnown ended.now)) known_is ended.known)

  abbrev journals : List (List Entry)
  journals = map (λ desk. desk.journal) ended.now

  fits_at : (index : ℕ) → index < length founded → All (λ (pass : PassState). Fits pass.session (index + 1) pass.mine (desk_in pass.met index) (desk_in ended.now index)) passes
  fits_at index within =
      let long = ended.desks in
      All-weaker (λ (pass : PassState). IsKnown ended.now (known_of pass)) (λ (pass : PassState). Fits pass.session (index + 1) pass.mine (desk_in pass.met index) (desk_in ended.now index))
      (λ pass is. is.fits index (omega arith)) passes known

  history : (index : ℕ) → index < length founded → IsHistory (desk_in founded index) (length founded) index passes (desk_in ended.now index).journal
  history index within =
      let desk = desk_in ended.now index in
      let sound = ended.sound index within in
      let fits = fits_at index within in
      let shares : length desk.shares ≡ length founded = ap length (ended.shares index within) ∙ are.shares index within in
      let number = ended.number index within in
      let same : index + 1 - 1 ≡ index = omega arith in
      record {
        run = subst (λ (terms : Terms). IsDeskRun terms desk.journal) (ended.terms index within) sound.run;
        entries = subst₂ (λ (d n : ℕ). All (IsEntryOf d n) desk.journal) number shares sound.entries;
        seen = All-weaker (λ (pass : PassState). Fits pass.session (index + 1) pass.mine (desk_in pass.met index) desk) (λ (pass : PassState). Begins (met_at pass (index + 1)).journal desk.journal)
            (λ pass is. subst (λ (at : ℕ). Begins (desk_in pass.met at).journal desk.journal) (sym same) is.begins) passes fits;
        own = All-weaker (λ (pass : PassState). Fits pass.session (index + 1) pass.mine (desk_in pass.met index) desk) (λ (pass : PassState). made_by pass.session desk.journal ≡ standing_on (index + 1) pass.mine)
            (λ pass is. sym is.same_own ∙ is.own) passes fits;
      }

  pub AreHistories-ended : AreHistories founded passes journals
  AreHistories-ended =
      let long = ended.desks in
      record {
        count = length-map ended.now (λ (desk : Contents). desk.journal) ∙ ended.desks;
        each = λ index within. subst (IsHistory (desk_in founded index) (length founded) index passes)
            (sym (read-map (λ (desk : Contents). desk.journal) ended.now index no_desk [] (omega arith))) (history index within);
        numbered = All-weaker (λ (pass : PassState). IsKnown ended.now (known_of pass)) (λ (pass : PassState). map (λ (entry : Entry). entry.seq) pass.mine ≡ range_with_len 1 (length pass.mine))
            (λ pass is. is.numbered) passes known;
      }

-- The sessions of a seat that has taken in all passes are those of the passes.
pub sessions-known : (passes : List PassState) → map (λ one. one.session) (map known_of passes) ≡ map (λ pass. pass.session) passes
sessions-known [] = refl
sessions-known (pass ∷ rest) = ap (λ (more : List ℕ). pass.session ∷ more) (sessions-known rest)

-- A list that has an element first.
pub first-of : {X : Type 0} (xs : List X) (x : X) → 0 < length xs → x ≡ get_or xs 0 x → xs ≡ x ∷ remove xs 0
first-of [] x some is = absurd (omega arith)
first-of (y ∷ ys) x some is = λ k. sym is k ∷ ys

-- What is true of all is true of one in the middle.
at-middle : {X : Type 0} (P : X → Type 0) (xs ys : List X) (x : X) → All P (xs ++ x ∷ ys) → P x
at-middle P [] ys x all = All-head P x ys all
at-middle P (y ∷ more) ys x all = at-middle P more ys x (All-tail P y (more ++ x ∷ ys) all)

-- The passes of a board, of which one is first.
module _ (board : BoardState) (passes rest : List PassState) (first : PassState) (is : AreAll board passes) (some : 0 < length passes) (first_is : first ≡ get_or passes 0 first)
    (rest_is : rest ≡ remove passes 0) where
  pub passes-is : passes ≡ first ∷ rest
  passes-is = first-of passes first some first_is ∙ ap (λ (more : List PassState). first ∷ more) (sym rest_is)

  pub first-table : first.table ≡ board.table
  first-table = All-head (λ (pass : PassState). pass.table ≡ board.table) first rest (subst (All (λ (pass : PassState). pass.table ≡ board.table)) passes-is is.tables)

  pub first-idle : first.out ≡ 0
  first-idle = All-head (λ (pass : PassState). pass.out ≡ 0) first rest (subst (All (λ (pass : PassState). pass.out ≡ 0)) passes-is is.idle)

  module _ (before after : List PassState) (pass : PassState) (whole : before ++ pass ∷ after ≡ rest) where
    pub next-table : pass.table ≡ board.table
    next-table =
        at-middle (λ (pass : PassState). pass.table ≡ board.table) before after pass
        (subst (All (λ (pass : PassState). pass.table ≡ board.table)) (sym whole)
        (All-tail (λ (pass : PassState). pass.table ≡ board.table) first rest (subst (All (λ (pass : PassState). pass.table ≡ board.table)) passes-is is.tables)))

    pub next-idle : pass.out ≡ 0
    next-idle =
        at-middle (λ (pass : PassState). pass.out ≡ 0) before after pass
        (subst (All (λ (pass : PassState). pass.out ≡ 0)) (sym whole)
        (All-tail (λ (pass : PassState). pass.out ≡ 0) first rest (subst (All (λ (pass : PassState). pass.out ≡ 0)) passes-is is.idle)))

-- All passes of a board are as many as its desks.
pub length-passes : (board : BoardState) (passes : List PassState) → AreAll board passes → length passes ≡ length board.founded
length-passes board passes is =
    sym (length-map passes (λ (pass : PassState). pass.session)) ∙ ap length is.sessions ∙ length-range_with_len 1 (length board.founded)

-- Lists of journals, one for each desk, are the journals of these desks where each is that of its desk.
pub journals-are : (now : List Contents) (journals : List (List Entry)) → length journals ≡ length now
    → ((index : ℕ) → index < length now → get_or journals index [] ≡ (desk_in now index).journal) → journals ≡ map (λ desk. desk.journal) now
journals-are now journals count each =
    let long = length-map now (λ (desk : Contents). desk.journal) in
    ext_get_or [] journals (map (λ desk. desk.journal) now) (count ∙ sym long)
    (λ index within. each index (omega arith) ∙ sym (read-map (λ (desk : Contents). desk.journal) now index no_desk [] (omega arith)))

-- What a board's slots have, once all its passes are joined in one seat.
pub finishing : (board : BoardState) (key : List Contents) (passes : List PassState) (id : ℕ) (view : View) (words : List ℕ) (slots : List (Option Contents)) → key ≡ board.founded → AreAll board passes
    → view.out ≡ 0 → view.known ≡ map known_of passes → Final (Seen (IsKept key) id view) words slots → IsEnded key view slots
finishing board key passes id view words slots founded all out known final =
    ended key words slots id view out
    (ap (map (λ (one : Known). one.session)) known ∙ sessions-known passes ∙ all.sessions ∙ ap (λ (desks : List Contents). range_with_len 1 (length desks)) (sym founded))
    final
