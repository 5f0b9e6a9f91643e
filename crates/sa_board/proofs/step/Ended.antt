-- What a table holds once all its sessions have ended in one seat: each desk is at home.
use Rattle.std.proofs.Common.{◌≡◌, ℕ, zero, suc, ◌+◌, ◌-◌, ◌<◌, ◌≤◌, eqb-true, cond, Bool, true, inl, inr, Option, Some, List, [], ◌∷◌, length, get_or, map, refl, sym, ap, subst, ◌∙◌, arith}
use Rattle.std.specs.List.{range_with_len, count_by}
use mathlib.Core.Logic.{dite}
use native.Mathlib.Decide.{ℕ_discrete}
use mathlib.Core.Option.{some, some-injective}
use lib.ListN.{get_elem?}
use Rattle.std.proofs.lemmas.Bool.{cases_Bool}
use Rattle.std.proofs.lemmas.List.{length-map}
use Rattle.std.proofs.lemmas.List.FromFn.{length-range_with_len, get_or-range_with_len}
use Rattle.std.proofs.lemmas.List.Sums.{sum_by-cons}
use Rattle.atomic_table.specs.Table.{Final, Seen}
use Rattle.sa_desk.specs.Contents.{Contents}
use Rattle.sa_board.specs.declared.view.Known.{Known}
use Rattle.sa_board.specs.declared.view.View.{View}
use Rattle.sa_board.specs.View.{desk_in, has_out}
use Rattle.sa_board.specs.Rule.{Table, IsKept}
use Rattle.sa_board.specs.Steps.{IsEnded}
use Rattle.sa_board.proofs.Locks.{known-given, known-apart}

-- A seat that is counted is there.
counted-there : (p : View → Bool) (views : List View) → 1 ≤ count_by p views → (seat : ℕ) × ((view : View) × ((get_elem? views seat ≡ some view) × (p view ≡ true)))
counted-there p [] none = absurd (omega arith)
counted-there p (view ∷ rest) some_is =
    let bit : View → ℕ = λ view. cond (p view) 1 0 in
    let more : count_by p (view ∷ rest) ≡ bit view + count_by p rest = sum_by-cons bit view rest in
    elim (cases_Bool (p view)) [
      | inl here ↦ (zero, (view, (refl, here)))
      | inr no_more ↦
          let zero_here : bit view ≡ 0 = ap (λ b. cond b 1 0) no_more in
          let found = counted-there p rest (omega arith) in
          (suc found.0, (found.1.0, found.1.1))
    ]

-- The session at an index of a list of all.
session-at : (known : List Known) (sessions index : ℕ) (default : Known) → map (λ one. one.session) known ≡ range_with_len 1 sessions → index < length known → (get_or known index default).session ≡ index + 1
session-at known sessions index default all within =
    let count : length known ≡ sessions = sym (length-map known (λ (one : Known). one.session)) ∙ ap length all ∙ length-range_with_len 1 sessions in
    read known index within ∙ ap (λ l. get_or l index 0) all ∙ get_or-range_with_len 1 sessions index 0 (omega arith) ∙ omega arith
  where
    read : (l : List Known) (i : ℕ) → i < length l → (get_or l i default).session ≡ get_or (map (λ one. one.session) l) i 0
    read [] i lt = absurd (omega arith)
    read (x ∷ xs) zero lt = refl
    read (x ∷ xs) (suc i) lt = read xs i (omega arith)

module _ (founded : List Contents) (table : Table) (kept : IsKept founded table) (id : ℕ) (view : View) (out : view.out ≡ 0)
    (all : map (λ one. one.session) view.known ≡ range_with_len 1 (length founded)) (stands : get_elem? table.views id ≡ some view) where
  -- Nobody holds a desk.
  at_home : (index : ℕ) → index < length founded → get_or table.words index 0 ≡ 0
  at_home index within =
      let lock = kept.locks index within in
      let held = lock.held in
      dite (ℕ_discrete (get_or table.words index 0) 0) (λ free. free) (λ taken.
      let found = counted-there (has_out index) table.views (omega arith) in
      let seat = found.0 in
      let holder = found.1.0 in
      let there = found.1.1.0 in
      let holds : holder.out ≡ index + 1 = eqb-true holder.out (index + 1) found.1.1.1 in
      let desks = kept.desks in
      let is = (kept.seats seat holder there).holder index (omega arith) holds in
      let first : get_or holder.known 0 is.one ≡ is.one = ap (λ l. get_or l 0 is.one) is.alone in
      let long : length holder.known ≡ 1 = ap length is.alone in
      let bounds = subst (λ (one : Known). (1 ≤ one.session) × (one.session ≤ kept.made)) first (known-given founded table kept seat 0 holder is.one there (omega arith)) in
      let given = kept.given in
      let count : length view.known ≡ length founded = sym (length-map view.known (λ (one : Known). one.session)) ∙ ap length all ∙ length-range_with_len 1 (length founded) in
      let place = is.one.session - 1 in
      let inside : place < length view.known = omega arith in
      let same : (get_or view.known place is.one).session ≡ is.one.session = session-at view.known (length founded) place is.one all inside ∙ omega arith in
      dite (ℕ_discrete id seat)
      (λ it. let here : view ≡ holder = some-injective view holder (sym stands ∙ ap (get_elem? table.views) it ∙ there) in
      let none : holder.out ≡ 0 = ap (λ (v : View). v.out) (sym here) ∙ out in absurd (omega arith))
      (λ other. absurd (known-apart founded table kept seat id place holder view is.one is.one there is.alone other stands inside same)))

pub ended : (founded : List Contents) (words : List ℕ) (slots : List (Option Contents)) (id : ℕ) (view : View) → view.out ≡ 0
    → map (λ one. one.session) view.known ≡ range_with_len 1 (length founded)
    → Final (Seen (IsKept founded) id view) words slots → IsEnded founded view slots
ended founded words slots id view out all final =
    let table = final.0 in
    let kept : IsKept founded table = final.1.0 in
    let stands = final.1.1 in
    record {
      now = kept.now;
      desks = kept.desks;
      slots = sym final.3 ∙ kept.slots;
      home = λ index within. final.4 index (Some (desk_in kept.now index)) ((kept.locks index within).home (at_home founded table kept id view out all stands index within));
      sound = λ index within. (kept.locks index within).sound;
      number = λ index within. (kept.locks index within).number;
      terms = λ index within. (kept.locks index within).terms;
      shares = λ index within. (kept.locks index within).shares;
      known = (kept.seats id view stands).known;
    }
