-- A turn of one session leaves fewer turns of all, and where all are done the journals are legal.
use Rattle.std.proofs.Common.{◌≡◌, ◌≢◌, ℕ, zero, suc, ◌+◌, ◌-◌, ◌<◌, ◌≤◌, ◌^◌, List, [], ◌∷◌, length, map, get_or, refl, sym, subst, ap, ◌∙◌, arith}
use Rattle.std.proofs.lemmas.List.Sums.{sum_by-cons}
use Rattle.std.specs.List.{sum_by}
use Rattle.sa_desk.specs.Contents.{Contents}
use Rattle.sa_desk.specs.Legal.{Sessions, IsLegal}
use Rattle.sa_desk.specs.Plain.{IsPlain}
use Rattle.sa_desk.specs.program.Prepares.{Answers}
use Rattle.sa_worker.specs.View.{View, done}
use Rattle.sa_step.specs.Sessions.{AllSessions, AreRunning, view_in}
use Rattle.sa_worker.proofs.working.Legal.{are_legal}
use Rattle.sa_worker.proofs.working.Turned.{turn_small}
use Rattle.sa_step.specs.Remaining.{remaining, AreDone}
use Rattle.sa_step.proofs.Driven.{nobody}

-- A sum of lists that are alike in each place, and of lists that differ in one.
sum_same : {X : Type 0} (f : X → ℕ) (d : X) (xs ys : List X) → length ys ≡ length xs → ((k : ℕ) → get_or ys k d ≡ get_or xs k d) → sum_by f ys ≡ sum_by f xs
sum_same f d [] [] count same = refl
sum_same f d [] (y ∷ ys) count same = absurd (omega (arith, count))
sum_same f d (x ∷ xs) [] count same = absurd (omega (arith, count))
sum_same f d (x ∷ xs) (y ∷ ys) count same =
    let first : f y ≡ f x = ap f (same 0) in
    let rest = sum_same f d xs ys (omega (arith, count)) (λ k. same (suc k)) in sum_by-cons f y ys ∙ omega (arith, first, rest) ∙ sym (sum_by-cons f x xs)

less_as : {a b c d : ℕ} → a ≡ b → c ≡ d → b < d → a < c
less_as is other less = omega (arith, is, other, less)

sum_less : {X : Type 0} (f : X → ℕ) (d : X) (xs ys : List X) (index : ℕ) → index < length xs → length ys ≡ length xs → ((k : ℕ) → k ≢ index → get_or ys k d ≡ get_or xs k d)
    → f (get_or ys index d) < f (get_or xs index d) → sum_by f ys < sum_by f xs
sum_less f d [] ys index there count same less = absurd (omega arith)
sum_less f d (x ∷ xs) [] index there count same less = absurd (omega (arith, count))
sum_less f d (x ∷ xs) (y ∷ ys) zero there count same less =
    let rest = sum_same f d xs ys (omega (arith, count)) (λ k. same (suc k) (λ is. (omega (arith, is)))) in
    less_as (sum_by-cons f y ys) (sum_by-cons f x xs) (omega (arith, less, rest))
sum_less f d (x ∷ xs) (y ∷ ys) (suc index) there count same less =
    let first : f y ≡ f x = ap f (same 0 (λ is. (omega (arith, is)))) in
    let rest = sum_less f d xs ys index (omega arith) (omega (arith, count)) (λ k apart. same (suc k) (λ is. apart (omega (arith, is)))) less in
    less_as (sum_by-cons f y ys) (sum_by-cons f x xs) (omega (arith, first, rest))

-- There are as many workers as before.
pub count_same : (gives : Answers) (before after : AllSessions) → AreRunning gives before → AreRunning gives after → after.script ≡ before.script → length after.views ≡ length before.views
count_same gives before after was is script = is.workers ∙ ap (λ (script : Sessions). length script.texts) script ∙ sym was.workers

module _ (gives : Answers) (before after : AllSessions) (session : ℕ) (least : 1 ≤ session) (most : session ≤ length before.views) (was : AreRunning gives before) (is : AreRunning gives after)
    (script : after.script ≡ before.script) where
  pub fewer_remain : (view_in before.views session).stage ≢ done → ((other : ℕ) → 1 ≤ other → other ≢ session → view_in after.views other ≡ view_in before.views other)
      → (view_in after.views session).turn ≡ (view_in before.views session).turn + 1 → remaining after.views < remaining before.views
  fewer_remain undone others turns =
      let there : session ≤ length before.script.texts = let count = was.workers in omega (arith, count, most) in
      let small = turn_small (view_in before.views session) (view_in before.views session).stage (was.working.working session least there).keeps.holds undone in
      sum_less (λ (view : View). 2 ^ 64 - view.turn) nobody before.views after.views (session - 1) (omega (arith, least, most)) (count_same gives before after was is script)
      (λ k apart.
      let place : k + 1 - 1 ≡ k = omega arith in
      subst (λ at. get_or after.views at nobody ≡ get_or before.views at nobody) place (others (k + 1) (omega arith) (λ same. apart (omega (arith, same)))))
      (omega (arith, turns, small))

-- Legal are the journals of all that are done.
pub all_legal : (gives : Answers) (all : AllSessions) → IsPlain all.plain → AreRunning gives all → AreDone all.views → IsLegal gives all.script (map (λ (desk : Contents). desk.journal) all.plain.desks)
all_legal gives all plain running finished =
    are_legal all.plain plain gives all.script running.desks (view_in all.views) running.working
    (λ session least most. finished session least (let count = running.workers in omega (arith, count, most)))
