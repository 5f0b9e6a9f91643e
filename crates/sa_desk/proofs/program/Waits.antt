-- A WAIT and a KILL, from one turn to the next.
use Rattle.std.proofs.Common.{◌≡◌, ℕ, ◌+◌, ◌*◌, ◌<◌, ◌≤◌, [], ◌∷◌, refl, sym, subst, ap, arith}
use Rattle.sa_ast.specs.declared.kind.KillKind.{KillKind}
use Rattle.sa_desk.specs.declared.entry.Entry.{Entry}
use Rattle.sa_desk.specs.declared.entry.Event.{Event}
use Rattle.sa_desk.specs.declared.entry.Event.TheVariants.{Refused, KillSent, Waited, WaitSpent}
use Rattle.sa_desk.specs.declared.entry.RefusedWhy.TheVariants as why
use Rattle.sa_desk.specs.declared.outcome.Outcome.TheVariants as outcome
use Rattle.sa_desk.specs.program.Course.{Given, waits, kills}
use Rattle.sa_desk.specs.program.Between.{Due, goes_on, ends, Sees, Hits, Between}
use Rattle.sa_desk.proofs.program.Asks.{IsNext}

module _ (given : Given) (number b : ℕ) (i at : ℕ) where
  -- a wait has just begun
  pub waits-first : 1 ≤ given.turns → Between given number b (waits i at) [] b goes_on
  waits-first lasts = (omega arith, omega arith)

  -- Nothing came, and some turns are left.
  pub waits-on : (t : ℕ) → t + 2 < b + 2 * given.turns → Between given number b (waits i at) [] t goes_on → Between given number b (waits i at) [] (t + 1) goes_on
  waits-on t left row = let from = row.0 in (omega arith, omega arith)

  -- A kill is seen between two looks, after k of them.
  pub wait-killed : (t k : ℕ) → 1 ≤ k → k < given.turns → t + 1 ≡ b + 2 * k → Between given number b (waits i at) [] (t + 1) (ends outcome.Interrupted)
  wait-killed t k least most turn = (refl, (k, least, omega arith, turn))

  looked-as : (entry : Entry) (t : ℕ) (last : Event) (due : Due) → IsNext i entry t last → Sees given number b i at (t + 1) last due
      → Between given number b (waits i at) (entry ∷ []) (t + 1) due
  looked-as entry t last due next sees = (next.here, next.now, subst (λ event. Sees given number b i at (t + 1) event due) (sym next.is) sees)

  -- Look k finds the desk closed, or enough steps, or is the last one.
  pub look-refused : (entry : Entry) (t k : ℕ) → 1 ≤ k → k ≤ given.turns → t + 2 ≡ b + 2 * k → IsNext i entry t (Refused number why.NoSuchThread)
      → Between given number b (waits i at) (entry ∷ []) (t + 1) (ends outcome.NoSuchThread)
  look-refused entry t k least most turn next =
      looked-as entry t (Refused number why.NoSuchThread) (ends outcome.NoSuchThread) next (refl, (k, least, most, omega arith), refl)

  pub look-reached : (entry : Entry) (t k steps : ℕ) → 1 ≤ k → k ≤ given.turns → t + 2 ≡ b + 2 * k → at ≤ steps → IsNext i entry t (Waited number steps)
      → Between given number b (waits i at) (entry ∷ []) (t + 1) (ends (outcome.Waited steps))
  look-reached entry t k steps least most turn enough next =
      looked-as entry t (Waited number steps) (ends (outcome.Waited steps)) next (refl, (k, least, most, omega arith), enough, refl)

  pub look-spent : (entry : Entry) (t steps : ℕ) → t + 2 ≡ b + 2 * given.turns → steps < at → IsNext i entry t (WaitSpent number steps given.turns)
      → Between given number b (waits i at) (entry ∷ []) (t + 1) (ends (outcome.WaitSpent steps given.turns))
  look-spent entry t steps late few next =
      looked-as entry t (WaitSpent number steps given.turns) (ends (outcome.WaitSpent steps given.turns)) next (refl, refl, few, omega arith, refl)

module _ (given : Given) (number b : ℕ) (kind : KillKind) (i : ℕ) where
  killed-as : (entry : Entry) (t : ℕ) (last : Event) (due : Due) → IsNext i entry t last → Hits given number b kind last due → Between given number b (kills kind i) [] t goes_on
      → Between given number b (kills kind i) (entry ∷ []) (t + 1) due
  killed-as entry t last due next hits row =
      (next.here, next.now, ap (λ turn. turn + 1) row.0, subst (λ event. Hits given number b kind event due) (sym next.is) hits)

  -- The kill is sent, or finds the desk closed.
  pub kill-sent : (entry : Entry) (t : ℕ) → IsNext i entry t (KillSent number kind) → Between given number b (kills kind i) [] t goes_on
      → Between given number b (kills kind i) (entry ∷ []) (t + 1) (ends outcome.KillSent)
  kill-sent entry t next row = killed-as entry t (KillSent number kind) (ends outcome.KillSent) next (refl, refl, refl) row

  pub kill-refused : (entry : Entry) (t : ℕ) → IsNext i entry t (Refused number why.NoSuchThread) → Between given number b (kills kind i) [] t goes_on
      → Between given number b (kills kind i) (entry ∷ []) (t + 1) (ends outcome.NoSuchThread)
  kill-refused entry t next row = killed-as entry t (Refused number why.NoSuchThread) (ends outcome.NoSuchThread) next (refl, refl) row
