-- A worker's turns stay small.
use Rattle.std.proofs.Common.{ℕ, ◌+◌, ◌-◌, ◌*◌, ◌<◌, ◌≤◌, ◌^◌, inl, inr, arith}
use Rattle.std.proofs.Math.Nat.{le-mul_of_pos_right}
use Rattle.sa_plan.specs.declared.plan.Planned.{Planned}
use Rattle.sa_worker.specs.View.{Stage, prepares, makes_steps, opens, closes, ends, asks, polls, looks_asking, withdraws, kills, waits, looks_waiting, points, ends_run, done, View, IsActive}
use Rattle.sa_worker.specs.Holds.{IsGiven, IsLimit, IsOn, IsRunning, HoldsAt}

-- Fewer points than a run may make steps were made.
pub few_points : (made quantum limit : ℕ) → 1 ≤ quantum → made * quantum ≤ limit → made ≤ limit
few_points made quantum limit least most = let fewer = le-mul_of_pos_right made least in omega (arith, fewer, most)

pub points_most : (view : View) (planned : Planned) (made : ℕ) → IsGiven view.given → IsRunning view planned made → made ≤ view.settings.limit
points_most view planned made given running =
    elim running.runs_on [
      | inl none ↦ omega (arith, none)
      | inr on ↦ few_points made view.given.quantum view.settings.limit given.least_quantum on.1.0
    ]

module _ (view : View) where
  on_fits : (last : ℕ) → IsGiven view.given → IsOn view last → last ≤ 2 ^ 41 → view.turn + 1 < 2 ^ 64
  on_fits last given on short =
      let began = on.began in
      let turn = on.turn in
      let there = on.there in
      let texts = given.texts in omega (arith, began, turn, there, texts, short)

  pub run_fits : (planned : Planned) (made : ℕ) → IsGiven view.given → IsLimit view.settings.limit → IsRunning view planned made → view.turn + 1 < 2 ^ 64
  run_fits planned made given limit running =
      let most = limit.1 in
      let points = points_most view planned made given running in on_fits made given running.on (omega (arith, most, points))

  -- Where a call comes next its turn has a number.
  pub turn_fits : (stage : Stage) → HoldsAt view stage → IsActive stage → view.turn + 1 < 2 ^ 64
  turn_fits prepares holds active = absurd active
  turn_fits (makes_steps planned made run) holds active = absurd active
  turn_fits opens holds active =
      let there = holds.holds.0 in
      let turn = holds.holds.1 in
      let texts = holds.given.texts in omega (arith, there, turn, texts)
  turn_fits closes holds active =
      let there = holds.holds.0 in
      let turn = holds.holds.1 in
      let texts = holds.given.texts in omega (arith, there, turn, texts)
  turn_fits (ends result) holds active =
      let short = holds.holds.1 in
      let turns = holds.given.most_turns in on_fits holds.holds.0 holds.given holds.holds.2 (omega (arith, short, turns))
  turn_fits (asks kind i) holds active = on_fits 0 holds.given holds.holds.on (omega arith)
  turn_fits (polls kind i count) holds active =
      let within = holds.holds.0.1 in
      let turns = holds.given.most_turns in on_fits (1 + 2 * count) holds.given holds.holds.1.on (omega (arith, within, turns))
  turn_fits (looks_asking kind i count) holds active =
      let within = holds.holds.0.1 in
      let turns = holds.given.most_turns in on_fits (2 * count) holds.given holds.holds.1.on (omega (arith, within, turns))
  turn_fits (withdraws kind i count) holds active =
      let within = holds.holds.0.1 in
      let turns = holds.given.most_turns in on_fits (1 + 2 * count) holds.given holds.holds.1.on (omega (arith, within, turns))
  turn_fits (kills kind i) holds active = on_fits 0 holds.given holds.holds.on (omega arith)
  turn_fits (waits i at count) holds active =
      let within = holds.holds.0.1 in
      let turns = holds.given.most_turns in on_fits (2 * count) holds.given holds.holds.1.on (omega (arith, within, turns))
  turn_fits (looks_waiting i at count) holds active =
      let within = holds.holds.0.1 in
      let turns = holds.given.most_turns in on_fits (2 * count - 1) holds.given holds.holds.1.on (omega (arith, within, turns))
  turn_fits (points planned made run) holds active = run_fits planned made holds.given holds.limit holds.holds.0
  turn_fits (ends_run planned made run given) holds active = run_fits planned made holds.given holds.limit holds.holds.0
  turn_fits done holds active = absurd active
