use Rattle.std.proofs.Common.{ℕ, ◌+◌, ◌-◌, ◌<◌, ◌≤◌, ◌^◌, rules, Some, false, [], ◌∷◌, refl, sym, ap, subst, subst₂, ◌∙◌, arith}
use Rattle.sa_board.specs.Steps.{Sitter}
use Rattle.sa_board.specs.declared.pass.Pass.TheInside.{Inside}
use Rattle.sa_board.specs.Pass.{PassState, KnowsStill, world_of}
use Rattle.sa_board.specs.inner.Pass.{state_of}
use Rattle.sa_board.proofs.Passing.{Returns-pass, next-fits, home_is}
use Rattle.sa_board.proofs.Still.{KnowsStill-home}
use Rattle.sa_board.proofs.pass.Pass.bring_back.Goals as goal

pub release-requires-clause-returns : goal.release-requires-clause-returns
release-requires-clause-returns c =
    let pass = c.self.inside in
    let index = pass.out - 1 in
    let desk = c.in-Some.desk in
    let least : 1 ≤ pass.out = subst (λ (state : PassState). 1 ≤ state.out) (sym c.self.view_is) c.requires.out in
    Returns-pass pass c.self.invariant index desk (omega arith) (sym c.in-Some.ensures.value) c.bring_home.new.seat.me
    (c.bring_home.ensures.home ∙ ap (λ (me : Sitter). (me.0, (index, Some desk) ∷ [])) c.raise.ensures.raised)

pub overflow_add-self : goal.overflow_add-self
overflow_add-self c =
    let pass = c.self.inside in
    let index = pass.out - 1 in
    let least : 1 ≤ pass.out = subst (λ (state : PassState). 1 ≤ state.out) (sym c.self.view_is) c.requires.out in
    let fits : pass.next + (c.len.result - pass.found) < 2 ^ 32 =
    subst (λ (count : ℕ). pass.next + (count - pass.found) < 2 ^ 32) (sym c.len.ensures.count)
    (next-fits pass c.self.invariant index c.in-Some.desk (omega arith) (sym c.in-Some.ensures.value)) in
    search rules

pub returns-clause-still : goal.returns-clause-still
returns-clause-still c =
    let pass = c.self.inside in
    let index = pass.out - 1 in
    let desk = c.in-Some.desk in
    let least : 1 ≤ pass.out = subst (λ (state : PassState). 1 ≤ state.out) (sym c.self.view_is) c.requires.out in
    let now : Inside = record pass { next = pass.next + (c.len.result - pass.found); seat = c.release.new.seat; out = 0; desk = c.take.new.self; called = false } in
    subst₂ (λ (was later : PassState). KnowsStill (world_of was) (world_of later)) c.self.view_is
    (sym (home_is pass c.self.invariant index desk (omega arith) (sym c.in-Some.ensures.value) c.bring_home.new.seat.me
    (c.bring_home.ensures.home ∙ ap (λ (me : Sitter). (me.0, (index, Some desk) ∷ [])) c.raise.ensures.raised)
    now c.release.ensures.idle (c.release.ensures.table.0 ∙ c.bring_home.ensures.table.0 ∙ c.raise.ensures.table.0) refl
    (ap (λ (count : ℕ). pass.next + (count - pass.found)) c.len.ensures.count) refl c.take.ensures.after refl))
    (KnowsStill-home (state_of pass) (c.self.invariant.is_out least))
