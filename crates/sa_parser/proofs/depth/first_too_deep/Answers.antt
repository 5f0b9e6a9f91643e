use Rattle.std.proofs.Common.{ap, sym, ◌∙◌}
use Rattle.std.proofs.lemmas.Bool.{true≢false}
use Rattle.sa_parser.specs.Depth.{Depth}
use Rattle.sa_parser.proofs.Depths.{StaysFlat-none, counted-least, counted-more, depth-more, flat-more}
use Rattle.sa_parser.proofs.depth.first_too_deep.Goals as goal

pub loop-place-init : goal.loop-place-init
loop-place-init c = record { counted = c.new-levels.ensures; flat = StaysFlat-none }

pub count-requires : goal.count-requires
count-requires c = counted-least c.args.tokens.now c.loop-place.place c.loop-place.levels c.loop-place.invariant.counted c.loop-place.invariant.flat

pub returns-then-is_too_deep : goal.returns-then-is_too_deep
returns-then-is_too_deep c =
    let depth = ap (λ (seen : Depth). seen.depth) c.count.ensures
    ∙ depth-more c.args.tokens.now c.loop-place.place c.loop-place.levels c.loop-place.invariant.counted c.index-tokens-place.result c.loop-place-test.true c.index-tokens-place.is in
    (c.loop-place-test.true, c.loop-place.invariant.flat, rw depth at (c.is_too_deep.ensures.0 c.if-is_too_deep.true))

pub loop-place-preserved : goal.loop-place-preserved
loop-place-preserved c = record {
  counted = c.count.ensures
      ∙ counted-more c.args.tokens.now c.loop-place.place c.loop-place.levels c.loop-place.invariant.counted c.index-tokens-place.result c.loop-place-test.true c.index-tokens-place.is;
  flat = flat-more c.args.tokens.now c.loop-place.place c.loop-place.levels c.loop-place.invariant.counted c.index-tokens-place.result c.loop-place-test.true c.index-tokens-place.is
      c.loop-place.invariant.flat (λ deeper. true≢false (sym (c.is_too_deep.ensures.1 (rw c.count.ensures deeper)) ∙ c.if-is_too_deep.false));
}
