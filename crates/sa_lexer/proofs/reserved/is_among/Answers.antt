use Rattle.std.proofs.Common.{rules, refl, map, ◌≡◌, ℕ, List, [], Bor, Bool, true, false, get_or, take, sym, ap, ◌∙◌, arith}
use Rattle.std.specs.List.{list_any}
use Rattle.std.specs.Str.{str_eq_ignore_ascii_case}
use Rattle.std.proofs.lemmas.List.Folds.{list_any_at, list_any_more}
use Rattle.std.proofs.lemmas.List.{take_all}
use Rattle.sa_lexer.proofs.Lists.{list_any-map}
use Rattle.sa_lexer.proofs.reserved.is_among.Goals as goal

-- what stands for a word past the end
abbrev no_word : Bor (List ℕ)
no_word = record { ref_ptr = (0, 0); now = [] }

abbrev is_same : List ℕ → Bor (List ℕ) → Bool
is_same word reserved = str_eq_ignore_ascii_case reserved.now word

seen : (word : List ℕ) (words : List (Bor (List ℕ))) → list_any (λ reserved. str_eq_ignore_ascii_case reserved word) (map (λ (reserved : Bor (List ℕ)). reserved.now) words) ≡ list_any (is_same word) words
seen word words = list_any-map (λ reserved. str_eq_ignore_ascii_case reserved word) (λ (reserved : Bor (List ℕ)). reserved.now) words

pub returns-then-eq_ignore_ascii_case : goal.returns-then-eq_ignore_ascii_case
returns-then-eq_ignore_ascii_case c =
    let same : is_same c.args.word.now (get_or c.args.words.now c.loop-reserved.reserved-index no_word) ≡ true = search rules in
    sym (list_any_at (is_same c.args.word.now) c.args.words.now c.loop-reserved.reserved-index no_word c.loop-reserved-test.true same) ∙ sym (seen c.args.word.now c.args.words.now)

pub loop-reserved-preserved : goal.loop-reserved-preserved
loop-reserved-preserved c =
    let other : is_same c.args.word.now (get_or c.args.words.now c.loop-reserved.reserved-index no_word) ≡ false = search rules in
    list_any_more (is_same c.args.word.now) c.args.words.now c.loop-reserved.reserved-index no_word c.loop-reserved-test.true ∙ (rw (c.loop-reserved.invariant, other) refl)

pub returns : goal.returns
returns c =
    let whole : take c.loop-reserved.reserved-index c.args.words.now ≡ c.args.words.now = take_all c.loop-reserved.reserved-index c.args.words.now (omega arith) in
    sym c.loop-reserved.invariant ∙ ap (list_any (is_same c.args.word.now)) whole ∙ sym (seen c.args.word.now c.args.words.now)
