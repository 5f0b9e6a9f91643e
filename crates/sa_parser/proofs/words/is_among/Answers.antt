use Rattle.std.proofs.Common.{rules, refl, map, ◌≡◌, ℕ, List, [], Bor, Bool, true, false, get_or, take, sym, ap, ◌∙◌, arith}
use Rattle.std.specs.List.{list_any}
use Rattle.std.proofs.lemmas.List.{take_all}
use Rattle.std.proofs.lemmas.List.Folds.{list_any_at, list_any_more}
use Rattle.sa_lexer.specs.declared.token.TokenKind.{TokenKind}
use Rattle.sa_parser.specs.Token.{is_word}
use Rattle.sa_lexer.proofs.Lists.{list_any-map}
use Rattle.sa_parser.proofs.words.is_among.Goals as goal

-- what stands for a word past the end
abbrev no_word : Bor (List ℕ)
no_word = record { ref_ptr = (0, 0); now = [] }

abbrev is : TokenKind → Bor (List ℕ) → Bool
is kind word = is_word word.now kind

seen : (kind : TokenKind) (words : List (Bor (List ℕ))) → list_any (λ word. is_word word kind) (map (λ (word : Bor (List ℕ)). word.now) words) ≡ list_any (is kind) words
seen kind words = list_any-map (λ word. is_word word kind) (λ (word : Bor (List ℕ)). word.now) words

pub returns-then-is_word : goal.returns-then-is_word
returns-then-is_word c =
    let same : is c.args.token.now.kind (get_or c.args.words.now c.loop-word.word-index no_word) ≡ true = search rules in
    sym (list_any_at (is c.args.token.now.kind) c.args.words.now c.loop-word.word-index no_word c.loop-word-test.true same) ∙ sym (seen c.args.token.now.kind c.args.words.now)

pub loop-word-preserved : goal.loop-word-preserved
loop-word-preserved c =
    let other : is c.args.token.now.kind (get_or c.args.words.now c.loop-word.word-index no_word) ≡ false = search rules in
    list_any_more (is c.args.token.now.kind) c.args.words.now c.loop-word.word-index no_word c.loop-word-test.true ∙ (rw (c.loop-word.invariant, other) refl)

pub returns : goal.returns
returns c =
    let whole : take c.loop-word.word-index c.args.words.now ≡ c.args.words.now = take_all c.loop-word.word-index c.args.words.now (omega arith) in
    sym c.loop-word.invariant ∙ ap (list_any (is c.args.token.now.kind)) whole ∙ sym (seen c.args.token.now.kind c.args.words.now)
