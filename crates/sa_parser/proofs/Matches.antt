-- Tests of the first tokens, one test for each.
use Rattle.std.proofs.Common.{◌≡◌, suc, ◌⊎◌, Bool, true, false, ◌&&◌, List, [], ◌∷◌, ◌++◌, length, refl, sym, ap, ◌∙◌, inl, inr, arith}
use Rattle.std.proofs.lemmas.Bool.{false≢true, and_parts, and_from, and_right}
use Rattle.sa_lexer.specs.declared.token.Token.{Token}
use Rattle.sa_lexer.specs.declared.token.TokenKind.{TokenKind}

-- whether the first tokens pass the tests
abbrev pub matches : List (TokenKind → Bool) → List Token → Bool
matches [] tokens = true
matches (test ∷ tests) [] = false
matches (test ∷ tests) (token ∷ rest) = test token.kind && matches tests rest

-- whether all tokens pass the first tests, and further tests are left
abbrev pub matches_part : List (TokenKind → Bool) → List Token → Bool
matches_part [] tokens = false
matches_part (test ∷ tests) [] = true
matches_part (test ∷ tests) (token ∷ rest) = test token.kind && matches_part tests rest

-- whether the tokens pass the tests, one each
abbrev pub matches_all : List (TokenKind → Bool) → List Token → Bool
matches_all [] [] = true
matches_all [] (token ∷ rest) = false
matches_all (test ∷ tests) [] = false
matches_all (test ∷ tests) (token ∷ rest) = test token.kind && matches_all tests rest

with_test : (passes : Bool) {some other part : Bool} → (some ≡ other) ⊎ (part ≡ true)
    → ((passes && some) ≡ (passes && other)) ⊎ ((passes && part) ≡ true)
with_test true known = known
with_test false known = inl refl

-- The tests don't see what stands behind a token, unless the tokens up to it pass the first tests, and further tests are left.
pub matches-known : (tests : List (TokenKind → Bool)) (before : List Token) (token : Token) (behind other : List Token)
    → (matches tests (before ++ token ∷ behind) ≡ matches tests (before ++ token ∷ other)) ⊎ (matches_part tests (before ++ token ∷ []) ≡ true)
matches-known [] before token behind other = inl refl
matches-known (test ∷ []) [] token behind other = inl refl
matches-known (test ∷ (next ∷ tests)) [] token behind other = with_test (test token.kind) (inr refl)
matches-known (test ∷ tests) (first ∷ before) token behind other = with_test (test first.kind) (matches-known tests before token behind other)

pub matches-append : (tests : List (TokenKind → Bool)) (before rest : List Token) → matches tests before ≡ true → matches tests (before ++ rest) ≡ true
matches-append [] before rest m = refl
matches-append (test ∷ tests) [] rest m = absurd (false≢true m)
matches-append (test ∷ tests) (token ∷ before) rest m =
    let (here, behind) = and_parts (test token.kind) (matches tests before) m in
    and_from (test token.kind) (matches tests (before ++ rest)) here (matches-append tests before rest behind)

-- tokens that pass tests, and tokens behind them that pass further tests
pub matches-append_both : (tests more : List (TokenKind → Bool)) (before after : List Token) → matches_all tests before ≡ true
    → matches (tests ++ more) (before ++ after) ≡ matches more after
matches-append_both [] more [] after m = refl
matches-append_both [] more (token ∷ before) after m = absurd (false≢true m)
matches-append_both (test ∷ tests) more [] after m = absurd (false≢true m)
matches-append_both (test ∷ tests) more (token ∷ before) after m =
    let (here, behind) = and_parts (test token.kind) (matches_all tests before) m in
    ap (λ passes. passes && matches (tests ++ more) (before ++ after)) here ∙ matches-append_both tests more before after behind

pub matches_all-append : (tests more : List (TokenKind → Bool)) (before after : List Token) → matches_all tests before ≡ true → matches_all more after ≡ true
    → matches_all (tests ++ more) (before ++ after) ≡ true
matches_all-append [] more [] after m n = n
matches_all-append [] more (token ∷ before) after m n = absurd (false≢true m)
matches_all-append (test ∷ tests) more [] after m n = absurd (false≢true m)
matches_all-append (test ∷ tests) more (token ∷ before) after m n =
    let (here, behind) = and_parts (test token.kind) (matches_all tests before) m in
    and_from (test token.kind) (matches_all (tests ++ more) (before ++ after)) here (matches_all-append tests more before after behind n)

-- as many tokens as tests stand before tokens that don't pass the further tests
pub matches-fails : (tests more : List (TokenKind → Bool)) (before after : List Token) → length before ≡ length tests → matches more after ≡ false
    → matches (tests ++ more) (before ++ after) ≡ false
matches-fails [] more [] after l m = m
matches-fails [] more (token ∷ before) after l m = absurd (omega (arith, l))
matches-fails (test ∷ tests) more [] after l m = absurd (omega (arith, l))
matches-fails (test ∷ tests) more (token ∷ before) after l m =
    and_right (test token.kind) (matches (tests ++ more) (before ++ after)) (matches-fails tests more before after (omega (arith, l)) m)

pub matches_all-length : (tests : List (TokenKind → Bool)) (tokens : List Token) → matches_all tests tokens ≡ true → length tokens ≡ length tests
matches_all-length [] [] m = refl
matches_all-length [] (token ∷ rest) m = absurd (false≢true m)
matches_all-length (test ∷ tests) [] m = absurd (false≢true m)
matches_all-length (test ∷ tests) (token ∷ rest) m =
    ap suc (matches_all-length tests rest (and_parts (test token.kind) (matches_all tests rest) m).1)

pub matches_all-matches : (tests : List (TokenKind → Bool)) (tokens : List Token) → matches_all tests tokens ≡ true → matches tests tokens ≡ true
matches_all-matches [] tokens m = refl
matches_all-matches (test ∷ tests) [] m = absurd (false≢true m)
matches_all-matches (test ∷ tests) (token ∷ rest) m =
    let (here, behind) = and_parts (test token.kind) (matches_all tests rest) m in
    and_from (test token.kind) (matches tests rest) here (matches_all-matches tests rest behind)

-- tokens that pass tests and further tests are parted
pub matches_all-split : (tests more : List (TokenKind → Bool)) (tokens : List Token) → matches_all (tests ++ more) tokens ≡ true
    → (before after : List Token) × (tokens ≡ before ++ after) × (matches_all tests before ≡ true) × (matches_all more after ≡ true)
matches_all-split [] more tokens m = ([], tokens, refl, refl, m)
matches_all-split (test ∷ tests) more [] m = absurd (false≢true m)
matches_all-split (test ∷ tests) more (token ∷ rest) m =
    let (here, behind) = and_parts (test token.kind) (matches_all (tests ++ more) rest) m in
    let (before, after, parts, one, other) = matches_all-split tests more rest behind in
    (token ∷ before, after, ap (λ tokens. token ∷ tokens) parts, and_from (test token.kind) (matches_all tests before) here one, other)

-- Tokens that pass the first tests, where one test at least is left, and tokens that fill up all but that one and more.
pub matches_part-filled : (tests more : List (TokenKind → Bool)) (last : TokenKind → Bool) (tokens examples : List Token)
    → matches_part (tests ++ last ∷ []) tokens ≡ true → matches_all (tests ++ more) examples ≡ true
    → (after : List Token) × (matches_all (tests ++ more) (tokens ++ after) ≡ true)
matches_part-filled tests more last [] examples p m = (examples, m)
matches_part-filled [] more last (token ∷ rest) examples p m = absurd (false≢true (sym (and_right (last token.kind) false refl) ∙ p))
matches_part-filled (test ∷ tests) more last (token ∷ rest) [] p m = absurd (false≢true m)
matches_part-filled (test ∷ tests) more last (token ∷ rest) (example ∷ examples) p m =
    let (here, behind) = and_parts (test token.kind) (matches_part (tests ++ last ∷ []) rest) p in
    let (_, others) = and_parts (test example.kind) (matches_all (tests ++ more) examples) m in
    let (after, filled) = matches_part-filled tests more last rest examples behind others in
    (after, and_from (test token.kind) (matches_all (tests ++ more) (rest ++ after)) here filled)
