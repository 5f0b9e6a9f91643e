-- Statements of a session that hold no query are read back.
use Rattle.std.proofs.Common.{◌≡◌, ℕ, ◌+◌, ◌^◌, ◌<◌, ◌≤◌, Bool, true, false, [], ◌∷◌, ◌++◌, length, codes, Option, Some, None, cond, refl, ap, ◌∙◌, arith, append_assoc}
use Rattle.std.specs.Fmt.{decimal}
use Rattle.std.proofs.lemmas.Bool.{lt-ltb}
use Rattle.sa_lexer.specs.declared.sign.Sign.TheVariants as signs
use Rattle.sa_lexer.specs.declared.token.TokenKind.TheVariants as kinds
use Rattle.sa_ast.specs.declared.kind.AskKind.{AskKind}
use Rattle.sa_ast.specs.declared.kind.AskKind.TheVariants as ask
use Rattle.sa_ast.specs.declared.kind.KillKind.{KillKind}
use Rattle.sa_ast.specs.declared.kind.KillKind.TheVariants as killed
use Rattle.sa_ast.specs.declared.statement.Statement.TheVariants as said
use Rattle.sa_print.specs.Quoted.{canonical_literal, between_quotes}
use Rattle.sa_print.specs.Statement.{ask_word, kill_word, switch_word}
use Rattle.sa_print.specs.Name.{is_word}
use Rattle.sa_parser.specs.SelectTree.{or_else}
use Rattle.sa_parser.specs.Form.{Form, Perhaps, Word, ◌<$>◌, ◌<|>◌}
use Rattle.sa_parser.specs.StatementGrammar.{switch_of, switch_in, positive, steps_in, Show, Kill, Set, Wait, statement}
use Rattle.sa_parser.proofs.canonical_text.Build.{one, made, then, first, second, nothing, some}
use Rattle.sa_parser.proofs.canonical_text.EachPart.{IsNumber}
use Rattle.sa_parser.proofs.canonical_text.Lexed.{quiet_at, token_at, joined-Lexed, same-Lexed}
use Rattle.sa_parser.proofs.canonical_text.Pieces.{word-Lexed, word_space-Lexed, spaced_word-Lexed, spaced_sign-Lexed, number-Lexed, text-Lexed}
use Rattle.sa_parser.proofs.canonical_text.Statements.{IsSaid, no_format}
use Rattle.sa_parser.proofs.canonical_text.Tokens.{word_is, sign_is, number_is, number_below_is}

-- SHOW

abbrev Asked : Form AskKind
Asked = (λ _. ask.Explain) <$> Word (codes "EXPLAIN") <|> (λ _. ask.Analyze) <$> Word (codes "ANALYZE")

ask_is : (kind : AskKind) (place : ℕ) → Asked (token_at (kinds.Word (ask_word kind)) place (length (ask_word kind)) ∷ []) kind
ask_is ask.Explain place = first _ _ (made (Word (codes "EXPLAIN")) (λ _. ask.Explain) (word_is (codes "EXPLAIN") place 7))
ask_is ask.Analyze place = second _ _ (made (Word (codes "ANALYZE")) (λ _. ask.Analyze) (word_is (codes "ANALYZE") place 7))

ask_sound : (kind : AskKind) → is_word (ask_word kind) ≡ true
ask_sound ask.Explain = refl
ask_sound ask.Analyze = refl

pub said-Show : (kind : AskKind) (id : ℕ) → IsNumber id → IsSaid (said.Show kind id)
unfolding statement Show
said-Show kind id small =
    let for = 0 + length (codes "SHOW " ++ ask_word kind) in
    let number = 0 + length (codes "SHOW " ++ ask_word kind ++ codes " FOR ") in
    let show = made (Word (codes "SHOW")) (λ _ kind _ _ id. said.Show kind id) (word_is (codes "SHOW") 0 4) in
    let asked = then _ _ (then _ _ show (ask_is kind 5)) no_format in
    let is = then _ _ (then _ _ asked (word_is (codes "FOR") (for + 1) 3)) (number_is id number (length (decimal id))) in
    record {
      levels = 0;
      reads = record {
        tokens = _;
        again = said.Show kind id;
        lexed =
            joined-Lexed
            (joined-Lexed (joined-Lexed (word_space-Lexed 0 (codes "SHOW") refl) (word-Lexed 5 (ask_word kind) (ask_sound kind)) (λ after quiet. tt))
            (spaced_word-Lexed for (codes "FOR") refl) (λ after free. quiet_at 32 _ refl))
            (number-Lexed number id small) (λ after quiet. tt);
        is = second _ _ (second _ _ (second _ _ (second _ _ (first _ _ is))));
        same = refl;
      };
    }

-- KILL

abbrev Ended : Form (Option KillKind)
Ended = Perhaps ((λ _. killed.Connection) <$> Word (codes "CONNECTION") <|> (λ _. killed.Query) <$> Word (codes "QUERY"))

kill_is : (kind : KillKind) (place : ℕ) → Ended (token_at (kinds.Word (kill_word kind)) place (length (kill_word kind)) ∷ []) (Some kind)
kill_is killed.Connection place = some _ (first _ _ (made (Word (codes "CONNECTION")) (λ _. killed.Connection) (word_is (codes "CONNECTION") place 10)))
kill_is killed.Query place = some _ (second _ _ (made (Word (codes "QUERY")) (λ _. killed.Query) (word_is (codes "QUERY") place 5)))

kill_sound : (kind : KillKind) → is_word (kill_word kind) ≡ true
kill_sound killed.Connection = refl
kill_sound killed.Query = refl

pub said-Kill : (kind : KillKind) (id : ℕ) → IsNumber id → IsSaid (said.Kill kind id)
unfolding statement Kill
said-Kill kind id small =
    let number = 0 + length (codes "KILL " ++ (kill_word kind ++ codes " ")) in
    let kill = made (Word (codes "KILL")) (λ _ kind id. said.Kill (or_else killed.Connection kind) id) (word_is (codes "KILL") 0 4) in
    let is = then _ _ (then _ _ kill (kill_is kind 5)) (number_is id number (length (decimal id))) in
    let whole =
    joined-Lexed (joined-Lexed (word_space-Lexed 0 (codes "KILL") refl) (word_space-Lexed 5 (kill_word kind) (kill_sound kind)) (λ after free. tt))
    (number-Lexed number id small) (λ after quiet. tt) in
    record {
      levels = 0;
      reads = record {
        tokens = _;
        again = said.Kill kind id;
        lexed = same-Lexed (simp append_assoc) whole;
        is = second _ _ (second _ _ (second _ _ (second _ _ (second _ _ (first _ _ is)))));
        same = refl;
      };
    }

-- SET

trace_literal : (on : Bool) → canonical_literal (codes "enabled=" ++ switch_word on) ≡ codes "'enabled=" ++ switch_word on ++ codes "'"
unfolding between_quotes
trace_literal true = refl
trace_literal false = refl

switch_of-text : (on : Bool) → switch_of (kinds.Text (codes "enabled=" ++ switch_word on)) ≡ Some on
unfolding switch_of
switch_of-text true = refl
switch_of-text false = refl

short_literal : (on : Bool) → length (codes "enabled=" ++ switch_word on) ≤ 255
short_literal true = omega arith
short_literal false = omega arith

pub said-SetTrace : (on : Bool) → IsSaid (said.SetTrace on)
unfolding statement Set
said-SetTrace on =
    let text = codes "enabled=" ++ switch_word on in
    let literal = one switch_in (token_at (kinds.Text text) 22 (length (canonical_literal text))) on (switch_of-text on) in
    let name = made (Word (codes "optimizer_trace")) (λ _ _ on. said.SetTrace on) (word_is (codes "optimizer_trace") 4 15) in
    let trace = then _ _ (then _ _ name (sign_is signs.Equal 20 1)) literal in
    let set = then _ _ (made (Word (codes "SET")) (λ _ _ statement. statement) (word_is (codes "SET") 0 3)) (nothing (Word (codes "SESSION"))) in
    let named = joined-Lexed (word_space-Lexed 0 (codes "SET") refl) (word-Lexed 4 (codes "optimizer_trace") refl) (λ after quiet. tt) in
    let equal = joined-Lexed named (spaced_sign-Lexed 19 signs.Equal) (λ after free. quiet_at 32 _ refl) in
    record {
      levels = 0;
      reads = record {
        tokens = _;
        again = said.SetTrace on;
        lexed = same-Lexed (ap (λ literal. codes "SET optimizer_trace = " ++ literal) (trace_literal on)) (joined-Lexed equal (text-Lexed 22 text (short_literal on)) (λ after quiet. tt));
        is = second _ _ (second _ _ (second _ _ (second _ _ (second _ _ (second _ _ (first _ _ (then _ _ set (first _ _ trace))))))));
        same = refl;
      };
    }

-- a number of row steps
abbrev pub AreSteps : ℕ → Type 0
AreSteps steps = (0 < steps) × (steps < 2 ^ 40 + 1)

steps_told : (steps place len : ℕ) → AreSteps steps → steps_in (token_at (kinds.Number steps) place len) ≡ Some steps
unfolding steps_in
steps_told steps place len are =
    ap (λ test. positive (cond test (Some steps) None)) (lt-ltb steps (2 ^ 40 + 1) are.1) ∙ ap (λ test. cond test (Some steps) None) (lt-ltb 0 steps are.0)

pub said-SetLimit : (steps : ℕ) → AreSteps steps → IsSaid (said.SetLimit steps)
unfolding statement Set
said-SetLimit steps are =
    let number = one steps_in (token_at (kinds.Number steps) 20 (length (decimal steps))) steps (steps_told steps 20 (length (decimal steps)) are) in
    let name = made (Word (codes "max_row_steps")) (λ _ _ steps. said.SetLimit steps) (word_is (codes "max_row_steps") 4 13) in
    let limit = then _ _ (then _ _ name (sign_is signs.Equal 18 1)) number in
    let set = then _ _ (made (Word (codes "SET")) (λ _ _ statement. statement) (word_is (codes "SET") 0 3)) (nothing (Word (codes "SESSION"))) in
    let named = joined-Lexed (word_space-Lexed 0 (codes "SET") refl) (word-Lexed 4 (codes "max_row_steps") refl) (λ after quiet. tt) in
    let equal = joined-Lexed named (spaced_sign-Lexed 17 signs.Equal) (λ after free. quiet_at 32 _ refl) in
    record {
      levels = 0;
      reads = record {
        tokens = _;
        again = said.SetLimit steps;
        lexed = joined-Lexed equal (number-Lexed 20 steps (omega (arith, are))) (λ after quiet. tt);
        is = second _ _ (second _ _ (second _ _ (second _ _ (second _ _ (second _ _ (first _ _ (then _ _ set (second _ _ limit))))))));
        same = refl;
      };
    }

-- WAIT

pub said-Wait : (id at : ℕ) → IsNumber id → at < 2 ^ 40 + 1 → IsSaid (said.Wait id at)
unfolding statement Wait
said-Wait id at small also =
    let word = 0 + length (codes "WAIT FOR " ++ decimal id) in
    let number = 0 + length (codes "WAIT FOR " ++ decimal id ++ codes " AT ") in
    let wait = then _ _ (made (Word (codes "WAIT")) (λ _ _ id _ at. said.Wait id at) (word_is (codes "WAIT") 0 4)) (word_is (codes "FOR") 5 3) in
    let asked = then _ _ (then _ _ wait (number_is id 9 (length (decimal id)))) (word_is (codes "AT") (word + 1) 2) in
    let begun = joined-Lexed (word_space-Lexed 0 (codes "WAIT") refl) (word_space-Lexed 5 (codes "FOR") refl) (λ after free. tt) in
    let waited = joined-Lexed (joined-Lexed begun (number-Lexed 9 id small) (λ after quiet. tt)) (spaced_word-Lexed word (codes "AT") refl) (λ after free. quiet_at 32 _ refl) in
    record {
      levels = 0;
      reads = record {
        tokens = _;
        again = said.Wait id at;
        lexed = joined-Lexed waited (number-Lexed number at (omega (arith, also))) (λ after quiet. tt);
        is =
            second _ _ (second _ _ (second _ _ (second _ _ (second _ _ (second _ _ (second _ _ (then _ _ asked (number_below_is (2 ^ 40 + 1) at number (length (decimal at)) also))))))));
        same = refl;
      };
    }
