-- The rows of the optimizer's trace, which begin like a query.
use Rattle.std.proofs.Common.{ℕ, Bool, codes, List, [], ◌∷◌, ◌++◌, refl, sym}
use Rattle.std.proofs.Math.Bool.{and-false, and-true}
use Rattle.sa_lexer.specs.declared.sign.Sign.TheVariants as signs
use Rattle.sa_lexer.specs.declared.token.Token.{Token}
use Rattle.sa_lexer.specs.declared.token.TokenKind.{TokenKind}
use Rattle.sa_lexer.specs.declared.token.TokenKind.TheVariants as kinds
use Rattle.sa_parser.specs.Token.{is_word, is_sign}
use Rattle.sa_parser.specs.StatementGrammar.{TraceRows}
use Rattle.sa_parser.specs.inner.StatementReading.{sees_trace, trace_rows}
use Rattle.sa_parser.proofs.Heads.{only_word, only_sign, apart, within, has, only_word-has, only_sign-has}
use Rattle.sa_parser.proofs.LooksAhead.{LooksAhead, Passes, Begins}
use Rattle.sa_parser.proofs.laws.Begins.{word-Suffices, sign-Suffices, made-Suffices, then-Suffices, Suffices-Begins}
use Rattle.sa_parser.proofs.laws.Exactly.{word-Exactly, sign-Exactly, made-Exactly, then-Exactly, then-Passes_first, Exactly-Passes}
use Rattle.sa_parser.proofs.laws.One.{one_shape}
use Rattle.sa_parser.proofs.rules.Agrees.{Agrees, word-Agrees, sign-Agrees, made-Agrees, then-Agrees}
use Rattle.sa_parser.proofs.rules.Examples.{first_token}

-- the trace's name, up to its dot
abbrev pub trace_start : List (TokenKind → Bool)
trace_start = has (only_word (codes "SELECT")) ∷ has (only_sign signs.Star) ∷ has (only_word (codes "FROM")) ∷ has (only_word (codes "information_schema")) ∷ []

abbrev pub trace_tests : List (TokenKind → Bool)
trace_tests = trace_start ++ has (only_sign signs.Dot) ∷ []

pub sees_trace-LooksAhead : LooksAhead trace_tests sees_trace
unfolding sees_trace
sees_trace-LooksAhead = record {
  is = elim [
    | [] ↦ refl
    | first ∷ [] ↦ sym (simp and-false)
    | first ∷ second ∷ [] ↦ sym (simp and-false)
    | first ∷ second ∷ third ∷ [] ↦ sym (simp and-false)
    | first ∷ second ∷ third ∷ fourth ∷ [] ↦ sym (simp and-false)
    | first ∷ second ∷ third ∷ fourth ∷ fifth ∷ rest ↦ simp (only_word-has, only_sign-has, and-true)
  ];
}

pub trace-Agrees : {levels : ℕ} → Agrees TraceRows TraceRows (one_shape (only_word (codes "SELECT"))) levels trace_rows trace_rows
unfolding TraceRows trace_rows apart within
trace-Agrees =
    then-Agrees
    (then-Agrees
    (then-Agrees
    (then-Agrees (then-Agrees (made-Agrees _ (word-Agrees (codes "SELECT"))) (sign-Agrees signs.Star) refl) (word-Agrees (codes "FROM")) refl)
    (word-Agrees (codes "information_schema")) refl)
    (sign-Agrees signs.Dot) refl)
    (word-Agrees (codes "optimizer_trace")) refl

pub trace-Passes : Passes trace_tests TraceRows
unfolding TraceRows
trace-Passes =
    then-Passes_first _
    (Exactly-Passes
    (then-Exactly
    (then-Exactly
    (then-Exactly (then-Exactly (made-Exactly _ (word-Exactly (codes "SELECT"))) (sign-Exactly signs.Star)) (word-Exactly (codes "FROM")))
    (word-Exactly (codes "information_schema")))
    (sign-Exactly signs.Dot)))

-- the tokens of the trace's name, up to its dot
abbrev pub start_tokens : List Token
start_tokens =
    first_token (kinds.Word (codes "SELECT")) ∷ first_token (kinds.Sign signs.Star) ∷ first_token (kinds.Word (codes "FROM"))
    ∷ first_token (kinds.Word (codes "information_schema")) ∷ []

abbrev trace_tokens : List Token
trace_tokens = start_tokens ++ first_token (kinds.Sign signs.Dot) ∷ first_token (kinds.Word (codes "optimizer_trace")) ∷ []

pub trace-Begins : Begins trace_tests TraceRows
unfolding TraceRows has is_word is_sign
trace-Begins =
    Suffices-Begins trace_start (has (only_sign signs.Dot) ∷ has (only_word (codes "optimizer_trace")) ∷ []) (has (only_sign signs.Dot)) trace_tokens
    (then-Suffices
    (then-Suffices
    (then-Suffices
    (then-Suffices (then-Suffices (made-Suffices _ (word-Suffices (codes "SELECT"))) (sign-Suffices signs.Star)) (word-Suffices (codes "FROM")))
    (word-Suffices (codes "information_schema")))
    (sign-Suffices signs.Dot))
    (word-Suffices (codes "optimizer_trace")))
    refl
