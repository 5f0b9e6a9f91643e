-- The statements that hold no query.
use Rattle.std.proofs.Common.{ℕ, true, codes, refl}
use Rattle.sa_lexer.specs.declared.sign.Sign.TheVariants as signs
use Rattle.sa_parser.specs.StatementGrammar.{Format, Show, Kill, Set, Wait}
use Rattle.sa_parser.specs.inner.StatementReading.{format, show, ask_kind, kill, kill_kind, sees_kill_kind, set, set_trace, set_limit, wait}
use Rattle.sa_parser.proofs.Heads.{or, only_word, apart, within}
use Rattle.sa_parser.proofs.Law.{Shape}
use Rattle.sa_parser.proofs.Looks.{Looks, or-Looks, sees_word-Looks}
use Rattle.sa_parser.proofs.laws.One.{one_shape}
use Rattle.sa_parser.proofs.rules.Agrees.{Agrees, word-Agrees, sign-Agrees, number_below-Agrees, made-Agrees, perhaps-Agrees, then-Agrees, either-Agrees}
use Rattle.sa_parser.proofs.rules.Numbers.{any_number-Agrees, steps-Agrees, switch-Agrees}

abbrev pub format_shape : Shape
format_shape = record { opens = only_word (codes "FORMAT"); blank = true; goes_on = only_word (codes "FORMAT") }

pub format-Agrees : {levels : ℕ} → Agrees Format Format format_shape levels format format
unfolding Format format apart within
format-Agrees =
    perhaps-Agrees (sees_word-Looks (codes "FORMAT"))
    (then-Agrees (then-Agrees (made-Agrees _ (word-Agrees (codes "FORMAT"))) (sign-Agrees signs.Equal) refl) (word-Agrees (codes "JSON")) refl)
    refl refl

pub show-Agrees : {levels : ℕ} → Agrees Show Show (one_shape (only_word (codes "SHOW"))) levels show show
unfolding Show show ask_kind apart within
show-Agrees =
    then-Agrees
    (then-Agrees
    (then-Agrees
    (then-Agrees (made-Agrees _ (word-Agrees (codes "SHOW")))
    (either-Agrees (sees_word-Looks (codes "EXPLAIN")) (made-Agrees _ (word-Agrees (codes "EXPLAIN"))) (made-Agrees _ (word-Agrees (codes "ANALYZE")))
    refl refl refl refl)
    refl)
    format-Agrees refl)
    (word-Agrees (codes "FOR")) refl)
    any_number-Agrees refl

sees_kill_kind-Looks : Looks (or (only_word (codes "CONNECTION")) (only_word (codes "QUERY"))) sees_kill_kind
sees_kill_kind-Looks = or-Looks (sees_word-Looks (codes "CONNECTION")) (sees_word-Looks (codes "QUERY"))

pub kill-Agrees : {levels : ℕ} → Agrees Kill Kill (one_shape (only_word (codes "KILL"))) levels kill kill
unfolding Kill kill kill_kind apart within
kill-Agrees =
    then-Agrees
    (then-Agrees (made-Agrees _ (word-Agrees (codes "KILL")))
    (perhaps-Agrees sees_kill_kind-Looks
    (either-Agrees (sees_word-Looks (codes "CONNECTION")) (made-Agrees _ (word-Agrees (codes "CONNECTION"))) (made-Agrees _ (word-Agrees (codes "QUERY")))
    refl refl refl refl)
    refl refl)
    refl)
    any_number-Agrees refl

pub set-Agrees : {levels : ℕ} → Agrees Set Set (one_shape (only_word (codes "SET"))) levels set set
unfolding Set set set_trace set_limit apart within
set-Agrees =
    then-Agrees
    (then-Agrees (made-Agrees _ (word-Agrees (codes "SET")))
    (perhaps-Agrees (sees_word-Looks (codes "SESSION")) (word-Agrees (codes "SESSION")) refl refl) refl)
    (either-Agrees (sees_word-Looks (codes "optimizer_trace"))
    (then-Agrees (then-Agrees (made-Agrees _ (word-Agrees (codes "optimizer_trace"))) (sign-Agrees signs.Equal) refl) switch-Agrees refl)
    (then-Agrees (then-Agrees (made-Agrees _ (word-Agrees (codes "max_row_steps"))) (sign-Agrees signs.Equal) refl) steps-Agrees refl)
    refl refl refl refl)
    refl

pub wait-Agrees : {levels : ℕ} → Agrees Wait Wait (one_shape (only_word (codes "WAIT"))) levels wait wait
unfolding Wait wait apart within
wait-Agrees =
    then-Agrees
    (then-Agrees
    (then-Agrees (then-Agrees (made-Agrees _ (word-Agrees (codes "WAIT"))) (word-Agrees (codes "FOR")) refl) any_number-Agrees refl)
    (word-Agrees (codes "AT")) refl)
    (number_below-Agrees _ refl) refl
