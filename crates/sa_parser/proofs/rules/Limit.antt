-- How many rows a query gives, and how many it leaves out.
use Rattle.std.proofs.Common.{ℕ, ◌^◌, true, false, codes, [], ◌∷◌, refl}
use Rattle.sa_lexer.specs.declared.sign.Sign.TheVariants as signs
use Rattle.sa_parser.specs.SelectGrammar.{Limit}
use Rattle.sa_parser.specs.inner.SelectReading.{limit, second_limit}
use Rattle.sa_parser.proofs.Heads.{only_word, apart, within}
use Rattle.sa_parser.proofs.Law.{Shape}
use Rattle.sa_parser.proofs.Looks.{or-Looks, sees_word-Looks, sees_sign-Looks}
use Rattle.sa_parser.proofs.rules.Agrees.{Agrees, word-Agrees, sign-Agrees, number_below-Agrees, made-Agrees, reshaped-Agrees, perhaps-Agrees, then-Agrees, either-Agrees}

abbrev pub limit_shape : Shape
limit_shape = record {
  opens = only_word (codes "LIMIT");
  blank = true;
  goes_on = record { names = false; numbers = false; texts = false; words = codes "LIMIT" ∷ codes "OFFSET" ∷ []; signs = signs.Comma ∷ [] };
}

pub limit-Agrees : {levels : ℕ} → Agrees Limit Limit limit_shape levels limit limit
unfolding Limit limit second_limit apart within
limit-Agrees =
    reshaped-Agrees
    (perhaps-Agrees (sees_word-Looks (codes "LIMIT"))
    (then-Agrees (made-Agrees _ (word-Agrees (codes "LIMIT")))
    (then-Agrees (made-Agrees _ (number_below-Agrees (2 ^ 64) refl))
    (perhaps-Agrees (or-Looks (sees_sign-Looks signs.Comma) (sees_word-Looks (codes "OFFSET")))
    (either-Agrees (sees_sign-Looks signs.Comma)
    (then-Agrees (made-Agrees _ (sign-Agrees signs.Comma)) (number_below-Agrees (2 ^ 64) refl) refl)
    (then-Agrees (made-Agrees _ (word-Agrees (codes "OFFSET"))) (number_below-Agrees (2 ^ 64) refl) refl)
    refl refl refl refl)
    refl refl)
    refl)
    refl)
    refl refl)
    limit_shape refl refl refl
