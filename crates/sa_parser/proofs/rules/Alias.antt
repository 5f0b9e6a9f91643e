-- An alias.
use Rattle.std.proofs.Common.{ℕ, true, false, codes, [], ◌∷◌, refl}
use Rattle.sa_lexer.specs.Reserved.{is_reserved}
use Rattle.sa_parser.specs.SelectGrammar.{Alias}
use Rattle.sa_parser.specs.inner.SelectReading.{alias}
use Rattle.sa_parser.proofs.Heads.{Heads, apart, within}
use Rattle.sa_parser.proofs.Law.{Shape}
use Rattle.sa_parser.proofs.Looks.{or-Looks, sees_word-Looks, sees_name-Looks}
use Rattle.sa_parser.proofs.rules.Agrees.{Agrees, name-Agrees, reshaped-Agrees, perhaps-Agrees, either-Agrees, after-Agrees}

abbrev pub alias_heads : Heads
alias_heads = record { names = true; numbers = false; texts = false; words = codes "AS" ∷ []; signs = [] }

abbrev pub alias_shape : Shape
alias_shape = record { opens = alias_heads; blank = true; goes_on = alias_heads }

pub alias-Agrees : {levels : ℕ} → Agrees Alias Alias alias_shape levels alias alias
unfolding Alias alias apart within is_reserved
alias-Agrees =
    reshaped-Agrees
    (perhaps-Agrees (or-Looks (sees_word-Looks (codes "AS")) sees_name-Looks)
    (either-Agrees (sees_word-Looks (codes "AS")) (after-Agrees (codes "AS") name-Agrees) name-Agrees refl refl refl refl) refl refl)
    alias_shape refl refl refl
