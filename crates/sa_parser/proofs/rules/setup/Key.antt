-- A key of a table that is set up.
use Rattle.std.proofs.Common.{ℕ, false, codes, [], ◌∷◌, refl}
use Rattle.sa_lexer.specs.Reserved.{is_reserved}
use Rattle.sa_parser.specs.SetupGrammar.{NameText, Columns, KeyWord, Key}
use Rattle.sa_parser.specs.inner.SetupReading.{name_text, columns, key_word, key_part, sees_key_word}
use Rattle.sa_parser.proofs.Heads.{Heads, only_names, apart, within}
use Rattle.sa_parser.proofs.Looks.{Looks, or-Looks, sees_word-Looks, sees_name-Looks}
use Rattle.sa_parser.proofs.laws.One.{one_shape}
use Rattle.sa_parser.proofs.rules.Agrees.{Agrees, word-Agrees, name-Agrees, made-Agrees, reshaped-Agrees, perhaps-Agrees, then-Agrees, either-Agrees, brackets_shape, brackets-Agrees, commas-Agrees}

name_text-Agrees : {levels : ℕ} → Agrees NameText NameText (one_shape only_names) levels name_text name_text
name_text-Agrees = made-Agrees _ name-Agrees

columns-Agrees : {levels : ℕ} → Agrees Columns Columns brackets_shape levels columns columns
unfolding columns apart
columns-Agrees = brackets-Agrees (commas-Agrees name_text-Agrees refl) refl

abbrev key_words : Heads
key_words = record { names = false; numbers = false; texts = false; words = codes "KEY" ∷ codes "INDEX" ∷ []; signs = [] }

key_word-Agrees : {levels : ℕ} → Agrees KeyWord KeyWord (one_shape key_words) levels key_word key_word
unfolding key_word apart within
key_word-Agrees = either-Agrees (sees_word-Looks (codes "KEY")) (word-Agrees (codes "KEY")) (word-Agrees (codes "INDEX")) refl refl refl refl

sees_key_word-Looks : Looks key_words sees_key_word
sees_key_word-Looks = or-Looks (sees_word-Looks (codes "KEY")) (sees_word-Looks (codes "INDEX"))

abbrev pub keys : Heads
keys = record {
  names = false;
  numbers = false;
  texts = false;
  words = codes "PRIMARY" ∷ codes "UNIQUE" ∷ codes "KEY" ∷ codes "INDEX" ∷ [];
  signs = [];
}

pub key-Agrees : {levels : ℕ} → Agrees Key Key (one_shape keys) levels key_part key_part
unfolding Key key_part apart within is_reserved
key-Agrees =
    reshaped-Agrees
    (either-Agrees (sees_word-Looks (codes "PRIMARY"))
    (then-Agrees (then-Agrees (made-Agrees _ (word-Agrees (codes "PRIMARY"))) (word-Agrees (codes "KEY")) refl) columns-Agrees refl)
    (either-Agrees (sees_word-Looks (codes "UNIQUE"))
    (then-Agrees
    (then-Agrees
    (then-Agrees (made-Agrees _ (word-Agrees (codes "UNIQUE"))) (perhaps-Agrees sees_key_word-Looks key_word-Agrees refl refl) refl)
    (perhaps-Agrees sees_name-Looks name_text-Agrees refl refl) refl)
    columns-Agrees refl)
    (then-Agrees (then-Agrees (made-Agrees _ key_word-Agrees) (perhaps-Agrees sees_name-Looks name_text-Agrees refl refl) refl) columns-Agrees refl)
    refl refl refl refl)
    refl refl refl refl)
    (one_shape keys) refl refl refl
