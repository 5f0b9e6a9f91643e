-- A beginning and further parts, each of which is taken into what stands before it.
use Rattle.std.proofs.Common.{◌≡◌, ℕ, zero, suc, Bool, true, false, List, [], ◌∷◌, length, Ok, Err, fold, if◌then◌else◌, refl, sym, ◌∙◌, subst, subst₂}
use Rattle.sa_lexer.specs.declared.token.Token.{Token}
use Rattle.sa_parser.specs.Form.{Form, Chain}
use Rattle.sa_parser.specs.inner.Reading.{Reader, Outcome, given, and_then, made, then_read, either, more, chain}
use Rattle.sa_parser.proofs.Heads.{Heads, apart, within}
use Rattle.sa_parser.proofs.Law.{Shape, Law, Ahead, Deeper}
use Rattle.sa_parser.proofs.Looks.{Looks}
use Rattle.sa_parser.proofs.Parts.{Law-Parts}
use Rattle.sa_parser.proofs.laws.Made.{made-Law, made-Ahead, made-Deeper}
use Rattle.sa_parser.proofs.laws.Many.{many, many_shape, many-Law, many-Parts, many-Ahead, many-Deeper}
use Rattle.sa_parser.proofs.laws.Several.{several}
use Rattle.sa_parser.proofs.laws.Then.{then_shape, then-Law, then-Ahead_parts, then-Deeper}

abbrev pub chain_shape : Heads → Shape → Shape → Shape
chain_shape heads first next = then_shape first (many_shape heads next)

module _ {A B : Type 0} (looks : List Token → Bool) (take : A → B → A) (next : Reader B) where
  put_before : (so_far : A) (part : B) (outcome : Outcome (List B))
      → and_then outcome (λ parts. given (fold take (take so_far part) parts))
      ≡ and_then (and_then outcome (λ parts. given (part ∷ parts))) (λ parts. given (fold take so_far parts))
  put_before so_far part (Ok found) = refl
  put_before so_far part (Err left) = refl

  turn-is : (turns : ℕ) → ((so_far : A) (tokens : List Token)
      → more looks take next turns so_far tokens ≡ and_then (several looks next turns tokens) (λ parts. given (fold take so_far parts)))
      → (so_far : A) (tokens : List Token) (sees : Bool) (outcome : Outcome B)
      → (if sees then and_then outcome (λ part. more looks take next turns (take so_far part)) else Ok (so_far, tokens))
      ≡ and_then (if sees then and_then (and_then outcome (λ part. given {A = List B → List B} (λ parts. part ∷ parts)))
      (λ make rest. and_then (several looks next turns rest) (λ parts. given (make parts))) else Ok ([], tokens))
      (λ parts. given (fold take so_far parts))
  turn-is turns behind so_far tokens true (Ok found) =
      behind (take so_far found.0) found.1 ∙ put_before so_far found.0 (several looks next turns found.1)
  turn-is turns behind so_far tokens true (Err left) = refl
  turn-is turns behind so_far tokens false outcome = refl

  -- taking the parts in one by one, and all at once
  more-is : (turns : ℕ) (so_far : A) (tokens : List Token)
      → more looks take next turns so_far tokens ≡ and_then (several looks next turns tokens) (λ parts. given (fold take so_far parts))
  unfolding more several either then_read made
  more-is zero so_far tokens = refl
  more-is (suc turns) so_far tokens = turn-is turns (more-is turns) so_far tokens (looks tokens) (next tokens)

  begun-is : (outcome : Outcome A)
      → and_then outcome (λ begun rest. more looks take next (length rest) begun rest)
      ≡ and_then (and_then outcome (λ begun. given (fold take begun))) (λ make rest. and_then (many looks next rest) (λ parts. given (make parts)))
  unfolding many
  begun-is (Ok found) = more-is (length found.1) found.0 found.1
  begun-is (Err left) = refl

  chain-is : (first : Reader A) → then_read (made (fold take) first) (many looks next) ≡ chain first looks take next
  unfolding chain then_read made
  chain-is first = λ i tokens. sym (begun-is (first tokens)) i

module _ {A B : Type 0} {First AlsoFirst : Form A} {Next AlsoNext : Form B} {one part : Shape} {heads : Heads} {looks : List Token → Bool}
    {first : Reader A} {next : Reader B} (take : A → B → A)
    (look : Looks heads looks) (law : Law First AlsoFirst one first) (further : Law Next AlsoNext part next) (full : part.blank ≡ false) where
  pub chain-Law : within part.opens heads ≡ true → apart part.opens one.goes_on ≡ true → apart part.opens part.goes_on ≡ true
      → Law (Chain First take Next) (Chain AlsoFirst take AlsoNext) (chain_shape heads one part) (chain first looks take next)
  chain-Law w a b =
      let agrees : Reader A → Type 0 = λ read. Law (Chain First take Next) (Chain AlsoFirst take AlsoNext) (chain_shape heads one part) read in
      subst agrees (chain-is looks take next first)
      (then-Law (made-Law (fold take) law) (many-Law look further full w b) a)

  pub chain-Ahead : Ahead first → Ahead next → Ahead (chain first looks take next)
  chain-Ahead ahead also =
      let sees : Reader A → Type 0 = λ read. Ahead read in
      subst sees (chain-is looks take next first)
      (then-Ahead_parts (Law-Parts (made-Law (fold take) law)) (many-Parts looks further) (made-Ahead (fold take) ahead) (many-Ahead look further full also))

pub chain-Deeper : {A B : Type 0} {First AlsoFirst : Form A} {Next AlsoNext : Form B} {one part : Shape} {levels : ℕ} (looks : List Token → Bool)
    {first deep : Reader A} {next down : Reader B} (take : A → B → A) → Law First AlsoFirst one first → Law Next AlsoNext part next
    → Deeper levels first deep → Deeper levels next down → Deeper levels (chain first looks take next) (chain deep looks take down)
chain-Deeper {A} {levels} looks {first} {deep} {next} {down} take law further keeps also =
    let keep : Reader A → Reader A → Type 0 = λ read deeper. Deeper levels read deeper in
    subst₂ keep (chain-is looks take next first) (chain-is looks take down deep)
    (then-Deeper (made-Law (fold take) law) (made-Deeper (fold take) keeps) (many-Deeper looks further also))
