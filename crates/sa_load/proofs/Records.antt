-- The records of a text, one after another: each read takes the first one that is left.
use Rattle.std.proofs.Common.{◌≡◌, ◌≤◌, ◌<◌, ◌+◌, ◌-◌, ℕ, zero, suc, List, [], ◌∷◌, ◌++◌, length, Option, Some, None, true, false, Bool, refl, sym, ap, ◌∙◌, arith, inl, inr, cond, ◌==◌, add-one}
use Rattle.std.proofs.lemmas.Bool.{cases_Bool}
use Rattle.csv.specs.Machine.{Read, next_record, step, in_field, start_field, start_record, is_end, ends_at_end, after_end}
use Rattle.csv.specs.Reading.{records_from, records_next}
use Rattle.sa_load.specs.inner.Reading.{records_left}
use Rattle.csv.specs.declared.parser.Config.{Config}
use Rattle.csv.specs.declared.parser.Terminator.{Terminator}
use Rattle.csv.specs.declared.parser.Terminator.TheVariants as term
use Rattle.csv.specs.declared.parser.State.{State}
use Rattle.csv.specs.declared.parser.State.TheVariants as st
use Rattle.csv.specs.declared.parser.Action.{Action}
use Rattle.csv.specs.declared.parser.Action.TheVariants as act

-- A step that ends a record leaves a state in which the end of the text ends none.
record Between (p : State × Action) : Type 0 where
  ended : is_end p.1 ≡ true → ends_at_end p.0 ≡ false

chosen : (b : Bool) (x y : State × Action) → Between x → Between y → Between (cond b x y)
chosen true x y f g = f
chosen false x y f g = g

either_state : (b : Bool) → ends_at_end (cond b st.AfterCr st.StartRecord) ≡ false
either_state true = refl
either_state false = refl

after_terminator : (t : Terminator) (c : ℕ) → ends_at_end (after_end t c) ≡ false
after_terminator term.CRLF c = either_state (c == 13)
after_terminator (term.Any t) c = refl

skips : (s : State) → Between (s, act.Skip)
skips s = record { ended = λ e. cc e }

copies : (s : State) → Between (s, act.Copy)
copies s = record { ended = λ e. cc e }

ends_field : (s : State) → Between (s, act.EndField)
ends_field s = record { ended = λ e. cc e }

ends_record : (t : Terminator) (c : ℕ) → Between (after_end t c, act.EndRecord)
ends_record t c = record { ended = λ e. after_terminator t c }

in_field-between : (cfg : Config) (c : ℕ) → Between (in_field cfg c)
in_field-between cfg c =
    chosen _ _ _ (ends_field st.StartField) (chosen _ _ _ (ends_record cfg.terminator c) (copies st.InField))

start_field-between : (cfg : Config) (c : ℕ) → Between (start_field cfg c)
start_field-between cfg c = chosen _ _ _ (skips st.InQuoted) (in_field-between cfg c)

start_record-between : (cfg : Config) (c : ℕ) → Between (start_record cfg c)
start_record-between cfg c = chosen _ _ _ (skips st.StartRecord) (chosen _ _ _ (skips st.InComment) (start_field-between cfg c))

-- a byte that ends a record leaves the machine between two records
step-between : (cfg : Config) (s : State) (c : ℕ) → Between (step cfg s c)
step-between cfg st.StartRecord c = start_record-between cfg c
step-between cfg st.StartField c = start_field-between cfg c
step-between cfg st.InField c = in_field-between cfg c
step-between cfg st.InQuoted c =
    chosen _ _ _ (skips st.AfterQuote) (chosen _ _ _ (skips st.InEscape) (copies st.InQuoted))
step-between cfg st.InEscape c = copies st.InQuoted
step-between cfg st.AfterQuote c = chosen _ _ _ (copies st.InQuoted) (in_field-between cfg c)
step-between cfg st.InComment c = chosen _ _ _ (skips st.StartRecord) (skips st.InComment)
step-between cfg st.AfterCr c = chosen _ _ _ (skips st.StartRecord) (start_record-between cfg c)

-- a record that was read ends between two records, and takes a byte of the text where there is one
pub record Taken (xs : List ℕ) (p : Read) : Type 0 where
  pub between : ends_at_end p.1 ≡ false
  pub shorter : length p.2 ≤ length xs - 1

shown : (p q : Read) → Some p ≡ Some q → p ≡ q
shown p q e = cc e

taken_eq : (xs : List ℕ) (p q : Read) → p ≡ q → Taken xs p → Taken xs q
taken_eq xs p q e t = rw (← e) t

pub next_record-taken : (cfg : Config) (s : State) (fields : List (List ℕ)) (field xs : List ℕ) (q : Read)
    → next_record cfg s fields field xs ≡ Some q → Taken xs q
unfolding next_record
next_record-taken cfg s fields field [] q e = at_end (ends_at_end s) e
  where
    at_end : (b : Bool) → cond b (Some (fields ++ (field ∷ []), st.StartRecord, [])) None ≡ Some q → Taken [] q
    at_end true f = taken_eq [] _ q (shown _ q f) (record { between = refl; shorter = omega arith })
    at_end false f = cc f
next_record-taken cfg s fields field (c ∷ rest) q e =
    elim (cases_Bool (is_end (step cfg s c).1)) [
      | inl ends ↦
          taken_eq (c ∷ rest) _ q (shown _ q (rw ends at e)) (record { between = (step-between cfg s c).ended ends; shorter = omega arith })
      | inr goes ↦
          let later = next_record-taken cfg (step cfg s c).0 _ _ rest q (rw goes at e) in
          record { between = later.between; shorter = omega (arith, later.shorter) }
    ]

-- no record starts at the end of a text
none_at_end : (cfg : Config) (s : State) → ends_at_end s ≡ false → next_record cfg s [] [] [] ≡ None
unfolding next_record
none_at_end cfg s b = rw b refl

-- a record that was read between two records takes a byte at least
next_record-shorter : (cfg : Config) (s : State) (xs : List ℕ) (p : Read) → ends_at_end s ≡ false
    → next_record cfg s [] [] xs ≡ Some p → length p.2 < length xs
next_record-shorter cfg s [] p b e = cc (sym (none_at_end cfg s b) ∙ e)
next_record-shorter cfg s (x ∷ xs) p b e =
    let t = next_record-taken cfg s [] [] (x ∷ xs) p e in
    omega (arith, t.shorter)

-- what two ways of going on say, where they say the same of what comes after the next record
records_next-same : (more less : State → List ℕ → List (List (List ℕ))) (o : Option Read)
    → ((p : Read) → o ≡ Some p → more p.1 p.2 ≡ less p.1 p.2) → records_next more o ≡ records_next less o
records_next-same more less None h = refl
records_next-same more less (Some p) h = ap (λ (rest : List (List (List ℕ))). p.0 ∷ rest) (h p refl)

-- reads enough are as good as any more
enough : (cfg : Config) (m n : ℕ) (s : State) (xs : List ℕ) → ends_at_end s ≡ false → length xs < m → length xs < n
    → records_from cfg m s xs ≡ records_from cfg n s xs
unfolding records_from
enough cfg zero n s xs b l h = absurd (omega arith)
enough cfg (suc m) zero s xs b l h = absurd (omega arith)
enough cfg (suc m) (suc n) s xs b l h =
    records_next-same (records_from cfg m) (records_from cfg n) (next_record cfg s [] [] xs) (λ p e.
    let t = next_record-taken cfg s [] [] xs p e in
    let less = next_record-shorter cfg s xs p b e in
    enough cfg m n p.1 p.2 t.between (omega (arith, less)) (omega (arith, less)))

pub records_left-some : (cfg : Config) (s : State) (xs : List ℕ) (p : Read) → ends_at_end s ≡ false
    → next_record cfg s [] [] xs ≡ Some p → records_left cfg s xs ≡ p.0 ∷ records_left cfg p.1 p.2
unfolding records_from
records_left-some cfg s xs p b e =
    let t = next_record-taken cfg s [] [] xs p e in
    let less = next_record-shorter cfg s xs p b e in
    rw (add-one, e) (ap (λ (rest : List (List (List ℕ))). p.0 ∷ rest)
    (enough cfg (length xs) (length p.2 + 1) p.1 p.2 t.between less (omega arith)))

pub records_left-none : (cfg : Config) (s : State) (xs : List ℕ) → next_record cfg s [] [] xs ≡ None → records_left cfg s xs ≡ []
unfolding records_from
records_left-none cfg s xs e = rw (add-one, e) refl
