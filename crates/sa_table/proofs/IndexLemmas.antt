-- What an index says of the rows of a key, as it is searched and as it takes one more row.
use Rattle.std.proofs.Common.{◌≡◌, ℕ, ◌<◌, ◌≤◌, List, [], length, get_or, Bool, true, false, cond, nat_lt, Some, None, refl, sym, ap, subst, ◌∙◌, arith, ⊎_elim}
use Rattle.std.proofs.lemmas.Bool.{false≢true, cases_lt}
use Rattle.std.proofs.lemmas.Bool.Decides.{Decides-ltb, nat_tests}
use Rattle.std.proofs.lemmas.List.Sums.{position_or_len_is, fails_before_first}
use Rattle.std.specs.List.{position, position_or_len}
use Rattle.sa_value.specs.declared.value.Value.{Value}
use Rattle.sa_table.specs.declared.def.KeyDef.{KeyDef}
use Rattle.sa_table.specs.declared.index.Index.{Index}
use Rattle.sa_table.specs.Table.{is_unique, key_tuple}
use Rattle.sa_table.specs.AddRow.{collides}
use Rattle.sa_table.specs.Sound.{IsDistinct}
use Rattle.sa_table.specs.inner.Digest.{digest_of}
use Rattle.sa_table.specs.inner.Index.{bound_in}
use Rattle.sa_table.specs.inner.Keys.{IsAfterLast, IsIndexed}
use Rattle.sa_table.proofs.TupleLemmas.{digest_of_colliding, collides_with_both}

pub false_unless : (b : Bool) → (b ≡ true → ⊥) → b ≡ false
false_unless false never = refl
false_unless true never = absurd (never refl)

-- no row from a number on stands in the way
abbrev pub NoneFrom : KeyDef → List (List Value) → List Value → ℕ → Type 0
NoneFrom key rows row from = (k : ℕ) → from ≤ k → k < length rows → collides key row (get_or rows k []) ≡ false

-- rows with other digests don't stand in the way
pub none_between : (key : KeyDef) (rows : List (List Value)) (row : List Value) (digest below given : ℕ) → digest_of (key_tuple key.parts row) ≡ Some digest → IsAfterLast key.parts rows digest below given → NoneFrom key rows row below → NoneFrom key rows row given
none_between key rows row digest below given is last none k from to =
    false_unless (collides key row (get_or rows k []))
    (λ stands. ⊎_elim (λ inside. last.others k from inside (digest_of_colliding key row (get_or rows k []) stands ∙ is))
    (λ outside. false≢true (sym (none k outside to) ∙ stands))
    (cases_lt k below))

pub position_is : {A : Type 0} (p : A → Bool) (xs : List A) (k : ℕ) (d : A) → k < length xs → p (get_or xs k d) ≡ true → ((i : ℕ) → i < k → p (get_or xs i d) ≡ false) → position p xs ≡ Some k
position_is p xs k d there here before =
    ap (λ at. cond (nat_lt at (length xs)) (Some at) None) (position_or_len_is p xs k d (omega arith) before (λ h. here))
    ∙ ap (λ inside. cond inside (Some k) None) ((Decides-ltb k (length xs)).1 there)

not_below : (n : ℕ) → nat_lt n n ≡ false
not_below n = grind (arith, nat_tests)

pub position_none : {A : Type 0} (p : A → Bool) (xs : List A) (d : A) → ((i : ℕ) → i < length xs → p (get_or xs i d) ≡ false) → position p xs ≡ None
position_none p xs d before =
    ap (λ at. cond (nat_lt at (length xs)) (Some at) None) (position_or_len_is p xs (length xs) d (omega arith) before (λ h. absurd (omega arith)))
    ∙ ap (λ inside. cond inside (Some (length xs)) None) (not_below (length xs))

-- The row that is found is the first: no other stands in the way.
pub others_differ : (key : KeyDef) (rows : List (List Value)) (row : List Value) (found : ℕ) → is_unique key ≡ true → IsDistinct rows key → found < length rows → collides key row (get_or rows found []) ≡ true → (k : ℕ) → k < found → collides key row (get_or rows k []) ≡ false
others_differ key rows row found unique distinct there here k before =
    false_unless (collides key row (get_or rows k []))
    (λ stands. false≢true (sym (distinct unique k found [] before there) ∙ collides_with_both key row (get_or rows k []) (get_or rows found []) stands here))

-- An index that says nothing is that of no rows.
pub empty_indexed : (key : KeyDef) (index : Index) → index.before.items ≡ [] → ((digest : ℕ) → bound_in index digest ≡ 0) → IsIndexed [] key index
empty_indexed key index before none = record {
  before_all = omega (arith, ap length before);
  last = λ digest. subst (λ given. IsAfterLast key.parts [] digest 0 given) (sym (none digest)) record {
    within = omega arith;
    last = λ some. absurd (omega arith);
    others = λ row from to. absurd (omega arith);
  };
  before = λ row digest there is. absurd (omega arith);
}

-- where no first one is found, none passes
pub position_found : {A : Type 0} (p : A → Bool) (xs : List A) (d : A) → position p xs ≡ None → (k : ℕ) → k < length xs → p (get_or xs k d) ≡ false
position_found p xs d none k there =
    ⊎_elim
    (λ inside. absurd (some_none (position_or_len p xs) (sym (ap (λ at. cond at (Some (position_or_len p xs)) None) ((Decides-ltb (position_or_len p xs) (length xs)).1 inside)) ∙ none)))
    (λ outside. fails_before_first p xs k d (omega arith))
    (cases_lt (position_or_len p xs) (length xs))
  where
    some_none : (at : ℕ) → Some at ≡ None → ⊥
    some_none at e = cc
