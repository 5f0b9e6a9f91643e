-- Steps that may fail, and choices, taken apart.
use Rattle.std.proofs.Common.{◌≡◌, Bool, true, false, cond, Result, Ok, Err, refl, ap, inl, inr, ◌⊎◌}
use Rattle.sa_lexer.specs.Fault.{Fault, ◌>>=◌}

abbrev done : {A : Type 0} → A → Result A Fault
done found = Ok found

pub ok_is : {A : Type 0} (x y : A) → done x ≡ done y → x ≡ y
ok_is x y e = cc

-- the value of a step that did not fail
pub bind_ok : {A B : Type 0} (r : Result A Fault) (f : A → Result B Fault) (y : B) → (r >>= f) ≡ Ok y → (x : A) × (r ≡ Ok x) × (f x ≡ Ok y)
bind_ok (Ok x) f y e = (x, refl, e)
bind_ok (Err d) f y e = absurd cc

-- which way a test went
pub chosen : {A : Type 0} (b : Bool) (x y z : A) → cond b x y ≡ z → ((b ≡ true) × (x ≡ z)) ⊎ ((b ≡ false) × (y ≡ z))
chosen true x y z e = inl (refl, e)
chosen false x y z e = inr (refl, e)

abbrev failed : {A : Type 0} → Fault → Result A Fault
failed fault = Err fault

pub err_is : {A : Type 0} (d f : Fault) → failed {A = A} d ≡ failed f → d ≡ f
err_is d f e = cc

-- a step that failed, or the one behind it
pub bind_err : {A B : Type 0} (r : Result A Fault) (next : A → Result B Fault) (f : Fault) → (r >>= next) ≡ Err f → (r ≡ Err f) ⊎ ((x : A) × (r ≡ Ok x) × (next x ≡ Err f))
bind_err (Ok x) next f e = inr (x, refl, e)
bind_err {A} {B} (Err d) next f e = inl (ap failed (err_is {A = B} d f e))
