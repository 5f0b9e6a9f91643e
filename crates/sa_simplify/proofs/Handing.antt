-- Equalities that are handed on: where each comes from, that there is an end, and that there is one.
use Rattle.std.proofs.Common.{◌≡◌, ℕ, zero, suc, ◌+◌, ◌*◌, ◌<◌, ◌≤◌, Bool, true, false, ◌||◌, if◌then◌else◌, Option, Some, None, option_map, List, [], ◌∷◌, ◌++◌, length, refl, ap, sym, ◌∙◌, subst, inl, inr, ◌⊎◌, arith, length-append, get_or, drop, ◌==◌, eq-eqb}
use Rattle.std.specs.List.{AllByRecursion, list_any, flat_map}
use Rattle.std.specs.Option.{option_map_or}
use Rattle.sa_value.specs.declared.truth.CompareOp.TheVariants.{Eq}
use Rattle.sa_value.specs.declared.value.Value.{Value}
use Rattle.sa_value.specs.declared.value.Value.TheVariants.{Null, Int, Big, Text}
use Rattle.std.proofs.lemmas.List.{at_drop_more}
use Rattle.std.proofs.lemmas.Cmp.{tied_itself, int_cmp_total, nat_list_cmp_total}
use Rattle.std.specs.declared.cmp.Ordering.TheVariants.{Equal}
use Rattle.sa_value.specs.Compare.{holds_at, order_of}
use Rattle.sa_cond.specs.declared.cond.Cond.{Cond}
use Rattle.sa_cond.specs.declared.cond.Cond.TheVariants.{Compare}
use Rattle.sa_cond.specs.declared.expr.Expr.{Expr}
use Rattle.sa_cond.specs.declared.expr.Expr.TheVariants.{Column, Literal}
use Rattle.sa_simplify.specs.declared.equality.Place.{Place}
use Rattle.sa_simplify.specs.Propagate.{is_same_place, Join, Fix, join_in, fix_of, fix_between, fix_in, fix_condition, is_fix, is_there, other_place, handed_to, handed_by, or_else, first_given, next_handed, HandsOn, ends, hands, handed_at_most, handed_all}
use Rattle.sa_simplify.proofs.Refines.{true_both}
use Rattle.sa_simplify.proofs.Amidst.{IsIn, All-in, All-itself, All-push, IsIn-flat_map}

-- an equality, read back

fixed_form : (x : Place) (value : Value) (fix : Fix) → fix_of x value ≡ Some fix → (fix ≡ record { place = x; literal = value })
fixed_form x Null fix is = cc
fixed_form x (Int n) fix is = cc
fixed_form x (Big n) fix is = cc
fixed_form x (Text t) fix is = cc

between_form : (left right : Expr) (fix : Fix) → fix_between left right ≡ Some fix → Compare Eq left right ≡ fix_condition fix
between_form (Column table column) (Literal value) fix is = ap fix_condition (sym (fixed_form (record { table = table; column = column }) value fix is))
between_form left right fix is = cc

pub fix_in-form : (cond : Cond) (fix : Fix) → fix_in cond ≡ Some fix → cond ≡ fix_condition fix
fix_in-form (Compare Eq left right) fix is = between_form left right fix is
fix_in-form cond fix is = cc

pub fix_in-again : (cond : Cond) (fix : Fix) → fix_in cond ≡ Some fix → fix_in (fix_condition fix) ≡ Some fix
fix_in-again cond fix is = ap fix_in (sym (fix_in-form cond fix is)) ∙ is

known_anywhere : (x y : Place) (value : Value) (fix : Fix) → fix_of x value ≡ Some fix → fix_of y value ≡ Some (record { place = y; literal = value })
known_anywhere x y Null fix is = cc
known_anywhere x y (Int n) fix is = refl
known_anywhere x y (Big n) fix is = refl
known_anywhere x y (Text t) fix is = refl

-- what hands it on

record Gives {A B : Type 0} (f : A → Option B) (xs : List A) (y : B) : Type 0 where
  element : A
  there : IsIn element xs
  gives : f element ≡ Some y

gives_at : {A B : Type 0} (f : A → Option B) (x : A) (xs : List A) (y : B) (o : Option B) → f x ≡ o → or_else o (first_given f xs) ≡ Some y →
    (first_given f xs ≡ Some y → Gives f xs y) → Gives f (x ∷ xs) y
gives_at f x xs y None at is rest =
    let later = rest is in record { element = later.element; there = inr later.there; gives = later.gives }
gives_at f x xs y (Some z) at is rest = record { element = x; there = inl refl; gives = at ∙ is }

first_given-gives : {A B : Type 0} (f : A → Option B) (xs : List A) (y : B) → first_given f xs ≡ Some y → Gives f xs y
first_given-gives f [] y is = cc
first_given-gives f (x ∷ xs) y is = gives_at f x xs y (f x) refl is (first_given-gives f xs y)

-- An equality is handed on by these two conjuncts, and isn't there.
pub record Origin (conjuncts : List Cond) (handed : Fix) : Type 0 where
  pub first : Cond
  pub second : Cond
  pub first_there : IsIn first conjuncts
  pub second_there : IsIn second conjuncts
  pub join : Join
  pub fix : Fix
  pub joins : join_in first ≡ Some join
  pub fixes : fix_in second ≡ Some fix
  pub other : other_place join fix.place ≡ Some handed.place
  pub literal : fix.literal ≡ handed.literal
  pub missing : is_there conjuncts handed ≡ false

record Handed (conjuncts : List Cond) (o : Option Join) (p : Option Fix) (handed : Fix) : Type 0 where
  join : Join
  fix : Fix
  joins : o ≡ Some join
  fixes : p ≡ Some fix
  other : other_place join fix.place ≡ Some handed.place
  literal : fix.literal ≡ handed.literal
  missing : is_there conjuncts handed ≡ false

unless_there-some : (conjuncts : List Cond) (fix handed : Fix) (b : Bool) → is_there conjuncts fix ≡ b → (if b then None else Some fix) ≡ Some handed →
    (fix ≡ handed) × (is_there conjuncts fix ≡ false)
unless_there-some conjuncts fix handed true at is = cc
unless_there-some conjuncts fix handed false at is = (cc, at)

handed_to-some : (conjuncts : List Cond) (join : Join) (fix handed : Fix) (o : Option Place) → other_place join fix.place ≡ o → handed_to conjuncts o fix.literal ≡ Some handed →
    Handed conjuncts (Some join) (Some fix) handed
handed_to-some conjuncts join fix handed None at is = cc
handed_to-some conjuncts join fix handed (Some x) at is =
    let new : Fix = record { place = x; literal = fix.literal } in
    let u = unless_there-some conjuncts new handed (is_there conjuncts new) refl is in
    record {
      join = join;
      fix = fix;
      joins = refl;
      fixes = refl;
      other = at ∙ ap (λ f. Some f.place) u.0;
      literal = ap (λ f. f.literal) u.0;
      missing = subst (λ f. is_there conjuncts f ≡ false) u.0 u.1;
    }

handed_by-some : (conjuncts : List Cond) (o : Option Join) (p : Option Fix) (handed : Fix) → handed_by conjuncts o p ≡ Some handed → Handed conjuncts o p handed
handed_by-some conjuncts None p handed is = cc
handed_by-some conjuncts (Some join) None handed is = cc
handed_by-some conjuncts (Some join) (Some fix) handed is = handed_to-some conjuncts join fix handed (other_place join fix.place) refl is

pub next_handed-origin : (conjuncts : List Cond) (handed : Fix) → next_handed conjuncts ≡ Some handed → Origin conjuncts handed
unfolding next_handed
next_handed-origin conjuncts handed is =
    let outer = first_given-gives (λ first. first_given (λ second. handed_by conjuncts (join_in first) (fix_in second)) conjuncts) conjuncts handed is in
    let inner = first_given-gives (λ second. handed_by conjuncts (join_in outer.element) (fix_in second)) conjuncts handed outer.gives in
    let by = handed_by-some conjuncts (join_in outer.element) (fix_in inner.element) handed inner.gives in
    record {
      first = outer.element;
      second = inner.element;
      first_there = outer.there;
      second_there = inner.there;
      join = by.join;
      fix = by.fix;
      joins = by.joins;
      fixes = by.fixes;
      other = by.other;
      literal = by.literal;
      missing = by.missing;
    }

-- there is one end

pub HandsOn-same : {conjuncts a b : List Cond} → HandsOn conjuncts a → HandsOn conjuncts b → a ≡ b
HandsOn-same (ends none) (ends none') = refl
HandsOn-same (ends none) (hands some rest) = cc
HandsOn-same (hands some rest) (ends none) = cc
HandsOn-same {conjuncts} {a} {b} (hands {fix = fix} some rest) (hands {fix = fix'} some' rest') =
    let same : fix' ≡ fix = cc in
    HandsOn-same rest (subst (λ f. HandsOn (conjuncts ++ fix_condition f ∷ []) b) same rest')

-- there is an end: each equality that is handed on is one of finitely many, and was not there

abbrev two : Option Join → Option Fix → List Fix
two None fix = []
two (Some join) None = []
two (Some join) (Some fix) = record { place = join.left; literal = fix.literal } ∷ record { place = join.right; literal = fix.literal } ∷ []

abbrev pub candidates : List Cond → List Fix
candidates conjuncts = flat_map (λ first. flat_map (λ second. two (join_in first) (fix_in second)) conjuncts) conjuncts

length-two : (o : Option Join) (p : Option Fix) → length (two o p) ≤ 2
length-two None p = omega arith
length-two (Some join) None = omega arith
length-two (Some join) (Some fix) = omega arith

length-seconds : (o : Option Join) (ys : List Cond) → length (flat_map (λ second. two o (fix_in second)) ys) ≤ 2 * length ys
length-seconds o [] = omega arith
length-seconds o (y ∷ ys) =
    omega (arith, length-append (two o (fix_in y)) (flat_map (λ second. two o (fix_in second)) ys), length-two o (fix_in y), length-seconds o ys)

length-firsts : (xs ys : List Cond) → length (flat_map (λ first. flat_map (λ second. two (join_in first) (fix_in second)) ys) xs) ≤ 2 * (length xs * length ys)
length-firsts [] ys = omega arith
length-firsts (x ∷ xs) ys =
    omega (
      arith,
      length-append (flat_map (λ second. two (join_in x) (fix_in second)) ys) (flat_map (λ first. flat_map (λ second. two (join_in first) (fix_in second)) ys) xs),
      length-seconds (join_in x) ys,
      length-firsts xs ys,
    )

abbrev lack : Bool → ℕ
lack there = if there then 0 else 1

-- how many of these aren't there
abbrev pub lacking : List Cond → List Fix → ℕ
lacking conjuncts [] = 0
lacking conjuncts (fix ∷ fixes) = lack (is_there conjuncts fix) + lacking conjuncts fixes

lack-le : (b : Bool) → lack b ≤ 1
lack-le true = omega arith
lack-le false = omega arith

lacking-le : (conjuncts : List Cond) (fixes : List Fix) → lacking conjuncts fixes ≤ length fixes
lacking-le conjuncts [] = omega arith
lacking-le conjuncts (fix ∷ fixes) = omega (arith, lack-le (is_there conjuncts fix), lacking-le conjuncts fixes)

or_assoc : (a b c : Bool) → (a || b) || c ≡ a || (b || c)
or_assoc true b c = refl
or_assoc false b c = refl

or_false : (a : Bool) → a || false ≡ a
or_false true = refl
or_false false = refl

list_any-push : (test : Cond → Bool) (xs : List Cond) (x : Cond) → list_any test (xs ++ x ∷ []) ≡ list_any test xs || test x
list_any-push test [] x = or_false (test x)
list_any-push test (y ∷ xs) x = ap (λ b. test y || b) (list_any-push test xs x) ∙ sym (or_assoc (test y) (list_any test xs) (test x))

lack-or : (a b : Bool) → lack (a || b) ≤ lack a
lack-or true b = omega arith
lack-or false true = omega arith
lack-or false false = omega arith

lack-push : (conjuncts : List Cond) (c : Cond) (fix : Fix) → lack (is_there (conjuncts ++ c ∷ []) fix) ≤ lack (is_there conjuncts fix)
lack-push conjuncts c fix =
    subst (λ b. lack b ≤ lack (is_there conjuncts fix)) (sym (list_any-push (λ conjunct. is_fix fix (fix_in conjunct)) conjuncts c))
    (lack-or (is_there conjuncts fix) (is_fix fix (fix_in c)))

lacking-push : (conjuncts : List Cond) (c : Cond) (fixes : List Fix) → lacking (conjuncts ++ c ∷ []) fixes ≤ lacking conjuncts fixes
lacking-push conjuncts c [] = omega arith
lacking-push conjuncts c (fix ∷ fixes) = omega (arith, lack-push conjuncts c fix, lacking-push conjuncts c fixes)

pub lacking-less : (conjuncts : List Cond) (c : Cond) (handed : Fix) (fixes : List Fix) → IsIn handed fixes →
    is_there conjuncts handed ≡ false → is_there (conjuncts ++ c ∷ []) handed ≡ true → lacking (conjuncts ++ c ∷ []) fixes < lacking conjuncts fixes
lacking-less conjuncts c handed [] here before after = absurd here
lacking-less conjuncts c handed (fix ∷ fixes) (inl is) before after =
    let was : lack (is_there conjuncts fix) ≡ 1 = ap (λ f. lack (is_there conjuncts f)) is ∙ ap lack before in
    let now : lack (is_there (conjuncts ++ c ∷ []) fix) ≡ 0 = ap (λ f. lack (is_there (conjuncts ++ c ∷ []) f)) is ∙ ap lack after in
    omega (arith, was, now, lacking-push conjuncts c fixes)
lacking-less conjuncts c handed (fix ∷ fixes) (inr there) before after =
    omega (arith, lack-push conjuncts c fix, lacking-less conjuncts c handed fixes there before after)

-- A conjunct was handed on, with a literal of the first ones.
pub record WasHanded (firsts : List Cond) (cond : Cond) : Type 0 where
  pub fix : Fix
  pub is : cond ≡ fix_condition fix
  pub again : fix_in (fix_condition fix) ≡ Some fix
  pub source : Cond
  pub source_there : IsIn source firsts
  pub source_fix : Fix
  pub source_fixes : fix_in source ≡ Some source_fix
  pub literal : source_fix.literal ≡ fix.literal

abbrev pub IsFrom : List Cond → List Cond → Type 0
IsFrom firsts conjuncts = AllByRecursion (λ c. IsIn c firsts ⊎ WasHanded firsts c) conjuncts

record Source (firsts : List Cond) (value : Value) : Type 0 where
  source : Cond
  there : IsIn source firsts
  fix : Fix
  fixes : fix_in source ≡ Some fix
  literal : fix.literal ≡ value

join_there : (firsts : List Cond) (c : Cond) (join : Join) → join_in c ≡ Some join → IsIn c firsts ⊎ WasHanded firsts c → IsIn c firsts
join_there firsts c join joins (inl here) = here
join_there firsts c join joins (inr handed) = let no : join_in (fix_condition handed.fix) ≡ Some join = ap join_in (sym handed.is) ∙ joins in cc

source_of : (firsts : List Cond) (c : Cond) (fix : Fix) → fix_in c ≡ Some fix → IsIn c firsts ⊎ WasHanded firsts c → Source firsts fix.literal
source_of firsts c fix fixes (inl here) = record { source = c; there = here; fix = fix; fixes = fixes; literal = refl }
source_of firsts c fix fixes (inr handed) =
    let same : handed.fix ≡ fix = (let both : Some handed.fix ≡ Some fix = sym handed.again ∙ ap fix_in (sym handed.is) ∙ fixes in cc) in
    record { source = handed.source; there = handed.source_there; fix = handed.source_fix; fixes = handed.source_fixes; literal = handed.literal ∙ ap (λ f. f.literal) same }

-- one of the two columns
other_place-cases : (join : Join) (x y : Place) (a b : Bool) → (if a then Some join.right else (if b then Some join.left else None)) ≡ Some y → (join.right ≡ y) ⊎ (join.left ≡ y)
other_place-cases join x y true b is = inl cc
other_place-cases join x y false true is = inr cc
other_place-cases join x y false false is = cc

pub candidate_in : (firsts : List Cond) (first second : Cond) (join : Join) (fix handed : Fix) → IsIn first firsts → IsIn second firsts → join_in first ≡ Some join → fix_in second ≡ Some fix →
    fix.literal ≡ handed.literal → (join.right ≡ handed.place) ⊎ (join.left ≡ handed.place) → IsIn handed (candidates firsts)
candidate_in firsts first second join fix handed first_there second_there joins fixes literal place =
    IsIn-flat_map (λ first. flat_map (λ second. two (join_in first) (fix_in second)) firsts) first handed firsts first_there
    (IsIn-flat_map (λ second. two (join_in first) (fix_in second)) second handed firsts second_there
    (subst (λ o. IsIn handed (two o (fix_in second))) (sym joins) (subst (λ p. IsIn handed (two (Some join) p)) (sym fixes)
    (elim place [
      | inl is ↦ inr (inl (λ i. record { place = is i; literal = literal i }))
      | inr is ↦ inl (λ i. record { place = is i; literal = literal i })
    ]))))

pub record Step (firsts conjuncts : List Cond) (handed : Fix) : Type 0 where
  pub less : lacking (conjuncts ++ fix_condition handed ∷ []) (candidates firsts) < lacking conjuncts (candidates firsts)
  pub from : IsFrom firsts (conjuncts ++ fix_condition handed ∷ [])

same_itself : (x : Place) → is_same_place x x ≡ true
same_itself x = true_both (x.table == x.table) (x.column == x.column) (eq-eqb x.table x.table refl) (eq-eqb x.column x.column refl)

order_itself : (value : Value) → order_of value value ≡ Equal
order_itself Null = refl
order_itself (Int n) = tied_itself int_cmp_total n
order_itself (Big n) = tied_itself int_cmp_total n
order_itself (Text t) = tied_itself nat_list_cmp_total t

is_fix-itself : (fix : Fix) → is_fix fix (Some fix) ≡ true
is_fix-itself fix =
    true_both (is_same_place fix.place fix.place) (holds_at Eq (order_of fix.literal fix.literal)) (same_itself fix.place) (ap (holds_at Eq) (order_itself fix.literal))

or_true : (a : Bool) → a || true ≡ true
or_true true = refl
or_true false = refl

there_after : (conjuncts : List Cond) (handed : Fix) → fix_in (fix_condition handed) ≡ Some handed → is_there (conjuncts ++ fix_condition handed ∷ []) handed ≡ true
there_after conjuncts handed again =
    list_any-push (λ conjunct. is_fix handed (fix_in conjunct)) conjuncts (fix_condition handed)
    ∙ ap (λ b. is_there conjuncts handed || b) (ap (is_fix handed) again ∙ is_fix-itself handed) ∙ or_true (is_there conjuncts handed)

-- what is handed on is an equality with a literal other than NULL
pub handed-again : (conjuncts : List Cond) (handed : Fix) → next_handed conjuncts ≡ Some handed → fix_in (fix_condition handed) ≡ Some handed
handed-again conjuncts handed is =
    let origin = next_handed-origin conjuncts handed is in
    subst (λ v. fix_of handed.place v ≡ Some (record { place = handed.place; literal = v })) origin.literal
    (known_anywhere origin.fix.place handed.place origin.fix.literal origin.fix (fix_in-again origin.second origin.fix origin.fixes))

pub step_of : (firsts conjuncts : List Cond) (handed : Fix) → IsFrom firsts conjuncts → next_handed conjuncts ≡ Some handed → Step firsts conjuncts handed
step_of firsts conjuncts handed from is =
    let origin = next_handed-origin conjuncts handed is in
    let first_from : IsIn origin.first firsts ⊎ WasHanded firsts origin.first =
    All-in (λ c. IsIn c firsts ⊎ WasHanded firsts c) origin.first conjuncts from origin.first_there in
    let second_from : IsIn origin.second firsts ⊎ WasHanded firsts origin.second =
    All-in (λ c. IsIn c firsts ⊎ WasHanded firsts c) origin.second conjuncts from origin.second_there in
    let source = source_of firsts origin.second origin.fix origin.fixes second_from in
    let place = other_place-cases origin.join origin.fix.place handed.place (is_same_place origin.fix.place origin.join.left) (is_same_place origin.fix.place origin.join.right) origin.other in
    let inside = candidate_in firsts origin.first source.source origin.join source.fix handed (join_there firsts origin.first origin.join origin.joins first_from)
    source.there origin.joins source.fixes (source.literal ∙ origin.literal) place in
    let again = handed-again conjuncts handed is in
    record {
      less = lacking-less conjuncts (fix_condition handed) handed (candidates firsts) inside origin.missing (there_after conjuncts handed again);
      from = All-push (λ c. IsIn c firsts ⊎ WasHanded firsts c) conjuncts (fix_condition handed) from (inr (record {
        fix = handed;
        is = refl;
        again = again;
        source = source.source;
        source_there = source.there;
        source_fix = source.fix;
        source_fixes = source.fixes;
        literal = source.literal ∙ origin.literal;
      }));
    }

each_first : (firsts conjuncts : List Cond) → AllByRecursion (λ c. IsIn c firsts) conjuncts → IsFrom firsts conjuncts
each_first firsts [] all = tt
each_first firsts (c ∷ conjuncts) all = (inl all.0, each_first firsts conjuncts all.1)

pub IsFrom-itself : (conjuncts : List Cond) → IsFrom conjuncts conjuncts
IsFrom-itself conjuncts = each_first conjuncts conjuncts (All-itself conjuncts)

none_more : (firsts conjuncts : List Cond) (o : Option Fix) → next_handed conjuncts ≡ o → IsFrom firsts conjuncts → lacking conjuncts (candidates firsts) ≤ 0 → HandsOn conjuncts conjuncts
none_more firsts conjuncts None is from few = ends is
none_more firsts conjuncts (Some handed) is from few = absurd (omega (arith, few, (step_of firsts conjuncts handed from is).less))

one_more : (firsts conjuncts : List Cond) (n : ℕ) (o : Option Fix) → next_handed conjuncts ≡ o → IsFrom firsts conjuncts → lacking conjuncts (candidates firsts) ≤ suc n →
    ((handed : Fix) → IsFrom firsts (conjuncts ++ fix_condition handed ∷ []) → lacking (conjuncts ++ fix_condition handed ∷ []) (candidates firsts) ≤ n →
    HandsOn (conjuncts ++ fix_condition handed ∷ []) (handed_at_most n (conjuncts ++ fix_condition handed ∷ []))) →
    HandsOn conjuncts (option_map_or (λ fix. handed_at_most n (conjuncts ++ fix_condition fix ∷ [])) o conjuncts)
one_more firsts conjuncts n None is from few rest = ends is
one_more firsts conjuncts n (Some handed) is from few rest =
    let step = step_of firsts conjuncts handed from is in
    hands is (rest handed step.from (omega (arith, few, step.less)))

handed_at_most-hands : (firsts conjuncts : List Cond) (n : ℕ) → IsFrom firsts conjuncts → lacking conjuncts (candidates firsts) ≤ n → HandsOn conjuncts (handed_at_most n conjuncts)
handed_at_most-hands firsts conjuncts zero from few = none_more firsts conjuncts (next_handed conjuncts) refl from few
handed_at_most-hands firsts conjuncts (suc n) from few =
    one_more firsts conjuncts n (next_handed conjuncts) refl from few
    (λ handed from' few'. handed_at_most-hands firsts (conjuncts ++ fix_condition handed ∷ []) n from' few')

pub handed_all-hands : (conjuncts : List Cond) → HandsOn conjuncts (handed_all conjuncts)
unfolding handed_all
handed_all-hands conjuncts =
    handed_at_most-hands conjuncts conjuncts (2 * (length conjuncts * length conjuncts)) (IsFrom-itself conjuncts)
    (omega (arith, lacking-le conjuncts (candidates conjuncts), length-firsts conjuncts conjuncts))

-- the loops over the conjuncts

none_handed : (conjuncts xs : List Cond) → first_given (λ second. handed_by conjuncts None (fix_in second)) xs ≡ None
none_handed conjuncts [] = refl
none_handed conjuncts (x ∷ xs) = none_handed conjuncts xs

pub no_join : (conjuncts : List Cond) (o : Option Join) → None ≡ o → None ≡ first_given (λ second. handed_by conjuncts o (fix_in second)) conjuncts
no_join conjuncts o is =
    sym (ap (λ p. first_given (λ second. handed_by conjuncts p (fix_in second)) conjuncts) (sym is) ∙ none_handed conjuncts conjuncts)

pub found_at : {A B : Type 0} (f : A → Option B) (xs : List A) (i : ℕ) (x : A) (o : Option B) (y : B) → i < length xs → x ≡ get_or xs i x → o ≡ f x → o ≡ Some y →
    first_given f (drop i xs) ≡ first_given f xs → Some y ≡ first_given f xs
found_at f xs i x o y within is gives some so_far =
    sym (sym so_far ∙ at_drop_more (first_given f) xs i x within ∙ ap (λ z. or_else (f z) (first_given f (drop (i + 1) xs))) (sym is)
    ∙ ap (λ p. or_else p (first_given f (drop (i + 1) xs))) (sym gives ∙ some))

pub not_at : {A B : Type 0} (f : A → Option B) (xs : List A) (i : ℕ) (x : A) (o : Option B) → i < length xs → x ≡ get_or xs i x → o ≡ f x → o ≡ None →
    first_given f (drop i xs) ≡ first_given f xs → first_given f (drop (i + 1) xs) ≡ first_given f xs
not_at f xs i x o within is gives none so_far =
    sym (sym so_far ∙ at_drop_more (first_given f) xs i x within ∙ ap (λ z. or_else (f z) (first_given f (drop (i + 1) xs))) (sym is)
    ∙ ap (λ p. or_else p (first_given f (drop (i + 1) xs))) (sym gives ∙ none))

-- An equality that was put at the end is the next one that is handed on.
pub record IsNext (conjuncts : List Cond) (equality : Cond) : Type 0 where
  pub fix : Fix
  pub next : next_handed conjuncts ≡ Some fix
  pub is : equality ≡ fix_condition fix

next_at : (conjuncts : List Cond) (equality : Cond) (o : Option Fix) → next_handed conjuncts ≡ o → Some equality ≡ option_map fix_condition o → IsNext conjuncts equality
next_at conjuncts equality None at is = cc
next_at conjuncts equality (Some fix) at is = record { fix = fix; next = at; is = cc }

pub IsNext-from : (conjuncts seen : List Cond) (equality : Cond) (o : Option Cond) → seen ≡ conjuncts → o ≡ option_map fix_condition (next_handed seen) → o ≡ Some equality → IsNext conjuncts equality
IsNext-from conjuncts seen equality o same given is =
    next_at conjuncts equality (next_handed conjuncts) refl (sym is ∙ given ∙ ap (λ cs. option_map fix_condition (next_handed cs)) same)

pub next_smaller : (firsts conjuncts new : List Cond) (equality : Cond) → IsNext conjuncts equality → new ≡ conjuncts ++ equality ∷ [] → IsFrom firsts conjuncts →
    lacking new (candidates firsts) < lacking conjuncts (candidates firsts)
next_smaller firsts conjuncts new equality next put from =
    subst (λ cs. lacking cs (candidates firsts) < lacking conjuncts (candidates firsts)) (sym (put ∙ ap (λ e. conjuncts ++ e ∷ []) next.is))
    (step_of firsts conjuncts next.fix from next.next).less

pub next_from : (firsts conjuncts new : List Cond) (equality : Cond) → IsNext conjuncts equality → new ≡ conjuncts ++ equality ∷ [] → IsFrom firsts conjuncts → IsFrom firsts new
next_from firsts conjuncts new equality next put from =
    subst (IsFrom firsts) (sym (put ∙ ap (λ e. conjuncts ++ e ∷ []) next.is)) (step_of firsts conjuncts next.fix from next.next).from

pub next_hands : (firsts conjuncts new : List Cond) (equality : Cond) → IsNext conjuncts equality → new ≡ conjuncts ++ equality ∷ [] →
    ((whole : List Cond) → HandsOn conjuncts whole → HandsOn firsts whole) → (whole : List Cond) → HandsOn new whole → HandsOn firsts whole
next_hands firsts conjuncts new equality next put so_far whole rest =
    so_far whole (hands next.next (subst (λ cs. HandsOn cs whole) (put ∙ ap (λ e. conjuncts ++ e ∷ []) next.is) rest))

no_next : (conjuncts : List Cond) (o : Option Fix) → next_handed conjuncts ≡ o → None ≡ option_map fix_condition o → next_handed conjuncts ≡ None
no_next conjuncts None at is = at
no_next conjuncts (Some fix) at is = cc

pub ends_from : (firsts conjuncts seen : List Cond) (o : Option Cond) → seen ≡ conjuncts → o ≡ option_map fix_condition (next_handed seen) → o ≡ None →
    ((whole : List Cond) → HandsOn conjuncts whole → HandsOn firsts whole) → HandsOn firsts conjuncts
ends_from firsts conjuncts seen o same given is so_far =
    so_far conjuncts (ends (no_next conjuncts (next_handed conjuncts) refl (sym is ∙ given ∙ ap (λ cs. option_map fix_condition (next_handed cs)) same)))
