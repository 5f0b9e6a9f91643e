-- What a member adds to the AND or the OR that it stands in.
use Rattle.std.specs.Prelude.{◌≡◌, Bool, false, List, [], ◌++◌, if◌then◌else◌}
use Rattle.sa_cond.specs.declared.cond.Cond.{Cond}
use Rattle.sa_simplify.specs.Flatten.{is_true, is_false, conjuncts_of, disjuncts_of}

-- its members where it is an AND, nothing where it is TRUE, else itself
abbrev pub added_conjuncts : Cond → List Cond
added_conjuncts member = if is_true member then [] else conjuncts_of member

-- its members where it is an OR, nothing where it is FALSE, else itself
abbrev pub added_disjuncts : Cond → List Cond
added_disjuncts member = if is_false member then [] else disjuncts_of member

-- A member either decides, or was added at the end.
pub record Adds (is_deciding : Bool) (added old new : List Cond) (decides : Bool) : Type 0 where
  pub decided : decides ≡ is_deciding
  pub put : decides ≡ false → new ≡ old ++ added
