-- Which key an access reads by, and its kind.
use Rattle.std.specs.Prelude.{ℕ, Option, Some, None}
use Rattle.sa_plan.specs.declared.access.Access.{Access}
use Rattle.sa_plan.specs.declared.access.Access.TheVariants.{All, Index, Range, Ref, EqRef, Const}
use Rattle.sa_plan.specs.declared.access.AccessKind.{AccessKind}
use Rattle.sa_plan.specs.declared.access.AccessKind.TheVariants as kinds

-- the number of the key, where the access reads by one
abbrev pub key_of : Access → Option ℕ
key_of All = None
key_of (Index key) = Some key
key_of (Range key list) = Some key
key_of (Ref key from) = Some key
key_of (EqRef key from) = Some key
key_of (Const key from) = Some key

abbrev pub kind_of : Access → AccessKind
kind_of All = kinds.All
kind_of (Index key) = kinds.Index
kind_of (Range key list) = kinds.Range
kind_of (Ref key from) = kinds.Ref
kind_of (EqRef key from) = kinds.EqRef
kind_of (Const key from) = kinds.Const
