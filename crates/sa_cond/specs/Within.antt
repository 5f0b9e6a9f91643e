-- When a value is NULL or a number of an interval.
use Rattle.std.specs.Prelude.{ℤ, ◌≤ℤ◌, ⊤}
use Rattle.sa_value.specs.declared.value.Value.{Value}
use Rattle.sa_value.specs.declared.value.Value.TheVariants.{Null, Int, Big, Text}
use Rattle.sa_cond.specs.Interval.{Interval}

-- A number is in an interval.
pub record IsIn (interval : Interval) (number : ℤ) : Type 0 where
  pub from : interval.least ≤ℤ number
  pub to : number ≤ℤ interval.greatest

-- A value is NULL or a number of an interval.
abbrev pub IsNullOrIn : Interval → Value → Type 0
IsNullOrIn interval Null = ⊤
IsNullOrIn interval (Int number) = IsIn interval number
IsNullOrIn interval (Big number) = IsIn interval number
IsNullOrIn interval (Text text) = ⊥
