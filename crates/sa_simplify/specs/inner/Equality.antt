-- The two kinds of equality, as the code has them in hand.
use Rattle.std.specs.Borrow.{Bor}
use Rattle.sa_value.specs.declared.value.Value.{Value}
use Rattle.sa_simplify.specs.declared.equality.Place.{Place}
use Rattle.sa_simplify.specs.Propagate.{Join, Fix}

abbrev pub join_at : Place × Place → Join
join_at places = record { left = places.0; right = places.1 }

abbrev pub fix_at : Place × Bor Value → Fix
fix_at fix = record { place = fix.0; literal = fix.1.now }
