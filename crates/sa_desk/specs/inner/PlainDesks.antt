-- What the fields of desks on one thread say of them.
use Rattle.std.specs.Prelude.{◌≡◌, ◌≤◌, [], length}
use Rattle.std.specs.Vec.{vec_capacity}
use Rattle.sa_desk.specs.declared.plain.PlainDesks.TheInside.{Inside}
use Rattle.sa_desk.specs.Plain.{Plain, IsPlain}

abbrev pub plain_of : Inside → Plain
plain_of desks = record { desks = desks.desks.items; made = desks.made.items }

-- They are as desks have to be, and a list for their journals is there.
pub record AreReady (desks : Inside) : Type 0 where
  pub plain : IsPlain (plain_of desks)
  pub unused : desks.journals.items ≡ []
  pub room : length desks.desks.items ≤ vec_capacity desks.journals
