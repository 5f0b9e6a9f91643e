use Rattle.sa_desk.specs.Legal.{given_of, journal_at}
use Rattle.sa_desk.specs.program.SoFar.{terms_of}
use Rattle.sa_desk.proofs.laws.Killed.{ends_as_killed}
use Rattle.sa_legal.proofs.law.interrupted_is_killed.Goals as goal

pub returns : goal.returns
returns g c sessions journals legal desk least most before rest entry parts number steps outcome is =
    ends_as_killed (terms_of (given_of sessions desk) desk) (journal_at journals desk) before rest entry number steps outcome (legal.desks desk least most) parts is
