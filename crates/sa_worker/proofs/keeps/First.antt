-- Before its first turn a worker knows what it has to, where its shares are enough.
use Rattle.std.proofs.Common.{◌≡◌, ◌+◌, ◌-◌, ◌*◌, ◌<◌, length, sym, subst, ap, arith}
use Rattle.std.specs.Prelude.{None, IfSome}
use Rattle.sa_desk.specs.World.{World, IsFirst, standing_on}
use Rattle.sa_desk.specs.Charge.{charge}
use Rattle.sa_desk.specs.Own.{free, own_from, request_from}
use Rattle.sa_desk.specs.program.Course.{Given}
use Rattle.sa_worker.specs.View.{first_view, aimed}
use Rattle.sa_worker.specs.Holds.{IsGiven}
use Rattle.sa_worker.specs.Keeps.{IsSession, Suits, Keeps}

pub Keeps-first : (world : World) (given : Given) → IsGiven given → IsFirst world → Suits world given → Keeps world (first_view given)
Keeps-first world given is first suits =
    let session = given.session in
    let own : IsSession given session = record { least = is.least_session; most = is.most_session } in
    record {
      session = own;
      aimed = own;
      terms = suits.terms;
      shares = suits.shares;
      begin = 0;
      outline_is = ap (λ mine. own_from free (standing_on session mine)) (first.mine session);
      requests = λ desk there. ap (λ mine. request_from None (standing_on desk mine)) (first.mine session);
      room = λ desk there.
          let count = length given.texts in
          let paid = ap (λ mine. charge session (standing_on desk mine)) (first.mine session) in
          let same : aimed session desk (2 * (count + 1 - 1) + 1) ≡ aimed session desk (2 * count + 1) = ap (aimed session desk) (omega arith) in
          let enough = suits.room desk there in omega (arith, paid, same, enough);
      waiting = λ desk there. subst (λ quiet. IfSome quiet.wait (λ wait. wait.statement < 1)) (sym (first.quiet session desk)) tt;
      holds = record { given = is; first = omega arith; limit = (omega arith, omega arith); answer = tt; holds = (omega arith, omega arith) };
      knows = tt;
    }
