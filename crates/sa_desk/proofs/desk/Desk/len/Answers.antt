use Rattle.std.proofs.Common.{◌<◌, ◌^◌, subst, arith, rules}
use Rattle.sa_desk.specs.Contents.{IsSound}
use Rattle.sa_desk.specs.inner.Desk.{contents_of}
use Rattle.sa_desk.proofs.Capacity.{sound_fits}
use Rattle.sa_desk.proofs.desk.Desk.len.Goals as goal

pub overflow_cast-result : goal.overflow_cast-result
overflow_cast-result c =
    let fits = sound_fits (contents_of c.self.inside) c.self.invariant.sound in
    let below : c.len.result < 2 ^ 32 = omega (arith, fits, c.len.ensures, c.self.inside.journal.ok.0, c.self.invariant.sound.few) in
    search rules

pub returns-clause-sound : goal.returns-clause-sound
returns-clause-sound c = subst IsSound c.self.view_is c.self.invariant.sound
