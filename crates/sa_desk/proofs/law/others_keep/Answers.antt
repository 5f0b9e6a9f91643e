use Rattle.sa_desk.proofs.laws.Others.{others_leave}
use Rattle.sa_desk.proofs.law.others_keep.Goals as goal

pub returns : goal.returns
returns c before later desk other entries left call session at apart was is =
    others_leave before later desk session other at entries left call apart was is
