use denote.Param.Send.{sendable}
use denote.Param.SendFields.{declared_send}
use Rattle.sa_run.specs.contracts.member.Member as member
use Rattle.sa_run.proofs.crossing.members_send.Goals as goal

pub returns : goal.returns
returns c = declared_send member.the_type (search sendable, (c.requires.pass, (c.requires.statements, (search sendable, tt))))
