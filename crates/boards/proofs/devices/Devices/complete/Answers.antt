use Rattle.std.proofs.Common.{refl}
use Rattle.boards.proofs.devices.Devices.complete.Goals as goal

pub returns-clause-is : goal.returns-clause-is
returns-clause-is g c = λ h l. c.change.ensures.is _ h refl l

pub returns-clause-steps : goal.returns-clause-steps
returns-clause-steps g c = λ h l. c.change.ensures.steps _ h refl l
