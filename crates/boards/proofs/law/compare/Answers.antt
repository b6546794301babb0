use Rattle.history.proofs.Boards.{two_boards}
use Rattle.boards.proofs.law.compare.Goals as goal

pub returns-clause-law : goal.returns-clause-law
returns-clause-law g c =
    two_boards _ _ _ _ _ _ _ _ (c.run.ensures.led _ c.assemble-old.ensures.led).stood.after (c.run-2.ensures.led _ c.assemble-new.ensures.led).stood.after

pub returns-clause-old_ran : goal.returns-clause-old_ran
returns-clause-old_ran g c = record {
  start = c.assemble-old.result;
  assembled = c.assemble-old.ensures;
  devices = c.run.ensures.devices;
  ran = c.run.ensures.ran _ c.assemble-old.ensures.led;
}

pub returns-clause-new_ran : goal.returns-clause-new_ran
returns-clause-new_ran g c = record {
  start = c.assemble-new.result;
  assembled = c.assemble-new.ensures;
  devices = c.run-2.ensures.devices;
  ran = c.run-2.ensures.ran _ c.assemble-new.ensures.led;
}
