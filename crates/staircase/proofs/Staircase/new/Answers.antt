use Rattle.staircase.proofs.Lawful.{lawful}
use Rattle.staircase.proofs.Staircase.new.Goals as goal

pub returns-clause-lawful : goal.returns-clause-lawful
returns-clause-lawful c = lawful _
