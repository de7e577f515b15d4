use Rattle.model.proofs.Examples.{hypotheses_met, yard_sheet_worked}
use Rattle.model.proofs.laws.examples.Goals as goal

pub returns : goal.returns
returns c = record { met = hypotheses_met; worked = yard_sheet_worked }
