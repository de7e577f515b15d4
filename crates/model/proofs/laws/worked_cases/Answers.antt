use Rattle.model.proofs.Examples.{yard_sheet_told, longer_worked}
use Rattle.model.proofs.laws.worked_cases.Goals as goal

pub returns : goal.returns
returns c = record { rules = c.worked_rules.ensures; yard_sheet = yard_sheet_told; longer = longer_worked }
