use Rattle.model.proofs.Stands.{lawful_by_deduct, minutes_toll}
use Rattle.model.proofs.laws.as_published.Goals as goal

pub returns : goal.returns
returns c = record { lateness = lawful_by_deduct; toll = minutes_toll }
