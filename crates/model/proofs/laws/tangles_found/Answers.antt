use Rattle.model.proofs.Tangles.{tangled_decides}
use Rattle.model.proofs.laws.tangles_found.Goals as goal

pub returns : goal.returns
returns c = tangled_decides
