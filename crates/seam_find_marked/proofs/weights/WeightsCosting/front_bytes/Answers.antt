-- `<Weights as Costing>::front_bytes` meets its contract.
use Rattle.seam_find_marked.proofs.Laws.{weights-laws}
use Rattle.seam_find_marked.proofs.weights.WeightsCosting.front_bytes.Goals as goal

pub returns-clause-laws : goal.returns-clause-laws
returns-clause-laws c = weights-laws
