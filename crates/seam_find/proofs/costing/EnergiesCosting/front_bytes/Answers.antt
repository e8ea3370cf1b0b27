-- `<Energies as Costing>::front_bytes` meets its contract.
use Rattle.seam_find.proofs.Plain.{plain_laws}
use Rattle.seam_find.proofs.costing.EnergiesCosting.front_bytes.Goals as goal

pub returns-clause-laws : goal.returns-clause-laws
returns-clause-laws c = plain_laws
