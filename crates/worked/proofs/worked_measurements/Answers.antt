use Rattle.std.proofs.Common.{refl}
use Rattle.worked.proofs.Rows.{table-correct}
use Rattle.worked.proofs.worked_measurements.Goals as goal

pub returns : goal.returns
returns c = record { count = refl; correct = table-correct }
