-- `first_record_fits` meets its contract: against the first row count; its changes start at 0.
use Rattle.record_damage.proofs.RecordLaws.{first-record}
use Rattle.record_damage.proofs.first_record_fits.Goals as goal

pub returns : goal.returns
returns c = search first-record
