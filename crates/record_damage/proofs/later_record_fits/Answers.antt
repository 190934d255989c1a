-- `later_record_fits` meets its contract: the record before lies one cell before.
use Rattle.record_damage.proofs.RecordLaws.{later-record}
use Rattle.record_damage.proofs.later_record_fits.Goals as goal

pub returns : goal.returns
returns c = search later-record
