-- `digits::put_bytes` meets its contract.
use Rattle.writing.proofs.WroteLaws.{wrote-part}
use Rattle.writing.proofs.digits.put_bytes.Goals as goal

pub returns : goal.returns
returns c = wrote-part _ _ _ _ c.requires c.copy_from_slice.ensures.after
