-- `tidy::write_counts` meets its contract.
use Rattle.tables.specs.Stores.{put_moment, put_slots_used, put_changes_used}
use Rattle.tidying.proofs.tidy.write_counts.Goals as goal

pub returns : goal.returns
unfolding put_moment put_slots_used put_changes_used
returns c = cc
