-- `tidy::tidy_work` meets its contract.
use native.Mathlib.Omega.{arith}
use Rattle.tidying.proofs.TidyLaws.{version-fillable, moved-puttable, tidy-writes, tidy-done}
use Rattle.tidying.proofs.tidy.tidy_work.Goals as goal

pub write_version-requires : goal.write_version-requires
write_version-requires c = search version-fillable

pub write_moved-requires : goal.write_moved-requires
write_moved-requires c = (search moved-puttable, omega arith)

pub write_tidy-requires : goal.write_tidy-requires
write_tidy-requires c = tidy-writes _ _ _ _ _ _ _ _ _ c.requires _ c.planned-plan.ensures

pub returns : goal.returns
returns c =
    tidy-done _ _ _ _ _ _ _ _ _ c.requires _ c.planned-plan.ensures _ _ _ _ _ _ _ c.write_tidy.result c.write_version.ensures
    c.write_moved.ensures c.write_tidy.ensures
