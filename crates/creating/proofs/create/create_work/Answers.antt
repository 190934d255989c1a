-- `create::create_work` meets its contract.
use Rattle.creating.proofs.CreateLaws.{front_length, front-needs, create-made}
use Rattle.creating.proofs.create.create_work.Goals as goal

pub slice_bounds-write_columns-end-2 : goal.slice_bounds-write_columns-end-2
slice_bounds-write_columns-end-2 c = search front_length

pub write_columns-requires : goal.write_columns-requires
write_columns-requires c = search front-needs

pub returns : goal.returns
returns c = search create-made
