-- `create::create_in` meets its contract.
use Rattle.creating.proofs.CreateLaws.{create-no-room, create-refused, creatable, create-done}
use Rattle.creating.proofs.create.create_in.Goals as goal

pub returns-then-not-room : goal.returns-then-not-room
returns-then-not-room c = create-no-room _ _ _ _ _ _ _ _ _ _ c.room.ensures c.if-not-room.true

pub returns-then-column_refused : goal.returns-then-column_refused
returns-then-column_refused c =
    create-refused _ _ _ _ _ _ _ _ _ _ c.room.ensures c.if-not-room.false _ c.value_of-values.ensures _
    c.column_refused.ensures c.if-column_refused.true

pub create_work-requires : goal.create_work-requires
create_work-requires c =
    creatable _ _ _ _ _ _ _ _ _ _ c.room.ensures c.if-not-room.false _ c.value_of-values.ensures _
    c.column_refused.ensures c.if-column_refused.false

pub returns : goal.returns
returns c =
    create-done _ _ _ _ _ _ _ _ _ _ c.room.ensures c.if-not-room.false _ c.value_of-values.ensures _
    c.column_refused.ensures c.if-column_refused.false _ _ c.create_work.ensures
