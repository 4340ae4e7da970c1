use Rattle.rle_records.proofs.Facts.Records.{room_short, room_enough}
use Rattle.rle_records.proofs.inner.room_for.Goals as goal

pub returns-then-room-count : goal.returns-then-room-count
returns-then-room-count c = search room_short

pub returns : goal.returns
returns c = search room_enough
