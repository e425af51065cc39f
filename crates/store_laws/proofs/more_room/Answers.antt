use Rattle.store_laws.proofs.more_room.Goals as goal
use Rattle.store_laws.proofs.Rooms.{more_room_holds}

pub returns : goal.returns
returns c = more_room_holds
