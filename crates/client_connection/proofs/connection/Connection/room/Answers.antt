use Rattle.std.proofs.Common.{◌≡◌, ap, arith}
use Rattle.client_connection.specs.Connection.{Conn, version_room}
use Rattle.client_connection.proofs.Counting.{room_is, version_room_is}
use Rattle.client_connection.proofs.connection.Connection.room.Goals as goal

pub returns : goal.returns
returns c =
    let is = room_is c.args.self.now in
    let room = version_room_is c.self.inside.splitter.end c.self.inside.is_begun c.self.invariant.begins in
    let same : version_room c.self.inside.splitter.end ≡ version_room c.args.self.now.end = ap (λ (x : Conn). version_room x.end) c.self.view_is in
    omega (arith, is, room, same, c.version_room.ensures, c.held.ensures.held)
