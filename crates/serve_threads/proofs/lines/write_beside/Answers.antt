use denote.Param.Send.{sendable}
use Rattle.serve_threads.proofs.Sending.{lines_send}
use Rattle.serve_threads.proofs.lines.write_beside.Goals as goal

pub spawn-requires-send-F : goal.spawn-requires-send-F
spawn-requires-send-F g c κs within =
    let b = c.type_bounds in
    let l = lines_send in
    search sendable depth 20
