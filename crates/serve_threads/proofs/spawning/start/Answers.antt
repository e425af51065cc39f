use denote.Param.Send.{sendable}
use Rattle.serve_threads.proofs.Sending.{worker_send}
use Rattle.serve_threads.proofs.spawning.start.Goals as goal

pub spawn-requires-send-F : goal.spawn-requires-send-F
spawn-requires-send-F g c κs within =
    let b = c.type_bounds in
    let w = worker_send _ _ _ _ _ _ b.send-R b.send-D b.send-Q b.send-D-Connection b.send-Q-Job b.send-Q-Told in
    search sendable depth 20
