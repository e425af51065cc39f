use Rattle.serve_threads.proofs.spawning.fn.start.spawn+FnOnce.call_once.Goals as goal

pub spawn-requires : goal.spawn-requires
spawn-requires g c =
    let lasting = c.requires.1.1.1.1.1.1 in
    let sent = lasting.1.1.1.1.1.1 in (sent.0, (sent.1, (sent.2, (sent.3, (sent.4, (sent.5, (lasting.0, (lasting.1.0, lasting.1.1.0))))))))
