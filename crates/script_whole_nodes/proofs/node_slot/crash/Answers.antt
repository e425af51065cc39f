use Rattle.std.proofs.Common.{None, refl}
use Rattle.script_whole_nodes.proofs.Turning.{crash_leads}
use Rattle.script_whole_nodes.proofs.node_slot.crash.Goals as goal

pub returns-clause-leads : goal.returns-clause-leads
returns-clause-leads c =
    crash_leads c.args.seat.now
    (record { alloc = c.args.seat.now.alloc; kind = c.args.seat.now.kind; disk = c.crash.new.self; node = None; engine = c.args.seat.now.engine; has_failed = c.args.seat.now.has_failed })
    c.args.pick c.crash.result c.requires.up refl c.crash.ensures.told
