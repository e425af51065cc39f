use Rattle.std.proofs.Common.{refl, ◌∙◌}
use Rattle.script_whole_nodes.proofs.Turning.{node_started, starts_by}
use Rattle.script_whole_nodes.proofs.happening.start_node.Goals as goal

pub seat_node-requires-clause-links : goal.seat_node-requires-clause-links
seat_node-requires-clause-links c = c.in-Ok.ensures.links ∙ c.in_ok-spec.ensures.links

pub returns-in-Ok-clause-starts : goal.returns-in-Ok-clause-starts
returns-in-Ok-clause-starts c =
    starts_by c.args.node c.args.voters c.args.seat.now
    (record { alloc = c.args.seat.now.alloc; kind = c.args.seat.now.kind; disk = c.start.new.disk; node = c.args.seat.now.node; engine = c.args.seat.now.engine; has_failed = c.args.seat.now.has_failed })
    c.seat_node.new.seat c.in-Ok.node c.seat_node.result refl
    (node_started c.args.node c.args.voters c.args.seat.now.disk.contents c.take_aim.new.disk.contents c.start.new.disk.contents c.in-Ok.node c.in_ok-spec.spec.servers c.in-Ok.ensures.stands c.in_ok-spec.ensures.servers
    (c.in-Ok.ensures.id ∙ c.in_ok-spec.ensures.id) (c.in-Ok.ensures.links ∙ c.in_ok-spec.ensures.links) _ _ _ c.in-Ok.ensures.exact c.in_ok-spec.ensures.id c.in_ok-spec.ensures.links c.in_ok-spec.ensures.readers
    c.in-Ok.ensures.files c.in-Ok.ensures.sound c.in-Ok.ensures.up c.take_aim.ensures c.in-Ok.ensures.starts)
    c.seat_node.ensures.seated
