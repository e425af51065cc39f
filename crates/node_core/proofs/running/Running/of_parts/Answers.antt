use Rattle.std.proofs.Common.{refl, ap}
use Rattle.session_spec.specs.Sessions.{View}
use Rattle.node_core.proofs.running.Running.of_parts.Goals as goal

pub returns : goal.returns
returns c = record {
  started = record {
    replica_is = refl;
    members_are = refl;
    applied_is = refl;
    view_is = refl;
    clients = c.new.ensures.none c.args.applied.machine;
    stand = c.new.ensures.stand c.args.applied.machine c.requires.unpinned;
    machine = c.databases-databases.ensures.stand;
    agrees = c.new.ensures.agrees c.args.applied.machine c.databases-databases.ensures.stand;
    office = refl;
    idle = c.in_ok-due.ensures.items;
    heard = refl;
    quiet = record { mail = c.new-5.ensures; replies = c.new-4.ensures.replies; closed = c.new-4.ensures.closed; messages = c.new-4.ensures.messages; reads = c.new-4.ensures.reads };
  };
  links = ap (λ (v : View). v.links) c.view.view_is;
  peers = record { links = c.new-2.ensures; view = refl };
}
