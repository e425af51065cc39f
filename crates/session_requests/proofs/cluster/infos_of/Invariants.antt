use Rattle.std.proofs.Common.{◌≡◌, map, take}
use Rattle.session_spec.specs.Asking.{info_of}
use Rattle.session_requests.proofs.cluster.infos_of.Given as goal

abbrev pub invariant-loop-server : goal.invariant-loop-server
invariant-loop-server l = l.infos.items ≡ map (info_of l.roles) (take l.server-index l.servers)
