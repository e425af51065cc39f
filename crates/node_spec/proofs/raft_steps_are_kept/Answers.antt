use Rattle.node_spec.proofs.RaftGoes.{all_is_kept_holds, proposals_taken_hold}
use Rattle.node_spec.proofs.RaftSnapshots.{resting_servers_hold}
use Rattle.node_spec.proofs.RaftStops.{stop_leaves_holds}
use Rattle.node_spec.proofs.raft_steps_are_kept.Goals as goal

pub returns-clause-kept : goal.returns-clause-kept
returns-clause-kept c = all_is_kept_holds

pub returns-clause-servers : goal.returns-clause-servers
returns-clause-servers c = resting_servers_hold

pub returns-clause-proposals : goal.returns-clause-proposals
returns-clause-proposals c = proposals_taken_hold

pub returns-clause-stops : goal.returns-clause-stops
returns-clause-stops c = stop_leaves_holds c.snapshots_read_back.ensures.read
