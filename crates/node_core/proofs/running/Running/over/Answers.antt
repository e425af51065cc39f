use Rattle.std.proofs.Common.{◌≡◌, List, [], None, false, sym, ap, subst, ◌∙◌}
use Rattle.raft_spec.specs.Log.{LogEnd, log_end}
use Rattle.raft_spec.specs.Node.{Node, Server}
use Rattle.raft_membership.specs.Members.{read_setup}
use Rattle.store_laws.specs.Store.{Kept}
use Rattle.raft_on_disk.specs.Replicas.{ReplicaValue}
use Rattle.node_spec.specs.Steps.{CompletesStart}
use Rattle.node_core.specs.ExactStart.{AppliesExactly}
use Rattle.node_core.specs.Starting.{AppliesKept}
use Rattle.node_core.specs.Values.{seen}
use Rattle.node_core.proofs.StartedNodes.{Parts, started_begun, started_rests}
use Rattle.node_core.proofs.ExactStarts.{StartedSo, started_exactly}
use Rattle.node_core.proofs.running.Running.over.Goals as goal

parts : (c : goal.In_ok-of_parts) → Parts c.args.spec.servers c.current.result.now c.args.kept c.in_ok-replica.replica c.in_ok-members.members c.keep_whole.new.self c.starting_view-view.result
unfolding log_end
parts c = record {
  starts = c.requires.log;
  applies = subst (AppliesKept c.args.spec.servers c.args.kept.snap) (sym c.in_ok-keep_whole.ensures) (subst (λ (k : Kept). AppliesKept c.args.spec.servers k.snap c.in_ok-applied.applied) c.kept.view_is c.in_ok-applied.ensures.applies);
  whole = c.in_ok-replica.ensures.whole;
  raft = c.in_ok-replica.ensures.raft;
  short = c.in_ok-replica.ensures.short;
  keeps = c.in_ok-replica.ensures.kept;
  snap = c.in_ok-replica.ensures.snap;
  stand = c.in_ok-members.ensures.stand;
  at = c.in_ok-members.ensures.at;
  is = c.in_ok-members.ensures.is;
  current = c.current.ensures.value;
  serving = c.starting_view-view.ensures.serving;
  term = c.starting_view-view.ensures.term ∙ c.view.ensures.term;
  last = c.starting_view-view.ensures.last ∙ ap (λ (e : LogEnd). e.index) c.view.ensures.last;
  told = c.starting_view-view.ensures.servers ∙ c.in_ok-servers.ensures ∙ c.as_slice.ensures;
}

pub returns-clause-stands : goal.returns-clause-stands
returns-clause-stands c =
    let p = parts c in
    let h = c.in_ok-of_parts.ensures.started in
    let told : c.in_ok-of_parts.field-0.replica.raft.servers ≡ c.current.result.now = ap (λ (r : ReplicaValue). r.raft.servers) h.replica_is ∙ ap (λ (s : Node). s.servers) p.raft in
    subst (λ (servers : List Server). CompletesStart (read_setup c.args.spec.servers) c.args.kept (seen c.in_ok-of_parts.field-0) servers) (sym told)
    (c.starts_stand.ensures c.args.spec.servers c.current.result.now c.args.kept (seen c.in_ok-of_parts.field-0) c.keep_whole.new.self
    (started_begun c.args.spec.servers c.current.result.now c.args.kept c.in_ok-replica.replica c.in_ok-members.members c.keep_whole.new.self c.starting_view-view.result c.in_ok-of_parts.field-0 p h))

pub returns-clause-rests : goal.returns-clause-rests
returns-clause-rests c = started_rests c.args.spec.servers c.current.result.now c.args.kept c.in_ok-replica.replica c.in_ok-members.members c.keep_whole.new.self c.starting_view-view.result c.in_ok-of_parts.field-0 (parts c) c.in_ok-of_parts.ensures.started

started_so : (c : goal.In_ok-of_parts) → StartedSo c.args.spec.id c.args.spec.links c.args.spec.readers c.args.spec.servers c.current.result.now c.args.kept c.in_ok-replica.replica c.in_ok-members.members c.keep_whole.new.self c.starting_view-view.result
unfolding log_end
started_so c = record {
  id = c.in_ok-replica.ensures.id;
  raft = c.in_ok-replica.ensures.raft;
  snap = c.in_ok-replica.ensures.snap;
  index = (parts c).applies.index;
  applies = subst (AppliesExactly c.args.spec.servers c.args.kept.snap) (sym c.in_ok-keep_whole.ensures) (subst (λ (k : Kept). AppliesExactly c.args.spec.servers k.snap c.in_ok-applied.applied) c.kept.view_is c.in_ok-applied.ensures.exact);
  members_are = c.in_ok-members.ensures.exact;
  current = c.current.ensures.value;
  view_is =
      c.starting_view-view.ensures.exact
      ∙ (λ i. record {
        id = c.args.spec.id;
        leader = None;
        serving = false;
        term = c.view.ensures.term i;
        last = ap (λ (e : LogEnd). e.index) c.view.ensures.last i;
        servers = (c.in_ok-servers.ensures ∙ c.as_slice.ensures) i;
        links = c.args.spec.links;
        readers = c.args.spec.readers;
        even = [];
        near = [];
      });
}

pub returns-clause-exact : goal.returns-clause-exact
returns-clause-exact c =
    started_exactly c.args.spec.id c.args.spec.links c.args.spec.readers c.args.spec.servers c.current.result.now c.args.kept c.in_ok-replica.replica c.in_ok-members.members c.keep_whole.new.self c.starting_view-view.result c.in_ok-of_parts.field-0
    (started_so c) c.in_ok-of_parts.ensures.started c.in_ok-of_parts.ensures.peers.links
