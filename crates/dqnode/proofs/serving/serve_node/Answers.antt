use Rattle.std.proofs.Common.{None, ap, subst}
use Rattle.sql_engine.specs.declared.kind.EngineKind.{EngineKind}
use Rattle.sqlite_engine.specs.Any.{any_meaning}
use Rattle.serve_node.specs.Rules.{IsRunOfRules}
use Rattle.dqnode.specs.Status.{status_code}
use Rattle.dqnode.proofs.ServeEnds.{serve_code, end_disk, end_host, end_spent, well_code}
use Rattle.dqnode.proofs.serving.serve_node.Goals as goal

pub returns-clause-served : goal.returns-clause-served
returns-clause-served g c = record {
  engine = c.engine_of-engine.result;
  engine_after = c.serve.new.engine;
  kind_is = c.engine_of-engine.ensures.kind;
  is_new = c.engine_of-engine.ensures.is_new;
  end = c.serve.result;
  code_is = ap status_code c.status_of.ensures;
  serves = c.serve.ensures.serves;
  by_rules = subst (λ (k : EngineKind). IsRunOfRules (any_meaning k) k None c.args.words g.D.Disk.tells (g.D.Disk.states c.args.disk.now) (g.D.Disk.states c.serve.new.disk)
      (record { left = g.H.Inbox.left c.args.host.now; count = g.H.Inbox.taken c.args.host.now }) (record { left = g.H.Inbox.left c.serve.new.host; count = g.H.Inbox.taken c.serve.new.host }) c.serve.result)
      c.engine_of-engine.ensures.kind c.serve.ensures.by_rules;
}

pub returns-clause-codes : goal.returns-clause-codes
returns-clause-codes g c = serve_code _ _ c.status_of.ensures

pub returns-clause-disk_fault : goal.returns-clause-disk_fault
returns-clause-disk_fault g c = λ e. c.serve.ensures.disk_fault (end_disk _ _ c.status_of.ensures e)

pub returns-clause-host_fault : goal.returns-clause-host_fault
returns-clause-host_fault g c = λ e. c.serve.ensures.host_fault (end_host _ _ c.status_of.ensures e)

pub returns-clause-spent : goal.returns-clause-spent
returns-clause-spent g c = λ e. c.serve.ensures.spent (end_spent _ _ c.status_of.ensures e)

pub returns-clause-ends_well : goal.returns-clause-ends_well
returns-clause-ends_well g c = λ well. well_code _ _ c.status_of.ensures (c.serve.ensures.ends_well well)
