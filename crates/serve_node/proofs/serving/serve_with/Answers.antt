use Rattle.std.proofs.Common.{Ok, Err, refl, ap}
use Rattle.dq_base.proofs.FaultLaws.{Rose-earlier}
use Rattle.serve_node.proofs.Ends.{start_no_host, start_not_spent, start_disk}
use Rattle.serve_node.proofs.serving.serve_with.Goals as goal

pub returns-in-Ok-clause-served : goal.returns-in-Ok-clause-served
returns-in-Ok-clause-served g c = record {
  answer = Ok c.in-Ok.node;
  disk = c.start.new.disk;
  starts = c.in-Ok.ensures.starts;
  is_node = c.in-Ok.ensures.is_node;
  follows = (c.go_on.ensures.others, c.go_on.ensures.goes);
}

pub returns-in-Ok-clause-disk_fault : goal.returns-in-Ok-clause-disk_fault
returns-in-Ok-clause-disk_fault g c = λ e. Rose-earlier _ _ _ c.in-Ok.ensures.cause.never_falls (c.go_on.ensures.disk_fault e)

pub returns-in-Err-clause-served : goal.returns-in-Err-clause-served
returns-in-Err-clause-served g c = record {
  answer = Err c.in-Err.fault;
  disk = c.start.new.disk;
  starts = c.in-Err.ensures.starts;
  is_node = tt;
  follows = (record { disk = refl; engine = refl; left = refl; taken = refl }, c.end_of_start.ensures);
}

pub returns-in-Err-clause-disk_fault : goal.returns-in-Err-clause-disk_fault
returns-in-Err-clause-disk_fault g c = λ e. c.in-Err.ensures.cause.failed (ap Err (start_disk _ _ c.end_of_start.ensures e))

pub returns-in-Err-clause-host_fault : goal.returns-in-Err-clause-host_fault
returns-in-Err-clause-host_fault g c = λ e. start_no_host _ _ c.end_of_start.ensures e

pub returns-in-Err-clause-spent : goal.returns-in-Err-clause-spent
returns-in-Err-clause-spent g c = λ e. start_not_spent _ _ c.end_of_start.ensures e
