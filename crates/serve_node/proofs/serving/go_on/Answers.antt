use Rattle.std.proofs.Common.{◌≡◌, ◌+◌, inl, inr, refl, subst}
use Rattle.std.specs.Prelude.{None}
use Rattle.dq_base.proofs.FaultLaws.{Rose-earlier}
use Rattle.serve_loop.specs.Serving.{RunsByRules}
use Rattle.serve_node.proofs.Ends.{crew_ends, crew_no_files, crew_no_disk, crew_not_spent, crew_host, loop_no_files, loop_disk, loop_host, loop_spent, from_begun}
use Rattle.serve_node.proofs.serving.go_on.Goals as goal

pub returns-in-Err-clause-goes : goal.returns-in-Err-clause-goes
returns-in-Err-clause-goes g c = inl (record {
  stays = record { disk = refl; engine = refl; left = c.begin.ensures.left; taken = c.begin.ensures.events };
  end_is = crew_ends _ _ c.end_of_crew.ensures;
})

pub returns-in-Err-clause-others : goal.returns-in-Err-clause-others
returns-in-Err-clause-others g c = crew_no_files _ _ c.end_of_crew.ensures

pub returns-in-Err-clause-disk_fault : goal.returns-in-Err-clause-disk_fault
returns-in-Err-clause-disk_fault g c = λ e. crew_no_disk _ _ c.end_of_crew.ensures e

pub returns-in-Err-clause-host_fault : goal.returns-in-Err-clause-host_fault
returns-in-Err-clause-host_fault g c = λ e. c.in-Err.ensures.cause (crew_host _ _ c.end_of_crew.ensures e)

pub returns-in-Err-clause-spent : goal.returns-in-Err-clause-spent
returns-in-Err-clause-spent g c = λ e. crew_not_spent _ _ c.end_of_crew.ensures e

pub returns-in-Ok-clause-goes : goal.returns-in-Ok-clause-goes
returns-in-Ok-clause-goes g c = inr (record {
  begun = c.begin.new.host;
  has_begun = c.in-Ok.ensures.done;
  loop_end = c.step_on.result;
  end_is = c.end_of_loop.ensures;
  ran = from_begun (λ left count. RunsByRules g.D.Disk.tells g.D.Disk.states g.D.Disk.faults g.E.Engine.meaning g.E.Engine.kind g.E.Engine.told g.E.Engine.refused_openings c.args.node c.args.disk.now c.step_on.new.disk
      c.args.engine.now c.step_on.new.engine (record { left = left; count = count })
      (record { left = g.H.Inbox.left c.step_on.new.host; count = g.H.Inbox.taken c.step_on.new.host }) None None c.args.words.now.events c.step_on.result)
      _ _ _ _ c.begin.ensures.left c.begin.ensures.events c.step_on.ensures.runs;
})

pub returns-in-Ok-clause-others : goal.returns-in-Ok-clause-others
returns-in-Ok-clause-others g c = loop_no_files _ _ c.end_of_loop.ensures

pub returns-in-Ok-clause-disk_fault : goal.returns-in-Ok-clause-disk_fault
returns-in-Ok-clause-disk_fault g c = λ e. c.step_on.ensures.disk (loop_disk _ _ c.end_of_loop.ensures e)

pub returns-in-Ok-clause-host_fault : goal.returns-in-Ok-clause-host_fault
returns-in-Ok-clause-host_fault g c = λ e. Rose-earlier _ _ _ c.begin.ensures.faults (c.step_on.ensures.closed (loop_host _ _ c.end_of_loop.ensures e))

pub returns-in-Ok-clause-spent : goal.returns-in-Ok-clause-spent
returns-in-Ok-clause-spent g c = λ e. subst (λ n. g.H.Inbox.taken c.step_on.new.host ≡ n + c.args.words.now.events) c.begin.ensures.events
    (loop_spent _ _ _ _ _ _ _ _ _ _ _ _ _ _ _ _ _ c.step_on.ensures.runs c.end_of_loop.ensures e)
