use Rattle.serve_loop.specs.Serving.{Makes, Breaks, MakesByRules, BreaksByRules}
use Rattle.serve_loop.proofs.Serving.{loop_lends, loops_seen}
use Rattle.serve_loop.proofs.served.ServedNode.run.Goals as goal

pub returns-clause-same_disk : goal.returns-clause-same_disk
returns-clause-same_disk g c = (loop_lends (λ s. record { disk = s.disk.ghost_name; engine = s.engine.ghost_name; faults = g.D.Disk.faults s.disk.now; kind = g.E.Engine.kind s.engine.now; refused = g.E.Engine.refused_openings s.engine.now })
    _ _ c.args.self.now c.core_loop.new.core _ _ _ _ _ _ c.core_loop.ensures.loops (λ a b event outs made. made.0) (λ a b event broken. broken.0)).disk

pub returns-clause-same_engine : goal.returns-clause-same_engine
returns-clause-same_engine g c = (loop_lends (λ s. record { disk = s.disk.ghost_name; engine = s.engine.ghost_name; faults = g.D.Disk.faults s.disk.now; kind = g.E.Engine.kind s.engine.now; refused = g.E.Engine.refused_openings s.engine.now })
    _ _ c.args.self.now c.core_loop.new.core _ _ _ _ _ _ c.core_loop.ensures.loops (λ a b event outs made. made.0) (λ a b event broken. broken.0)).engine

pub returns-clause-count : goal.returns-clause-count
returns-clause-count g c = (loop_lends (λ s. record { disk = s.disk.ghost_name; engine = s.engine.ghost_name; faults = g.D.Disk.faults s.disk.now; kind = g.E.Engine.kind s.engine.now; refused = g.E.Engine.refused_openings s.engine.now })
    _ _ c.args.self.now c.core_loop.new.core _ _ _ _ _ _ c.core_loop.ensures.loops (λ a b event outs made. made.0) (λ a b event broken. broken.0)).faults

pub returns-clause-engine : goal.returns-clause-engine
returns-clause-engine g c = (loop_lends (λ s. record { disk = s.disk.ghost_name; engine = s.engine.ghost_name; faults = g.D.Disk.faults s.disk.now; kind = g.E.Engine.kind s.engine.now; refused = g.E.Engine.refused_openings s.engine.now })
    _ _ c.args.self.now c.core_loop.new.core _ _ _ _ _ _ c.core_loop.ensures.loops (λ a b event outs made. made.0) (λ a b event broken. broken.0)).stays

pub returns-clause-runs : goal.returns-clause-runs
returns-clause-runs g c = record {
  last = c.core_loop.new.core.node.now;
  loops = loops_seen (λ s. record { node = s.node.now; disk = s.disk.now; engine = s.engine.now }) _ _
      (Makes g.D.Disk.tells g.D.Disk.states g.D.Disk.faults g.E.Engine.kind g.E.Engine.refused_openings) (Breaks g.D.Disk.faults g.E.Engine.kind g.E.Engine.refused_openings)
      c.args.self.now c.core_loop.new.core _ _ _ _ _ _ c.core_loop.ensures.loops
      (λ a b event outs made. (made.0.faults, made.0.stays, made.1.well)) (λ a b event broken. (broken.0.faults, broken.0.stays, broken.1.down));
}

pub returns-clause-by_rules : goal.returns-clause-by_rules
returns-clause-by_rules g c = record {
  last = c.core_loop.new.core.node.now;
  loops = loops_seen (λ s. record { node = s.node.now; disk = s.disk.now; engine = s.engine.now }) _ _
      (MakesByRules g.D.Disk.tells g.D.Disk.states g.D.Disk.faults g.E.Engine.meaning g.E.Engine.kind g.E.Engine.told g.E.Engine.refused_openings)
      (BreaksByRules g.D.Disk.tells g.D.Disk.states g.D.Disk.faults g.E.Engine.meaning g.E.Engine.kind g.E.Engine.refused_openings)
      c.args.self.now c.core_loop.new.core _ _ _ _ _ _ c.core_loop.ensures.loops
      (λ a b event outs made. (made.0.faults, made.0.stays, made.1)) (λ a b event broken. (broken.0.faults, broken.0.stays, broken.1));
}
