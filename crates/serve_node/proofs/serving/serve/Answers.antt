use Rattle.std.proofs.Common.{inl, inr, refl}
use Rattle.serve_node.proofs.Ruled.{is_run, no_start, serves_well}
use Rattle.serve_node.proofs.serving.serve.Goals as goal

pub returns-in-Ok-clause-serves : goal.returns-in-Ok-clause-serves
returns-in-Ok-clause-serves g c = inr c.serve_with.ensures.served

pub returns-in-Ok-clause-by_rules : goal.returns-in-Ok-clause-by_rules
returns-in-Ok-clause-by_rules g c = is_run g.D.Disk.tells g.D.Disk.states g.D.Disk.faults g.E.Engine.meaning g.E.Engine.kind g.E.Engine.told g.E.Engine.refused_openings _ _ _ _ _ _ c.serve_with.ensures.served

pub returns-in-Err-clause-serves : goal.returns-in-Err-clause-serves
returns-in-Err-clause-serves g c = inl (record { stays = record { disk = refl; engine = refl; left = refl; taken = refl }; end_is = refl })

pub returns-in-Err-clause-by_rules : goal.returns-in-Err-clause-by_rules
returns-in-Err-clause-by_rules g c = no_start _ _ _ _ _ _ _ _ _ _ refl refl (inr (inr refl))

pub returns-in-Ok-clause-ends_well : goal.returns-in-Ok-clause-ends_well
returns-in-Ok-clause-ends_well g c = λ well. serves_well _ _ _ _ _ _ _ _ _ _ _ _ c.serve_with.ensures.served c.serve_with.ensures.disk_fault c.serve_with.ensures.host_fault well

pub returns-in-Err-clause-ends_well : goal.returns-in-Err-clause-ends_well
returns-in-Err-clause-ends_well g c = λ well. inr (inl refl)
