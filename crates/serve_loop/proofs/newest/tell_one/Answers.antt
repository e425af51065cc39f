use Rattle.std.proofs.Common.{sym, subst}
use Rattle.dq_base.specs.declared.images.Image.{Image}
use Rattle.node_core.specs.Values.{databases_of}
use Rattle.serve_loop.specs.Telling.{IsNewest}
use Rattle.serve_loop.proofs.Resting.{may_tell, agrees_told}
use Rattle.serve_loop.proofs.newest.tell_one.Goals as goal

pub ready-requires : goal.ready-requires
ready-requires g c = record {
  number = may_tell (g.E.Engine.known c.args.engine.now) _ _ (databases_of c.args.node.now) c.machine.result.now c.args.name.now c.in-Some.newest.number
      c.deref.result.now c.requires c.machine.ensures
      (subst (λ (image : Image). IsNewest c.args.name.now c.machine.result.now c.in-Some.newest.number image) (sym c.deref.ensures) c.in-Some.ensures);
}

pub returns-in-Some-clause-agrees : goal.returns-in-Some-clause-agrees
returns-in-Some-clause-agrees g c =
    agrees_told (g.E.Engine.known c.args.engine.now) _ _ (databases_of c.args.node.now) c.machine.result.now c.args.name.now c.in-Some.newest.number
    c.deref.result.now c.requires c.machine.ensures
    (subst (λ (image : Image). IsNewest c.args.name.now c.machine.result.now c.in-Some.newest.number image) (sym c.deref.ensures) c.in-Some.ensures)
    (g.E.Engine.known c.ready.new.self) c.ready.ensures.known
