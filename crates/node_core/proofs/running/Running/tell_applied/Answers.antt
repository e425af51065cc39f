use Rattle.node_core.proofs.CoreEntries.{landed_core}
use Rattle.node_core.specs.declared.running.Running.{Running}
use Rattle.node_core.specs.declared.outs.StepOutputs.{StepOutputs}
use Rattle.std.proofs.Common.{ℕ, List, ◌++◌, refl, ap, ◌∙◌}
use Rattle.node_core.proofs.Going.{clients_moved}
use Rattle.node_core.proofs.Waiting.{landed_turns, sought_held}
use Rattle.node_core.proofs.running.Running.tell_applied.Goals as goal

pub returns-clause-going : goal.returns-clause-going
returns-clause-going c =
    clients_moved c.args.self.now _ c.requires.going c.on_applied.ensures.stands
    (landed_turns _ _ c.args.self.now.applied.index c.in_ok-told.ensures.landed (sought_held c.args.self.now.clients c.args.self.now.applied.machine) c.requires.going.holds.clients.sound c.requires.going.holds.turns) refl

pub returns-clause-exact : goal.returns-clause-exact
returns-clause-exact c =
    let old : Running = c.args.self.now in
    let new : Running = record old { clients = c.on_applied.new.self; applied = record old.applied { machine = c.on_applied.new.machine }; outs = c.tell_all.new.self } in
    landed_core old new c.in_ok-told.ensures.landed (c.in_ok-tell_all.ensures.said ∙ ap (λ (told : List (ℕ × List ℕ)). old.outs.replies.items ++ told) c.in_ok-told.ensures.told) (ap (λ (o : StepOutputs). o.closed.items) c.tell_all.ensures.rest) c.on_applied.ensures.files refl
