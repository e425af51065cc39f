use Rattle.std.proofs.Common.{List, ℕ, ◌++◌, ap, ◌∙◌}
use Rattle.node_core.specs.declared.outs.StepOutputs.{StepOutputs}
use Rattle.node_core.proofs.RaftExactly.{losing_is}
use Rattle.client_sessions.specs.Seen.{clients_of}
use Rattle.node_core.proofs.Waiting.{lost_turns, sought_held}
use Rattle.node_core.proofs.running.Running.lose.Goals as goal

pub returns-clause-anew : goal.returns-clause-anew
returns-clause-anew c = λ databases is. c.have_ended.ensures.agree c.on_lost.new.machine databases c.in_ok-told.ensures.ended is

pub returns-clause-turns : goal.returns-clause-turns
returns-clause-turns c = lost_turns (clients_of c.args.self.now.clients c.args.self.now.applied.machine) (clients_of c.on_lost.new.self c.on_lost.new.machine) c.in_ok-told.ensures.lost
    (sought_held c.args.self.now.clients c.args.self.now.applied.machine) c.requires.stand.sound c.requires.turns

pub returns-clause-exact : goal.returns-clause-exact
returns-clause-exact c =
    losing_is c.args.self.now c.on_lost.new.self c.on_lost.new.machine c.tell_all.new.self c.in_ok-told.ensures.lost c.on_lost.ensures.files
    (c.in_ok-tell_all.ensures.said ∙ ap (λ (told : List (ℕ × List ℕ)). c.args.self.now.outs.replies.items ++ told) c.in_ok-told.ensures.told) (ap (λ (outs : StepOutputs). outs.closed.items) c.tell_all.ensures.rest)
