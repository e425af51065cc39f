use Rattle.node_core.proofs.CoreMoves.{heard_closes, none_heard}
use Rattle.node_core.specs.declared.outs.StepOutputs.{StepOutputs}
use Rattle.std.proofs.Common.{ap, refl, ◌++◌, ◌∙◌}
use Rattle.node_core.specs.Carrying.{close_of}
use Rattle.node_core.proofs.Carried.{looks_moves, no_moves}
use Rattle.node_core.proofs.ConnStreams.{closes_heard, conns_same}
use Rattle.node_core.proofs.running.Running.close_heard.Goals as goal

pub returns-clause-conns : goal.returns-clause-conns
returns-clause-conns c =
    closes_heard c.args.self.now c.closing-reason.new.self (record c.closing-reason.new.self { outs = c.close.new.self }) c.in-Some.conn c.closing-reason.result c.in-Some.is c.closing-reason.ensures.conns
    refl refl refl c.closing-reason.ensures.heard c.in_ok-close.ensures.said

pub returns-clause-moves : goal.returns-clause-moves
returns-clause-moves c =
    looks_moves c.args.self.now c.closing-reason.new.self (record c.closing-reason.new.self { outs = c.close.new.self }) c.in-Some.conn c.closing-reason.result c.in-Some.is
    c.closing-reason.ensures.conns.why c.closing-reason.ensures.conns.lines refl (c.in_ok-close.ensures.said ∙ ap (λ l. l ++ close_of c.in-Some.conn c.closing-reason.result) c.closing-reason.ensures.conns.closed)

pub returns-in_default-clause-moves : goal.returns-in_default-clause-moves
returns-in_default-clause-moves c = no_moves c.args.self.now

pub returns-in_default-clause-conns : goal.returns-in_default-clause-conns
returns-in_default-clause-conns c = conns_same c.args.self.now

pub returns-clause-exact : goal.returns-clause-exact
returns-clause-exact c =
    heard_closes c.args.self.now c.closing-reason.new.self (record c.closing-reason.new.self { outs = c.close.new.self }) c.in-Some.conn c.closing-reason.result c.in-Some.is c.closing-reason.ensures.exact
    c.in_ok-close.ensures.said (ap (λ (o : StepOutputs). o.replies.items) c.close.ensures.rest) refl

pub returns-in_default-clause-exact : goal.returns-in_default-clause-exact
returns-in_default-clause-exact c = none_heard c.args.self.now c.in_default.is
