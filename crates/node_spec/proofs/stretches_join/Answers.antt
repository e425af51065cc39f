use Rattle.node_spec.proofs.Stretches.{goes_on_holds, nothing_goes_holds, goes_begins_holds, begins_on_holds, sent_on_holds}
use Rattle.node_spec.proofs.stretches_join.Goals as goal

pub returns-clause-on : goal.returns-clause-on
returns-clause-on g c = λ kind. goes_on_holds (g.E.Engine.meaning kind) kind

pub returns-clause-nothing : goal.returns-clause-nothing
returns-clause-nothing g c = λ kind. nothing_goes_holds (g.E.Engine.meaning kind) kind

pub returns-clause-begins : goal.returns-clause-begins
returns-clause-begins g c = λ kind. goes_begins_holds (g.E.Engine.meaning kind) kind

pub returns-clause-further : goal.returns-clause-further
returns-clause-further g c = λ kind. begins_on_holds (g.E.Engine.meaning kind) kind

pub returns-clause-sent : goal.returns-clause-sent
returns-clause-sent g c = sent_on_holds
