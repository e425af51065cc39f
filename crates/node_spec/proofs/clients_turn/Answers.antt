use Rattle.node_spec.proofs.Connecting.{staying_goes_holds, connecting_goes_holds, hanging_goes_holds, hearing_goes_holds}
use Rattle.node_spec.proofs.Handling.{handling_goes_holds}
use Rattle.node_spec.proofs.Later.{resuming_goes_holds, reading_begins_holds}
use Rattle.node_spec.proofs.clients_turn.Goals as goal

pub returns-clause-stays : goal.returns-clause-stays
returns-clause-stays g c = λ kind. staying_goes_holds (g.E.Engine.meaning kind) kind

pub returns-clause-connects : goal.returns-clause-connects
returns-clause-connects g c = λ kind. connecting_goes_holds (g.E.Engine.meaning kind) kind

pub returns-clause-leaves : goal.returns-clause-leaves
returns-clause-leaves g c = λ kind. hanging_goes_holds (g.E.Engine.meaning kind) kind

pub returns-clause-hears : goal.returns-clause-hears
returns-clause-hears g c = λ kind. hearing_goes_holds (g.E.Engine.meaning kind) kind

pub returns-clause-handles : goal.returns-clause-handles
returns-clause-handles g c = λ kind. handling_goes_holds c.counts_restart.ensures.requests (g.E.Engine.meaning kind) kind

pub returns-clause-resumes : goal.returns-clause-resumes
returns-clause-resumes g c = λ kind. resuming_goes_holds c.counts_restart.ensures.later (g.E.Engine.meaning kind) kind

pub returns-clause-reads : goal.returns-clause-reads
returns-clause-reads g c = λ kind. reading_begins_holds (g.E.Engine.meaning kind) kind
