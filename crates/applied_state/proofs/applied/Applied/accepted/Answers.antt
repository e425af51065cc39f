use Rattle.std.proofs.Common.{refl}
use Rattle.database_state.specs.Machines.{names_of}
use Rattle.applied_state.specs.Snapshot.{snapshot_value}
use Rattle.applied_state.proofs.EachName.{accepted, refused}
use Rattle.applied_state.proofs.applied.Applied.accepted.Goals as goal

pub returns-then-has_all-clause-exact : goal.returns-then-has_all-clause-exact
returns-then-has_all-clause-exact c = accepted (snapshot_value c.args.offer) c.args.offer.machine (names_of c.args.self.now.machine) c.has_all.result refl c.has_all.ensures c.if-has_all.true

pub returns-else-has_all-clause-exact : goal.returns-else-has_all-clause-exact
returns-else-has_all-clause-exact c = refused (snapshot_value c.args.offer) c.args.offer.machine (names_of c.args.self.now.machine) c.has_all.result refl c.has_all.ensures c.if-has_all.false
