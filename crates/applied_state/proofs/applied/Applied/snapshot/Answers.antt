use Rattle.std.proofs.Common.{◌≡◌, List, subst}
use Rattle.std.proofs.lemmas.Result.{IfOk-weaker}
use Rattle.std.specs.Prelude.{IfOk}
use Rattle.database_state.specs.Databases.{contents_of}
use Rattle.raft_spec.specs.Node.{Server}
use Rattle.applied_state.specs.Snapshot.{NodeSnapshot, SpellsSnapshot, snapshot_bytes}
use Rattle.applied_state.proofs.Snapshots.{made_is, bytes_are}
use Rattle.applied_state.proofs.applied.Applied.snapshot.Goals as goal

pub returns-clause-front : goal.returns-clause-front
returns-clause-front c =
    IfOk-weaker c.spelled.result _ _
    (λ bytes h opening lacks front a. subst (λ (s : NodeSnapshot). SpellsSnapshot s bytes) (made_is c.args.self.now c.databases-databases.ensures.stand opening lacks front a) h)
    (subst (λ (servers : List Server). IfOk c.spelled.result (SpellsSnapshot (record { servers = servers; contents = contents_of c.args.self.now.machine }))) c.as_slice.ensures c.spelled.ensures.spelled)

pub returns-clause-exact : goal.returns-clause-exact
returns-clause-exact c =
    IfOk-weaker c.spelled.result _ _
    (λ bytes h. bytes_are c.args.self.now c.databases-databases.ensures.stand bytes h)
    (subst (λ (servers : List Server). IfOk c.spelled.result (λ bytes. bytes ≡ snapshot_bytes servers (contents_of c.args.self.now.machine))) c.as_slice.ensures c.spelled.ensures.exact)
