use Rattle.std.proofs.Common.{List, sym, subst, ◌∙◌, arith}
use Rattle.std.proofs.lemmas.Result.{err_from_is_err_and}
use Rattle.database_state.specs.declared.database.Database.{Database}
use Rattle.database_state.specs.Databases.{contents_of}
use Rattle.database_state.specs.Machines.{IsMachine, AllShort}
use Rattle.database_state.proofs.SnapshotLaws.{snapshot_passed, snapshot_stood, fails_only, restored_machine}
use Rattle.database_state.proofs.machine.Machine.from_snapshot.Goals as goal

pub returns-in_err-databases-clause-only : goal.returns-in_err-databases-clause-only
returns-in_err-databases-clause-only c contents s =
    let p = err_from_is_err_and c.from_residual.result c.from_residual.ensures.1 in
    rw (p.1, p.2) (fails_only c.in_err-databases.field-0.0 c.args.bytes.now c.in_err-databases.ensures.exact contents s)

pub invariant_of-result : goal.invariant_of-result
invariant_of-result c =
    let items = c.in_ok-databases.databases.items in
    subst (λ (ds : List Database). IsMachine ds × AllShort ds) (sym c.in_ok-databases.ensures.fresh)
    (restored_machine (contents_of items) c.args.bytes.now (snapshot_passed c.args.bytes.now (contents_of items) (λ i. omega (arith, c.type_inv.bytes i)) c.in_ok-databases.ensures.exact))

pub returns-clause-found : goal.returns-clause-found
returns-clause-found c =
    snapshot_passed c.args.bytes.now (contents_of c.in_ok-databases.databases.items) (λ i. omega (arith, c.type_inv.bytes i)) c.in_ok-databases.ensures.exact

pub returns-clause-only : goal.returns-clause-only
returns-clause-only c contents s = sym (snapshot_stood c.args.bytes.now contents s) ∙ c.in_ok-databases.ensures.exact
