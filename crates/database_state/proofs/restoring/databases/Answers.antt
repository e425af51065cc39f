use Rattle.std.proofs.Common.{None}
use Rattle.std.proofs.lemmas.Result.{err_from_is_err_and}
use Rattle.database_state.specs.Databases.{contents_of}
use Rattle.database_state.specs.Restoring.{contents_at, last_name}
use Rattle.database_state.proofs.RestoringSteps.{contents_end, contents_done, databases_more, databases_fresh}
use Rattle.database_state.proofs.restoring.databases.Goals as goal

pub returns-in_err-database-clause-exact : goal.returns-in_err-database-clause-exact
returns-in_err-database-clause-exact c =
    let p = err_from_is_err_and c.from_residual.result c.from_residual.ensures.1 in
    rw (p.1, p.2) (contents_end c.in_err-database.field-0.0 (contents_of c.loop.databases.items) c.args.count c.loop.counter (last_name c.loop.databases.items) c.loop.words (contents_at c.args.count None c.args.words.now) c.loop-test.true (rw c.as_slice.ensures.value at c.in_err-database.ensures.exact) c.loop.invariant.read)

pub loop-preserved : goal.loop-preserved
loop-preserved c = record {
  read = databases_more c.loop.databases.items c.push.new.self.items c.in_ok-database.database c.args.count c.loop.counter c.loop.words c.database.new.words (contents_at c.args.count None c.args.words.now) c.in_ok-push.ensures.items c.loop-test.true (rw c.as_slice.ensures.value at c.in_ok-database.ensures.exact) c.loop.invariant.read;
  fresh = databases_fresh c.loop.databases.items c.push.new.self.items c.in_ok-database.database c.in_ok-push.ensures.items c.loop.invariant.fresh (rw c.as_slice.ensures.value at c.in_ok-database.ensures.fresh);
}

pub returns-clause-exact : goal.returns-clause-exact
returns-clause-exact c = contents_done (contents_of c.loop.databases.items) c.args.count c.loop.counter (last_name c.loop.databases.items) c.loop.words (contents_at c.args.count None c.args.words.now) c.loop-test.false c.loop.invariant.read
