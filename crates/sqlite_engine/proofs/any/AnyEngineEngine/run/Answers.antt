use Rattle.std.proofs.Common.{sym, subst}
use Rattle.std.specs.List.{All}
use Rattle.sql_engine.specs.Known.{MayKnow}
use Rattle.sqlite_engine.specs.declared.any.AnyEngine.{AnyEngine}
use Rattle.sqlite_engine.specs.Any.{any_known}
use Rattle.sqlite_engine.proofs.any.AnyEngineEngine.run.Goals as goal

pub returns-in-Sqlite-clause-known : goal.returns-in-Sqlite-clause-known
returns-in-Sqlite-clause-known c =
    subst (λ (a : AnyEngine). All (MayKnow c.args.image.now c.args.numbers c.run.result (any_known a)) c.run.new.self.known) (sym c.in-Sqlite.is) c.run.ensures.known
