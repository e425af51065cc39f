use Rattle.std.proofs.Common.{sym, subst}
use Rattle.std.specs.List.{All}
use Rattle.sql_engine.specs.Known.{MayKnowBeside}
use Rattle.sqlite_engine.specs.declared.any.AnyEngine.{AnyEngine}
use Rattle.sqlite_engine.specs.declared.any.AnyEngine.TheVariants.{Sqlite}
use Rattle.sqlite_engine.specs.Any.{any_known, AnyIsReadied}
use Rattle.sqlite_engine.proofs.any.AnyEngineEngine.ready.Goals as goal

pub returns-in-Sqlite-clause-known : goal.returns-in-Sqlite-clause-known
returns-in-Sqlite-clause-known c =
    subst (λ (a : AnyEngine). All (MayKnowBeside c.args.image.now c.args.number (any_known a)) c.ready.new.self.known) (sym c.in-Sqlite.is) c.ready.ensures.known

pub returns-in-Sqlite-clause-ready : goal.returns-in-Sqlite-clause-ready
returns-in-Sqlite-clause-ready c = subst (λ (a : AnyEngine). AnyIsReadied c.args.image.now c.args.number a (Sqlite c.ready.new.self)) (sym c.in-Sqlite.is) c.ready.ensures.ready
