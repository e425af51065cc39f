-- What a statement leaves of its connection.
use Rattle.std.specs.Prelude.{◌≡◌, Result, Ok, Err}
use Rattle.dq_base.specs.declared.images.Image.{Image}
use Rattle.dq_base.specs.declared.pages.PageSet.{PageSet}
use Rattle.sql_engine.specs.declared.answer.StatementResult.{StatementResult}
use Rattle.sql_engine.specs.declared.fault.EngineFault.{EngineFault}
use Rattle.sqlite_engine.specs.declared.connection_after.ConnectionAfter.{ConnectionAfter}
use Rattle.sqlite_engine.specs.declared.connection_after.ConnectionAfter.TheVariants.{Stayed, WentOn, Gone}
use Rattle.sqlite_engine.specs.Led.{IsLedTo}

-- what is left of a connection over the image before, after a statement with these pages: it is over that image still, or over
-- the one that the pages lead to
abbrev pub IsLeftOver : Image → PageSet → ConnectionAfter → Type 0
IsLeftOver before set (Stayed kept) = kept.base ≡ before
IsLeftOver before set (WentOn kept) = IsLedTo before set kept.base
IsLeftOver before set Gone = Unit {0}

-- and after an answer: one that went on is left of a statement that was answered alone
abbrev pub IsLeftBy : Image → Result StatementResult EngineFault → ConnectionAfter → Type 0
IsLeftBy before (Ok ran) left = IsLeftOver before ran.after left
IsLeftBy before (Err fault) (Stayed kept) = kept.base ≡ before
IsLeftBy before (Err fault) (WentOn kept) = ⊥
IsLeftBy before (Err fault) Gone = Unit {0}
