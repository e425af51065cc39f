-- An engine's count of refused openings rose where running ended for one, and there was a limit of steps where it was interrupted.
use Rattle.std.proofs.Common.{◌≡◌, ℕ, ◌<◌, true, Err, refl, ap}
use Rattle.std.specs.Prelude.{Option, IsSome, Result}
use Rattle.std.proofs.lemmas.Bool.{false≢true}
use Rattle.sql_engine.specs.declared.answer.StatementResult.{StatementResult}
use Rattle.sql_engine.specs.declared.fault.EngineFault.{EngineFault}
use Rattle.sql_engine.specs.declared.fault.EngineFault.TheVariants as faults
use Rattle.sql_engine.specs.Meanings.{CountsOpenings, IsCutBy}
use Rattle.session_spec.specs.Engines.{is_cut}
use Rattle.session_statements.specs.Running.{is_unopened}

opened : (fault : EngineFault) → is_unopened fault ≡ true → fault ≡ faults.Unopened
opened faults.Constraint e = absurd (false≢true e)
opened faults.Sql e = absurd (false≢true e)
opened (faults.Float row column) e = absurd (false≢true e)
opened (faults.NotText row column) e = absurd (false≢true e)
opened faults.Unopened e = refl
opened faults.Cut e = absurd (false≢true e)
opened faults.NoMemory e = absurd (false≢true e)

abbrev failed : EngineFault → Result StatementResult EngineFault
failed fault = Err fault

pub rose : (before now : ℕ) (fault : EngineFault) → CountsOpenings before now (Err fault) → is_unopened fault ≡ true → before < now
rose before now fault counts e = counts (ap failed (opened fault e))

was_cut : (fault : EngineFault) → is_cut fault ≡ true → fault ≡ faults.Cut
was_cut faults.Constraint e = absurd (false≢true e)
was_cut faults.Sql e = absurd (false≢true e)
was_cut (faults.Float row column) e = absurd (false≢true e)
was_cut (faults.NotText row column) e = absurd (false≢true e)
was_cut faults.Unopened e = absurd (false≢true e)
was_cut faults.Cut e = refl
was_cut faults.NoMemory e = absurd (false≢true e)

pub had_limit : (limit : Option ℕ) (fault : EngineFault) → IsCutBy limit (Err fault) → is_cut fault ≡ true → IsSome limit
had_limit limit fault cut e = cut (ap failed (was_cut fault e))
