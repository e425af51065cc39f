-- The ending of the rules, by that of code.
use Rattle.std.proofs.Common.{◌≡◌, ℕ, [], ◌∷◌, Option, sym, ap, subst, ◌∙◌}
use Rattle.dq_base.specs.declared.images.Image.{Image}
use Rattle.dq_base.specs.Applying.{applied}
use Rattle.dq_base.specs.Changes.{changed}
use Rattle.sql_engine.specs.declared.answer.StatementResult.{StatementResult}
use Rattle.sql_engine.specs.declared.fault.EngineFault.{EngineFault}
use Rattle.sql_engine.specs.declared.kind.EngineKind.{EngineKind}
use Rattle.sql_engine.specs.Meanings.{Meaning, Told}
use Rattle.sql_engine.specs.Replies.{Statement}
use Rattle.session_spec.specs.Engines.{Ending, Lacking, TooLarge, Stopped, Ended}
use Rattle.session_statements.specs.declared.ending.AllRan.{AllRan}
use Rattle.session_statements.specs.declared.ending.Ending.{Ending as CodeEnding}
use Rattle.session_statements.specs.declared.ending.Ending.TheVariants as codes
use Rattle.session_statements.specs.Running.{RanTo, Shows, change_in}
use Rattle.session_outcomes.specs.Hindered.{LeadsTo}
use Rattle.session_statements.specs.Calls.{call_of}
use Rattle.session_outcomes.proofs.ChangeSizes.{change_sizes}

pub shows_stopped : (tx : ℕ) (from : Image) (e : Ending) (fault : EngineFault) → Shows tx from e (codes.Stopped fault) → e ≡ Stopped fault
shows_stopped tx from Lacking fault shows = absurd shows
shows_stopped tx from (TooLarge answer) fault shows = absurd cc
shows_stopped tx from (Stopped other) fault shows = let same : fault ≡ other = cc in ap Stopped (sym same)
shows_stopped tx from (Ended to answer) fault shows = let wrong : codes.Stopped fault ≡ codes.Ended shows.0 = shows.1 in absurd cc

pub shows_large : (tx : ℕ) (from : Image) (e : Ending) (answer : StatementResult) → Shows tx from e (codes.TooLarge answer) → e ≡ TooLarge answer
shows_large tx from Lacking answer shows = absurd shows
shows_large tx from (TooLarge other) answer shows = let same : answer ≡ other = cc in ap TooLarge (sym same)
shows_large tx from (Stopped fault) answer shows = absurd cc
shows_large tx from (Ended to other) answer shows = let wrong : codes.TooLarge answer ≡ codes.Ended shows.0 = shows.1 in absurd cc

-- all ran
pub record AllShown (tx : ℕ) (from : Image) (e : Ending) (ran : AllRan) : Type 0 where
  pub to : Image
  pub is : e ≡ Ended to ran.answer
  pub change : change_in ran ≡ record { tx = tx; pages = changed from to }
  pub leads : applied from (changed from to) ≡ to

pub shows_ended : (tx : ℕ) (from : Image) (e : Ending) (ran : AllRan) → Shows tx from e (codes.Ended ran) → AllShown tx from e ran
shows_ended tx from Lacking ran shows = absurd shows
shows_ended tx from (TooLarge other) ran shows = absurd cc
shows_ended tx from (Stopped fault) ran shows = absurd cc
shows_ended tx from (Ended to answer) ran shows =
    let same : ran ≡ shows.0 = (let both : codes.Ended ran ≡ codes.Ended shows.0 = shows.1 in cc) in
    record {
      to = to;
      is = ap (Ended to) (sym (ap (λ (r : AllRan). r.answer) same ∙ shows.2));
      change = ap change_in same ∙ shows.3;
      leads = shows.4;
    }

-- what ran, by another name of its statement
pub ran_of : (m : Meaning) (kind : EngineKind) (tx : ℕ) (image : Image) (before now : Option Told) (ending : CodeEnding) (statement asked : Statement) → statement ≡ asked → RanTo (call_of m kind before now) tx image (statement ∷ []) ending → RanTo (call_of m kind before now) tx image (asked ∷ []) ending
ran_of m kind tx image before now ending statement asked is ran = subst (λ (s : Statement). RanTo (call_of m kind before now) tx image (s ∷ []) ending) is ran

-- ---- what a change leads to

pub change_leads : (a b : Image) → applied a (changed a b) ≡ b → LeadsTo (changed a b) b
change_leads a b leads = λ taken. (change_sizes a b, (a, leads))
