-- The answers of an engine are tables, so what running came to is well formed.
use Rattle.std.proofs.Common.{◌≡◌, ℕ, Bool, true, false, cond, List, [], ◌∷◌, Ok, Err, refl, sym, subst}
use Rattle.dq_base.specs.declared.images.Image.{Image}
use Rattle.database_state.specs.Files.{image_after}
use Rattle.sql_engine.specs.declared.answer.StatementResult.{StatementResult}
use Rattle.sql_engine.specs.declared.kind.EngineKind.{EngineKind}
use Rattle.sql_engine.specs.Replies.{Statement, IsTable}
use Rattle.sql_engine.specs.Meanings.{Meaning}
use Rattle.session_spec.specs.Engines.{Answer, takes, no_answer, runs, Ending, Lacking, TooLarge, Stopped, Ended, AllowsRest, AllowsAll}
use Rattle.session_statements.specs.declared.ending.Ending.{Ending as CodeEnding}
use Rattle.session_statements.specs.Running.{Shows}
use Rattle.session_outcomes.specs.Runs.{IsWellFormed}

abbrev Formed : Ending → Type 0
Formed Lacking = Unit {0}
Formed (TooLarge answer) = IsTable answer.columns answer.rows × (takes answer.after.pages ≡ false)
Formed (Stopped fault) = Unit {0}
Formed (Ended to answer) = IsTable answer.columns answer.rows

module _ (m : Meaning) (kind : EngineKind) where
  formed : (image : Image) (last : StatementResult) (ss : List Statement) (answers : List Answer) → IsTable last.columns last.rows → AllowsAll m kind image ss answers → Formed (runs image last ss answers)
  unfolding runs
  formed image last [] answers table allowed = table
  formed image last (s ∷ ss) [] table allowed = tt
  formed image last (s ∷ ss) (Err fault ∷ answers) table allowed = tt
  formed image last (s ∷ ss) (Ok ran ∷ answers) table allowed = by (takes ran.after.pages) refl allowed.1 (λ rest. formed (image_after image ran.after.pages) ran ss answers allowed.0.1.table rest)
    where
      by : (b : Bool) → takes ran.after.pages ≡ b → AllowsRest b (AllowsAll m kind (image_after image ran.after.pages) ss answers)
          → (AllowsAll m kind (image_after image ran.after.pages) ss answers → Formed (runs (image_after image ran.after.pages) ran ss answers)) → Formed (cond b (runs (image_after image ran.after.pages) ran ss answers) (TooLarge ran))
      by true e rest further = further rest
      by false e rest further = (allowed.0.1.table, e)

shown_formed : (tx : ℕ) (from : Image) (e : Ending) (ending : CodeEnding) → Formed e → Shows tx from e ending → IsWellFormed ending
shown_formed tx from Lacking ending f shows = absurd shows
shown_formed tx from (TooLarge answer) ending f shows = subst IsWellFormed (sym shows) f
shown_formed tx from (Stopped fault) ending f shows = subst IsWellFormed (sym shows) tt
shown_formed tx from (Ended to answer) ending f shows = subst IsWellFormed (sym shows.1) (subst (λ (a : StatementResult). IsTable a.columns a.rows) (sym shows.2) f)

no_table : IsTable no_answer.columns no_answer.rows
no_table = record { named = tt; wide = tt; empty = λ e. refl }

pub well_formed : (m : Meaning) (kind : EngineKind) (tx : ℕ) (image : Image) (ss : List Statement) (answers : List Answer) (ending : CodeEnding) → AllowsAll m kind image ss answers → Shows tx image (runs image no_answer ss answers) ending → IsWellFormed ending
well_formed m kind tx image ss answers ending allowed shows = shown_formed tx image (runs image no_answer ss answers) ending (formed m kind image no_answer ss answers no_table allowed) shows
