-- The session at a place of sessions that are as they were before.
use Rattle.std.proofs.Common.{◌≡◌, ℕ, ◌<◌, ◌++◌, Bool, List, length, get_or, Option, IfOk, sym, ap, subst, ◌∙◌}
use Rattle.std.specs.Prelude.{Result}
use Rattle.std.specs.declared.alloc.AllocError.{AllocError}
use Rattle.std.proofs.lemmas.List.{get_or_default}
use Rattle.database_state.specs.declared.database.Database.{Database}
use Rattle.database_state.specs.ImageNumbers.{Numbered}
use Rattle.sql_engine.specs.declared.kind.EngineKind.{EngineKind}
use Rattle.sql_engine.specs.Known.{Known}
use Rattle.sql_engine.specs.Replies.{Statement}
use Rattle.sql_engine.specs.Meanings.{Meaning, Told}
use Rattle.session_spec.specs.Machine.{machine_of}
use Rattle.session_spec.specs.Requests.{ground}
use Rattle.session_spec.specs.Sessions.{View}
use Rattle.session_table.specs.declared.session.Session.{Session}
use Rattle.session_table.specs.Table.{session_of, table_of}
use Rattle.session_table.specs.Working.{works_of}
use Rattle.session_spec.specs.Allowed.{IsServed}
use Rattle.session_statements.specs.Agreeing.{Agree}
use Rattle.session_statements.specs.declared.ending.Ending.{Ending}
use Rattle.session_statements.specs.Running.{RanTo}
use Rattle.session_outcomes.specs.declared.decision.Decision.{Decision}
use Rattle.session_outcomes.specs.Numbers.{works_in}
use Rattle.session_outcomes.specs.Runs.{RunsTo}
use Rattle.session_statements.specs.Calls.{call_of}
use Rattle.session_outcomes.specs.Scenes.{scene}

module _ (old known : List Session) (place : ℕ) (found : Session) (same : known ≡ old) (within : place < length old) (is : found ≡ get_or known place found) where
  -- which it is does not depend on a default
  pub found_at : (own : Session) → get_or old place own ≡ found
  found_at own = get_or_default old place own found within ∙ ap (λ (ss : List Session). get_or ss place found) (sym same) ∙ sym is

  pub found_served : (v : View) (databases : List Database) → ((own : Session) → IsServed v (session_of databases (get_or old place own))) → IsServed v (session_of databases found)
  found_served v databases served = subst (λ (s : Session). IsServed v (session_of databases s)) (found_at found) (served found)

  pub found_agree : (engine : List Known) (number : ℕ) (bases : List Numbered) (result : Result Decision AllocError) (own : Session) → Agree engine (works_in result found.transaction ++ works_of old) number bases
      → Agree engine (works_in result (get_or old place own).transaction ++ works_of old) number bases
  found_agree engine number bases result own a = subst (λ (s : Session). Agree engine (works_in result s.transaction ++ works_of old) number bases) (sym (found_at own)) a

  -- what ran at the place ran at it
  pub found_ran : (m : Meaning) (kind : EngineKind) (tx : ℕ) (databases : List Database) (ss : List Statement) (before now : Option Told) (ending : Ending)
      → ((own : Session) → RanTo (call_of m kind before now) tx (ground (machine_of databases) (session_of databases (get_or old place own)) (session_of databases (get_or old place own)).tx) ss ending)
      → RanTo (call_of m kind before now) tx (ground (machine_of databases) (session_of databases found) (session_of databases found).tx) ss ending
  found_ran m kind tx databases ss before now ending ran = subst (λ (s : Session). RanTo (call_of m kind before now) tx (ground (machine_of databases) (session_of databases s) (session_of databases s).tx) ss ending) (found_at found) (ran found)

  -- and what it came to, it came to at the place
  pub found_runs : {E : Type 0} (m : Meaning) (kind : EngineKind) (v : View) (databases : List Database) (weight : ℕ) (ss : List Statement) (rows : Bool) (before now : Option Told) (result : Result Decision E) (own : Session)
      → IfOk result (RunsTo (call_of m kind before now) (scene v (machine_of databases) (table_of databases known weight) found.conn) (session_of databases found) ss rows)
      → IfOk result (RunsTo (call_of m kind before now) (scene v (machine_of databases) (table_of databases old weight) (get_or old place own).conn) (session_of databases (get_or old place own)) ss rows)
  found_runs m kind v databases weight ss rows before now result own runs =
      subst (λ (sessions : List Session). IfOk result (RunsTo (call_of m kind before now) (scene v (machine_of databases) (table_of databases sessions weight) (get_or old place own).conn) (session_of databases (get_or old place own)) ss rows)) same
      (subst (λ (s : Session). IfOk result (RunsTo (call_of m kind before now) (scene v (machine_of databases) (table_of databases known weight) s.conn) (session_of databases s) ss rows)) (sym (found_at own)) runs)
