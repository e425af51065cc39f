-- The outcome of statements is what the rules make of what is wanted.
use Rattle.std.proofs.Common.{◌≡◌, ℕ, false, List, Option, sym, subst}
use Rattle.wire_words.specs.declared.value.Value.{Value}
use Rattle.sql_engine.specs.declared.kind.EngineKind.{EngineKind}
use Rattle.sql_engine.specs.Meanings.{Meaning, Told}
use Rattle.sql_engine.specs.Replies.{Statement}
use Rattle.session_spec.specs.Asking.{Runs}
use Rattle.session_spec.specs.Machine.{Machine}
use Rattle.session_spec.specs.Requests.{does}
use Rattle.session_spec.specs.Sessions.{Session, Gateway, View}
use Rattle.session_requests.specs.declared.wanted.RequestPlan.{RequestPlan}
use Rattle.session_requests.specs.Meant.{meant}
use Rattle.session_outcomes.specs.declared.decision.Decision.{Decision}
use Rattle.session_outcomes.specs.Turning.{TurnsTo}
use Rattle.session_outcomes.specs.Runs.{RunsTo}
use Rattle.session_statements.specs.Calls.{call_of}
use Rattle.session_outcomes.specs.Scenes.{scene}

module _ (m : Meaning) (kind : EngineKind) (v : View) (machine : Machine) (g : Gateway) (conn : ℕ) (s : Session) (before now : Option Told) (decision : Decision) where
  -- statements whose rows are dropped
  dropped : (ss : List Statement) → RunsTo (call_of m kind before now) (scene v machine g conn) s ss false decision → TurnsTo (call_of m kind before now) (scene v machine g conn) s (Runs ss) decision
  unfolding does
  dropped ss r = record { answers = r.answers; allowed = r.allowed; told = r.told; exact = r.exact; is = r.is }

  -- those of what is wanted
  pub ran : (params : List Value) (w known : RequestPlan) (ss these : List Statement) → w ≡ known → meant params known ≡ Runs ss → these ≡ ss → RunsTo (call_of m kind before now) (scene v machine g conn) s these false decision
      → TurnsTo (call_of m kind before now) (scene v machine g conn) s (meant params w) decision
  ran params w known ss these is means same r =
      subst (λ (x : RequestPlan). TurnsTo (call_of m kind before now) (scene v machine g conn) s (meant params x) decision) (sym is)
      (subst (λ a. TurnsTo (call_of m kind before now) (scene v machine g conn) s a decision) (sym means)
      (subst (λ (xs : List Statement). TurnsTo (call_of m kind before now) (scene v machine g conn) s (Runs xs) decision) same (dropped these r)))
