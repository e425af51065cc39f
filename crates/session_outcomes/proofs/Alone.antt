-- Proposals of one entry, after the test of the log's end.
use Rattle.std.proofs.Common.{◌≡◌, Bool, true, false, cond, [], ◌∷◌, Result, IfOk, refl, sym, ap, subst}
use Rattle.std.specs.declared.alloc.AllocError.{AllocError}
use Rattle.session_spec.specs.Causes.{LogFull}
use Rattle.session_spec.specs.Machine.{Machine}
use Rattle.session_spec.specs.Sessions.{Session, View, Turned, Refused}
use Rattle.session_table.specs.declared.cause.Cause.TheVariants as causes
use Rattle.session_outcomes.specs.declared.decision.Decision.{Decision}
use Rattle.session_outcomes.specs.declared.decision.Decision.TheVariants as decisions
use Rattle.session_outcomes.specs.Turning.{MatchesOutcome}

-- one entry is another
pub one_entry : {X : Type 0} (own other : X) → own ≡ other → own ∷ [] ≡ other ∷ []
one_entry {X = X} own other is = ap (λ (x : X). x ∷ []) is

module _ (v : View) (m : Machine) (s : Session) (turned : Turned) where
  -- nothing more is appended
  pub no_room : (full : Bool) → full ≡ true → MatchesOutcome v m s (cond full (Refused LogFull) turned) (decisions.Refused causes.LogFull)
  no_room full is = subst (λ (b : Bool). MatchesOutcome v m s (cond b (Refused LogFull) turned) (decisions.Refused causes.LogFull)) (sym is) refl

  -- there is room for the entry
  pub with_room : (full : Bool) (r : Result Decision AllocError) → full ≡ false → IfOk r (MatchesOutcome v m s turned) → IfOk r (MatchesOutcome v m s (cond full (Refused LogFull) turned))
  with_room full r is comes = subst (λ (b : Bool). IfOk r (MatchesOutcome v m s (cond b (Refused LogFull) turned))) (sym is) comes
