-- What comes of requests for new databases and transactions.
use Rattle.std.proofs.Common.{◌≡◌, ℕ, List, Option, Some, None, Bool, true, false, not, [], ◌∷◌, refl, sym, subst}
use Rattle.std.proofs.lemmas.Bool.{cond-true, cond-false}
use Rattle.std.specs.Prelude.{is_none, nat_lt}
use Rattle.log_commands.specs.declared.command.Command.TheVariants.{OpenDb}
use Rattle.database_state.specs.Files.{empty_image}
use Rattle.session_spec.specs.Asking.{has_database}
use Rattle.session_spec.specs.Causes.{DatabaseFull, Locked}
use Rattle.session_spec.specs.Entries.{Does}
use Rattle.session_spec.specs.Limits.{pages_with, pages_full, other_holds}
use Rattle.session_spec.specs.Machine.{Machine}
use Rattle.session_spec.specs.Requests.{flying, creates, begins, begun}
use Rattle.session_spec.specs.Sessions.{Opening, Session, Gateway, View, Turned, Refused, Answers, Proposes, Nothing, Began, result, in_tx}
use Rattle.session_table.specs.declared.cause.Cause.TheVariants as causes
use Rattle.session_outcomes.specs.declared.decision.Decision.{Decision}
use Rattle.session_outcomes.specs.declared.decision.Decision.TheVariants as decisions
use Rattle.session_outcomes.specs.Turning.{MatchesOutcome}

pub none_open : {X : Type 0} (o : Option X) → not (is_none o) ≡ false → o ≡ None
none_open None e = refl
none_open (Some x) e = (cc)

-- a new database, by the session as it asks for barrier reads or doesn't
module _ (v : View) (m : Machine) (g : Gateway) (s asking : Session) (name : List ℕ) where
  pub full_creates : nat_lt 16384 (pages_with m g name 1) ≡ true → MatchesOutcome v m s (creates v m g asking name) (decisions.Refused causes.DatabaseFull)
  full_creates e =
      subst (λ (t : Turned). MatchesOutcome v m s t (decisions.Refused causes.DatabaseFull)) (sym (cond-true (pages_full m g name empty_image) (Refused DatabaseFull) (Proposes (flying v asking name (Does (OpenDb name) ∷ []) 0 Opening) (Does (OpenDb name) ∷ []) Nothing) e)) refl

  pub new_creates : (decision : Decision) → nat_lt 16384 (pages_with m g name 1) ≡ false → MatchesOutcome v m s (Proposes (flying v asking name (Does (OpenDb name) ∷ []) 0 Opening) (Does (OpenDb name) ∷ []) Nothing) decision → MatchesOutcome v m s (creates v m g asking name) decision
  new_creates decision e h =
      subst (λ (t : Turned). MatchesOutcome v m s t decision) (sym (cond-false (pages_full m g name empty_image) (Refused DatabaseFull) (Proposes (flying v asking name (Does (OpenDb name) ∷ []) 0 Opening) (Does (OpenDb name) ∷ []) Nothing) e)) h

module _ (v : View) (m : Machine) (g : Gateway) (conn : ℕ) (s : Session) where
  pub is_locked : (at_once : Bool) → at_once ≡ true → other_holds g conn s.database ≡ true → MatchesOutcome v m s (begins m g conn s at_once) (decisions.Refused causes.Locked)
  is_locked true e o = subst (λ (t : Turned). MatchesOutcome v m s t (decisions.Refused causes.Locked)) (sym (cond-true (other_holds g conn s.database) (Refused Locked) (Answers (begun m s true) (result 0) Began) o)) refl
  is_locked false e o = (cc)

  pub begins_at_once : (at_once : Bool) → at_once ≡ true → other_holds g conn s.database ≡ false → in_tx s ≡ false → has_database s ≡ true → MatchesOutcome v m s (begins m g conn s at_once) (decisions.Begins true)
  begins_at_once true e o n h = subst (λ (t : Turned). MatchesOutcome v m s t (decisions.Begins true)) (sym (cond-false (other_holds g conn s.database) (Refused Locked) (Answers (begun m s true) (result 0) Began) o)) (refl, refl, none_open s.tx n, h)
  begins_at_once false e o n h = (cc)

  pub begins_later : (at_once : Bool) → at_once ≡ false → in_tx s ≡ false → has_database s ≡ true → MatchesOutcome v m s (begins m g conn s at_once) (decisions.Begins false)
  begins_later true e n h = (cc)
  begins_later false e n h = (refl, refl, none_open s.tx n, h)
