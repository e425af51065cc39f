-- What hinders a write, from what was looked up.
use Rattle.std.proofs.Common.{◌≡◌, Bool, true, false, not, List, Option, Some, None, refl, sym, ap, ◌∙◌}
use Rattle.std.specs.Prelude.{◌==◌}
use Rattle.std.specs.Option.{option_map}
use Rattle.std.proofs.lemmas.Bool.{cond-true, cond-false}
use Rattle.database_state.specs.declared.database.Database.{Database}
use Rattle.session_spec.specs.Asking.{Asked, never_or}
use Rattle.session_spec.specs.Causes.{Cause as RuleCause, Locked, OutOfDate}
use Rattle.session_spec.specs.Limits.{first_cause, other_holds, hinders_in, write_hindrance}
use Rattle.session_spec.specs.Machine.{Machine}
use Rattle.session_spec.specs.Sessions.{Gateway}
use Rattle.session_table.specs.Table.{transaction_of, session_of, database_of}
use Rattle.session_table.specs.declared.cause.Cause.{Cause}
use Rattle.session_table.specs.declared.session.Session.{Session}
use Rattle.session_table.specs.declared.session.Transaction.{Transaction}
use Rattle.session_requests.specs.Meant.{hinders_named, refused_by}

-- the first cause holds
pub held : (told holds : Bool) (cause : RuleCause) (others : Option RuleCause) → told ≡ holds → told ≡ true → Some cause ≡ first_cause holds cause others
held told holds cause others same is = sym (cond-true holds (Some cause) others (sym same ∙ is))

-- it doesn't
pub free : (told holds : Bool) (cause : RuleCause) (others found : Option RuleCause) → told ≡ holds → told ≡ false → found ≡ others
    → found ≡ first_cause holds cause others
free told holds cause others found same is rest = rest ∙ sym (cond-false holds (Some cause) others (sym same ∙ is))

module _ (m : Machine) (g : Gateway) (databases : List Database) (s : Session) (found : Option RuleCause) where
  pub inside : (x : Transaction) → s.transaction ≡ Some x
      → found ≡ first_cause (other_holds g s.conn x.name) Locked (first_cause (not ((m.base x.name).newest == x.mark)) OutOfDate None)
      → found ≡ write_hindrance m g s.conn (session_of databases s)
  unfolding write_hindrance
  inside x is h = h ∙ sym (ap (λ (o : Option Transaction). hinders_in m g s.conn (session_of databases s) (option_map (transaction_of databases) o)) is)

  pub outside : s.transaction ≡ None → found ≡ first_cause (other_holds g s.conn (database_of s.database)) Locked None
      → found ≡ write_hindrance m g s.conn (session_of databases s)
  unfolding write_hindrance
  outside is h = h ∙ sym (ap (λ (o : Option Transaction). hinders_in m g s.conn (session_of databases s) (option_map (transaction_of databases) o)) is)

-- a write among statements is refused, and no other one
pub of_writes : (hinders : Option Cause) (asked : Asked) → never_or (hinders_named hinders) asked ≡ refused_by hinders asked
of_writes None asked = refl
of_writes (Some cause) asked = refl
