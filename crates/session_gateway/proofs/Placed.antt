-- What is wanted of the session at a place.
use Rattle.std.proofs.Common.{◌≡◌, ℕ, ◌<◌, false, List, ◌++◌, length, get_or, take, drop, Option, Some, None, IfOk, refl, sym, ap, subst, ◌∙◌, append-nil, arith}
use Rattle.std.specs.Prelude.{Result, is_none, not}
use Rattle.std.specs.Option.{option_map}
use Rattle.std.proofs.lemmas.List.{drop_all, take_all}
use Rattle.std.specs.declared.alloc.AllocError.{AllocError}
use Rattle.wire_words.specs.declared.value.Value.{Value}
use Rattle.wire_msgs.specs.declared.request.Request.{Request}
use Rattle.session_spec.specs.Asking.{asked_by}
use Rattle.database_state.specs.declared.database.Database.{Database}
use Rattle.database_state.specs.ImageNumbers.{Numbered}
use Rattle.sql_engine.specs.declared.kind.EngineKind.{EngineKind}
use Rattle.sql_engine.specs.Known.{Known}
use Rattle.sql_engine.specs.Meanings.{Meaning, Told}
use Rattle.session_spec.specs.Machine.{machine_of}
use Rattle.session_spec.specs.Sessions.{View}
use Rattle.session_spec.specs.Touched.{IsListed}
use Rattle.session_table.specs.declared.session.Session.{Session}
use Rattle.session_table.specs.declared.session.Transaction.{Transaction}
use Rattle.session_table.specs.Table.{session_of, transaction_of, table_of}
use Rattle.session_table.specs.Working.{work_of, works_of, AreAmong}
use Rattle.session_table.proofs.Works.{own_among}
use Rattle.session_statements.specs.Agreeing.{Agree}
use Rattle.session_requests.specs.declared.wanted.RequestPlan.{RequestPlan}
use Rattle.session_requests.specs.Meant.{meant, CanBeDone, IsAllowed, FitsStatements}
use Rattle.session_outcomes.specs.declared.decision.Decision.{Decision}
use Rattle.session_outcomes.specs.Numbers.{works_in}
use Rattle.session_outcomes.specs.Turning.{TurnsTo}
use Rattle.session_outcomes.proofs.Placed.{found_at}
use Rattle.session_statements.specs.Calls.{call_of}
use Rattle.session_outcomes.specs.Scenes.{scene}

module _ (sessions : List Session) (place : ℕ) (found : Session) (within : place < length sessions) (is : found ≡ get_or sessions place found) where
  at_place : (own : Session) → get_or sessions place own ≡ found
  at_place own = found_at sessions sessions place found refl within is own

  -- its working image is one of all
  pub own_there : AreAmong (works_of sessions) (work_of found.transaction)
  own_there = subst (λ (s : Session). AreAmong (works_of sessions) (work_of s.transaction)) (at_place found) (own_among sessions place found within)

  pub agree_there : (known : List Known) (number : ℕ) (bases : List Numbered) (result : Result Decision AllocError) (own : Session) → Agree known (works_in result found.transaction ++ works_of sessions) number bases
      → Agree known (works_in result (get_or sessions place own).transaction ++ works_of sessions) number bases
  agree_there known number bases result own a = subst (λ (s : Session). Agree known (works_in result s.transaction ++ works_of sessions) number bases) (sym (at_place own)) a

  module _ (v : View) (databases : List Database) (params : List Value) (wanted known : RequestPlan) (same : wanted ≡ known) (can : (own : Session) → CanBeDone v (session_of databases (get_or sessions place own)) params wanted) where
    can_there : CanBeDone v (session_of databases found) params wanted
    can_there = subst (λ (s : Session). CanBeDone v (session_of databases s) params wanted) (at_place found) (can found)

    pub allowed_there : IsAllowed v (session_of databases found) (meant params known)
    allowed_there = subst (λ (w : RequestPlan). IsAllowed v (session_of databases found) (meant params w)) same can_there.allowed

    pub fits_there : FitsStatements (session_of databases found).statements params known
    fits_there = subst (λ (w : RequestPlan). FitsStatements (session_of databases found).statements params w) same can_there.fits

    pub allowed_at : (own : Session) → IsAllowed v (session_of databases (get_or sessions place own)) (meant params known)
    allowed_at own = subst (λ (w : RequestPlan). IsAllowed v (session_of databases (get_or sessions place own)) (meant params w)) same (can own).allowed

  pub listed_there : (databases : List Database) → ((own : Session) → IsListed (session_of databases (get_or sessions place own)).tx) → IsListed (session_of databases found).tx
  listed_there databases listed = subst (λ (s : Session). IsListed (session_of databases s).tx) (at_place found) (listed found)

  -- what is known of the session holds of the one at the place
  pub can_at : (v : View) (databases : List Database) (params known : List Value) (wanted : RequestPlan) (own : Session) → params ≡ known → CanBeDone v (session_of databases found) known wanted → CanBeDone v (session_of databases (get_or sessions place own)) params wanted
  can_at v databases params known wanted own same can =
      subst (λ (s : Session). CanBeDone v (session_of databases s) params wanted) (sym (at_place own)) (subst (λ (ps : List Value). CanBeDone v (session_of databases found) ps wanted) (sym same) can)

  module _ (m : Meaning) (kind : EngineKind) (v : View) (databases : List Database) (params : List Value) (wanted : RequestPlan) (before now : Option Told) (own : Session) (weight : ℕ) where
    pub turned_there : (decision : Decision) → TurnsTo (call_of m kind before now) (scene v (machine_of databases) (table_of databases sessions weight) found.conn) (session_of databases found) (meant params wanted) decision
        → TurnsTo (call_of m kind before now) (scene v (machine_of databases) (table_of databases sessions weight) (get_or sessions place own).conn) (session_of databases (get_or sessions place own)) (meant params wanted) decision
    turned_there decision turns =
        subst (λ (s : Session). TurnsTo (call_of m kind before now) (scene v (machine_of databases) (table_of databases sessions weight) s.conn) (session_of databases s) (meant params wanted) decision) (sym (at_place own)) turns

    pub came_there : {E : Type 0} (result : Result Decision E) → IfOk result (TurnsTo (call_of m kind before now) (scene v (machine_of databases) (table_of databases sessions weight) found.conn) (session_of databases found) (meant params wanted))
        → IfOk result (TurnsTo (call_of m kind before now) (scene v (machine_of databases) (table_of databases sessions weight) (get_or sessions place own).conn) (session_of databases (get_or sessions place own)) (meant params wanted))
    came_there result turns =
        subst (λ (s : Session). IfOk result (TurnsTo (call_of m kind before now) (scene v (machine_of databases) (table_of databases sessions weight) s.conn) (session_of databases s) (meant params wanted))) (sym (at_place own)) turns

-- what is wanted of a session is wanted of it by another name
pub wants_at : (v : View) (databases : List Database) (sessions : List Session) (weight : ℕ) (found there : Session) (params known : List Value) (wanted : RequestPlan) (request : Request) → params ≡ known → found ≡ there
    → meant known wanted ≡ asked_by v (machine_of databases) (table_of databases sessions weight) found.conn (session_of databases found) request
    → meant params wanted ≡ asked_by v (machine_of databases) (table_of databases sessions weight) there.conn (session_of databases there) request
wants_at v databases sessions weight found there params known wanted request same is wants =
    ap (λ (ps : List Value). meant ps wanted) same ∙ wants ∙ ap (λ (s : Session). asked_by v (machine_of databases) (table_of databases sessions weight) s.conn (session_of databases s) request) is

-- a transaction is open or not, whatever the state machine has
pub outside_too : (m databases : List Database) (o : Option Transaction) → not (is_none (option_map (transaction_of m) o)) ≡ false → not (is_none (option_map (transaction_of databases) o)) ≡ false
outside_too m databases None e = refl
outside_too m databases (Some x) e = e

-- sessions that were lent come back as they were
pub lent_back : (len : ℕ) (new old : List Session) → new ≡ old → len ≡ length old → take len (new ++ drop (length new) old) ≡ old
lent_back len new old same is =
    let long : length new ≡ length old = ap length same in
    ap (take len) (ap (λ (rest : List Session). new ++ rest) (drop_all (length new) old (omega arith)) ∙ append-nil new) ∙ take_all len new (omega arith) ∙ same
