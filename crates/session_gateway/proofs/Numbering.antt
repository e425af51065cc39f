-- No number represents two images, whatever becomes of the sessions.
use Rattle.std.proofs.Common.{◌≡◌, ℕ, ◌+◌, ◌<◌, List, [], ◌∷◌, ◌++◌, length, map, get_or, Contains, Option, Result, Ok, Err, IfOk, ◌⊎◌, inl, inr, sym, subst, ◌∙◌, arith}
use Rattle.std.specs.List.{AllByRecursion}
use Rattle.std.specs.declared.alloc.AllocError.{AllocError}
use Rattle.sql_engine.specs.Known.{Known}
use Rattle.sql_engine.proofs.Knowing.{of_contained}
use Rattle.log_commands.specs.declared.command.Command.{Command}
use Rattle.database_state.specs.declared.database.Database.{Database}
use Rattle.database_state.specs.Databases.{act}
use Rattle.database_state.specs.Files.{empty_image}
use Rattle.database_state.specs.ImageNumbers.{Numbered, numbered, ComesFrom, NumbersStay}
use Rattle.database_state.specs.Machines.{IsMachine}
use Rattle.database_state.proofs.Acting.{no_databases}
use Rattle.database_state.proofs.ImageNumbers.{numbers_after_act}
use Rattle.session_statements.specs.Agreeing.{Agree, IsNamed}
use Rattle.session_statements.proofs.AgreeingOn.{numbered_in, went_on}
use Rattle.session_table.specs.declared.session.Session.{Session}
use Rattle.session_table.specs.declared.session.Transaction.{Transaction}
use Rattle.session_table.specs.Working.{works_of, AreAmong, IsNewest}
use Rattle.session_table.proofs.Placing.{at_place}
use Rattle.session_outcomes.specs.declared.decision.Decision.{Decision}
use Rattle.session_outcomes.specs.Numbers.{work_in, works_in}
use Rattle.session_outcomes.proofs.Works.{agree_fewer, agree_later}
use Rattle.session_gateway.specs.Carrying.{AgreesOn}
use Rattle.session_gateway.specs.Seen.{Held, Agrees}
use Rattle.session_gateway.proofs.Holding.{held}

-- ---- over what code holds

pub agrees_now : (known : List Known) (sessions : List Session) (weight next : ℕ) (now : Held) (databases : List Database) → held sessions weight next ≡ now → Agrees known now databases → Agree known (works_of sessions) next (map numbered databases)
agrees_now known sessions weight next now databases e a = subst (λ (h : Held). Agrees known h databases) (sym e) a

-- ---- no sessions, and commands

none_agree : Agree [] [] 0 []
none_agree = record {
  working = λ number. empty_image;
  newest = λ place commits. empty_image;
  knows = λ k d lt. absurd (omega (arith, lt));
  works_so = λ k d lt. absurd (omega (arith, lt));
  stands_so = λ k d lt. absurd (omega (arith, lt));
}

all_new : (databases : List Database) → AllByRecursion (ComesFrom []) databases
all_new [] = tt
all_new (d ∷ ds) = (inr (omega arith), all_new ds)

pub started_agree : (databases : List Database) → IsMachine databases → Agree [] [] 0 (map numbered databases)
started_agree databases machine = went_on [] [] 0 [] databases none_agree (record { count = omega arith; each = all_new databases }) no_databases machine

pub acted_agree : (known : List Known) (held : Held) (databases : List Database) (command : Command) → IsMachine databases → IsMachine (act databases command) → Agrees known held databases → Agrees known held (act databases command)
acted_agree known held databases command old new a = went_on known (works_of held.sessions) held.next databases (act databases command) a (numbers_after_act databases command) old new

-- ---- a decision that makes no working image

pub idle_agrees : (known works : List Known) (number : ℕ) (bases : List Numbered) (r : Result Decision AllocError) (tx : Option Transaction) → IfOk r (λ decision. (t : Option Transaction) → work_in decision t ≡ []) → Agree known works number bases
    → Agree known (works_in r tx ++ works) (number + 1) bases
idle_agrees known works number bases (Ok decision) tx none a = subst (λ (these : List Known). Agree known (these ++ works) (number + 1) bases) (sym (none tx)) (agree_later known works number bases empty_image a)
idle_agrees known works number bases (Err e) tx none a = agree_later known works number bases empty_image a

-- ---- a decision that is carried out

-- the working images are fewer
pub fewer_agree : (made : List Known) (before after : List Session) (old new : List Database) → NumbersStay old new → AreAmong (made ++ works_of before) (works_of after) → AgreesOn made before old after new
fewer_agree made before after old new stay among = λ known next a.
    subst (Agree known (works_of after) next) (sym stay) (agree_fewer known (made ++ works_of before) (works_of after) next (map numbered old) among a)

-- they are those of before, or newest ones of databases
pub begun_agree : (before after : List Session) (old new : List Database) → NumbersStay old new → AllByRecursion (λ (work : Known). Contains (works_of before) work ⊎ IsNewest old work) (works_of after) → AgreesOn [] before old after new
begun_agree before after old new stay each = λ known next a.
    let one : (k : Known) → Contains (works_of before) k ⊎ IsNewest old k → IsNamed a.working a.newest next (map numbered old) k.number k.image = λ k is. elim is [
      | inl among ↦ of_contained (λ (k : Known). IsNamed a.working a.newest next (map numbered old) k.number k.image) (works_of before) k a.works_so among
      | inr newest ↦ subst (λ (b : Numbered). IsNamed a.working a.newest next (map numbered old) b.number b.image) (λ i. record { number = sym newest.number i; image = sym newest.image i })
          (of_contained (λ (b : Numbered). IsNamed a.working a.newest next (map numbered old) b.number b.image) (map numbered old) (numbered newest.database) a.stands_so (numbered_in old newest.database newest.among))
    ] in
    subst (Agree known (works_of after) next) (sym stay) (record {
      working = a.working;
      newest = a.newest;
      knows = a.knows;
      works_so = λ k d lt. one (get_or (works_of after) k d) (at_place (λ (work : Known). Contains (works_of before) work ⊎ IsNewest old work) (works_of after) k d lt each);
      stands_so = a.stands_so;
    })

pub same_agree : (before : List Session) (old : List Database) → AgreesOn [] before old before old
same_agree before old = λ known next a. a

-- ---- a session that is there, whichever

pub with_some : {X : Type 0} (ss : List Session) (place : ℕ) → place < length ss → ((own : Session) → X) → X
with_some [] place within f = absurd (omega (arith, within))
with_some (s ∷ ss) place within f = f s

module _ (known : List Known) (all there lent : List Session) (place next : ℕ) (old : List Database) (within : place < length all) (same : there ≡ all) (back : lent ≡ all) where
  pub carried_agree : (decision : Decision) (after : List Session) (new : List Database) → ((own : Session) → Agree known (works_in (Ok decision) (get_or there place own).transaction ++ works_of there) next (map numbered old))
      → ((own : Session) → AgreesOn (work_in decision (get_or lent place own).transaction) lent old after new) → Agree known (works_of after) next (map numbered new)
  carried_agree decision after new given carries = with_some all place within (λ own.
      subst (λ (ss : List Session). AgreesOn (work_in decision (get_or ss place own).transaction) ss old after new) back (carries own) known next
      (subst (λ (ss : List Session). Agree known (work_in decision (get_or ss place own).transaction ++ works_of ss) next (map numbered old)) same (given own)))

  pub failed_agree : (e : AllocError) → ((own : Session) → Agree known (works_in (Err e) (get_or there place own).transaction ++ works_of there) next (map numbered old)) → Agree known (works_of lent) next (map numbered old)
  failed_agree e given = with_some all place within (λ own.
      subst (λ (ss : List Session). Agree known (works_of ss) next (map numbered old)) (same ∙ sym back) (given own))
