-- What is shown of what was read of the arguments is shown of what they ask for.
use Rattle.std.proofs.Common.{◌≡◌, ℕ, List, Option, subst}
use Rattle.script_cluster.specs.Outcomes.{Item}
use Rattle.client.specs.Net.{Net}
use Rattle.disk_model.specs.Disk.{Disk}
use Rattle.disk_model.specs.Trait.{Text}
use Rattle.arguments.specs.declared.invocation.Invocation.{Invocation}
use Rattle.dqnode.specs.Runs.{ScriptRun, RefusesArguments, StatementRun, CheckRun, GenerateRun, ServeViews, ServeRun, Untouched, FaultCounts, StatusTells}

module _ (asked other : Option Invocation) (same : asked ≡ other) (code : ℕ) where
  pub script_shown : (journal : List Item) (left left' written written' : Option (List ℕ)) → ScriptRun asked journal left left' written written' code
      → ScriptRun other journal left left' written written' code
  script_shown journal left left' written written' = subst (λ (a : Option Invocation). ScriptRun a journal left left' written written' code) same

  pub arguments_shown : (written written' : Option (List ℕ)) → RefusesArguments asked written written' code → RefusesArguments other written written' code
  arguments_shown written written' = subst (λ (a : Option Invocation). RefusesArguments a written written' code) same

  pub statement_shown : (start now : Net) (written written' : Option (List ℕ)) → StatementRun asked start now written written' code
      → StatementRun other start now written written' code
  statement_shown start now written written' = subst (λ (a : Option Invocation). StatementRun a start now written written' code) same

  pub check_shown : {K : Type 0} (files files' : Disk Text → Type 0) (written : K → Option (List ℕ)) (output output' : K) →
      CheckRun asked files files' written output output' code → CheckRun other files files' written output output' code
  check_shown files files' written output output' = subst (λ (a : Option Invocation). CheckRun a files files' written output output' code) same

  pub generate_shown : (journal : List Item) (written written' : Option (List ℕ)) → GenerateRun asked journal written written' code
      → GenerateRun other journal written written' code
  generate_shown journal written written' = subst (λ (a : Option Invocation). GenerateRun a journal written written' code) same

  pub serve_shown : {D H : Type 0} (files : D → Disk Text → Type 0) (views : ServeViews D H) (host host' : H) (disk disk' : D) →
      ServeRun files views asked host host' disk disk' code → ServeRun files views other host host' disk disk' code
  serve_shown files views host host' disk disk' = subst (λ (a : Option Invocation). ServeRun files views a host host' disk disk' code) same

  pub untouched_shown : {N D H : Type 0} (left left' : Option (List ℕ)) (faults faults' : ℕ) (journal journal' : List Item) (dialer dialer' : N) (disk disk' : D)
      (host host' : H) → Untouched asked left left' faults faults' journal journal' dialer dialer' disk disk' host host' code
      → Untouched other left left' faults faults' journal journal' dialer dialer' disk disk' host host' code
  untouched_shown left left' faults faults' journal journal' dialer dialer' disk disk' host host' =
      subst (λ (a : Option Invocation). Untouched a left left' faults faults' journal journal' dialer dialer' disk disk' host host' code) same

  pub status_shown : (old now : FaultCounts) → StatusTells asked old now code → StatusTells other old now code
  status_shown old now = subst (λ (a : Option Invocation). StatusTells a old now code) same
