use Rattle.std.proofs.Common.{◌≡◌, ◌⊎◌, inl, inr, true, Some, None, sym, ap, subst, ◌∙◌}
use Rattle.dq_base.specs.Faults.{Rose}
use Rattle.arguments.specs.declared.invocation.Invocation.TheVariants as asks
use Rattle.dqnode.specs.declared.status.Status.{Status}
use Rattle.dqnode.specs.Program.{BreaksOff}
use Rattle.dqnode.specs.Status.{status_code, IsBrokenOff, IsScriptCode, IsStatementCode, IsCheckCode}
use Rattle.script_runner.specs.Ending.{MayFollow}
use Rattle.serve_node.specs.Rules.{GoesWell}
use Rattle.dqnode.specs.Checks.{CheckEnds}
use Rattle.dqnode.specs.Generating.{RunEnds}
use Rattle.dqnode.specs.Serving.{WasServed}
use Rattle.dqnode.proofs.Asked.{statement_code}
use Rattle.dqnode.proofs.Endings.{script_broken}
use Rattle.dqnode.proofs.Generated.{generated_code, made_code, made_by}
use Rattle.dqnode.proofs.ServeEnds.{statement_not_three, check_not_three, serve_not_three, words_not_three, generated_not_three, made_not_three, read_status, script_not_eight, statement_not_eight, words_not_eight, script_not_ten, statement_not_ten, check_not_ten, words_not_ten, script_not_six, statement_not_six, check_not_six, words_not_six, script_not_five, statement_not_five, words_not_five, statement_not_fifteen, check_not_fifteen, generated_not_fifteen, words_not_fifteen, host_status, disk_status, moved, served_for}
use Rattle.dqnode.proofs.program.run.Goals.{in-Some-Script, in-Some-Statement, in-Some-Check, in-Some-Generate-default-default-false, in-Some-Generate-default-default-true, in-Some-Serve, in-None}
use Rattle.dqnode.proofs.program.run.Goals as goal

pub returns-clause-host_fault : goal.returns-clause-host_fault
returns-clause-host_fault g c = λ e.
    let at : status_code c.match-asked.status ≡ 6 = sym c.code.ensures ∙ e in
    elim c.match-asked.branch [
      | in-Some-Script w ↦ absurd (script_not_six _ (subst (λ (s : Status). IsScriptCode (status_code s)) (sym w.status-is) w.script-status.ensures.codes) at)
      | in-Some-Statement w ↦ absurd (statement_not_six _ (subst (λ (s : Status). IsStatementCode (status_code s)) (sym w.status-is) (statement_code _ _ _ _ _ _ w.ask-status.ensures.ended)) at)
      | in-Some-Check w ↦ absurd (check_not_six _ (subst (λ (s : Status). IsCheckCode (status_code s)) (sym w.status-is) w.tell-status.ensures.codes) at)
      | in-Some-Generate-default-default-false w ↦ absurd (script_not_six _ (subst (λ (s : Status). IsScriptCode (status_code s)) (sym w.status-is) (generated_code _ _ _ _ _ w.make_script-status.ensures.ended)) at)
      | in-Some-Generate-default-default-true w ↦ absurd (script_not_six _ (subst (λ (s : Status). IsScriptCode (status_code s)) (sym w.status-is) (made_code _ _ _ _ _ _ w.run_made-status.ensures.ended)) at)
      | in-Some-Serve w ↦ (
        (w.in-Some-Serve.words, w.in-Some-Serve.is ∙ ap Some w.in-Some-Serve.field-0-is),
        moved _ _ _ _ _ _ _ w.disk-is w.network-is w.status-is c.code.ensures
            (λ disk network code. Rose (g.H.Inbox.faults c.args.network.now.host) (g.H.Inbox.faults network.host))
            (w.serve_node-status.ensures.host_fault (host_status _ (ap status_code (sym w.status-is) ∙ at))),
      )
      | in-None w ↦ absurd (words_not_six _ w.refuse_words-status.ensures.others (ap status_code (sym w.status-is) ∙ at))
    ]

pub returns-clause-disk_fault : goal.returns-clause-disk_fault
returns-clause-disk_fault g c = λ e.
    let at : status_code c.match-asked.status ≡ 5 = sym c.code.ensures ∙ e in
    elim c.match-asked.branch [
      | in-Some-Script w ↦ absurd (script_not_five _ (subst (λ (s : Status). IsScriptCode (status_code s)) (sym w.status-is) w.script-status.ensures.codes) at)
      | in-Some-Statement w ↦ absurd (statement_not_five _ (subst (λ (s : Status). IsStatementCode (status_code s)) (sym w.status-is) (statement_code _ _ _ _ _ _ w.ask-status.ensures.ended)) at)
      | in-Some-Check w ↦ (
        inl (w.in-Some-Check.is ∙ ap Some w.in-Some-Check.field-0-is),
        subst (λ disk. Rose (g.D.Disk.faults c.args.disk.now) (g.D.Disk.faults disk)) (sym w.disk-is) (w.tell-status.ensures.disk_fault (disk_status _ (ap status_code (sym w.status-is) ∙ at))),
      )
      | in-Some-Generate-default-default-false w ↦ absurd (script_not_five _ (subst (λ (s : Status). IsScriptCode (status_code s)) (sym w.status-is) (generated_code _ _ _ _ _ w.make_script-status.ensures.ended)) at)
      | in-Some-Generate-default-default-true w ↦ absurd (script_not_five _ (subst (λ (s : Status). IsScriptCode (status_code s)) (sym w.status-is) (made_code _ _ _ _ _ _ w.run_made-status.ensures.ended)) at)
      | in-Some-Serve w ↦ (
        inr (w.in-Some-Serve.words, w.in-Some-Serve.is ∙ ap Some w.in-Some-Serve.field-0-is),
        subst (λ disk. Rose (g.D.Disk.faults c.args.disk.now) (g.D.Disk.faults disk)) (sym w.disk-is) (w.serve_node-status.ensures.disk_fault (disk_status _ (ap status_code (sym w.status-is) ∙ at))),
      )
      | in-None w ↦ absurd (words_not_five _ w.refuse_words-status.ensures.others (ap status_code (sym w.status-is) ∙ at))
    ]

pub returns-clause-of_spent : goal.returns-clause-of_spent
returns-clause-of_spent g c = λ e.
    let at : status_code c.match-asked.status ≡ 10 = sym c.code.ensures ∙ e in
    elim c.match-asked.branch [
      | in-Some-Script w ↦ absurd (script_not_ten _ (subst (λ (s : Status). IsScriptCode (status_code s)) (sym w.status-is) w.script-status.ensures.codes) at)
      | in-Some-Statement w ↦ absurd (statement_not_ten _ (subst (λ (s : Status). IsStatementCode (status_code s)) (sym w.status-is) (statement_code _ _ _ _ _ _ w.ask-status.ensures.ended)) at)
      | in-Some-Check w ↦ absurd (check_not_ten _ (subst (λ (s : Status). IsCheckCode (status_code s)) (sym w.status-is) w.tell-status.ensures.codes) at)
      | in-Some-Generate-default-default-false w ↦ absurd (script_not_ten _ (subst (λ (s : Status). IsScriptCode (status_code s)) (sym w.status-is) (generated_code _ _ _ _ _ w.make_script-status.ensures.ended)) at)
      | in-Some-Generate-default-default-true w ↦ absurd (script_not_ten _ (subst (λ (s : Status). IsScriptCode (status_code s)) (sym w.status-is) (made_code _ _ _ _ _ _ w.run_made-status.ensures.ended)) at)
      | in-Some-Serve w ↦ (w.in-Some-Serve.words, w.in-Some-Serve.is ∙ ap Some w.in-Some-Serve.field-0-is)
      | in-None w ↦ absurd (words_not_ten _ w.refuse_words-status.ensures.others (ap status_code (sym w.status-is) ∙ at))
    ]

pub returns-clause-of_internal : goal.returns-clause-of_internal
returns-clause-of_internal g c = λ e.
    let at : status_code c.match-asked.status ≡ 15 = sym c.code.ensures ∙ e in
    elim c.match-asked.branch [
      | in-Some-Script w ↦ inl (w.in-Some-Script.engine, w.in-Some-Script.is ∙ ap Some w.in-Some-Script.field-0-is)
      | in-Some-Statement w ↦ absurd (statement_not_fifteen _
          (subst (λ (s : Status). IsStatementCode (status_code s)) (sym w.status-is) (statement_code _ _ _ _ _ _ w.ask-status.ensures.ended)) at)
      | in-Some-Check w ↦ absurd (check_not_fifteen _ (subst (λ (s : Status). IsCheckCode (status_code s)) (sym w.status-is) w.tell-status.ensures.codes) at)
      | in-Some-Generate-default-default-false w ↦ absurd (generated_not_fifteen _ w.make_script-status.ensures.ended.known
          (ap status_code (sym w.status-is) ∙ at))
      | in-Some-Generate-default-default-true w ↦
          let test = w.in-Some-Generate-default-default-true.field-0-2-test in
          let runs = w.in-Some-Generate-default-default-true.field-0-2-is in
          let asked = w.in-Some-Generate-default-default-true.is ∙ ap Some w.in-Some-Generate-default-default-true.field-0-is in
          inr (inl (w.in-Some-Generate-default-default-true.number, w.in-Some-Generate-default-default-true.count, cc))
      | in-Some-Serve w ↦ inr (inr (w.in-Some-Serve.words, w.in-Some-Serve.is ∙ ap Some w.in-Some-Serve.field-0-is))
      | in-None w ↦ absurd (words_not_fifteen _ w.refuse_words-status.ensures.others (ap status_code (sym w.status-is) ∙ at))
    ]

pub returns-clause-broken : goal.returns-clause-broken
returns-clause-broken g c = λ is off. elim c.match-asked.branch [
  | in-Some-Script w ↦ (
    w.in-Some-Script.engine,
    w.in-Some-Script.is ∙ ap Some w.in-Some-Script.field-0-is,
    moved _ _ _ _ _ _ _ w.input-is w.output-is w.status-is c.code.ensures
        (λ input output code. BreaksOff w.in-Some-Script.engine (MayFollow (g.S.Source.left input)) (g.S.Source.left c.args.input.now)
        (g.S.Source.left input) (g.K.Sink.written c.args.output.now) (g.K.Sink.written output))
        (script_broken _ _ _ _ _ _ _ w.script-status.ensures.ended
        (subst (λ (s : Status). IsBrokenOff (status_code s)) w.status-is (subst IsBrokenOff c.code.ensures off))),
  )
  | in-Some-Statement w ↦ let bad : Some (asks.Statement w.in-Some-Statement.statement) ≡ Some (asks.Script is.0) = sym (w.in-Some-Statement.is ∙ ap Some w.in-Some-Statement.field-0-is) ∙ is.1 in absurd cc
  | in-Some-Check w ↦ let bad : Some asks.Check ≡ Some (asks.Script is.0) = sym (w.in-Some-Check.is ∙ ap Some w.in-Some-Check.field-0-is) ∙ is.1 in absurd cc
  | in-Some-Generate-default-default-false w ↦ let bad : Some (asks.Generate _ _ _) ≡ Some (asks.Script is.0) = sym (w.in-Some-Generate-default-default-false.is ∙ ap Some w.in-Some-Generate-default-default-false.field-0-is) ∙ is.1 in absurd cc
  | in-Some-Generate-default-default-true w ↦ let bad : Some (asks.Generate _ _ _) ≡ Some (asks.Script is.0) = sym (w.in-Some-Generate-default-default-true.is ∙ ap Some w.in-Some-Generate-default-default-true.field-0-is) ∙ is.1 in absurd cc
  | in-Some-Serve w ↦ let bad : Some (asks.Serve w.in-Some-Serve.words) ≡ Some (asks.Script is.0) = sym (w.in-Some-Serve.is ∙ ap Some w.in-Some-Serve.field-0-is) ∙ is.1 in absurd cc
  | in-None w ↦ let bad : None ≡ Some (asks.Script is.0) = sym w.in-None.is ∙ is.1 in absurd cc
]

pub returns-clause-serves : goal.returns-clause-serves
returns-clause-serves g c = λ served asked. elim c.match-asked.branch [
  | in-Some-Script w ↦ let bad : Some (asks.Script w.in-Some-Script.engine) ≡ Some (asks.Serve served) = sym (w.in-Some-Script.is ∙ ap Some w.in-Some-Script.field-0-is) ∙ asked in absurd cc
  | in-Some-Statement w ↦ let bad : Some (asks.Statement w.in-Some-Statement.statement) ≡ Some (asks.Serve served) = sym (w.in-Some-Statement.is ∙ ap Some w.in-Some-Statement.field-0-is) ∙ asked in absurd cc
  | in-Some-Check w ↦ let bad : Some asks.Check ≡ Some (asks.Serve served) = sym (w.in-Some-Check.is ∙ ap Some w.in-Some-Check.field-0-is) ∙ asked in absurd cc
  | in-Some-Generate-default-default-false w ↦ let bad : Some (asks.Generate _ _ _) ≡ Some (asks.Serve served) = sym (w.in-Some-Generate-default-default-false.is ∙ ap Some w.in-Some-Generate-default-default-false.field-0-is) ∙ asked in absurd cc
  | in-Some-Generate-default-default-true w ↦ let bad : Some (asks.Generate _ _ _) ≡ Some (asks.Serve served) = sym (w.in-Some-Generate-default-default-true.is ∙ ap Some w.in-Some-Generate-default-default-true.field-0-is) ∙ asked in absurd cc
  | in-Some-Serve w ↦ served_for _ _ _ _ w.in-Some-Serve.words _ _ _ _ _ _
      (moved _ _ _ _ _ _ _ w.disk-is w.network-is w.status-is c.code.ensures
      (λ disk network code. WasServed g.D.Disk.tells g.D.Disk.states g.D.Disk.faults g.H.Host.done w.in-Some-Serve.words c.args.network.now.host c.args.disk.now disk
      (record { left = g.H.Inbox.left c.args.network.now.host; count = g.H.Inbox.taken c.args.network.now.host })
      (record { left = g.H.Inbox.left network.host; count = g.H.Inbox.taken network.host }) code)
      w.serve_node-status.ensures.served)
      served (sym (w.in-Some-Serve.is ∙ ap Some w.in-Some-Serve.field-0-is) ∙ asked)
  | in-None w ↦ let bad : None ≡ Some (asks.Serve served) = sym w.in-None.is ∙ asked in absurd cc
]

pub returns-clause-serves_well : goal.returns-clause-serves_well
returns-clause-serves_well g c = λ is. elim c.match-asked.branch [
  | in-Some-Script w ↦ let bad : Some (asks.Script w.in-Some-Script.engine) ≡ Some (asks.Serve is.0) = sym (w.in-Some-Script.is ∙ ap Some w.in-Some-Script.field-0-is) ∙ is.1 in absurd cc
  | in-Some-Statement w ↦ let bad : Some (asks.Statement w.in-Some-Statement.statement) ≡ Some (asks.Serve is.0) = sym (w.in-Some-Statement.is ∙ ap Some w.in-Some-Statement.field-0-is) ∙ is.1 in absurd cc
  | in-Some-Check w ↦ let bad : Some asks.Check ≡ Some (asks.Serve is.0) = sym (w.in-Some-Check.is ∙ ap Some w.in-Some-Check.field-0-is) ∙ is.1 in absurd cc
  | in-Some-Generate-default-default-false w ↦ let bad : Some (asks.Generate _ _ _) ≡ Some (asks.Serve is.0) = sym (w.in-Some-Generate-default-default-false.is ∙ ap Some w.in-Some-Generate-default-default-false.field-0-is) ∙ is.1 in absurd cc
  | in-Some-Generate-default-default-true w ↦ let bad : Some (asks.Generate _ _ _) ≡ Some (asks.Serve is.0) = sym (w.in-Some-Generate-default-default-true.is ∙ ap Some w.in-Some-Generate-default-default-true.field-0-is) ∙ is.1 in absurd cc
  | in-Some-Serve w ↦ moved _ _ _ _ _ _ _ w.disk-is w.network-is w.status-is c.code.ensures
      (λ disk network code. GoesWell (g.D.Disk.states c.args.disk.now) (g.D.Disk.faults c.args.disk.now) (g.D.Disk.faults disk)
      (g.H.Inbox.faults c.args.network.now.host) (g.H.Inbox.faults network.host) → (code ≡ 10) ⊎ (code ≡ 7) ⊎ (code ≡ 15))
      w.serve_node-status.ensures.ends_well
  | in-None w ↦ let bad : None ≡ Some (asks.Serve is.0) = sym w.in-None.is ∙ is.1 in absurd cc
]

pub returns-clause-made : goal.returns-clause-made
returns-clause-made g c = λ number writes asked. elim c.match-asked.branch [
  | in-Some-Script w ↦ let bad : Some (asks.Script w.in-Some-Script.engine) ≡ Some (asks.Generate number writes true) = sym (w.in-Some-Script.is ∙ ap Some w.in-Some-Script.field-0-is) ∙ asked in absurd cc
  | in-Some-Statement w ↦ let bad : Some (asks.Statement w.in-Some-Statement.statement) ≡ Some (asks.Generate number writes true) = sym (w.in-Some-Statement.is ∙ ap Some w.in-Some-Statement.field-0-is) ∙ asked in absurd cc
  | in-Some-Check w ↦ let bad : Some asks.Check ≡ Some (asks.Generate number writes true) = sym (w.in-Some-Check.is ∙ ap Some w.in-Some-Check.field-0-is) ∙ asked in absurd cc
  | in-Some-Generate-default-default-false w ↦
      let test = w.in-Some-Generate-default-default-false.field-0-2-test in
      let runs = w.in-Some-Generate-default-default-false.field-0-2-is in
      let bad : Some (asks.Generate w.in-Some-Generate-default-default-false.number w.in-Some-Generate-default-default-false.count w.in-Some-Generate-default-default-false.field-0-2) ≡ Some (asks.Generate number writes true)
      = sym (w.in-Some-Generate-default-default-false.is ∙ ap Some w.in-Some-Generate-default-default-false.field-0-is) ∙ asked in
      absurd cc
  | in-Some-Generate-default-default-true w ↦ moved _ _ _ _ _ _ _ w.journal-is w.output-is w.status-is c.code.ensures
      (λ journal output code. RunEnds number writes journal (g.K.Sink.written c.args.output.now) (g.K.Sink.written output) code)
      (made_by _ _ _ _ _ _ _ w.run_made-status.ensures.ended number writes
      (sym (w.in-Some-Generate-default-default-true.is ∙ ap Some w.in-Some-Generate-default-default-true.field-0-is) ∙ asked))
  | in-Some-Serve w ↦ let bad : Some (asks.Serve w.in-Some-Serve.words) ≡ Some (asks.Generate number writes true) = sym (w.in-Some-Serve.is ∙ ap Some w.in-Some-Serve.field-0-is) ∙ asked in absurd cc
  | in-None w ↦ let bad : None ≡ Some (asks.Generate number writes true) = sym w.in-None.is ∙ asked in absurd cc
]

pub returns-clause-read_fault : goal.returns-clause-read_fault
returns-clause-read_fault g c = λ e.
    let at : status_code c.match-asked.status ≡ 3 = sym c.code.ensures ∙ e in
    elim c.match-asked.branch [
      | in-Some-Script w ↦ (
        (w.in-Some-Script.engine, w.in-Some-Script.is ∙ ap Some w.in-Some-Script.field-0-is),
        subst (λ input. Rose (g.S.Source.faults c.args.input.now) (g.S.Source.faults input)) (sym w.input-is) (w.script-status.ensures.read_fault (read_status _ (ap status_code (sym w.status-is) ∙ at))),
      )
      | in-Some-Statement w ↦ absurd (statement_not_three _ (subst (λ (s : Status). IsStatementCode (status_code s)) (sym w.status-is) (statement_code _ _ _ _ _ _ w.ask-status.ensures.ended)) at)
      | in-Some-Check w ↦ absurd (check_not_three _ (subst (λ (s : Status). IsCheckCode (status_code s)) (sym w.status-is) w.tell-status.ensures.codes) at)
      | in-Some-Generate-default-default-false w ↦ absurd (generated_not_three _ w.make_script-status.ensures.ended.known (ap status_code (sym w.status-is) ∙ at))
      | in-Some-Generate-default-default-true w ↦ absurd (made_not_three _ w.run_made-status.ensures.ended.known (ap status_code (sym w.status-is) ∙ at))
      | in-Some-Serve w ↦ absurd (serve_not_three _ w.serve_node-status.ensures.codes (ap status_code (sym w.status-is) ∙ at))
      | in-None w ↦ absurd (words_not_three _ w.refuse_words-status.ensures.others (ap status_code (sym w.status-is) ∙ at))
    ]

pub returns-clause-of_check : goal.returns-clause-of_check
returns-clause-of_check g c = λ e.
    let at : status_code c.match-asked.status ≡ 8 = sym c.code.ensures ∙ e in
    elim c.match-asked.branch [
      | in-Some-Script w ↦ absurd (script_not_eight _ (subst (λ (s : Status). IsScriptCode (status_code s)) (sym w.status-is) w.script-status.ensures.codes) at)
      | in-Some-Statement w ↦ absurd (statement_not_eight _ (subst (λ (s : Status). IsStatementCode (status_code s)) (sym w.status-is) (statement_code _ _ _ _ _ _ w.ask-status.ensures.ended)) at)
      | in-Some-Check w ↦ inl (w.in-Some-Check.is ∙ ap Some w.in-Some-Check.field-0-is)
      | in-Some-Generate-default-default-false w ↦ absurd (script_not_eight _ (subst (λ (s : Status). IsScriptCode (status_code s)) (sym w.status-is) (generated_code _ _ _ _ _ w.make_script-status.ensures.ended)) at)
      | in-Some-Generate-default-default-true w ↦ absurd (script_not_eight _ (subst (λ (s : Status). IsScriptCode (status_code s)) (sym w.status-is) (made_code _ _ _ _ _ _ w.run_made-status.ensures.ended)) at)
      | in-Some-Serve w ↦ inr (w.in-Some-Serve.words, w.in-Some-Serve.is ∙ ap Some w.in-Some-Serve.field-0-is)
      | in-None w ↦ absurd (words_not_eight _ w.refuse_words-status.ensures.others (ap status_code (sym w.status-is) ∙ at))
    ]

pub returns-clause-check : goal.returns-clause-check
returns-clause-check g c = λ asked. elim c.match-asked.branch [
  | in-Some-Script w ↦ let bad : Some (asks.Script w.in-Some-Script.engine) ≡ Some asks.Check = sym (w.in-Some-Script.is ∙ ap Some w.in-Some-Script.field-0-is) ∙ asked in absurd cc
  | in-Some-Statement w ↦ let bad : Some (asks.Statement w.in-Some-Statement.statement) ≡ Some asks.Check = sym (w.in-Some-Statement.is ∙ ap Some w.in-Some-Statement.field-0-is) ∙ asked in absurd cc
  | in-Some-Check w ↦ moved _ _ _ _ _ _ _ w.disk-is w.output-is w.status-is c.code.ensures
      (λ disk output code. CheckEnds (g.D.Disk.states c.args.disk.now) (g.D.Disk.states disk) (g.K.Sink.written c.args.output.now) (g.K.Sink.written output) code)
      w.tell-status.ensures.ended
  | in-Some-Generate-default-default-false w ↦ let bad : Some (asks.Generate _ _ _) ≡ Some asks.Check = sym (w.in-Some-Generate-default-default-false.is ∙ ap Some w.in-Some-Generate-default-default-false.field-0-is) ∙ asked in absurd cc
  | in-Some-Generate-default-default-true w ↦ let bad : Some (asks.Generate _ _ _) ≡ Some asks.Check = sym (w.in-Some-Generate-default-default-true.is ∙ ap Some w.in-Some-Generate-default-default-true.field-0-is) ∙ asked in absurd cc
  | in-Some-Serve w ↦ let bad : Some (asks.Serve w.in-Some-Serve.words) ≡ Some asks.Check = sym (w.in-Some-Serve.is ∙ ap Some w.in-Some-Serve.field-0-is) ∙ asked in absurd cc
  | in-None w ↦ let bad : None ≡ Some asks.Check = sym w.in-None.is ∙ asked in absurd cc
]
