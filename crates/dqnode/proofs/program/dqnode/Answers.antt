use Rattle.std.proofs.Common.{inl, ap, ◌∙◌}
use Rattle.script_runner.proofs.Agreement.{keeps_alike}
use Rattle.script_determinism.proofs.Deciding.{cells_broken, cells_compare}
use Rattle.dqnode.specs.Status.{status_code}
use Rattle.dqnode.proofs.Deciding.{broken_scripts_decide, scripts_decide}
use Rattle.dqnode.proofs.Endings.{runs_are_safe}
use Rattle.dqnode.proofs.Shown.{script_shown, arguments_shown, statement_shown, check_shown, generate_shown, serve_shown, untouched_shown, status_shown}
use Rattle.dqnode.proofs.Unread.{unread_script, unread_arguments, unread_statement, unread_check, unread_generate, unread_serve, unread_untouched, unread_status}
use Rattle.dqnode.proofs.program.dqnode.Goals as goal

pub returns-in-Ok-clause-script : goal.returns-in-Ok-clause-script
returns-in-Ok-clause-script g c = script_shown _ _ c.in-Ok.ensures.asked _ _ _ _ _ _ (record {
  done = c.run.ensures.done;
  faulty = c.run.ensures.script;
  large = c.run.ensures.large;
  safe = c.run.ensures.safe;
  cut = c.run.ensures.cut;
  broken = c.run.ensures.broken;
})

pub returns-in-Ok-clause-arguments : goal.returns-in-Ok-clause-arguments
returns-in-Ok-clause-arguments g c = arguments_shown _ _ c.in-Ok.ensures.asked _ _ _ (record {
  told = c.run.ensures.words;
  only = c.run.ensures.only_words;
  broken = c.run.ensures.words_broken;
})

pub returns-in-Ok-clause-statement : goal.returns-in-Ok-clause-statement
returns-in-Ok-clause-statement g c = statement_shown _ _ c.in-Ok.ensures.asked _ _ _ _ _ (record {
  ended = c.run.ensures.statement;
  linked = c.run.ensures.linked;
  no_leader = c.run.ensures.no_leader;
  failed = c.run.ensures.dial_faults;
})

pub returns-in-Ok-clause-check : goal.returns-in-Ok-clause-check
returns-in-Ok-clause-check g c = check_shown _ _ c.in-Ok.ensures.asked _ _ _ _ _ _ (record {
  ended = c.run.ensures.check;
  unprinted = c.run.ensures.unprinted;
})

pub returns-in-Ok-clause-generate : goal.returns-in-Ok-clause-generate
returns-in-Ok-clause-generate g c = generate_shown _ _ c.in-Ok.ensures.asked _ _ _ _ (record {
  made = c.run.ensures.generated;
  run = c.run.ensures.made;
})

pub returns-in-Ok-clause-serve : goal.returns-in-Ok-clause-serve
returns-in-Ok-clause-serve g c = serve_shown _ _ c.in-Ok.ensures.asked _ _ _ _ _ _ _ (record {
  codes = c.run.ensures.serve_codes;
  serves = λ served is. inl (c.run.ensures.serves served is);
  spent = c.run.ensures.spent;
  well = c.run.ensures.serves_well;
})

pub returns-in-Ok-clause-untouched : goal.returns-in-Ok-clause-untouched
returns-in-Ok-clause-untouched g c = untouched_shown _ _ c.in-Ok.ensures.asked _ _ _ _ _ _ _ _ _ _ _ _ _ (record {
  input = c.run.ensures.words_input;
  noted = c.run.ensures.words_journal;
  dials = c.run.ensures.dialer;
  files = c.run.ensures.disk;
  serves = c.run.ensures.host;
})

pub returns-in-Ok-clause-status : goal.returns-in-Ok-clause-status
returns-in-Ok-clause-status g c = status_shown _ _ c.in-Ok.ensures.asked _ _ _ (record {
  known = c.run.ensures.known;
  of_script = c.run.ensures.faulty;
  of_statement = c.run.ensures.of_statement;
  of_files = c.run.ensures.of_check;
  of_spent = c.run.ensures.of_spent;
  of_internal = c.run.ensures.of_internal;
  read_fault = c.run.ensures.read_fault;
  write_fault = c.run.ensures.write_fault;
  disk_fault = c.run.ensures.disk_fault;
  host_fault = c.run.ensures.host_fault;
  inputs = c.run.ensures.input_count;
  outputs = c.run.ensures.output_count;
  disks = c.run.ensures.disk_count;
})

pub returns-in-Err-clause-script : goal.returns-in-Err-clause-script
returns-in-Err-clause-script g c = unread_script _ _ (c.code.ensures ∙ ap status_code c.give_up.ensures.status) _ _ _

pub returns-in-Err-clause-arguments : goal.returns-in-Err-clause-arguments
returns-in-Err-clause-arguments g c = unread_arguments _ _ (c.code.ensures ∙ ap status_code c.give_up.ensures.status) _

pub returns-in-Err-clause-statement : goal.returns-in-Err-clause-statement
returns-in-Err-clause-statement g c = unread_statement _ _ (c.code.ensures ∙ ap status_code c.give_up.ensures.status) _ _

pub returns-in-Err-clause-check : goal.returns-in-Err-clause-check
returns-in-Err-clause-check g c = unread_check _ _ (c.code.ensures ∙ ap status_code c.give_up.ensures.status) _ _ _

pub returns-in-Err-clause-generate : goal.returns-in-Err-clause-generate
returns-in-Err-clause-generate g c = unread_generate _ _ (c.code.ensures ∙ ap status_code c.give_up.ensures.status) _ _

pub returns-in-Err-clause-serve : goal.returns-in-Err-clause-serve
returns-in-Err-clause-serve g c = unread_serve _ _ (c.code.ensures ∙ ap status_code c.give_up.ensures.status) _ _ _ _

pub returns-in-Err-clause-untouched : goal.returns-in-Err-clause-untouched
returns-in-Err-clause-untouched g c = unread_untouched _ _ (c.code.ensures ∙ ap status_code c.give_up.ensures.status) _ _ _ _ _ _ _ c.give_up.ensures.journal

pub returns-in-Err-clause-status : goal.returns-in-Err-clause-status
returns-in-Err-clause-status g c = unread_status _ _ (c.code.ensures ∙ ap status_code c.give_up.ensures.status) _

pub returns-in-Ok-clause-always_safe : goal.returns-in-Ok-clause-always_safe
returns-in-Ok-clause-always_safe g c = runs_are_safe

pub returns-in-Err-clause-always_safe : goal.returns-in-Err-clause-always_safe
returns-in-Err-clause-always_safe g c = runs_are_safe

pub returns-in-Ok-clause-alike : goal.returns-in-Ok-clause-alike
returns-in-Ok-clause-alike g c = keeps_alike

pub returns-in-Err-clause-alike : goal.returns-in-Err-clause-alike
returns-in-Err-clause-alike g c = keeps_alike

pub returns-in-Ok-clause-determined : goal.returns-in-Ok-clause-determined
returns-in-Ok-clause-determined g c = scripts_decide cells_compare

pub returns-in-Err-clause-determined : goal.returns-in-Err-clause-determined
returns-in-Err-clause-determined g c = scripts_decide cells_compare

pub returns-in-Ok-clause-determined_front : goal.returns-in-Ok-clause-determined_front
returns-in-Ok-clause-determined_front g c = broken_scripts_decide cells_broken

pub returns-in-Err-clause-determined_front : goal.returns-in-Err-clause-determined_front
returns-in-Err-clause-determined_front g c = broken_scripts_decide cells_broken
