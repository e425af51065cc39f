use Rattle.std.proofs.Common.{◌≡◌, ℕ, false, Ok, Err, map, sym, ap, subst, ◌∙◌}
use Rattle.dq_base.specs.Images.{page_count}
use Rattle.log_commands.specs.Splitting.{split}
use Rattle.session_spec.specs.Entries.{Does, written}
use Rattle.session_spec.specs.Sessions.{View}
use Rattle.session_spec.specs.Limits.{log_full, change_refusal}
use Rattle.session_spec.specs.Machine.{machine_of}
use Rattle.session_spec.specs.Requests.{row_cause, change_of}
use Rattle.session_table.specs.Table.{table_of}
use Rattle.session_statements.specs.Running.{change_in}
use Rattle.session_outcomes.specs.Hindered.{Hinders}
use Rattle.session_outcomes.specs.Runs.{AreTaken}
use Rattle.session_outcomes.proofs.Turned.{behind_log, goes_on, proposes}
use Rattle.session_outcomes.proofs.outside.write.Goals as goal

pub returns-in-Err : goal.returns-in-Err
returns-in-Err c = λ weight s note to leads number.
    let pages = (change_in c.args.ran).pages in
    let newest = ((machine_of c.args.setting.now.machine.now).base c.args.name.now).newest in
    let found : Hinders pages to (change_refusal (machine_of c.args.setting.now.machine.now) (table_of c.args.setting.now.machine.now c.args.sessions.now weight) c.args.conn c.args.name.now newest pages to) (Err c.in-Err.cause) =
    subst (λ (mark : ℕ). Hinders pages to (change_refusal (machine_of c.args.setting.now.machine.now) (table_of c.args.setting.now.machine.now c.args.sessions.now weight) c.args.conn c.args.name.now mark pages to) (Err c.in-Err.cause)) c.newest_of-mark.ensures
    (subst (Hinders pages to (change_refusal (machine_of c.args.setting.now.machine.now) (table_of c.args.setting.now.machine.now c.args.sessions.now weight) c.args.conn c.args.name.now c.newest_of-mark.result pages to)) c.in-Err.is (c.in_ok-hindered.ensures.hinders weight to leads)) in
    behind_log c.args.setting.now.view.now (machine_of c.args.setting.now.machine.now) s c.refused.result (log_full c.args.setting.now.view.now) (row_cause c.args.rows c.args.ran.answer (change_refusal (machine_of c.args.setting.now.machine.now) (table_of c.args.setting.now.machine.now c.args.sessions.now weight) c.args.conn c.args.name.now newest pages to))
    (proposes c.args.setting.now.view.now (machine_of c.args.setting.now.machine.now) s c.refused.result c.args.name.now c.args.rows c.args.ran.answer note (change_of c.args.setting.now.view.now c.args.name.now pages) (page_count to))
    (sym c.log_full.ensures ∙ c.if-log_full.false)
    (c.refused.ensures.comes (change_refusal (machine_of c.args.setting.now.machine.now) (table_of c.args.setting.now.machine.now c.args.sessions.now weight) c.args.conn c.args.name.now newest pages to) found c.args.setting.now.view.now (machine_of c.args.setting.now.machine.now) s _)

pub entries_of-requires : goal.entries_of-requires
entries_of-requires c = subst (AreTaken (change_in c.args.ran).pages) c.in-Ok.is c.in_ok-hindered.ensures.taken

pub returns : goal.returns
returns c = λ weight s note to leads number.
    let pages = (change_in c.args.ran).pages in
    let newest = ((machine_of c.args.setting.now.machine.now).base c.args.name.now).newest in
    let found : Hinders pages to (change_refusal (machine_of c.args.setting.now.machine.now) (table_of c.args.setting.now.machine.now c.args.sessions.now weight) c.args.conn c.args.name.now newest pages to) (Ok c.in-Ok.count) =
    subst (λ (mark : ℕ). Hinders pages to (change_refusal (machine_of c.args.setting.now.machine.now) (table_of c.args.setting.now.machine.now c.args.sessions.now weight) c.args.conn c.args.name.now mark pages to) (Ok c.in-Ok.count)) c.newest_of-mark.ensures
    (subst (Hinders pages to (change_refusal (machine_of c.args.setting.now.machine.now) (table_of c.args.setting.now.machine.now c.args.sessions.now weight) c.args.conn c.args.name.now c.newest_of-mark.result pages to)) c.in-Ok.is (c.in_ok-hindered.ensures.hinders weight to leads)) in
    let not_full : log_full c.args.setting.now.view.now ≡ false = sym c.log_full.ensures ∙ c.if-log_full.false in
    goes_on c.args.setting.now.view.now (machine_of c.args.setting.now.machine.now) s c.proposed.result c.args.name.now c.args.rows c.args.ran.answer note (log_full c.args.setting.now.view.now) (change_refusal (machine_of c.args.setting.now.machine.now) (table_of c.args.setting.now.machine.now c.args.sessions.now weight) c.args.conn c.args.name.now newest pages to) (change_in c.args.ran) c.in-Ok.count to
    not_full found.0 found.1 (number not_full)
    (c.proposed.ensures (machine_of c.args.setting.now.machine.now) s note (map Does (split c.args.name.now (change_in c.args.ran))) (c.in_ok-entries-in-Ok.ensures.entries ∙ ap (λ (v : View). written v.term (map Does (split c.args.name.now (change_in c.args.ran)))) c.view.view_is) c.in_ok-entries-in-Ok.ensures.spelled)
