use Rattle.node_core.proofs.CoreEntries.{duty_none, duty_serves, duty_gives, tail_is}
use Rattle.std.proofs.Common.{Some, sym, ap, ◌∙◌}
use Rattle.applied_state.specs.Office.{serves}
use Rattle.session_spec.specs.Seen.{log_seen}
use Rattle.applied_state.specs.declared.leadership.Leadership.{Leadership}
use Rattle.node_core.specs.declared.running.Running.{Running}
use Rattle.node_core.proofs.Duties.{duty_owed}
use Rattle.node_core.proofs.Looping.{on_ok_then}
use Rattle.node_core.proofs.running.Running.do_duties.Goals as goal

pub returns-clause-duties : goal.returns-clause-duties
returns-clause-duties c =
    let old : Running = c.args.self.now in
    let mid : Running = record old { office = Some c.on_applied.new.self } in
    on_ok_then c.give.result
    (λ due. duty_owed old c.in-Some.office c.in-Some.is c.requires.going c.requires.led c.args.effect.now (log_seen c.tail-waiting.result.now) c.in_ok-entries.entries mid c.give.new.self c.databases_stand.ensures
    (ap (λ (o : Leadership). record old { office = Some o }) c.in_ok-entries.ensures.office) c.in_ok-entries.ensures.owed c.in_ok-entries.ensures.spelled due c.give.ensures.is)
    c.give.ensures.due

pub returns-in_default-clause-exact : goal.returns-in_default-clause-exact
returns-in_default-clause-exact c = duty_none c.args.self.now c.args.effect.now c.in_default.is

pub returns-then-is_empty-clause-exact : goal.returns-then-is_empty-clause-exact
returns-then-is_empty-clause-exact c =
    let old : Running = c.args.self.now in
    let mid : Running = record old { office = Some c.on_applied.new.self } in
    duty_serves old mid c.begin_service.new.self c.in-Some.office c.args.effect.now c.tail-waiting.result.now c.in_ok-entries.entries c.in-Some.is
    (tail_is c.tail-waiting.result.now _ old.applied.index c.in_ok-next.next c.tail-waiting.ensures c.in_ok-next.ensures)
    (ap (λ (o : Leadership). record old { office = Some o }) c.in_ok-entries.ensures.office) c.in_ok-entries.ensures.owed
    c.serves-serves.result (sym c.is_empty.ensures ∙ c.if-is_empty.true) (c.serves-serves.ensures ∙ ap (λ (o : Leadership). serves o.phase) c.in_ok-entries.ensures.office) c.begin_service.ensures.exact

pub returns-clause-exact : goal.returns-clause-exact
returns-clause-exact c =
    let old : Running = c.args.self.now in
    let mid : Running = record old { office = Some c.on_applied.new.self } in
    on_ok_then c.give.result
    (λ gives. duty_gives old mid c.give.new.self c.in-Some.office c.args.effect.now c.tail-waiting.result.now c.in_ok-entries.entries c.in-Some.is
    (tail_is c.tail-waiting.result.now _ old.applied.index c.in_ok-next.next c.tail-waiting.ensures c.in_ok-next.ensures)
    (ap (λ (o : Leadership). record old { office = Some o }) c.in_ok-entries.ensures.office) c.in_ok-entries.ensures.owed
    (sym c.is_empty.ensures ∙ c.if-is_empty.false) gives)
    c.give.ensures.exact
