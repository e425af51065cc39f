use Rattle.std.proofs.Common.{◌≡◌, true, refl, sym, subst, ◌∙◌}
use Rattle.std.proofs.lemmas.Result.{IfOk-weaker, on_err_weaker}
use Rattle.session_spec.specs.Sessions.{Gateway}
use Rattle.session_spec.specs.Machine.{machine_of}
use Rattle.session_spec.specs.Touched.{IsListed}
use Rattle.session_table.specs.Table.{table_of}
use Rattle.session_gateway.specs.Seen.{seen}
use Rattle.session_gateway.proofs.Decided.{its_address, its_name, there_if, turned_so}
use Rattle.session_gateway.proofs.Holding.{marks_of, marks_held, seen_now}
use Rattle.session_gateway.proofs.Listing.{turned_listed}
use Rattle.session_gateway.proofs.sessions.Gateway.on_request.Goals as goal

pub handle-requires-clause-marks : goal.handle-requires-clause-marks
handle-requires-clause-marks g c = marks_of c.self.inside.sessions.items c.self.inside.weight c.self.inside.next c.args.self.now c.args.machine.now c.self.view_is c.requires.pins

pub handle-requires-clause-listed : goal.handle-requires-clause-listed
handle-requires-clause-listed g c =
    subst (λ (h : Gateway). IsListed (h.session c.args.conn).tx) (sym (seen_now c.self.inside.sessions.items c.self.inside.weight c.self.inside.next c.args.self.now c.args.machine.now c.self.view_is)) c.requires.listed

pub handle-requires-clause-there : goal.handle-requires-clause-there
handle-requires-clause-there g c =
    subst (λ (h : Gateway). (h.session c.args.conn).there ≡ true) (sym (seen_now c.self.inside.sessions.items c.self.inside.weight c.self.inside.next c.args.self.now c.args.machine.now c.self.view_is)) (there_if ((seen c.args.self.now c.args.machine.now).session c.args.conn) c.requires.ready)

pub handle-requires-clause-name : goal.handle-requires-clause-name
handle-requires-clause-name g c = its_name c.args.request c.requires.text

pub returns-clause-turned : goal.returns-clause-turned
unfolding seen
returns-clause-turned g c =
    IfOk-weaker c.handle.result _ _
    (λ act h. turned_so _ _ c.args.view.now (machine_of c.args.machine.now) (table_of c.args.machine.now c.self.inside.sessions.items c.self.inside.weight) (seen c.args.self.now c.args.machine.now) c.args.conn c.args.request _ _ _ _ act (seen_now c.self.inside.sessions.items c.self.inside.weight c.self.inside.next c.args.self.now c.args.machine.now c.self.view_is) refl h)
    c.handle.ensures.turned

pub returns-clause-pins_after : goal.returns-clause-pins_after
returns-clause-pins_after g c = marks_held c.handle.new.sessions.items c.handle.new.weight c.draw.new.next c.handle.new.machine c.handle.ensures.marks_after

pub returns-clause-failed : goal.returns-clause-failed
unfolding seen
returns-clause-failed g c =
    on_err_weaker c.handle.result (λ e. e ∙ seen_now c.self.inside.sessions.items c.self.inside.weight c.self.inside.next c.args.self.now c.args.machine.now c.self.view_is) c.handle.ensures.failed

pub handle-requires-clause-address : goal.handle-requires-clause-address
handle-requires-clause-address g c = its_address c.args.request c.requires.text

pub returns-clause-lists : goal.returns-clause-lists
unfolding seen
returns-clause-lists g c =
    let same = seen_now c.self.inside.sessions.items c.self.inside.weight c.self.inside.next c.args.self.now c.args.machine.now c.self.view_is in
    turned_listed _ _ c.args.view.now (machine_of c.args.machine.now) (seen c.args.self.now c.args.machine.now) c.args.conn _ _ (table_of c.handle.new.machine c.handle.new.sessions.items c.handle.new.weight) c.args.request c.handle.result
    (IfOk-weaker c.handle.result _ _ (λ act h. turned_so _ _ c.args.view.now (machine_of c.args.machine.now) (table_of c.args.machine.now c.self.inside.sessions.items c.self.inside.weight) (seen c.args.self.now c.args.machine.now) c.args.conn c.args.request _ _ _ _ act same refl h) c.handle.ensures.turned)
    (on_err_weaker c.handle.result (λ e. e ∙ same) c.handle.ensures.failed)
