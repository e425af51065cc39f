use Rattle.std.proofs.Common.{◌≡◌, true, IsSome, sym, subst, ◌∙◌}
use Rattle.std.proofs.lemmas.Result.{IfOk-weaker, on_err_weaker}
use Rattle.session_spec.specs.Asking.{has_database}
use Rattle.session_spec.specs.Machine.{machine_of}
use Rattle.session_spec.specs.Sessions.{Gateway}
use Rattle.session_table.specs.Table.{table_of}
use Rattle.session_gateway.specs.Seen.{seen}
use Rattle.session_gateway.proofs.Holding.{marks_of, marks_held, seen_now}
use Rattle.session_gateway.proofs.Laters.{resumed_so}
use Rattle.session_gateway.proofs.Listing.{resumed_listed}
use Rattle.session_gateway.proofs.sessions.Gateway.on_later.Goals as goal

pub resume-requires-clause-marks : goal.resume-requires-clause-marks
resume-requires-clause-marks g c = marks_of c.self.inside.sessions.items c.self.inside.weight c.self.inside.next c.args.self.now c.args.machine.now c.self.view_is c.requires.pins

pub resume-requires-clause-opened : goal.resume-requires-clause-opened
resume-requires-clause-opened g c =
    subst (λ (h : Gateway). IsSome (h.session c.args.conn).later → has_database (h.session c.args.conn) ≡ true) (sym (seen_now c.self.inside.sessions.items c.self.inside.weight c.self.inside.next c.args.self.now c.args.machine.now c.self.view_is)) c.requires.opened

pub returns-clause-resumed : goal.returns-clause-resumed
unfolding seen
returns-clause-resumed g c =
    IfOk-weaker c.resume.result _ _
    (λ act h. resumed_so _ _ c.args.view.now (machine_of c.args.machine.now) (table_of c.args.machine.now c.self.inside.sessions.items c.self.inside.weight) (seen c.args.self.now c.args.machine.now) c.args.conn _ _ _ act (seen_now c.self.inside.sessions.items c.self.inside.weight c.self.inside.next c.args.self.now c.args.machine.now c.self.view_is) h)
    c.resume.ensures.resumed

pub returns-clause-pins_after : goal.returns-clause-pins_after
returns-clause-pins_after g c = marks_held c.resume.new.sessions.items c.resume.new.weight c.draw.new.next c.resume.new.machine c.resume.ensures.marks_after

pub returns-clause-failed : goal.returns-clause-failed
unfolding seen
returns-clause-failed g c = on_err_weaker c.resume.result (λ e. e ∙ seen_now c.self.inside.sessions.items c.self.inside.weight c.self.inside.next c.args.self.now c.args.machine.now c.self.view_is) c.resume.ensures.failed

pub returns-clause-lists : goal.returns-clause-lists
unfolding seen
returns-clause-lists g c =
    let same = seen_now c.self.inside.sessions.items c.self.inside.weight c.self.inside.next c.args.self.now c.args.machine.now c.self.view_is in
    resumed_listed _ _ c.args.view.now (machine_of c.args.machine.now) (seen c.args.self.now c.args.machine.now) c.args.conn _ _ (table_of c.resume.new.machine c.resume.new.sessions.items c.resume.new.weight) _ c.resume.result
    (IfOk-weaker c.resume.result _ _ (λ act h. resumed_so _ _ c.args.view.now (machine_of c.args.machine.now) (table_of c.args.machine.now c.self.inside.sessions.items c.self.inside.weight) (seen c.args.self.now c.args.machine.now) c.args.conn _ _ _ act same h) c.resume.ensures.resumed)
    (on_err_weaker c.resume.result (λ e. e ∙ same) c.resume.ensures.failed)
