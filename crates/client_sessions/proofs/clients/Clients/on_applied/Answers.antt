use Rattle.std.proofs.Common.{refl, ap, ◌∙◌}
use Rattle.std.proofs.lemmas.Result.{IfOk-weaker}
use Rattle.client_sessions.specs.Calls.{sent}
use Rattle.client_sessions.proofs.Landing.{applied_can, applied_held, applied_told, applied_stand, failed_stand, on_ok}
use Rattle.client_sessions.proofs.clients.Clients.on_applied.Goals as goal

pub returns-in_err-told-clause-stands : goal.returns-in_err-told-clause-stands
returns-in_err-told-clause-stands c =
    failed_stand c.args.self.now _ c.args.machine.now c.on_applied.new.machine c.in_err-told.ensures.failed (λ q. refl) c.on_applied.ensures.pins_after c.requires.stand

pub returns-in_err-give_turns-clause-stands : goal.returns-in_err-give_turns-clause-stands
returns-in_err-give_turns-clause-stands c =
    applied_stand c.args.self.now _ c.args.machine.now c.on_applied.new.machine c.args.index c.in_ok-told.ensures.landed (λ q. refl) c.on_applied.ensures.pins_after c.requires.stand

pub messages_to-requires : goal.messages_to-requires
messages_to-requires c =
    applied_can c.args.self.now c.args.machine.now c.args.index _ c.requires.stand (c.as_slice-2.ensures.value ∙ c.in_ok-told.ensures.told)

pub returns-clause-landed : goal.returns-clause-landed
returns-clause-landed c =
    on_ok c.messages_to.result _
    (applied_held c.args.self.now _ c.args.machine.now c.on_applied.new.machine c.args.index c.as_slice.result.now c.in_ok-told.ensures.landed (c.as_slice.ensures.value ∙ c.in_ok-told.ensures.told) (λ q. refl) c.in_ok-give_turns.ensures)

pub returns-clause-told : goal.returns-clause-told
returns-clause-told c =
    IfOk-weaker c.messages_to.result _ _
    (λ told is. is ∙ ap sent (applied_told c.args.self.now c.args.machine.now c.args.index c.as_slice-2.result.now (c.as_slice-2.ensures.value ∙ c.in_ok-told.ensures.told))) c.messages_to.ensures

pub returns-clause-stands : goal.returns-clause-stands
returns-clause-stands c =
    applied_stand c.args.self.now _ c.args.machine.now c.on_applied.new.machine c.args.index c.in_ok-told.ensures.landed (λ q. refl) c.on_applied.ensures.pins_after c.requires.stand
