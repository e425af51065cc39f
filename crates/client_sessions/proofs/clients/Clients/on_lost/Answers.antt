use Rattle.std.proofs.Common.{refl, ap, ◌∙◌}
use Rattle.std.proofs.lemmas.Result.{IfOk-weaker}
use Rattle.client_sessions.specs.Calls.{sent}
use Rattle.client_sessions.specs.Seen.{clients_of}
use Rattle.client_sessions.proofs.Moving.{lost_ended}
use Rattle.client_sessions.proofs.Landing.{lost_can, lost_held, lost_told, lost_stand, failed_stand, unmarked, on_ok}
use Rattle.client_sessions.proofs.clients.Clients.on_lost.Goals as goal

pub returns-in_err-told-clause-stands : goal.returns-in_err-told-clause-stands
returns-in_err-told-clause-stands c =
    failed_stand c.args.self.now _ c.args.machine.now c.on_lost.new.machine c.in_err-told.ensures.failed (λ q. refl) c.on_lost.ensures.pins_after c.requires.stand

pub returns-in_err-give_turns-clause-stands : goal.returns-in_err-give_turns-clause-stands
returns-in_err-give_turns-clause-stands c =
    lost_stand c.args.self.now _ c.args.machine.now c.on_lost.new.machine c.in_ok-told.ensures.lost (λ q. refl) c.on_lost.ensures.pins_after c.requires.stand

pub messages_to-requires : goal.messages_to-requires
messages_to-requires c =
    lost_can c.args.self.now c.args.machine.now _ c.requires.stand (c.as_slice-2.ensures.value ∙ c.in_ok-told.ensures.told)

pub returns-clause-lost : goal.returns-clause-lost
returns-clause-lost c =
    on_ok c.messages_to.result _
    (lost_held c.args.self.now _ c.args.machine.now c.on_lost.new.machine c.as_slice.result.now c.in_ok-told.ensures.lost (c.as_slice.ensures.value ∙ c.in_ok-told.ensures.told) (λ q. refl) c.in_ok-give_turns.ensures)

pub returns-clause-told : goal.returns-clause-told
returns-clause-told c =
    IfOk-weaker c.messages_to.result _ _
    (λ told is. is ∙ ap sent (lost_told c.args.self.now c.args.machine.now c.as_slice-2.result.now (c.as_slice-2.ensures.value ∙ c.in_ok-told.ensures.told))) c.messages_to.ensures

pub returns-clause-stands : goal.returns-clause-stands
returns-clause-stands c =
    lost_stand c.args.self.now _ c.args.machine.now c.on_lost.new.machine c.in_ok-told.ensures.lost (λ q. refl) c.on_lost.ensures.pins_after c.requires.stand

pub returns-clause-unmarked : goal.returns-clause-unmarked
returns-clause-unmarked c = on_ok c.messages_to.result _ (unmarked _ c.on_lost.new.machine c.in_ok-told.ensures.unmarked c.on_lost.ensures.pins_after)

pub returns-clause-ended : goal.returns-clause-ended
returns-clause-ended c =
    on_ok c.messages_to.result _ (lost_ended (clients_of c.args.self.now c.args.machine.now) _ _
    (lost_held c.args.self.now _ c.args.machine.now c.on_lost.new.machine c.as_slice.result.now c.in_ok-told.ensures.lost (c.as_slice.ensures.value ∙ c.in_ok-told.ensures.told) (λ q. refl) c.in_ok-give_turns.ensures))
