use Rattle.std.proofs.Common.{◌≡◌, Err, ap, sym, ◌∙◌}
use Rattle.script_grammar.specs.declared.faults.EventFault.{EventFault}
use Rattle.script_grammar.specs.declared.faults.EventFault.TheVariants as faults
use Rattle.script_machines.specs.Machines.{fleet_of}
use Rattle.script_runner.specs.Scenes.{said_in}
use Rattle.script_runner.proofs.Scening.{event_counted, event_uncounted, event_failed}
use Rattle.script_runner.proofs.script_mode.happen_at_machines.Goals as goal

pub returns-in-Some : goal.returns-in-Some
returns-in-Some g c = λ line aim.
    event_counted g.P.NodePlace.knows line c.args.usage.now (fleet_of c.args.machines.now) c.args.event aim c.in-Some.more (fleet_of c.take.new.self) c.in-Ok.told.items c.in-Ok.ensures.ok (sym c.with_event.ensures ∙ c.in-Some.is)

pub returns-in-None : goal.returns-in-None
returns-in-None g c = λ line aim.
    event_uncounted g.P.NodePlace.knows line c.args.usage.now (fleet_of c.args.machines.now) c.args.event aim c.args.usage.now (fleet_of c.take.new.self) c.in-Ok.told.items (said_in c.args.said.now) c.requires c.in-Ok.ensures.ok (sym c.with_event.ensures ∙ c.in-None.is)

pub returns-in-Err : goal.returns-in-Err
returns-in-Err g c = λ line aim.
    event_failed g.P.NodePlace.knows line c.args.usage.now (fleet_of c.args.machines.now) c.args.event aim c.in-Err.fault c.args.usage.now (fleet_of c.take.new.self) (said_in c.args.said.now) c.requires
    (λ (e : c.in-Err.fault ≡ faults.NotThere). c.in-Err.ensures.fault (ap (λ (f : EventFault). Err f) e)) (λ (e : c.in-Err.fault ≡ faults.TooMany). c.in-Err.ensures.few (ap (λ (f : EventFault). Err f) e))
