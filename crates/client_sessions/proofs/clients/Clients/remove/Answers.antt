use Rattle.std.proofs.Common.{refl, sym, ◌∙◌}
use Rattle.client_sessions.proofs.Standing.{some_held, none_found, held_there, left_held, left_stand, hung_open, hung_closed, stream_held, same_entries, same_stand}
use Rattle.client_sessions.proofs.clients.Clients.remove.Goals as goal

pub on_hangup-requires-clause-there : goal.on_hangup-requires-clause-there
on_hangup-requires-clause-there c =
    let found = some_held c.remove-stream.result (sym c.is_some.ensures ∙ c.if-is_some.true) in
    (held_there c.args.self.now c.args.machine.now c.args.conn found.0 (sym c.remove-stream.ensures.value ∙ found.1) c.requires.stand).0

pub on_hangup-requires-clause-open : goal.on_hangup-requires-clause-open
on_hangup-requires-clause-open c =
    let found = some_held c.remove-stream.result (sym c.is_some.ensures ∙ c.if-is_some.true) in
    (held_there c.args.self.now c.args.machine.now c.args.conn found.0 (sym c.remove-stream.ensures.value ∙ found.1) c.requires.stand).1

pub returns-then-is_some-clause-left : goal.returns-then-is_some-clause-left
returns-then-is_some-clause-left c =
    let found = some_held c.remove-stream.result (sym c.is_some.ensures ∙ c.if-is_some.true) in
    let opens = sym c.remove-stream.ensures.value ∙ found.1 in
    left_held c.args.self.now _ c.args.machine.now c.on_hangup.new.machine c.args.conn c.on_hangup.ensures.left c.remove-stream.ensures.updates.0 refl
    ∙ sym (hung_open _ c.args.conn found.0 (stream_held c.args.self.now c.args.machine.now c.args.conn _ opens))

pub returns-then-is_some-clause-stands : goal.returns-then-is_some-clause-stands
returns-then-is_some-clause-stands c =
    let found = some_held c.remove-stream.result (sym c.is_some.ensures ∙ c.if-is_some.true) in
    let opens = sym c.remove-stream.ensures.value ∙ found.1 in
    left_stand c.args.self.now _ c.args.machine.now c.on_hangup.new.machine c.args.conn found.0 opens c.requires.stand
    (left_held c.args.self.now _ c.args.machine.now c.on_hangup.new.machine c.args.conn c.on_hangup.ensures.left c.remove-stream.ensures.updates.0 refl)
    c.on_hangup.ensures.pins_after

pub returns-else-is_some-clause-left : goal.returns-else-is_some-clause-left
returns-else-is_some-clause-left c =
    let none = sym c.remove-stream.ensures.value ∙ none_found c.remove-stream.result (sym c.is_some.ensures ∙ c.if-is_some.false) in
    same_entries c.args.self.now _ c.args.machine.now c.args.conn c.remove-stream.ensures.updates.0 none refl refl
    ∙ sym (hung_closed _ c.args.conn (stream_held c.args.self.now c.args.machine.now c.args.conn _ none))

pub returns-else-is_some-clause-stands : goal.returns-else-is_some-clause-stands
returns-else-is_some-clause-stands c =
    let none = sym c.remove-stream.ensures.value ∙ none_found c.remove-stream.result (sym c.is_some.ensures ∙ c.if-is_some.false) in
    same_stand c.args.self.now _ c.args.machine.now
    (same_entries c.args.self.now _ c.args.machine.now c.args.conn c.remove-stream.ensures.updates.0 none refl refl) c.requires.stand.pins c.requires.stand

pub returns-then-is_some-clause-found : goal.returns-then-is_some-clause-found
returns-then-is_some-clause-found c = sym (stream_held c.args.self.now c.args.machine.now c.args.conn _ (sym c.remove-stream.ensures.value))

pub returns-else-is_some-clause-found : goal.returns-else-is_some-clause-found
returns-else-is_some-clause-found c = sym (stream_held c.args.self.now c.args.machine.now c.args.conn _ (sym c.remove-stream.ensures.value))
