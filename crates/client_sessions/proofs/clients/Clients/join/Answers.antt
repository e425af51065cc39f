use Rattle.std.proofs.Common.{rules, ◌≡◌, true, false, refl}
use Rattle.session_spec.specs.Events.{connects}
use Rattle.session_gateway.specs.Seen.{seen}
use Rattle.client_sessions.specs.declared.clients.Clients.{Clients as Held}
use Rattle.client_sessions.proofs.Connecting.{told_held, joined_held, refused_sessions, refused_held}
use Rattle.client_sessions.proofs.Standing.{entries_alike, on_err}
use Rattle.client_sessions.proofs.clients.Clients.join.Goals as goal

pub returns-in_err-insert-clause-failed : goal.returns-in_err-insert-clause-failed
returns-in_err-insert-clause-failed c =
    on_err c.from_residual.result _ (λ databases. entries_alike c.args.self.now _ databases databases refl c.in_err-insert.ensures.err refl)

pub returns-in-Ok-true-clause-told : goal.returns-in-Ok-true-clause-told
returns-in-Ok-true-clause-told c = λ databases.
    let is : true ≡ connects (seen c.args.self.now.gateway databases) c.args.conn = search (rules, c.in-Ok-true.ensures.told databases) in
    told_held c.args.self.now databases c.args.conn true is

pub returns-in-Ok-true-clause-joined : goal.returns-in-Ok-true-clause-joined
returns-in-Ok-true-clause-joined c = λ databases.
    let is : true ≡ connects (seen c.args.self.now.gateway databases) c.args.conn = search (rules, c.in-Ok-true.ensures.told databases) in
    let now : Held = record { alloc = c.args.self.now.alloc; gateway = c.connect.new.self; connections = c.insert.new.self; turns = c.args.self.now.turns } in
    joined_held c.args.self.now now databases c.args.conn c.new.result c.new.ensures is (c.in-Ok-true.ensures.connected databases) c.in_ok-insert.ensures.updates.0 refl

pub returns-in-Ok-false-clause-told : goal.returns-in-Ok-false-clause-told
returns-in-Ok-false-clause-told c = λ databases.
    let is : false ≡ connects (seen c.args.self.now.gateway databases) c.args.conn = search (rules, c.in-Ok-false.ensures.told databases) in
    told_held c.args.self.now databases c.args.conn false is

pub returns-in-Ok-false-clause-joined : goal.returns-in-Ok-false-clause-joined
returns-in-Ok-false-clause-joined c = λ databases.
    let is : false ≡ connects (seen c.args.self.now.gateway databases) c.args.conn = search (rules, c.in-Ok-false.ensures.told databases) in
    let now : Held = record { alloc = c.args.self.now.alloc; gateway = c.connect.new.self; connections = c.remove.new.self; turns = c.args.self.now.turns } in
    refused_held c.args.self.now now c.insert.new.self databases c.args.conn c.new.result c.requires
    (refused_sessions c.args.self.now now databases c.args.conn is (c.in-Ok-false.ensures.connected databases)) c.in_ok-insert.ensures.updates.0 c.remove.ensures.updates.0 refl

pub returns-in-Err-clause-failed : goal.returns-in-Err-clause-failed
returns-in-Err-clause-failed c = λ databases.
    let now : Held = record { alloc = c.args.self.now.alloc; gateway = c.connect.new.self; connections = c.remove-in-Err.new.self; turns = c.args.self.now.turns } in
    refused_held c.args.self.now now c.insert.new.self databases c.args.conn c.new.result c.requires (c.in-Err.ensures.failed databases) c.in_ok-insert.ensures.updates.0 c.remove-in-Err.ensures.updates.0 refl
