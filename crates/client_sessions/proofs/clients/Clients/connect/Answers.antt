use Rattle.std.proofs.Common.{sym}
use Rattle.client_sessions.specs.Seen.{clients_of}
use Rattle.client_sessions.proofs.Connecting.{was_taken, taken_stays, was_joined, was_full, joined_so, full_so, joined_stand}
use Rattle.client_sessions.proofs.clients.Clients.connect.Goals as goal

pub returns-then-is_taken-clause-joined : goal.returns-then-is_taken-clause-joined
returns-then-is_taken-clause-joined c = λ databases stand.
    let k = clients_of c.args.self.now databases in
    taken_stays k c.args.conn (was_taken k c.args.conn c.is_taken.result (c.is_taken.ensures.there databases stand) c.if-is_taken.true)

pub returns-then-is_taken-clause-told : goal.returns-then-is_taken-clause-told
returns-then-is_taken-clause-told c = λ databases stand.
    sym (was_taken (clients_of c.args.self.now databases) c.args.conn c.is_taken.result (c.is_taken.ensures.there databases stand) c.if-is_taken.true)

pub returns-then-branch-clause-joined : goal.returns-then-branch-clause-joined
returns-then-branch-clause-joined c = λ databases stand.
    let k = clients_of c.args.self.now databases in
    joined_so k (clients_of c.join.new.self databases) c.args.conn c.in_ok-join.field-0 (c.in_ok-join.ensures.joined databases) c.if-branch.true
    (was_joined k c.args.conn c.is_taken.result c.in_ok-join.field-0 (c.is_taken.ensures.there databases stand) c.if-is_taken.false (c.in_ok-join.ensures.told databases) c.if-branch.true)

pub returns-then-branch-clause-told : goal.returns-then-branch-clause-told
returns-then-branch-clause-told c = λ databases stand.
    sym (was_joined (clients_of c.args.self.now databases) c.args.conn c.is_taken.result c.in_ok-join.field-0 (c.is_taken.ensures.there databases stand) c.if-is_taken.false (c.in_ok-join.ensures.told databases) c.if-branch.true)

pub returns-then-branch-clause-stand : goal.returns-then-branch-clause-stand
returns-then-branch-clause-stand c = λ databases stand.
    let k = clients_of c.args.self.now databases in
    joined_stand c.args.self.now c.join.new.self databases c.args.conn
    (joined_so k (clients_of c.join.new.self databases) c.args.conn c.in_ok-join.field-0 (c.in_ok-join.ensures.joined databases) c.if-branch.true
    (was_joined k c.args.conn c.is_taken.result c.in_ok-join.field-0 (c.is_taken.ensures.there databases stand) c.if-is_taken.false (c.in_ok-join.ensures.told databases) c.if-branch.true))
    c.join.ensures.pins stand

pub returns-else-branch-clause-joined : goal.returns-else-branch-clause-joined
returns-else-branch-clause-joined c = λ databases stand.
    let k = clients_of c.args.self.now databases in
    full_so k (clients_of c.join.new.self databases) c.args.conn c.in_ok-join.field-0 (c.in_ok-join.ensures.joined databases) c.if-branch.false
    (was_full k c.args.conn c.is_taken.result c.in_ok-join.field-0 (c.is_taken.ensures.there databases stand) c.if-is_taken.false (c.in_ok-join.ensures.told databases) c.if-branch.false)

pub returns-else-branch-clause-told : goal.returns-else-branch-clause-told
returns-else-branch-clause-told c = λ databases stand.
    sym (was_full (clients_of c.args.self.now databases) c.args.conn c.is_taken.result c.in_ok-join.field-0 (c.is_taken.ensures.there databases stand) c.if-is_taken.false (c.in_ok-join.ensures.told databases) c.if-branch.false)
