use Rattle.node_core.proofs.ConnStreams.{conns_both, kept_on}
use Rattle.node_core.proofs.Carried.{kept_moves}
use Rattle.std.proofs.Common.{[], Option, sym, ap, subst, ◌∙◌}
use Rattle.sql_engine.specs.Meanings.{Told}
use Rattle.raft_membership.specs.Members.{read_setup}
use Rattle.raft_on_disk.specs.Replicas.{ReplicaValue, IsKept}
use Rattle.node_spec.specs.Accounts.{MayEnd}
use Rattle.node_core.specs.declared.running.Running.{Running}
use Rattle.node_core.specs.Account.{moment_of, AtRest, Underway, AccountsForStop}
use Rattle.raft_spec.specs.Node.{Local, Snapped}
use Rattle.node_core.proofs.Besides.{may_plain}
use Rattle.node_core.proofs.Causes.{always_ok}
use Rattle.node_core.proofs.Led.{led_closes}
use Rattle.node_core.proofs.Looping.{on_ok_then, further_at, letter_at, closed_at, compacts, ends_closed, ends_behind}
use Rattle.node_core.proofs.Finding.{more, kept_finds}
use Rattle.node_core.specs.Finding.{StopsCompacting, StopsLetter}
use Rattle.node_core.proofs.StopsOfStep.{always_err, stopped_here, stopped_compacting, stopped_letter}
use Rattle.std.proofs.Common.{true≢false}
use Rattle.node_core.specs.Core.{core_of}
use Rattle.node_core.proofs.ExactTurns.{linked_core, query_turn, no_query, message_turn, no_offer, compact_turn, uncompacted, still_unlinked, letter_turn, heard_turn}
use Rattle.node_core.proofs.running.Running.attend.Goals as goal

pub returns-then-branch-2-clause-conns : goal.returns-then-branch-2-clause-conns
returns-then-branch-2-clause-conns g c = conns_both c.args.self.now c.run_due.new.self c.take_message.new.self (kept_on c.args.self.now c.run_due.new.self c.in_ok-run_due.ensures.conns) c.in_ok-take_message.ensures.conns

pub returns-then-branch-3-clause-conns : goal.returns-then-branch-3-clause-conns
returns-then-branch-3-clause-conns g c =
    conns_both c.args.self.now c.take_message.new.self c.compact.new.self
    (conns_both c.args.self.now c.run_due.new.self c.take_message.new.self (kept_on c.args.self.now c.run_due.new.self c.in_ok-run_due.ensures.conns) c.in_ok-take_message.ensures.conns)
    (kept_on c.take_message.new.self c.compact.new.self c.in_ok-compact.ensures.conns)

pub returns-then-branch-4-clause-conns : goal.returns-then-branch-4-clause-conns
returns-then-branch-4-clause-conns g c =
    conns_both c.args.self.now c.compact.new.self c.take_letter.new.self
    (conns_both c.args.self.now c.take_message.new.self c.compact.new.self
    (conns_both c.args.self.now c.run_due.new.self c.take_message.new.self (kept_on c.args.self.now c.run_due.new.self c.in_ok-run_due.ensures.conns) c.in_ok-take_message.ensures.conns)
    (kept_on c.take_message.new.self c.compact.new.self c.in_ok-compact.ensures.conns))
    c.in_ok-take_letter.ensures.conns

pub returns-clause-conns : goal.returns-clause-conns
returns-clause-conns g c =
    on_ok_then c.close_heard.result
    (conns_both c.args.self.now c.take_letter.new.self c.close_heard.new.self
    (conns_both c.args.self.now c.compact.new.self c.take_letter.new.self
    (conns_both c.args.self.now c.take_message.new.self c.compact.new.self
    (conns_both c.args.self.now c.run_due.new.self c.take_message.new.self (kept_on c.args.self.now c.run_due.new.self c.in_ok-run_due.ensures.conns) c.in_ok-take_message.ensures.conns)
    (kept_on c.take_message.new.self c.compact.new.self c.in_ok-compact.ensures.conns))
    c.in_ok-take_letter.ensures.conns))
    c.close_heard.ensures.conns

pub returns-then-branch-clause-stored : goal.returns-then-branch-clause-stored
returns-then-branch-clause-stored g c = λ has. subst (λ (r : ReplicaValue). IsKept g.D.Disk.tells (g.D.Disk.states c.args.disk.now) r) (sym c.run_due.ensures.replica) has

pub returns-then-branch-clause-on : goal.returns-then-branch-clause-on
returns-then-branch-clause-on g c = λ opening start event told u.
    let kind = g.E.Engine.kind c.args.engine.now in
    further_at g.E.Engine.meaning (read_setup opening) start event told kind kind c.args.self.now c.run_due.new.self (λ i. kind) u (kept_moves c.args.self.now c.run_due.new.self c.in_ok-run_due.ensures.conns)
    (λ bytes joins. c.in_ok-run_due.ensures.goes (read_setup opening) bytes joins)

pub returns-then-branch-2-clause-stored : goal.returns-then-branch-2-clause-stored
returns-then-branch-2-clause-stored g c = λ has. subst (λ (r : ReplicaValue). IsKept g.D.Disk.tells (g.D.Disk.states c.args.disk.now) r) (sym (c.take_message.ensures.replica ∙ c.run_due.ensures.replica)) has

pub returns-then-branch-2-clause-on : goal.returns-then-branch-2-clause-on
returns-then-branch-2-clause-on g c = λ opening start event told u.
    let kind = g.E.Engine.kind c.args.engine.now in
    further_at g.E.Engine.meaning (read_setup opening) start event told kind (g.E.Engine.kind c.run_due.new.engine) c.run_due.new.self c.take_message.new.self c.run_due.ensures.engine.kind
    (subst (λ (t : Option Told). Underway (g.E.Engine.meaning kind) kind (read_setup opening) start c.run_due.new.self event told t) (sym (c.in_ok-run_due.ensures.untold c.if-branch.false))
    (subst (λ (n : Running). Underway (g.E.Engine.meaning kind) kind (read_setup opening) start n event told (g.E.Engine.told c.args.engine.now)) (sym (c.in_ok-run_due.ensures.none c.if-branch.false)) u))
    c.in_ok-take_message.ensures.moves (λ bytes joins. c.in_ok-take_message.ensures.goes (read_setup opening) bytes joins)

pub returns-then-branch-3-clause-stored : goal.returns-then-branch-3-clause-stored
returns-then-branch-3-clause-stored g c = λ has.
    c.in_ok-compact.ensures.stored (subst (λ (r : ReplicaValue). IsKept g.D.Disk.tells (g.D.Disk.states c.args.disk.now) r) (sym (c.take_message.ensures.replica ∙ c.run_due.ensures.replica)) has)

pub returns-then-branch-3-clause-on : goal.returns-then-branch-3-clause-on
returns-then-branch-3-clause-on g c = λ opening start event told u.
    let kind = g.E.Engine.kind c.args.engine.now in
    let same = c.in_ok-run_due.ensures.none c.if-branch.false in
    let behind = further_at g.E.Engine.meaning (read_setup opening) start event told kind (g.E.Engine.kind c.run_due.new.engine) c.run_due.new.self c.take_message.new.self c.run_due.ensures.engine.kind
    (subst (λ (t : Option Told). Underway (g.E.Engine.meaning kind) kind (read_setup opening) start c.run_due.new.self event told t) (sym (c.in_ok-run_due.ensures.untold c.if-branch.false))
    (subst (λ (n : Running). Underway (g.E.Engine.meaning kind) kind (read_setup opening) start n event told (g.E.Engine.told c.args.engine.now)) (sym same) u))
    c.in_ok-take_message.ensures.moves (λ bytes joins. c.in_ok-take_message.ensures.goes (read_setup opening) bytes joins) in
    let ends = ends_behind c.args.self.now c.run_due.new.self c.take_message.new.self (c.in_ok-run_due.ensures.none c.if-branch.false) c.in_ok-take_message.ensures.going c.requires.applied c.requires.due c.take_message.ensures.replica
    c.take_message.ensures.index (c.in_ok-take_message.ensures.none c.if-branch-2.false) (c.in_ok-take_message.ensures.turns c.if-branch-2.false) (c.in_ok-run_due.ensures.run c.if-branch.false)
    (c.in_ok-take_message.ensures.sessions c.if-branch-2.false) in
    compacts (g.E.Engine.meaning kind) kind (read_setup opening) start event told (c.raft_turns.ensures.snapshots kind) c.take_message.new.self c.compact.new.self behind c.in_ok-take_message.ensures.going ends.0 ends.1 c.in_ok-compact.ensures.conns
    (c.in_ok-compact.ensures.takes opening c.if-branch-3.true)

pub returns-then-branch-4-clause-stored : goal.returns-then-branch-4-clause-stored
returns-then-branch-4-clause-stored g c = λ has.
    c.in_ok-take_letter.ensures.stored (c.in_ok-compact.ensures.stored (subst (λ (r : ReplicaValue). IsKept g.D.Disk.tells (g.D.Disk.states c.args.disk.now) r) (sym (c.take_message.ensures.replica ∙ c.run_due.ensures.replica)) has))

pub returns-then-branch-4-clause-on : goal.returns-then-branch-4-clause-on
returns-then-branch-4-clause-on g c = λ opening start event told u.
    let kind = g.E.Engine.kind c.args.engine.now in
    let same = c.in_ok-run_due.ensures.none c.if-branch.false in
    let behind = further_at g.E.Engine.meaning (read_setup opening) start event told kind (g.E.Engine.kind c.run_due.new.engine) c.run_due.new.self c.take_message.new.self c.run_due.ensures.engine.kind
    (subst (λ (t : Option Told). Underway (g.E.Engine.meaning kind) kind (read_setup opening) start c.run_due.new.self event told t) (sym (c.in_ok-run_due.ensures.untold c.if-branch.false))
    (subst (λ (n : Running). Underway (g.E.Engine.meaning kind) kind (read_setup opening) start n event told (g.E.Engine.told c.args.engine.now)) (sym same) u))
    c.in_ok-take_message.ensures.moves (λ bytes joins. c.in_ok-take_message.ensures.goes (read_setup opening) bytes joins) in
    let ends = ends_behind c.args.self.now c.run_due.new.self c.take_message.new.self (c.in_ok-run_due.ensures.none c.if-branch.false) c.in_ok-take_message.ensures.going c.requires.applied c.requires.due c.take_message.ensures.replica
    c.take_message.ensures.index (c.in_ok-take_message.ensures.none c.if-branch-2.false) (c.in_ok-take_message.ensures.turns c.if-branch-2.false) (c.in_ok-run_due.ensures.run c.if-branch.false)
    (c.in_ok-take_message.ensures.sessions c.if-branch-2.false) in
    let still = sym (c.in_ok-compact.ensures.none c.if-branch-3.false) in
    let came = letter_at g.E.Engine.meaning (read_setup opening) start event told kind (g.E.Engine.kind c.take_message.new.engine) c.compact.new.self c.take_letter.new.self (c.take_message.ensures.engine.kind ∙ c.run_due.ensures.engine.kind)
    (subst (λ (n : Running). Underway (g.E.Engine.meaning kind) kind (read_setup opening) start n event told (g.E.Engine.told c.take_message.new.engine)) still behind) c.in_ok-compact.ensures.going
    (subst (λ (n : Running). MayEnd (moment_of n)) still ends.0) (subst AtRest still ends.1) (c.in_ok-take_letter.ensures.letter opening) in
    came

pub returns-clause-stored : goal.returns-clause-stored
returns-clause-stored g c = λ has. always_ok c.close_heard.result
    (subst (λ (r : ReplicaValue). IsKept g.D.Disk.tells (g.D.Disk.states c.take_letter.new.disk) r) (sym c.close_heard.ensures.replica)
    (c.in_ok-take_letter.ensures.stored (c.in_ok-compact.ensures.stored (subst (λ (r : ReplicaValue). IsKept g.D.Disk.tells (g.D.Disk.states c.args.disk.now) r) (sym (c.take_message.ensures.replica ∙ c.run_due.ensures.replica)) has))))

pub returns-clause-on : goal.returns-clause-on
returns-clause-on g c = λ opening start event told u.
    let kind = g.E.Engine.kind c.args.engine.now in
    let same = c.in_ok-run_due.ensures.none c.if-branch.false in
    let behind = further_at g.E.Engine.meaning (read_setup opening) start event told kind (g.E.Engine.kind c.run_due.new.engine) c.run_due.new.self c.take_message.new.self c.run_due.ensures.engine.kind
    (subst (λ (t : Option Told). Underway (g.E.Engine.meaning kind) kind (read_setup opening) start c.run_due.new.self event told t) (sym (c.in_ok-run_due.ensures.untold c.if-branch.false))
    (subst (λ (n : Running). Underway (g.E.Engine.meaning kind) kind (read_setup opening) start n event told (g.E.Engine.told c.args.engine.now)) (sym same) u))
    c.in_ok-take_message.ensures.moves (λ bytes joins. c.in_ok-take_message.ensures.goes (read_setup opening) bytes joins) in
    let ends = ends_behind c.args.self.now c.run_due.new.self c.take_message.new.self (c.in_ok-run_due.ensures.none c.if-branch.false) c.in_ok-take_message.ensures.going c.requires.applied c.requires.due c.take_message.ensures.replica
    c.take_message.ensures.index (c.in_ok-take_message.ensures.none c.if-branch-2.false) (c.in_ok-take_message.ensures.turns c.if-branch-2.false) (c.in_ok-run_due.ensures.run c.if-branch.false)
    (c.in_ok-take_message.ensures.sessions c.if-branch-2.false) in
    let still = sym (c.in_ok-compact.ensures.none c.if-branch-3.false) in
    let came = letter_at g.E.Engine.meaning (read_setup opening) start event told kind (g.E.Engine.kind c.take_message.new.engine) c.compact.new.self c.take_letter.new.self (c.take_message.ensures.engine.kind ∙ c.run_due.ensures.engine.kind)
    (subst (λ (n : Running). Underway (g.E.Engine.meaning kind) kind (read_setup opening) start n event told (g.E.Engine.told c.take_message.new.engine)) still behind) c.in_ok-compact.ensures.going
    (subst (λ (n : Running). MayEnd (moment_of n)) still ends.0) (subst AtRest still ends.1) (c.in_ok-take_letter.ensures.letter opening) in
    closed_at g.E.Engine.meaning (read_setup opening) start event told kind c.close_heard.result c.take_letter.new.self c.close_heard.new.self came c.close_heard.ensures.replica c.close_heard.ensures.goes c.close_heard.ensures.moves c.close_heard.ensures.quiet

pub returns-clause-led : goal.returns-clause-led
returns-clause-led g c = on_ok_then c.close_heard.result (λ goes. led_closes c.take_letter.new.self c.close_heard.new.self c.in_ok-take_letter.ensures.led c.close_heard.ensures.office goes) c.close_heard.ensures.goes

pub returns-clause-ends : goal.returns-clause-ends
returns-clause-ends g c =
    let ends = ends_behind c.args.self.now c.run_due.new.self c.take_message.new.self (c.in_ok-run_due.ensures.none c.if-branch.false) c.in_ok-take_message.ensures.going c.requires.applied c.requires.due c.take_message.ensures.replica
    c.take_message.ensures.index (c.in_ok-take_message.ensures.none c.if-branch-2.false) (c.in_ok-take_message.ensures.turns c.if-branch-2.false) (c.in_ok-run_due.ensures.run c.if-branch.false)
    (c.in_ok-take_message.ensures.sessions c.if-branch-2.false) in
    let still = sym (c.in_ok-compact.ensures.none c.if-branch-3.false) in
    ends_closed c.close_heard.result c.take_letter.new.self c.close_heard.new.self
    (subst MayEnd (sym (ap moment_of (c.in_ok-take_letter.ensures.none c.if-branch-4.false))) (subst (λ (n : Running). MayEnd (moment_of n)) still ends.0)) c.close_heard.ensures.none

pub returns-in_err-run_due-clause-stops : goal.returns-in_err-run_due-clause-stops
returns-in_err-run_due-clause-stops g c = λ opening start event told u has.
    always_err c.from_residual.result
    (
    let kind = g.E.Engine.kind c.args.engine.now in
    let m = g.E.Engine.meaning kind in
    let setup = read_setup opening in
    let law = c.raft_steps_are_kept.ensures.stops in
    let P = AccountsForStop m kind setup start event in
    kept_finds g.D.Disk.tells (g.D.Disk.states c.args.disk.now) c.args.self.now.replica P (stopped_here law m kind setup start event c.args.self.now u) has
    )

pub returns-in_err-take_message-clause-stops : goal.returns-in_err-take_message-clause-stops
returns-in_err-take_message-clause-stops g c = λ opening start event told u has.
    always_err c.from_residual-in_err-take_message.result
    (
    let kind = g.E.Engine.kind c.args.engine.now in
    let m = g.E.Engine.meaning kind in
    let setup = read_setup opening in
    let law = c.raft_steps_are_kept.ensures.stops in
    let P = AccountsForStop m kind setup start event in
    kept_finds g.D.Disk.tells (g.D.Disk.states c.args.disk.now) c.args.self.now.replica P (stopped_here law m kind setup start event c.args.self.now u) has
    )

pub returns-in_err-compact-clause-stops : goal.returns-in_err-compact-clause-stops
returns-in_err-compact-clause-stops g c = λ opening start event told u has.
    always_err c.from_residual-in_err-compact.result
    (
    let kind = g.E.Engine.kind c.args.engine.now in
    let m = g.E.Engine.meaning kind in
    let setup = read_setup opening in
    let law = c.raft_steps_are_kept.ensures.stops in
    let P = AccountsForStop m kind setup start event in
    let behind = further_at g.E.Engine.meaning setup start event told kind (g.E.Engine.kind c.run_due.new.engine) c.run_due.new.self c.take_message.new.self c.run_due.ensures.engine.kind
    (subst (λ (t : Option Told). Underway m kind setup start c.run_due.new.self event told t) (sym (c.in_ok-run_due.ensures.untold c.if-branch.false))
    (subst (λ (n : Running). Underway m kind setup start n event told (g.E.Engine.told c.args.engine.now)) (sym (c.in_ok-run_due.ensures.none c.if-branch.false)) u))
    c.in_ok-take_message.ensures.moves (λ bytes joins. c.in_ok-take_message.ensures.goes setup bytes joins) in
    let ends = ends_behind c.args.self.now c.run_due.new.self c.take_message.new.self (c.in_ok-run_due.ensures.none c.if-branch.false) c.in_ok-take_message.ensures.going c.requires.applied c.requires.due c.take_message.ensures.replica
    c.take_message.ensures.index (c.in_ok-take_message.ensures.none c.if-branch-2.false) (c.in_ok-take_message.ensures.turns c.if-branch-2.false) (c.in_ok-run_due.ensures.run c.if-branch.false)
    (c.in_ok-take_message.ensures.sessions c.if-branch-2.false) in
    more g.D.Disk.tells (g.D.Disk.states c.compact.new.disk) (StopsCompacting setup [] c.take_message.new.self) P
    (λ kept s. stopped_compacting law m kind setup start event c.take_message.new.self behind kept ends.0 c.in_ok-take_message.ensures.going.holds.replica.id ends.1
    (may_plain opening [] c.take_message.new.self (Local (Snapped c.take_message.new.self.applied.index)) tt) s) (c.in_err-compact.ensures.stops opening [] (subst (λ (r : ReplicaValue). IsKept g.D.Disk.tells (g.D.Disk.states c.args.disk.now) r) (sym (c.take_message.ensures.replica ∙ c.run_due.ensures.replica)) has))
    )

pub returns-in_err-take_letter-clause-stops : goal.returns-in_err-take_letter-clause-stops
returns-in_err-take_letter-clause-stops g c = λ opening start event told u has.
    always_err c.from_residual-in_err-take_letter.result
    (
    let kind = g.E.Engine.kind c.args.engine.now in
    let m = g.E.Engine.meaning kind in
    let setup = read_setup opening in
    let law = c.raft_steps_are_kept.ensures.stops in
    let P = AccountsForStop m kind setup start event in
    let behind = further_at g.E.Engine.meaning setup start event told kind (g.E.Engine.kind c.run_due.new.engine) c.run_due.new.self c.take_message.new.self c.run_due.ensures.engine.kind
    (subst (λ (t : Option Told). Underway m kind setup start c.run_due.new.self event told t) (sym (c.in_ok-run_due.ensures.untold c.if-branch.false))
    (subst (λ (n : Running). Underway m kind setup start n event told (g.E.Engine.told c.args.engine.now)) (sym (c.in_ok-run_due.ensures.none c.if-branch.false)) u))
    c.in_ok-take_message.ensures.moves (λ bytes joins. c.in_ok-take_message.ensures.goes setup bytes joins) in
    let ends = ends_behind c.args.self.now c.run_due.new.self c.take_message.new.self (c.in_ok-run_due.ensures.none c.if-branch.false) c.in_ok-take_message.ensures.going c.requires.applied c.requires.due c.take_message.ensures.replica
    c.take_message.ensures.index (c.in_ok-take_message.ensures.none c.if-branch-2.false) (c.in_ok-take_message.ensures.turns c.if-branch-2.false) (c.in_ok-run_due.ensures.run c.if-branch.false)
    (c.in_ok-take_message.ensures.sessions c.if-branch-2.false) in
    let still = sym (c.in_ok-compact.ensures.none c.if-branch-3.false) in
    let later = subst (λ (n : Running). Underway m kind setup start n event told (g.E.Engine.told c.take_message.new.engine)) still behind in
    let kept_behind = c.in_ok-compact.ensures.stored (subst (λ (r : ReplicaValue). IsKept g.D.Disk.tells (g.D.Disk.states c.args.disk.now) r) (sym (c.take_message.ensures.replica ∙ c.run_due.ensures.replica)) has) in
    let kind2 = c.take_message.ensures.engine.kind ∙ c.run_due.ensures.engine.kind in
    more g.D.Disk.tells (g.D.Disk.states c.take_letter.new.disk) (StopsLetter (g.E.Engine.meaning (g.E.Engine.kind c.take_message.new.engine)) (g.E.Engine.kind c.take_message.new.engine) setup c.compact.new.self) P
    (λ kept s. stopped_letter law m kind setup start event c.compact.new.self later kept (subst (λ (n : Running). MayEnd (moment_of n)) still ends.0) c.in_ok-compact.ensures.going.holds.replica.id (subst AtRest still ends.1)
    (subst (λ z. StopsLetter (g.E.Engine.meaning z) z setup c.compact.new.self kept) kind2 s)) (c.in_err-take_letter.ensures.stops opening kept_behind)
    )

pub returns-clause-stops : goal.returns-clause-stops
returns-clause-stops g c = λ opening start event told u has.
    let kind = g.E.Engine.kind c.args.engine.now in
    let m = g.E.Engine.meaning kind in
    let setup = read_setup opening in
    let law = c.raft_steps_are_kept.ensures.stops in
    let P = AccountsForStop m kind setup start event in
    let behind = further_at g.E.Engine.meaning setup start event told kind (g.E.Engine.kind c.run_due.new.engine) c.run_due.new.self c.take_message.new.self c.run_due.ensures.engine.kind
    (subst (λ (t : Option Told). Underway m kind setup start c.run_due.new.self event told t) (sym (c.in_ok-run_due.ensures.untold c.if-branch.false))
    (subst (λ (n : Running). Underway m kind setup start n event told (g.E.Engine.told c.args.engine.now)) (sym (c.in_ok-run_due.ensures.none c.if-branch.false)) u))
    c.in_ok-take_message.ensures.moves (λ bytes joins. c.in_ok-take_message.ensures.goes setup bytes joins) in
    let ends = ends_behind c.args.self.now c.run_due.new.self c.take_message.new.self (c.in_ok-run_due.ensures.none c.if-branch.false) c.in_ok-take_message.ensures.going c.requires.applied c.requires.due c.take_message.ensures.replica
    c.take_message.ensures.index (c.in_ok-take_message.ensures.none c.if-branch-2.false) (c.in_ok-take_message.ensures.turns c.if-branch-2.false) (c.in_ok-run_due.ensures.run c.if-branch.false)
    (c.in_ok-take_message.ensures.sessions c.if-branch-2.false) in
    let still = sym (c.in_ok-compact.ensures.none c.if-branch-3.false) in
    let later = subst (λ (n : Running). Underway m kind setup start n event told (g.E.Engine.told c.take_message.new.engine)) still behind in
    let kept_behind = c.in_ok-compact.ensures.stored (subst (λ (r : ReplicaValue). IsKept g.D.Disk.tells (g.D.Disk.states c.args.disk.now) r) (sym (c.take_message.ensures.replica ∙ c.run_due.ensures.replica)) has) in
    let came = letter_at g.E.Engine.meaning setup start event told kind (g.E.Engine.kind c.take_message.new.engine) c.compact.new.self c.take_letter.new.self (c.take_message.ensures.engine.kind ∙ c.run_due.ensures.engine.kind)
    later c.in_ok-compact.ensures.going (subst (λ (n : Running). MayEnd (moment_of n)) still ends.0) (subst AtRest still ends.1) (c.in_ok-take_letter.ensures.letter opening) in
    always_err c.close_heard.result
    (kept_finds g.D.Disk.tells (g.D.Disk.states c.take_letter.new.disk) c.take_letter.new.self.replica P (stopped_here law m kind setup start event c.take_letter.new.self came) (c.in_ok-take_letter.ensures.stored kept_behind))

pub returns-then-branch-clause-exact : goal.returns-then-branch-clause-exact
returns-then-branch-clause-exact g c =
    let kind = g.E.Engine.kind c.args.engine.now in
    query_turn (g.E.Engine.meaning kind) kind (g.E.Engine.told c.args.engine.now) (g.E.Engine.told c.run_due.new.engine) (core_of c.args.self.now) (core_of c.run_due.new.self) _ c.if-branch.true c.in_ok-run_due.ensures.due c.in_ok-run_due.ensures.exact

pub returns-then-branch-2-clause-exact : goal.returns-then-branch-2-clause-exact
returns-then-branch-2-clause-exact g c =
    let kind = g.E.Engine.kind c.args.engine.now in
    let told = g.E.Engine.told c.args.engine.now in
    let told1 = g.E.Engine.told c.run_due.new.engine in
    let none = no_query told told1 c.args.self.now c.run_due.new.self _ c.if-branch.false c.in_ok-run_due.ensures.due (c.in_ok-run_due.ensures.none c.if-branch.false) (c.in_ok-run_due.ensures.untold c.if-branch.false) in
    message_turn g.E.Engine.meaning kind (g.E.Engine.kind c.run_due.new.engine) told told1 (g.E.Engine.told c.take_message.new.engine) (core_of c.args.self.now) (core_of c.run_due.new.self) (core_of c.take_message.new.self) _ c.run_due.ensures.engine.kind none
    c.if-branch-2.true c.in_ok-take_message.ensures.offers c.in_ok-take_message.ensures.exact

pub returns-then-branch-3-clause-exact : goal.returns-then-branch-3-clause-exact
returns-then-branch-3-clause-exact g c =
    let kind = g.E.Engine.kind c.args.engine.now in
    let told = g.E.Engine.told c.args.engine.now in
    let told1 = g.E.Engine.told c.run_due.new.engine in
    let told2 = g.E.Engine.told c.take_message.new.engine in
    let k1 = g.E.Engine.kind c.run_due.new.engine in
    let none = no_query told told1 c.args.self.now c.run_due.new.self _ c.if-branch.false c.in_ok-run_due.ensures.due (c.in_ok-run_due.ensures.none c.if-branch.false) (c.in_ok-run_due.ensures.untold c.if-branch.false) in
    let still = no_offer (g.E.Engine.meaning k1) k1 told told1 told2 (core_of c.args.self.now) (core_of c.run_due.new.self) (core_of c.take_message.new.self) _ none c.if-branch-2.false c.in_ok-take_message.ensures.offers c.in_ok-take_message.ensures.exact in
    compact_turn (g.E.Engine.meaning kind) kind told told2 (core_of c.args.self.now) (core_of c.take_message.new.self) (core_of c.compact.new.self) _ still c.if-branch-3.true c.in_ok-compact.ensures.exact

pub returns-then-branch-4-clause-exact : goal.returns-then-branch-4-clause-exact
returns-then-branch-4-clause-exact g c =
    let kind = g.E.Engine.kind c.args.engine.now in
    let told = g.E.Engine.told c.args.engine.now in
    let told1 = g.E.Engine.told c.run_due.new.engine in
    let told2 = g.E.Engine.told c.take_message.new.engine in
    let k1 = g.E.Engine.kind c.run_due.new.engine in
    let k2 = g.E.Engine.kind c.take_message.new.engine in
    let none = no_query told told1 c.args.self.now c.run_due.new.self _ c.if-branch.false c.in_ok-run_due.ensures.due (c.in_ok-run_due.ensures.none c.if-branch.false) (c.in_ok-run_due.ensures.untold c.if-branch.false) in
    let still = no_offer (g.E.Engine.meaning k1) k1 told told1 told2 (core_of c.args.self.now) (core_of c.run_due.new.self) (core_of c.take_message.new.self) _ none c.if-branch-2.false c.in_ok-take_message.ensures.offers c.in_ok-take_message.ensures.exact in
    letter_turn (g.E.Engine.meaning kind) kind (g.E.Engine.meaning k2) k2 (read_setup []) c.compact.new.self c.take_letter.new.self told told2 (g.E.Engine.told c.take_letter.new.engine) (core_of c.args.self.now) (core_of c.take_letter.new.self) still.untold
    (c.in_ok-take_letter.ensures.letter [])
    (λ links. true≢false (sym c.if-branch-4.true ∙ (c.in_ok-take_letter.ensures.unlinked (still_unlinked told told2 (core_of c.args.self.now) c.take_message.new.self c.compact.new.self still (c.in_ok-compact.ensures.none c.if-branch-3.false) links)).0))

pub returns-clause-exact : goal.returns-clause-exact
returns-clause-exact g c =
    let kind = g.E.Engine.kind c.args.engine.now in
    let told = g.E.Engine.told c.args.engine.now in
    let told1 = g.E.Engine.told c.run_due.new.engine in
    let told2 = g.E.Engine.told c.take_message.new.engine in
    let k1 = g.E.Engine.kind c.run_due.new.engine in
    let none = no_query told told1 c.args.self.now c.run_due.new.self _ c.if-branch.false c.in_ok-run_due.ensures.due (c.in_ok-run_due.ensures.none c.if-branch.false) (c.in_ok-run_due.ensures.untold c.if-branch.false) in
    let still = no_offer (g.E.Engine.meaning k1) k1 told told1 told2 (core_of c.args.self.now) (core_of c.run_due.new.self) (core_of c.take_message.new.self) _ none c.if-branch-2.false c.in_ok-take_message.ensures.offers c.in_ok-take_message.ensures.exact in
    heard_turn c.close_heard.result (g.E.Engine.meaning kind) kind told told2 (g.E.Engine.told c.take_letter.new.engine) (core_of c.args.self.now) (core_of c.take_message.new.self) (core_of c.take_letter.new.self) (core_of c.close_heard.new.self) still
    (c.in_ok-take_letter.ensures.untold c.if-branch-4.false) (uncompacted (core_of c.take_message.new.self) (core_of c.compact.new.self) _ c.if-branch-3.false c.in_ok-compact.ensures.exact)
    (λ links.
    let before = still_unlinked told told2 (core_of c.args.self.now) c.take_message.new.self c.compact.new.self still (c.in_ok-compact.ensures.none c.if-branch-3.false) links in
    linked_core c.compact.new.self c.take_letter.new.self (c.in_ok-take_letter.ensures.none c.if-branch-4.false) before (c.in_ok-take_letter.ensures.unlinked before).1 ∙ ap core_of (c.in_ok-compact.ensures.none c.if-branch-3.false))
    c.close_heard.ensures.exact
