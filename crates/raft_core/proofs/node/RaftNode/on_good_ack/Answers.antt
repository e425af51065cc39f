use Rattle.std.proofs.Common.{◌∙◌, length, sym, ap, arith}
use Rattle.std.specs.Prelude.{true, false, nat_lt}
use Rattle.std.proofs.lemmas.Bool.{lt-ltb, le-ltb, le-leb}
use Rattle.raft_spec.specs.NodeValues.{node_of}
use Rattle.raft_spec.specs.Replication.{on_ack}
use Rattle.raft_core.proofs.TakenLogs.{not_le}
use Rattle.raft_core.proofs.VoteRules.{effects_are}
use Rattle.raft_core.proofs.LeaderRules.{ack_lost, ack_good}
use Rattle.raft_core.proofs.node.RaftNode.on_good_ack.Goals as goal

pub returns-then-last-index : goal.returns-then-last-index
returns-then-last-index c =
    let h = c.args.self.now in
    let end = c.last_index-last.ensures in
    let less = c.if-last-index.true in
    effects_are h h (on_ack h.id (node_of h) c.args.from true c.args.index) c.says.result _ c.says.ensures (ack_lost h c.args.from c.args.index c.requires.leads c.requires.peer (not_le c.args.index (length (node_of h).log) (omega arith)))

pub returns-then-match_of-last : goal.returns-then-match_of-last
returns-then-match_of-last c =
    let h = c.args.self.now in
    let end = c.last_index-last.ensures in
    let more = c.if-last-index.false in
    effects_are h c.ack.new.self (on_ack h.id (node_of h) c.args.from true c.args.index) c.sends.result _ c.sends.ensures
    (ack_good h c.ack.new.self c.args.from c.args.index c.last_index-last.result true c.requires.leads c.requires.peer (le-leb c.args.index (length (node_of h).log) (omega arith)) c.ack.ensures.ids c.ack.ensures.rows c.ack.ensures.rest end (ap (λ n. nat_lt n c.last_index-last.result) (sym c.match_of.ensures) ∙ lt-ltb c.match_of.result c.last_index-last.result c.if-match_of-last.true))

pub returns : goal.returns
returns c =
    let h = c.args.self.now in
    let end = c.last_index-last.ensures in
    let more = c.if-last-index.false in
    effects_are h c.ack.new.self (on_ack h.id (node_of h) c.args.from true c.args.index) c.says-2.result _ c.says-2.ensures
    (ack_good h c.ack.new.self c.args.from c.args.index c.last_index-last.result false c.requires.leads c.requires.peer (le-leb c.args.index (length (node_of h).log) (omega arith)) c.ack.ensures.ids c.ack.ensures.rows c.ack.ensures.rest end (ap (λ n. nat_lt n c.last_index-last.result) (sym c.match_of.ensures) ∙ le-ltb c.match_of.result c.last_index-last.result c.if-match_of-last.false))
