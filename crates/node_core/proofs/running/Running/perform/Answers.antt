use Rattle.node_core.proofs.CoreMoves.{performed, transferred}
use Rattle.node_core.specs.Core.{core_of}
use Rattle.client_sessions.specs.declared.act.Act.TheVariants as acts
use Rattle.std.proofs.Common.{refl, sym, ap, subst}
use Rattle.client_sessions.specs.declared.act.Act.{Act}
use Rattle.node_core.specs.Conns.{StreamsAfterMessage}
use Rattle.client_sessions.specs.Clients.{Clients}
use Rattle.node_core.specs.declared.running.Running.{Running}
use Rattle.node_core.proofs.Performing.{performed_propose, performed_transfer}
use Rattle.node_core.proofs.running.Running.perform.Goals as goal

pub returns-in_ok-give-in-Propose-clause-performed :
    goal.returns-in_ok-give-in-Propose-clause-performed
returns-in_ok-give-in-Propose-clause-performed c =
    performed_propose c.args.self.now c.give.new.self c.args.act c.in-Propose.conn c.in-Propose.entries c.in-Propose.is c.databases_stand.ensures
    c.in_ok-give-in-Propose.ensures.due c.in_ok-give-in-Propose.ensures.is

pub returns-in_ok-give-in-Transfer-clause-performed :
    goal.returns-in_ok-give-in-Transfer-clause-performed
returns-in_ok-give-in-Transfer-clause-performed c =
    performed_transfer c.args.self.now c.give-in-Transfer.new.self _ c.args.act c.in-Transfer.conn c.in-Transfer.to c.in-Transfer.reply c.in-Transfer.is c.databases_stand.ensures
    c.in_ok-push-in-Transfer.ensures.items refl c.in_ok-give-in-Transfer.ensures.due c.in_ok-give-in-Transfer.ensures.is

pub returns-in_ok-hand_over-in-Peer-clause-conns : goal.returns-in_ok-hand_over-in-Peer-clause-conns
returns-in_ok-hand_over-in-Peer-clause-conns c =
    subst (λ (a : Act). StreamsAfterMessage a c.args.self.now c.hand_over.new.self) (sym c.in-Peer.is)
    (record {
      streams = ap (λ (k : Clients). k.streams) c.in_ok-hand_over-in-Peer.ensures.gone;
      links = c.in_ok-hand_over-in-Peer.ensures.joined;
      heard = ap (λ (n : Running). n.heard) c.hand_over.ensures.is;
      closed = ap (λ (n : Running). n.outs.closed.items) c.hand_over.ensures.is;
      view = ap (λ (n : Running). n.view) c.hand_over.ensures.is;
      has_links = ap (λ (n : Running). n.has_links) c.hand_over.ensures.is;
    })

pub returns-in_ok-reply-in-Reply-clause-exact : goal.returns-in_ok-reply-in-Reply-clause-exact
returns-in_ok-reply-in-Reply-clause-exact c =
    performed c.args.act (acts.Reply c.in-Reply.conn c.in-Reply.messages) (core_of c.args.self.now) (core_of c.reply.new.self) c.in-Reply.is c.in_ok-reply-in-Reply.ensures.exact

pub returns-in_ok-give-in-Propose-clause-exact : goal.returns-in_ok-give-in-Propose-clause-exact
returns-in_ok-give-in-Propose-clause-exact c =
    performed c.args.act (acts.Propose c.in-Propose.conn c.in-Propose.entries) (core_of c.args.self.now) (core_of c.give.new.self) c.in-Propose.is c.in_ok-give-in-Propose.ensures.exact

pub returns-in_ok-lend-in-Lend-clause-exact : goal.returns-in_ok-lend-in-Lend-clause-exact
returns-in_ok-lend-in-Lend-clause-exact c =
    performed c.args.act (acts.Lend c.in-Lend.conn c.in-Lend.job) (core_of c.args.self.now) (core_of c.lend.new.self) c.in-Lend.is tt

pub returns-in_ok-give-in-Transfer-clause-exact : goal.returns-in_ok-give-in-Transfer-clause-exact
returns-in_ok-give-in-Transfer-clause-exact c =
    transferred c.args.self.now _ c.give-in-Transfer.new.self c.args.act c.in-Transfer.conn c.in-Transfer.to c.in-Transfer.reply c.in-Transfer.is c.in_ok-push-in-Transfer.ensures.items refl
    c.in_ok-give-in-Transfer.ensures.exact

pub returns-in_ok-hand_over-in-Peer-clause-exact : goal.returns-in_ok-hand_over-in-Peer-clause-exact
returns-in_ok-hand_over-in-Peer-clause-exact c =
    performed c.args.act (acts.Peer c.in-Peer.conn c.in-Peer.id c.in-Peer.reply) (core_of c.args.self.now) (core_of c.hand_over.new.self) c.in-Peer.is tt
