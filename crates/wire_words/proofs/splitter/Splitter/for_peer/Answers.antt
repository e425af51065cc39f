use Rattle.std.proofs.Common.{◌≤◌, ap, subst, ◌∙◌, arith}
use Rattle.wire_words.specs.Stream.{Splitting, peer_limit}
use Rattle.wire_words.specs.Holding.{held_bytes}
use Rattle.wire_words.proofs.Widening.{part_wider, fed_wider, same_stream}
use Rattle.wire_words.proofs.splitter.Splitter.for_peer.Goals as goal

pub invariant_of-result : goal.invariant_of-result
invariant_of-result c =
    let s = c.self.inside in
    let holds = c.self.invariant.0 in (
      record { head = holds.head; part = part_wider s.limit peer_limit (held_bytes s.unfinished) c.self.invariant.1 holds.part; opening = holds.opening },
      omega arith,
    )

pub returns-clause-joined : goal.returns-clause-joined
returns-clause-joined c = λ before is none.
    let most : c.args.self.limit ≤ peer_limit = subst (λ (x : Splitting). x.limit ≤ peer_limit) c.self.view_is c.self.invariant.1 in
    ap (λ (x : Splitting). record { limit = peer_limit; end = x.end }) c.self.view_is ∙ fed_wider c.args.self peer_limit before most is none

pub returns-clause-same : goal.returns-clause-same
returns-clause-same c = λ before is none.
    let most : c.args.self.limit ≤ peer_limit = subst (λ (x : Splitting). x.limit ≤ peer_limit) c.self.view_is c.self.invariant.1 in
    same_stream c.args.self peer_limit before most is none
