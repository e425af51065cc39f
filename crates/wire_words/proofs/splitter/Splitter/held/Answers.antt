use Rattle.std.proofs.Common.{ap, length, sym, ◌∙◌, arith}
use Rattle.wire_words.specs.Stream.{Splitting, unread_bytes}
use Rattle.wire_words.proofs.Holding.{held_size}
use Rattle.wire_words.proofs.splitter.Splitter.held.Goals as goal

pub returns-else-is_some : goal.returns-else-is_some
returns-else-is_some c =
    let s = c.self.inside in
    let held = held_size s.fault s.unfinished (sym c.is_some.ensures ∙ c.if-is_some.false) c.self.invariant.0.head in
    let seen = ap (λ (x : Splitting). length (unread_bytes x.end)) c.self.view_is in
    omega (arith, held, seen, c.len.ensures, s.unfinished.body.ok)
