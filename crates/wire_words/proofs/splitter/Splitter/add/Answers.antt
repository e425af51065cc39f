use Rattle.std.proofs.Common.{Option, refl, ap, subst, ◌∙◌}
use Rattle.wire_words.specs.declared.splitter.SplitFault.{SplitFault}
use Rattle.wire_words.specs.Stream.{Splitting, Feeds, going_on, end_with}
use Rattle.wire_words.specs.Holding.{held_bytes}
use Rattle.wire_words.proofs.Feeding.{feeds_of}
use Rattle.wire_words.proofs.splitter.Splitter.add.Goals as goal

pub returns : goal.returns
returns c =
    let s = c.self.inside in
    let u = s.unfinished in
    let next = c.go_on.new.unfinished in
    let fault = c.in_ok-fault.fault in
    let led = c.in_ok-fault.ensures in
    let old_is : Splitting = record { limit = s.limit; end = end_with s.fault u.begun (held_bytes u) } in
    let new_is : Splitting = record { limit = s.limit; end = end_with fault next.begun (held_bytes next) } in
    let whole = ap (λ (o : Option SplitFault). going_on s.limit (end_with o u.begun (held_bytes u)) c.args.piece.now) c.in_default.is ∙ led.0 in
    subst (λ (old : Splitting). Feeds (λ messages. messages.items) old new_is (going_on old.limit old.end c.args.piece.now) c.answer.result) c.self.view_is
    (feeds_of (λ messages. messages.items) old_is new_is c.go_on.new.messages.items fault next.begun (held_bytes next) (going_on old_is.limit old_is.end c.args.piece.now) c.answer.result whole refl led.2 c.answer.ensures)
