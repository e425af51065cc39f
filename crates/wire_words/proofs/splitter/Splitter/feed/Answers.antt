use Rattle.wire_words.proofs.Feeding.{adds, breaks}
use Rattle.wire_words.proofs.splitter.Splitter.feed.Goals as goal

pub returns-clause-joined : goal.returns-clause-joined
returns-clause-joined c = λ before is. adds (λ messages. messages.items) before c.args.piece.now c.args.self.now c.add.new.self c.add.result is c.add.ensures

pub returns-clause-fault : goal.returns-clause-fault
returns-clause-fault c = λ before is. breaks (λ messages. messages.items) before c.args.piece.now c.args.self.now c.add.new.self c.add.result is c.add.ensures
