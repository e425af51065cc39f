use Rattle.log_commands.proofs.ItemFacts.{two_are_eight}
use Rattle.log_commands.proofs.reading.head.Goals as goal

pub returns-clause-passed : goal.returns-clause-passed
returns-clause-passed c =
    let eight = two_are_eight c.args.words.now c.raw_slice.new.self c.in_ok-raw_slice.field-0.now c.in_ok-raw_slice.ensures.exact in
    rw c.requires at eight.0

pub returns-clause-left : goal.returns-clause-left
returns-clause-left c =
    let eight = two_are_eight c.args.words.now c.raw_slice.new.self c.in_ok-raw_slice.field-0.now c.in_ok-raw_slice.ensures.exact in
    rw c.requires at eight.1
