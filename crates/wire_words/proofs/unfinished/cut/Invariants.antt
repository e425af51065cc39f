use Rattle.std.proofs.Common.{◌≡◌, length}
use Rattle.wire_words.specs.Stream.{after_messages, messages_in}
use Rattle.wire_words.proofs.unfinished.cut.Given as goal

abbrev pub invariant-loop-words : goal.invariant-loop-words
invariant-loop-words l = after_messages l.messages.items (messages_in l.limit l.rest) ≡ after_messages l.initial.messages.items (messages_in l.limit l.bytes)

abbrev pub decreases-loop-words : goal.decreases-loop-words
decreases-loop-words l = length l.rest
