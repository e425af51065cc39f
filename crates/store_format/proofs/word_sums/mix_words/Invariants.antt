use Rattle.std.proofs.Common.{◌≡◌}
use Rattle.store_format.specs.Sums.{mixed_over}
use Rattle.store_format.proofs.word_sums.mix_words.Given as goal

abbrev pub invariant-loop-place : goal.invariant-loop-place
invariant-loop-place l = l.state ≡ mixed_over l.start l.place l.bytes
