use Rattle.std.proofs.Common.{ap, ap₂, ◌∙◌, arith, length-take}
use Rattle.std.proofs.lemmas.List.{take_rest}
use Rattle.wal_frames.specs.Text.{pair_of}
use Rattle.wal_frames.specs.Headers.{same_pair}
use Rattle.wal_frames.proofs.header.holds_sum.Goals as goal

pub slice_bounds-checksum-end : goal.slice_bounds-checksum-end
slice_bounds-checksum-end c = omega (arith, length-take 24 c.args.bytes.now)

pub checksum-requires : goal.checksum-requires
checksum-requires c = omega (arith, length-take 24 c.args.bytes.now)

pub returns : goal.returns
returns c =
    c.eq.ensures ∙ ap₂ same_pair c.checksum.ensures (c.pair_of.ensures ∙ ap pair_of (take_rest c.args.bytes.now 24))
