use Rattle.std.proofs.Common.{sym, ap, ◌∙◌, arith}
use Rattle.std.proofs.lemmas.List.{take_rest}
use Rattle.wal_frames.specs.Text.{pair_of}
use Rattle.wal_frames.proofs.HeaderLaws.{header_of-long, Opened-at}
use Rattle.wal_frames.proofs.reader.WalReader.new.Goals as goal

pub split_at-requires : goal.split_at-requires
split_at-requires c = header_of-long c.args.bytes.now c.in_ok-header.header (sym c.read.ensures ∙ c.in_ok-header.was)

pub returns-clause-opened : goal.returns-clause-opened
returns-clause-opened c =
    let front = c.split_at.result.0.now in
    Opened-at c.args.bytes.now front c.split_at.result.1.now c.in_ok-header.header c.pair_of-sums.result (λ i. omega (arith, c.type_inv.bytes i)) (sym c.read.ensures ∙ c.in_ok-header.was)
    c.split_at.ensures.front c.split_at.ensures.back (c.pair_of-sums.ensures ∙ ap pair_of (take_rest front 24))
