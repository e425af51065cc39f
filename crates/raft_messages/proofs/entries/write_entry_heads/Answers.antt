use Rattle.std.proofs.Common.{◌++◌}
use Rattle.raft_messages.specs.Entries.{heads_bytes}
use Rattle.raft_messages.proofs.Loops.{heads_written, heads_held}
use Rattle.raft_messages.proofs.entries.write_entry_heads.Goals as goal

pub loop-entry-preserved : goal.loop-entry-preserved
loop-entry-preserved c =
    let es = c.args.entries.now in
    let i = c.loop-entry.entry-index in
    let x = c.entry-item.result in (
      heads_written es i x c.loop-entry.out c.write_head.new.out (c.args.out.now ++ heads_bytes es) c.loop-entry-test.true c.entry-item.is c.in_ok-write_head.ensures.bytes c.loop-entry.invariant.0,
      heads_held es i x c.loop-entry-test.true c.entry-item.is c.in_ok-write_head.ensures.fits c.loop-entry.invariant.1,
    )
