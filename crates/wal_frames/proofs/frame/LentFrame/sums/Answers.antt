use Rattle.std.proofs.Common.{ℕ, sym, ap, ◌∙◌}
use Rattle.wal_frames.specs.Checksum.{checksum}
use Rattle.wal_frames.specs.Lent.{owned}
use Rattle.wal_frames.proofs.FrameLaws.{frame_sums-pieces}
use Rattle.wal_frames.proofs.frame.LentFrame.sums.Goals as goal

pub returns : goal.returns
returns c =
    let order = c.args.header.order in
    c.checksum.ensures
    ∙ ap (λ (s : ℕ × ℕ). checksum order s c.args.self.page.now) (c.checksum-start.ensures ∙ ap (checksum order c.args.before) c.pair.ensures)
    ∙ sym (frame_sums-pieces c.args.header c.args.before (owned c.args.self))
