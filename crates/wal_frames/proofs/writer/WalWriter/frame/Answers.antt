use Rattle.std.proofs.Common.{ℕ, List, sym, ap, subst, ◌∙◌}
use Rattle.wal_frames.specs.declared.frame.Frame.{Frame}
use Rattle.wal_frames.specs.Text.{frame_sums}
use Rattle.wal_frames.specs.Writing.{Place, Wrote}
use Rattle.wal_frames.proofs.LogLaws.{Wrote-push}
use Rattle.wal_frames.proofs.writer.WalWriter.frame.Goals as goal

pub returns-clause-ok : goal.returns-clause-ok
returns-clause-ok c = λ start sequence frames wrote.
    let f : Frame = record { number = c.args.number; commit = c.args.commit; page = c.args.page.now } in
    let made : List ℕ → Frame = λ page. record { number = c.args.number; commit = c.args.commit; page = page } in
    let writer : Place = record { header = c.self.inside.header; sums = c.self.inside.sums } in
    let P : Place → Type 0 = λ p. Wrote start sequence frames c.args.out.now.items p in
    Wrote-push start sequence frames c.args.out.now.items writer f c.frame_head.result c.bytes-page.result.now c.append_both.new.out.items c.sums-sums.result
    (subst P (sym c.self.view_is) wrote) (c.sums-sums.ensures ∙ ap (λ (page : List ℕ). frame_sums c.self.inside.header c.self.inside.sums (made page)) c.bytes-page.ensures.value) c.frame_head.ensures c.bytes-page.ensures.value c.in_ok-append_both.ensures.ok
