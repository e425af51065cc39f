use Rattle.std.proofs.Common.{◌≡◌, ◌-◌, ℕ, subst, arith}
use Rattle.page_store.specs.Store.{newest_image}
use Rattle.database_state.specs.Logs.{pages_from, plain_frames, Continues}
use Rattle.database_state.proofs.WrittenLogs.{no_pages, one_page_more}
use Rattle.database_state.proofs.logs.put_pages_above_one.Goals as goal

pub loop-number-init : goal.loop-number-init
loop-number-init c = no_pages (newest_image c.args.store.now) c.args.out.now.items c.args.writer.now

pub loop-number-preserved : goal.loop-number-preserved
loop-number-preserved c =
    one_page_more (newest_image c.args.store.now) c.loop-number.number c.args.out.now.items c.loop-number.out.items c.put_page.new.out.items c.args.writer.now c.loop-number.writer c.put_page.new.writer (omega arith) c.loop-number.invariant c.in_ok-put_page.ensures

pub returns : goal.returns
returns c =
    let all : c.loop-number.number - 2 ≡ c.args.count = omega arith in
    subst (λ (n : ℕ). Continues (plain_frames (pages_from 2 n (newest_image c.args.store.now))) c.args.out.now.items c.args.writer.now c.loop-number.out.items c.loop-number.writer) all c.loop-number.invariant
