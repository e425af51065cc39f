use Rattle.std.proofs.Common.{rules, arith}
use Rattle.sqlite_files.proofs.StampedPages.{clean_to_end}
use Rattle.sqlite_files.proofs.stamps.next_touched.Goals as goal

pub returns-clause-clean : goal.returns-clause-clean
returns-clause-clean c =
    clean_to_end c.args.mark c.args.from c.loop-page.page c.min-last.result c.args.end c.args.stamps.now (search rules) (omega arith) c.loop-page.invariant
