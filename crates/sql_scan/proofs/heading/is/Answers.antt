use Rattle.sql_scan.proofs.Names.{test_is}
use Rattle.sql_scan.proofs.heading.is.Goals as goal

pub returns : goal.returns
returns c = test_is c.eq_ignore_ascii_case.result c.args.word.now c.args.name.now c.as_bytes.result.now c.as_bytes.ensures.value c.eq_ignore_ascii_case.ensures.test
