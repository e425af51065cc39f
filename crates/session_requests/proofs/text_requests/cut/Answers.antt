use Rattle.sql_scan.specs.Statements.{scan_of}
use Rattle.session_requests.proofs.Cutting.{cut_short}
use Rattle.session_requests.proofs.text_requests.cut.Goals as goal

pub returns-in_ok-scan_refusal-in-Err : goal.returns-in_ok-scan_refusal-in-Err
returns-in_ok-scan_refusal-in-Err c = cut_short c.in-Err.fault (scan_of c.args.sql.now) c.in_ok-scan_refusal-in-Err.field-0 c.in-Err.ensures.exact c.in_ok-scan_refusal-in-Err.ensures.cause.0 c.in_ok-scan_refusal-in-Err.ensures.cause.1
