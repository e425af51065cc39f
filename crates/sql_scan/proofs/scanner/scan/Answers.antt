use Rattle.std.proofs.Common.{List}
use Rattle.sql_scan.specs.declared.pieces.StatementSpan.{StatementSpan}
use Rattle.sql_scan.specs.declared.pieces.Scan.{Scan}
use Rattle.sql_scan.specs.Statements.{Gives, scan_of}
use Rattle.sql_scan.proofs.Public.{scan_gives, gives_cut, gives_places, gives_order}
use Rattle.sql_scan.proofs.scanner.scan.Goals as goal

abbrev found : Scan → List StatementSpan
found scan = scan.statements

pub returns : goal.returns
returns c =
    let exact : Gives found c.scan_bytes.result (scan_of c.args.text.now) =
    scan_gives found c.scan_bytes.result c.as_bytes.result.now c.args.text.now c.as_bytes.ensures.value c.scan_bytes.ensures.exact in
    record {
      exact = exact;
      cut = λ tokens h. gives_cut found c.scan_bytes.result c.args.text.now tokens exact h;
      places = gives_places found c.scan_bytes.result c.args.text.now c.utf8.text exact;
      order = gives_order found c.scan_bytes.result c.args.text.now c.utf8.text exact;
    }
