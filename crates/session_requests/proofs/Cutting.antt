-- A text with a fault can't be split into statements, for the cause that the fault is.
use Rattle.std.proofs.Common.{◌≡◌, ◌≢◌, List, Result, Err, refl}
use Rattle.sql_scan.specs.declared.fault.ScanFault.{ScanFault}
use Rattle.sql_scan.specs.declared.fault.ScanFault.TheVariants.{OpenQuote, OpenComment, Named, Number, NoMemory}
use Rattle.sql_scan.specs.declared.pieces.StatementSpan.{StatementSpan}
use Rattle.sql_scan.specs.Statements.{Fails}
use Rattle.session_spec.specs.Causes.{scan_cause}
use Rattle.session_table.specs.Named.{cause_named}
use Rattle.session_table.specs.declared.cause.Cause.{Cause}

pub cut_short : (fault : ScanFault) (there : Result (List StatementSpan) ScanFault) (cause : Cause) → Fails fault there → fault ≢ NoMemory → cause_named cause ≡ scan_cause fault
    → (x : ScanFault) × (there ≡ Err x) × (cause_named cause ≡ scan_cause x)
cut_short (OpenQuote at) there cause found other named = (OpenQuote at, found, named)
cut_short (OpenComment at) there cause found other named = (OpenComment at, found, named)
cut_short (Named at) there cause found other named = (Named at, found, named)
cut_short (Number at) there cause found other named = (Number at, found, named)
cut_short NoMemory there cause found other named = absurd (other refl)
