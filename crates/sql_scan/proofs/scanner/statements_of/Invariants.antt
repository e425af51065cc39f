use Rattle.std.proofs.Common.{◌≡◌, ◌≤◌, ◌-◌, length, drop}
use Rattle.sql_scan.specs.Tokens.{tokens_of}
use Rattle.sql_scan.specs.Statements.{with_front, statements_from, scan_of}
use Rattle.sql_scan.proofs.scanner.statements_of.Given as goal

abbrev pub invariant-tokens : goal.invariant-tokens
invariant-tokens l =
    (with_front l.statements.items (statements_from l.place l.draft (tokens_of (drop l.place l.bytes))) ≡ scan_of l.bytes)
    × (l.place ≤ length l.bytes) × (l.draft.params ≤ 32766)

abbrev pub decreases-tokens : goal.decreases-tokens
decreases-tokens l = length l.bytes - l.place
