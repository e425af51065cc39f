use Rattle.sql_scan.proofs.Public.{by_tokens}
use Rattle.sql_scan.proofs.laws.statements_are_of_tokens.Goals as goal

pub returns : goal.returns
returns c = by_tokens
