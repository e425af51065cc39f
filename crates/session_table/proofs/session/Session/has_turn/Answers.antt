use Rattle.std.proofs.Common.{◌≡◌, Option, option_map, sym, subst}
use Rattle.session_spec.specs.Limits.{holds_write_lock}
use Rattle.session_table.specs.declared.session.Transaction.{Transaction}
use Rattle.session_table.specs.Table.{transaction_of}
use Rattle.session_table.proofs.session.Session.has_turn.Goals as goal

pub returns-in-Some : goal.returns-in-Some
returns-in-Some c = λ databases. subst (λ (tx : Option Transaction). c.has_turn.result ≡ holds_write_lock (option_map (transaction_of databases) tx) c.args.name.now) (sym c.in-Some.is) (c.has_turn.ensures databases)
