use Rattle.std.proofs.Common.{take, drop, length, ◌-◌, sym}
use Rattle.std.proofs.lemmas.List.{take_rest}
use Rattle.sql_scan.proofs.Drafts.{with_number, with_none}
use Rattle.sql_scan.proofs.reading.with_parameter.Goals as goal

pub returns-in-Some-clause-exact : goal.returns-in-Some-clause-exact
returns-in-Some-clause-exact c =
    sym (with_number c.args.draft c.solid-with_token.result c.args.at c.in-Some.number c.max.result c.args.bytes.now (take (length c.args.bytes.now - 1) (drop 1 c.args.bytes.now))
    c.solid-with_token.ensures.exact c.solid-with_token.ensures.params (take_rest c.args.bytes.now 1) (sym c.in-Some.ensures.exact) c.max.ensures)

pub returns-in-None-clause-exact : goal.returns-in-None-clause-exact
returns-in-None-clause-exact c =
    sym (with_none c.args.draft c.args.at c.args.bytes.now (take (length c.args.bytes.now - 1) (drop 1 c.args.bytes.now)) (take_rest c.args.bytes.now 1) (sym c.in-None.ensures.exact))
