use Rattle.client.proofs.Lines.{no_table, table_put}
use Rattle.client.proofs.printing.put_table.Goals as goal

pub returns-in-None : goal.returns-in-None
returns-in-None c = no_table c.args.out.now.items c.args.parts.now c.in-None.ensures.cases

pub returns-in_ok-put_names-in-Some : goal.returns-in_ok-put_names-in-Some
returns-in_ok-put_names-in-Some c =
    table_put c.put_parts.result c.args.out.now.items c.put_names.new.out.items c.put_parts.new.out.items c.as_slice.result.now c.args.parts.now c.in-Some.first.now c.in-Some.field-0-1.now
    c.in-Some.ensures.cases.0 c.as_slice.ensures c.in_ok-put_names-in-Some.ensures c.put_parts.ensures
