use Rattle.script_machines.proofs.printing.machine_line.Goals as goal

pub returns : goal.returns
returns c = rw (← c.in_ok-digits.ensures) c.format.ensures.ok
