use Rattle.script_cluster.proofs.printing.standing_text.Goals as goal

pub returns : goal.returns
returns c = rw (← c.in_ok-digits.ensures, ← c.role_name-role.ensures) c.format.ensures.ok
