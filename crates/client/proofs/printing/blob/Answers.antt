use Rattle.client.proofs.printing.blob.Goals as goal

pub returns : goal.returns
returns c = rw (← c.in_ok-digits.ensures) c.format.ensures.ok
