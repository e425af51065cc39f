use Rattle.store_format.proofs.Newer.{found_newer}
use Rattle.store_format.proofs.files.newer_in.Goals as goal

pub returns-then-found-index : goal.returns-then-found-index
returns-then-found-index c = found_newer c.args.number c.args.index c.args.file.now c.in_ok-found.found c.in_ok-found.ensures.found c.if-found-index.true
