use Rattle.store_format.proofs.Starting.{kept_starts}
use Rattle.store_format.proofs.files.FilesRead.into_kept.Goals as goal

pub returns-clause-starts : goal.returns-clause-starts
returns-clause-starts c = λ loaded. kept_starts c.args.self c.into_unjudged.result c.into_unjudged.ensures.is c.into_unjudged.ensures.begins loaded
