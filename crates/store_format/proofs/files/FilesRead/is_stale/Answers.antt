use Rattle.store_format.specs.Metadata.{meta_of_found}
use Rattle.store_format.proofs.Newer.{stale_is}
use Rattle.store_format.proofs.files.FilesRead.is_stale.Goals as goal

pub returns : goal.returns
returns c = stale_is c.args.self.now (meta_of_found c.self.inside.metadata) c.self.inside.snapshot c.self.inside.segments c.log-log.result.now c.index_of.result c.term_of.result c.is_stale.result c.self.view_is c.log-log.ensures c.index_of.ensures c.term_of.ensures c.is_stale.ensures
