-- The way in which the files of a node are read.
use Rattle.store_laws.specs.Store.{Format}
use Rattle.store_laws.specs.Chance.{Lawful}
use Rattle.store_format.specs.Files.{files_format}
use Rattle.store_format.specs.Batches.{batch_in}

abbrev pub node_format : Format
node_format = files_format batch_in

abbrev pub IsLawful : Type 0
IsLawful = Lawful node_format
