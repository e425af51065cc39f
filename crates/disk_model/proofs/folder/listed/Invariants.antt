use Rattle.disk_model.proofs.Listing.{Listing}
use Rattle.disk_model.proofs.folder.listed.Given as goal

abbrev pub invariant-loop-file : goal.invariant-loop-file
invariant-loop-file l = Listing l.files l.file-index l.names.items
