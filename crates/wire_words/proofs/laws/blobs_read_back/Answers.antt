use Rattle.wire_words.specs.declared.value.Dialect.TheVariants as dialects
use Rattle.wire_words.proofs.Parts.{blob_took, blob_again}
use Rattle.wire_words.proofs.laws.blobs_read_back.Goals as goal

pub returns : goal.returns
returns c = record { spelled = blob_took dialects.Exact; read = blob_again dialects.Exact }
