use Rattle.std.specs.Prelude.{string_bytes}
use Rattle.segment_store.proofs.NoTwoAlike.{named}
use Rattle.segment_store.proofs.names.file_name.Goals as goal

pub as_name-requires : goal.as_name-requires
as_name-requires c = named c.args.file (string_bytes c.in_ok-text.text) c.requires c.in_ok-text.ensures
