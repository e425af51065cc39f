use Rattle.wire_words.proofs.Writable.{values_writable, params_writable, params_wide_writable, row_writable}
use Rattle.wire_words.proofs.laws.what_is_read_can_be_written.Goals as goal

pub returns : goal.returns
returns c = record { values = values_writable; params = params_writable; params_wide = params_wide_writable; row = row_writable }
