use Rattle.std.proofs.Common.{ap, ◌∙◌}
use Rattle.sqlite.specs.Files.{file_state}
use Rattle.sqlite_engine.specs.Sql.{Conn}
use Rattle.sqlite_engine.proofs.again.ran_again.Goals as goal

pub run_again-conn-requires : goal.run_again-conn-requires
run_again-conn-requires c = ap (λ (k : Conn). (file_state k).in_transaction) (rw c.deref_mut.ensures.value at c.limit_steps.ensures) ∙ c.requires
