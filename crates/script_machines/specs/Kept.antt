-- What is true of every list of commands with its table.
use Rattle.std.specs.Prelude.{◌≡◌, List}
use Rattle.std.specs.List.{AllByRecursion}
use Rattle.log_commands.specs.declared.command.Command.{Command}
use Rattle.log_commands.specs.Numbers.{HasLowNumbers}
use Rattle.script_machines.specs.declared.stated.Stated.{Stated}
use Rattle.script_machines.specs.Limits.{table_of}

-- The table is that of the commands, and no page of them has a number above the highest.
pub record IsKept (commands : List Command) (table : List Stated) : Type 0 where
  pub tabled : table ≡ table_of commands
  pub low : AllByRecursion HasLowNumbers commands
