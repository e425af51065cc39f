-- A list of commands with its table, after one more command, and a command of it.
use Rattle.std.proofs.Common.{◌≡◌, ℕ, zero, suc, true, List, [], ◌∷◌, ◌++◌, Some, refl, sym, ap, subst, ◌∙◌}
use Rattle.std.specs.Prelude.{slice_get}
use Rattle.std.specs.List.{AllByRecursion}
use Rattle.log_commands.specs.declared.command.Command.{Command}
use Rattle.log_commands.specs.Numbers.{numbers_fit, HasLowNumbers}
use Rattle.log_commands.proofs.InOtherWords.{fit_low}
use Rattle.script_machines.specs.declared.stated.Stated.{Stated}
use Rattle.script_machines.specs.Limits.{noted, stated_by}
use Rattle.script_machines.specs.Kept.{IsKept}
use Rattle.script_machines.proofs.Statements.{table_more}

pub none_kept : IsKept [] []
none_kept = record { tabled = refl; low = tt }

low_more : (commands : List Command) (command : Command) → AllByRecursion HasLowNumbers commands → HasLowNumbers command → AllByRecursion HasLowNumbers (commands ++ command ∷ [])
low_more [] command all low = (low, tt)
low_more (c ∷ commands) command all low = (all.0, low_more commands command all.1 low)

pub kept_more : (commands : List Command) (table after : List Stated) (command : Command) → IsKept commands table → numbers_fit command ≡ true → after ≡ noted table (stated_by command) → IsKept (commands ++ command ∷ []) after
kept_more commands table after command k fits e = record {
  tabled = e ∙ ap (λ (t : List Stated). noted t (stated_by command)) k.tabled ∙ sym (table_more commands command);
  low = low_more commands command k.low (fit_low command fits);
}

pub low_at : (commands : List Command) (place : ℕ) (command : Command) → AllByRecursion HasLowNumbers commands → slice_get commands place ≡ Some command → HasLowNumbers command
low_at [] place command all e = absurd cc
low_at (c ∷ commands) zero command all e = subst HasLowNumbers (same c command e) all.0
  where
    same : (a b : Command) → Some a ≡ Some b → a ≡ b
    same a b e = cc
low_at (c ∷ commands) (suc place) command all e = low_at commands place command all.1 e
