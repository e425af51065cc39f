-- What is printed of what state machines say.
use Rattle.std.specs.Prelude.{ℕ, List, ◌++◌, codes}
use Rattle.std.specs.List.{flat_map}
use Rattle.std.specs.Fmt.{decimal}
use Rattle.hex.specs.Hex.{encode_lower}
use Rattle.script_machines.specs.declared.machine_line.MachineLine.{MachineLine}
use Rattle.script_machines.specs.declared.machine_line.MachineLine.TheVariants.{Refused, Machine}

-- the line that is printed for what was said
abbrev pub printed_line : MachineLine → List ℕ
printed_line Refused = codes "refused\n"
printed_line (Machine number applied digest) =
    codes "node " ++ (decimal number ++ (codes " applied " ++ (decimal applied ++ (codes " files " ++ (encode_lower digest ++ codes "\n")))))

abbrev pub printed : List MachineLine → List ℕ
printed said = flat_map printed_line said
