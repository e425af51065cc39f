-- With how many voters a cluster may be opened, and who they are.
use Rattle.std.specs.Prelude.{◌≤◌, ℕ, zero, suc, List, [], ◌∷◌, ◌++◌, codes}
use Rattle.std.specs.Fmt.{decimal}
use Rattle.raft_spec.specs.Node.{Server}

abbrev pub IsVoterCount : ℕ → Type 0
IsVoterCount count = (1 ≤ count) × (count ≤ 7)

-- the voter of this number, at the address of its number
abbrev pub voter : ℕ → Server
voter n = record { id = n; address = codes "n" ++ decimal n; role = 0 }

-- this many voters, the first of which has this number
abbrev pub voters_from : ℕ → ℕ → List Server
voters_from zero n = []
voters_from (suc count) n = voter n ∷ voters_from count (suc n)
