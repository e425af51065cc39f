-- What is printed of what a cluster says.
use Rattle.std.specs.Prelude.{ℕ, List, ◌++◌, codes}
use Rattle.std.specs.List.{flat_map}
use Rattle.std.specs.Fmt.{decimal}
use Rattle.hex.specs.Hex.{encode_lower}
use Rattle.raft_core.specs.declared.role.RaftRole.{RaftRole}
use Rattle.script_cluster.specs.declared.cluster_line.ClusterLine.{ClusterLine}
use Rattle.script_cluster.specs.declared.cluster_line.ClusterLine.TheVariants as says
use Rattle.script_cluster.specs.Kinds.{kind_name, cause_number, role_name}

-- words with a space between two of them, and an LF at the end
abbrev pub behind_space : List ℕ → List ℕ → List ℕ
behind_space word rest = codes " " ++ (word ++ rest)

abbrev pub standing_text : ℕ → RaftRole → ℕ → List ℕ → List ℕ
standing_text term role applied digest =
    codes " term " ++ (decimal term
    ++ (codes " role " ++ (role_name role
    ++ (codes " applied " ++ (decimal applied
    ++ (codes " files " ++ (encode_lower digest ++ codes "\n")))))))

-- the line that is printed for what was said
abbrev pub printed_line : ClusterLine → List ℕ
printed_line (says.Reply connection bytes) = codes "reply " ++ (decimal connection ++ behind_space (encode_lower bytes) (codes "\n"))
printed_line (says.Closed connection reason) = codes "closed " ++ (decimal connection ++ behind_space (decimal reason) (codes "\n"))
printed_line (says.Message number from to kind) =
    codes "message " ++ (decimal number ++ behind_space (decimal from) (behind_space (decimal to) (behind_space (kind_name kind) (codes "\n"))))
printed_line (says.Stopped node) = codes "stopped " ++ (decimal node ++ codes "\n")
printed_line (says.Down node cause) = codes "down " ++ (decimal node ++ behind_space (decimal (cause_number cause)) (codes "\n"))
printed_line (says.Node node term role applied digest) = codes "node " ++ (decimal node ++ standing_text term role applied digest)
printed_line (says.NodeDown node) = codes "node " ++ (decimal node ++ codes " down\n")

abbrev pub printed : List ClusterLine → List ℕ
printed said = flat_map printed_line said
