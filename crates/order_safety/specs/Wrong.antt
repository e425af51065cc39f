-- Wrong runs of a cluster, which the laws of this crate refuse.
use Rattle.std.specs.Prelude.{◌≡◌, ℕ, true, List, [], ◌∷◌, ◌++◌, Some}
use Rattle.sql_engine.specs.declared.kind.EngineKind.{EngineKind}
use Rattle.sql_engine.specs.Meanings.{Meaning}
use Rattle.session_spec.specs.Entries.{Entry as Line}
use Rattle.session_spec.specs.Sessions.{Flight}
use Rattle.session_safety.specs.Nodes.{Said}
use Rattle.raft_safety.specs.Members.{Setup}
use Rattle.raft_safety.specs.Laws.{node_at}
use Rattle.cluster_model.specs.Clusters.{Act, first_cluster, cluster, ActsFit}
use Rattle.cluster_model.specs.Laws.{chosen_seen}
use Rattle.order_safety.specs.Order.{MayAppend}

-- A proposal was pending with its last entry at index 2. After that a leader appends its first entry, and in the end this one is applied at index 1, before the
-- proposal's entry.
abbrev pub NoNewBeforePending : Meaning → EngineKind → Type 0
NoNewBeforePending m kind =
    (setup : Setup) (acts more rest : List Act) (n conn k : ℕ) (f : Flight) (x y : Line) → ActsFit m kind setup first_cluster acts →
    (node_at setup (cluster setup acts).raft n).up ≡ true → (((cluster setup acts).lives n).gate.session conn).flight ≡ Some f →
    MayAppend setup (cluster setup (acts ++ more)) k x.term 1 → chosen_seen setup (cluster setup (acts ++ (more ++ rest))) ≡ x ∷ y ∷ [] →
    f.last ≡ 2 → f.term ≡ y.term → ⊥

-- A reply waited for the entry at index 2. After that a leader appends its first entry, and in the end this one is applied at index 1.
abbrev pub NoNewBeforeAnswered : Meaning → EngineKind → Type 0
NoNewBeforeAnswered m kind =
    (setup : Setup) (acts more rest : List Act) (k : ℕ) (said : Said) (x y : Line) → ActsFit m kind setup first_cluster acts →
    (cluster setup acts).said ≡ said ∷ [] → said.index ≡ 2 →
    MayAppend setup (cluster setup (acts ++ more)) k x.term 1 → chosen_seen setup (cluster setup (acts ++ (more ++ rest))) ≡ x ∷ y ∷ [] → ⊥
