-- What is kept, by its parts.
use Rattle.std.proofs.Common.{◌≡◌, ℕ, suc, ◌-◌, List, drop, sym, ap, ◌∙◌, arith}
use Rattle.raft_spec.specs.Log.{Entry}
use Rattle.raft_spec.specs.NodeValues.{node_of}
use Rattle.store_laws.specs.Store.{Snap}
use Rattle.raft_on_disk.specs.Replicas.{ReplicaValue, IsWhole, kept_of}

pub kept_is : (r : ReplicaValue) (meta : ℕ × ℕ) (snap : Snap) (first : ℕ) (entries : List Entry) → IsWhole r → meta ≡ (r.raft.term, r.raft.vote) → snap ≡ r.snap → first ≡ suc r.raft.base → entries ≡ drop (first - 1) (node_of r.raft).log
    → record { term = meta.0; vote = meta.1; snap = snap; log = record { first = first; entries = entries } } ≡ kept_of r
kept_is r meta snap first entries w m s f e =
    let n : first - 1 ≡ r.raft.base = omega arith in
    let rest : entries ≡ drop r.raft.base (node_of r.raft).log = e ∙ ap (λ (k : ℕ). drop k (node_of r.raft).log) n in
    let index : snap.index ≡ r.raft.snapshot.index = ap (λ (x : Snap). x.index) s ∙ sym (ap (λ x. x.index) w.snap) in
    let term : snap.term ≡ r.raft.snapshot.term = ap (λ (x : Snap). x.term) s ∙ sym (ap (λ x. x.term) w.snap) in
    λ i. record { term = (m i).0; vote = (m i).1; snap = record { index = index i; term = term i; bytes = (s i).bytes }; log = record { first = f i; entries = rest i } }
