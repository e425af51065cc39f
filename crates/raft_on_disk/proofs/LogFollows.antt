-- The whole log of a node follows what its twin says of its own.
use Rattle.std.proofs.Common.{◌≡◌, ℕ, ◌+◌, ◌-◌, ◌≤◌, List, ◌++◌, length, take, drop, sym, ap, subst, ◌∙◌, arith, take-append-drop, Some, None}
use Rattle.std.proofs.lemmas.List.{take-take, drop-take}
use Rattle.raft_spec.specs.Log.{Entry}
use Rattle.raft_spec.specs.Node.{Node}
use Rattle.raft_safety.specs.Cuts.{Twin}
use Rattle.raft_safety.proofs.Alikes.{same_drop}
use Rattle.raft_on_disk.specs.Twins.{TwinsFollow}

two_fronts : (log : List Entry) (a n : ℕ) → take (a + n) log ≡ take a log ++ take n (drop a log)
two_fronts log a n =
    sym (ap (λ (l : List Entry). l ++ take n (drop a log)) (sym (take-take a (a + n) log (omega arith)))
    ∙ ap (λ (l : List Entry). take a (take (a + n) log) ++ l) (sym (drop-take a n log))
    ∙ take-append-drop a (take (a + n) log))

-- logs with the same front up to an index and the same rest from there on
rejoined : (c : ℕ) (xs ys : List Entry) → take c xs ≡ take c ys → drop c xs ≡ drop c ys → xs ≡ ys
rejoined c xs ys front rest = sym (take-append-drop c xs) ∙ (λ i. front i ++ rest i) ∙ take-append-drop c ys

-- past an applied index the whole log and the one that its twin holds are the same
held : (s v : Node) (c : ℕ) → Twin s v → v.base ≤ c → drop c s.log ≡ drop c v.log
held s v c w low =
    let base : v.base ≡ s.base = ap (λ (n : Node). n.base) w.node in
    let low_s : s.base ≤ c = omega arith in
    same_drop {b = s.base} {i = s.snapshot.index} c low_s w.same ∙ ap (drop c) (sym (ap (λ (n : Node). n.log) w.node))

long : (s v : Node) → Twin s v → length s.log ≡ length v.log
long s v w = w.same.len ∙ ap length (sym (ap (λ (n : Node). n.log) w.node))

pub twins_follow : TwinsFollow
twins_follow s v t u None a b low_v low_u kept h =
    let commit : v.commit ≡ s.commit = ap (λ (n : Node). n.commit) a.node in
    let rest : drop v.commit t.log ≡ drop v.commit s.log = held t u v.commit b low_u ∙ ap (drop v.commit) h.1 ∙ sym (held s v v.commit a low_v) in
    let front : take v.commit t.log ≡ take v.commit s.log = subst (λ (c : ℕ). take c t.log ≡ take c s.log) (sym commit) (sym kept.2) in
    rejoined v.commit t.log s.log front rest
twins_follow s v t u (Some first) a b low_v low_u kept h =
    let begins = h.1 in
    let past = begins.past in
    let next = begins.next in
    let size = long s v a in
    let c : ℕ = v.commit in
    let commit : v.commit ≡ s.commit = ap (λ (n : Node). n.commit) a.node in
    let n : v.commit + (first - 1 - v.commit) ≡ first - 1 = omega arith in
    let front : take v.commit t.log ≡ take v.commit s.log = subst (λ (c : ℕ). take c t.log ≡ take c s.log) (sym commit) (sym kept.2) in
    let middle : take (first - 1 - v.commit) (drop v.commit t.log) ≡ take (first - 1 - v.commit) (drop v.commit s.log) =
    ap (take (first - 1 - v.commit)) (held t u v.commit b low_u)
    ∙ sym (drop-take v.commit (first - 1 - v.commit) u.log)
    ∙ ap (λ (k : ℕ). drop v.commit (take k u.log)) n
    ∙ ap (drop v.commit) begins.same
    ∙ ap (λ (k : ℕ). drop v.commit (take k v.log)) (sym n)
    ∙ drop-take v.commit (first - 1 - v.commit) v.log
    ∙ ap (take (first - 1 - v.commit)) (sym (held s v v.commit a low_v)) in
    let fronts : take (first - 1) t.log ≡ take (first - 1) s.log =
    ap (λ (k : ℕ). take k t.log) (sym n) ∙ two_fronts t.log v.commit (first - 1 - v.commit) ∙ (λ i. front i ++ middle i) ∙ sym (two_fronts s.log v.commit (first - 1 - v.commit)) ∙ ap (λ (k : ℕ). take k s.log) n in
    let rest : drop (first - 1) t.log ≡ drop (first - 1) u.log = held t u (first - 1) b (omega arith) in (
      omega arith,
      sym (take-append-drop (first - 1) t.log) ∙ (λ i. fronts i ++ rest i),
    )
