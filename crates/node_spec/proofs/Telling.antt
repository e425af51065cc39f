-- Stretches in which a node is given its voters join, and are what a whole event has to tell.
use Rattle.std.proofs.Common.{◌≡◌, ℕ, zero, suc, ◌≤◌, List, [], ◌∷◌, ◌++◌, length, take, refl, sym, ap, ◌∙◌, subst, arith}
use Rattle.std.specs.Prelude.{slice_get}
use Rattle.raft_spec.specs.Node as raft
use Rattle.raft_spec.specs.Node.{Node, Input, Outcome}
use Rattle.raft_spec.specs.NodeValues.{node_of}
use Rattle.raft_spec.specs.Account.{steps}
use Rattle.raft_spec.specs.Compaction.{compacted_step}
use Rattle.raft_safety.specs.Laws.{SameUpTo}
use Rattle.raft_safety.specs.Members.{Setup, member_step}
use Rattle.raft_safety.specs.Cuts.{Twin, AlikeInputs, Told}
use Rattle.node_spec.specs.Nodes as rules
use Rattle.node_spec.specs.Steps.{Taken, BytesAre, HasFrontOf, TakesIn, Counts}
use Rattle.node_spec.specs.Voting.{taking, MayTell, Tells, TellsOn, TellsToEnd, TellsToStop}
use Rattle.node_spec.proofs.Stretches.{parts, tail_is, steps_join}

-- ---- what is taken in, cut in two

abbrev Keeps : Node → Node → Type 0
Keeps s t = (s.commit ≤ t.commit) × SameUpTo s.commit s.log t.log

kept_first : (f : Node → Input → Outcome) (s : Node) (is js : List Input) → ((k : ℕ) → Keeps (steps f s (take k (is ++ js))) (steps f s (take (suc k) (is ++ js)))) → (k : ℕ) → Keeps (steps f s (take k is)) (steps f s (take (suc k) is))
kept_first f s [] js w k = still k (w 0).1.0
  where
    still : (k : ℕ) → s.commit ≤ length s.log → Keeps (steps f s (take k [])) (steps f s (take (suc k) []))
    still zero b = (omega arith, (b, b, refl))
    still (suc k) b = (omega arith, (b, b, refl))
kept_first f s (i ∷ is) js w zero = w 0
kept_first f s (i ∷ is) js w (suc k) = kept_first f (f s i).node is js (λ n. w (suc n)) k

kept_rest : (f : Node → Input → Outcome) (s : Node) (is js : List Input) → ((k : ℕ) → Keeps (steps f s (take k (is ++ js))) (steps f s (take (suc k) (is ++ js)))) → (k : ℕ) → Keeps (steps f (steps f s is) (take k js)) (steps f (steps f s is) (take (suc k) js))
kept_rest f s [] js w k = w k
kept_rest f s (i ∷ is) js w k = kept_rest f (f s i).node is js (λ n. w (suc n)) k

fronts_first : (f : Node → Input → Outcome) (s : Node) (is js : List Input) → ((k : ℕ) → HasFrontOf (steps f s (take (suc k) (is ++ js))) (slice_get (is ++ js) k)) → (k : ℕ) → HasFrontOf (steps f s (take (suc k) is)) (slice_get is k)
fronts_first f s [] js w zero = tt
fronts_first f s [] js w (suc k) = tt
fronts_first f s (i ∷ is) js w zero = w 0
fronts_first f s (i ∷ is) js w (suc k) = fronts_first f (f s i).node is js (λ n. w (suc n)) k

fronts_rest : (f : Node → Input → Outcome) (s : Node) (is js : List Input) → ((k : ℕ) → HasFrontOf (steps f s (take (suc k) (is ++ js))) (slice_get (is ++ js) k)) → (k : ℕ) → HasFrontOf (steps f (steps f s is) (take (suc k) js)) (slice_get js k)
fronts_rest f s [] js w k = w k
fronts_rest f s (i ∷ is) js w k = fronts_rest f (f s i).node is js (λ n. w (suc n)) k

twins_first : (vs : Setup) (n : ℕ) (s v : Node) (is js xs ys : List Input) → AlikeInputs is xs → ((k : ℕ) → Told vs n s (take k (is ++ js)) → Twin (steps (member_step vs n) s (take k (is ++ js))) (steps (compacted_step n) v (take k (xs ++ ys))))
    → (k : ℕ) → Told vs n s (take k is) → Twin (steps (member_step vs n) s (take k is)) (steps (compacted_step n) v (take k xs))
twins_first vs n s v [] js xs ys e w k t = subst (λ l. Twin (steps (member_step vs n) s (take k [])) (steps (compacted_step n) v (take k l))) (sym e) (none k (w 0 tt))
  where
    none : (k : ℕ) → Twin s v → Twin (steps (member_step vs n) s (take k [])) (steps (compacted_step n) v (take k []))
    none zero b = b
    none (suc k) b = b
twins_first vs n s v (i ∷ is) js [] ys e w k t = absurd cc
twins_first vs n s v (i ∷ is) js (x ∷ xs) ys e w zero t = w 0 tt
twins_first vs n s v (i ∷ is) js (x ∷ xs) ys e w (suc k) t =
    twins_first vs n (member_step vs n s i).node (compacted_step n v x).node is js xs ys (subst (AlikeInputs is) (sym (tail_is x e.0 xs e.1 e.2)) e.4) (λ m u. w (suc m) (t.0, t.1, u)) k t.2

twins_rest : (vs : Setup) (n : ℕ) (s v : Node) (is js xs ys : List Input) → AlikeInputs is xs → Told vs n s is → ((k : ℕ) → Told vs n s (take k (is ++ js)) → Twin (steps (member_step vs n) s (take k (is ++ js))) (steps (compacted_step n) v (take k (xs ++ ys))))
    → (k : ℕ) → Told vs n (steps (member_step vs n) s is) (take k js) → Twin (steps (member_step vs n) (steps (member_step vs n) s is) (take k js)) (steps (compacted_step n) (steps (compacted_step n) v xs) (take k ys))
twins_rest vs n s v [] js xs ys e told w k t = subst (λ l. Twin (steps (member_step vs n) s (take k js)) (steps (compacted_step n) (steps (compacted_step n) v l) (take k ys))) (sym e) (subst (λ l. Twin (steps (member_step vs n) s (take k js)) (steps (compacted_step n) v (take k (l ++ ys)))) e (w k t))
twins_rest vs n s v (i ∷ is) js [] ys e told w k t = absurd cc
twins_rest vs n s v (i ∷ is) js (x ∷ xs) ys e told w k t =
    twins_rest vs n (member_step vs n s i).node (compacted_step n v x).node is js xs ys (subst (AlikeInputs is) (sym (tail_is x e.0 xs e.1 e.2)) e.4) told.2 (λ m u. w (suc m) (told.0, told.1, u)) k t

bytes_first : (vs : Setup) (bytes : List ℕ) (is js : List Input) → BytesAre vs bytes (is ++ js) → BytesAre vs bytes is
bytes_first vs bytes [] js b = tt
bytes_first vs bytes (raft.Local local ∷ is) js b = bytes_first vs bytes is js b
bytes_first vs bytes (raft.Receive m ∷ is) js b = (b.0, bytes_first vs bytes is js b.1)

bytes_rest : (vs : Setup) (bytes : List ℕ) (is js : List Input) → BytesAre vs bytes (is ++ js) → BytesAre vs bytes js
bytes_rest vs bytes [] js b = b
bytes_rest vs bytes (raft.Local local ∷ is) js b = bytes_rest vs bytes is js b
bytes_rest vs bytes (raft.Receive m ∷ is) js b = bytes_rest vs bytes is js b.1

record Cut (vs : Setup) (n : ℕ) (bytes : List ℕ) (a : rules.Node) (s : Node) (is xs ys : List Input) : Type 0 where
  first : List Input
  rest : List Input
  whole : is ≡ first ++ rest
  early : TakesIn vs n a s first (taking bytes xs)
  late : (b : rules.Node) → node_of b.raft ≡ steps (compacted_step n) (node_of a.raft) xs → Told vs n s first → TakesIn vs n b (steps (member_step vs n) s first) rest (taking bytes ys)

cut : (vs : Setup) (n : ℕ) (bytes : List ℕ) (a : rules.Node) (s : Node) (is xs ys : List Input) → TakesIn vs n a s is (taking bytes (xs ++ ys)) → Cut vs n bytes a s is xs ys
cut vs n bytes a s is xs ys whole =
    let p = parts is xs ys whole.alike in
    let t : TakesIn vs n a s (p.first ++ p.rest) (taking bytes (xs ++ ys)) = subst (λ l. TakesIn vs n a s l (taking bytes (xs ++ ys))) p.whole whole in
    record {
      first = p.first;
      rest = p.rest;
      whole = p.whole;
      early = record {
        alike = p.alike;
        front = bytes_first vs bytes p.first p.rest t.front;
        kept = kept_first (member_step vs n) s p.first p.rest t.kept;
        fronts = fronts_first (member_step vs n) s p.first p.rest t.fronts;
        twins = twins_first vs n s (node_of a.raft) p.first p.rest xs ys p.alike t.twins;
      };
      late = λ b made told. record {
        alike = p.rest_alike;
        front = bytes_rest vs bytes p.first p.rest t.front;
        kept = kept_rest (member_step vs n) s p.first p.rest t.kept;
        fronts = fronts_rest (member_step vs n) s p.first p.rest t.fronts;
        twins = λ k u. subst (λ v. Twin (steps (member_step vs n) (steps (member_step vs n) s p.first) (take k p.rest)) (steps (compacted_step n) v (take k ys))) (sym made)
            (twins_rest vs n s (node_of a.raft) p.first p.rest xs ys p.alike told t.twins k u);
      };
    }

told_join : (vs : Setup) (n : ℕ) (s : Node) (is js : List Input) → Told vs n s is → Told vs n (steps (member_step vs n) s is) js → Told vs n s (is ++ js)
told_join vs n s [] js a b = b
told_join vs n s (i ∷ is) js a b = (a.0, a.1, told_join vs n (member_step vs n s i).node is js a.2 b)

-- ---- joining

may_join : (vs : Setup) (n : ℕ) (bytes : List ℕ) (a b : rules.Node) (xs ys : List Input) → Tells vs n bytes a b xs → MayTell vs n bytes b ys → MayTell vs n bytes a (xs ++ ys)
may_join vs n bytes a b xs ys p q s is c t =
    let x = cut vs n bytes a s is xs ys t in
    let one = p.may s x.first c x.early in
    let two = q (steps (member_step vs n) s x.first) x.rest (p.counts s x.first c x.early one) (x.late b p.made one) in
    subst (Told vs n s) (sym x.whole) (told_join vs n s x.first x.rest one two)

pub tells_on : TellsOn
tells_on vs n bytes a b c xs ys p q = record {
  made = q.made ∙ ap (λ v. steps (compacted_step n) v ys) p.made ∙ sym (steps_join (compacted_step n) (node_of a.raft) xs ys);
  may = may_join vs n bytes a b xs ys p q.may;
  counts = λ s is f t told.
      let x = cut vs n bytes a s is xs ys t in
      let one = p.may s x.first f x.early in
      let mid = p.counts s x.first f x.early one in
      let late = x.late b p.made one in
      let two = q.may (steps (member_step vs n) s x.first) x.rest mid late in
      subst (λ l. Counts vs c (steps (member_step vs n) s l)) (sym x.whole)
      (subst (Counts vs c) (sym (steps_join (member_step vs n) s x.first x.rest)) (q.counts (steps (member_step vs n) s x.first) x.rest mid late two));
}

-- ---- a whole event

takes_these : (vs : Setup) (n : ℕ) (a : rules.Node) (s : Node) (is : List Input) (x : Taken) → TakesIn vs n a s is x → TakesIn vs n a s is (taking x.bytes x.inputs)
takes_these vs n a s is x t = record { alike = t.alike; front = t.front; kept = t.kept; fronts = t.fronts; twins = t.twins }

pub tells_to_end : TellsToEnd
tells_to_end vs n old new x p = (
  (λ s w is st c t. p.may s is c (takes_these vs n old s is x t)),
  (λ s w is st c t told. p.counts s is c (takes_these vs n old s is x t) told),
)

pub tells_to_stop : TellsToStop
tells_to_stop vs n old b x xs ys p q e s w is st c t =
    may_join vs n x.bytes old b xs ys p q s is c (subst (λ l. TakesIn vs n old s is (taking x.bytes l)) e (takes_these vs n old s is x t))
