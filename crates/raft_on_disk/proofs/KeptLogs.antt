-- What is kept of a node before and after a step: as batches and snapshots that the store is handed make it.
use Rattle.std.proofs.Common.{◌≡◌, ◌≢◌, ℕ, zero, suc, ◌+◌, ◌-◌, ◌<◌, ◌≤◌, Bool, true, false, List, [], ◌∷◌, ◌++◌, length, take, drop, refl, sym, ap, ◌∙◌, arith, ⊎_elim}
use Rattle.std.specs.Prelude.{◌&&◌, ◌==◌, nat_lt}
use Rattle.std.proofs.lemmas.Bool.{cond_both, and_parts, ltb-true, ltb-false, leb-true, lt-ltb, le-leb, eqb-true, eq-eqb}
use Rattle.std.proofs.lemmas.List.{drop_at}
use Rattle.raft_spec.specs.Log.{Entry, LogEnd, nth_term, term_at, matches}
use Rattle.raft_spec.specs.Node.{Node, Input}
use Rattle.raft_spec.specs.Todo.{Begins}
use Rattle.raft_spec.specs.Compaction.{compacted, compact, compacted_step}
use Rattle.raft_spec.specs.NodeValues.{NodeValue, IsCoherent, node_of}
use Rattle.raft_spec.proofs.NodeValues.{compacted_length, whole_length, compact_kept}
use Rattle.raft_safety.proofs.Logs.{nth_at}
use Rattle.store_laws.specs.Store.{Snap, Log, behind, nth_term as kept_term}
use Rattle.store_laws.specs.Append.{CanAppend, with_batch}
use Rattle.store_laws.specs.Meta.{with_vote}
use Rattle.store_laws.specs.Snapshots.{Stays, part, nothing, with_snapshot}
use Rattle.raft_on_disk.specs.Terms.{HasTerm}
use Rattle.segment_store.specs.Keeping.{CanKeep}
use Rattle.raft_on_disk.specs.Keeping.{kept_at, batch_from, log_from}
use Rattle.raft_on_disk.proofs.StepShapes.{Moves, stays, writes, cuts, clears, IsIntake, step_moves}

-- ---- lists

pub drop_length : (n : ℕ) (xs : List Entry) → length (drop n xs) ≡ length xs - n
drop_length zero xs = omega arith
drop_length (suc n) [] = omega arith
drop_length (suc n) (x ∷ xs) = let r = drop_length n xs in omega arith

drop_nil : (n : ℕ) → drop {A = Entry} n [] ≡ []
drop_nil zero = refl
drop_nil (suc n) = refl

pub drop_drop : (m n : ℕ) (xs : List Entry) → drop m (drop n xs) ≡ drop (n + m) xs
drop_drop m zero xs = let e : 0 + m ≡ m = omega arith in ap (λ k. drop k xs) (sym e)
drop_drop m (suc n) [] = drop_nil m ∙ sym (drop_nil (suc n + m))
drop_drop m (suc n) (x ∷ xs) = let e : suc n + m ≡ suc (n + m) = omega arith in drop_drop m n xs ∙ ap (λ k. drop k (x ∷ xs)) (sym e)

drop_all : (n : ℕ) (xs : List Entry) → length xs ≤ n → drop n xs ≡ []
drop_all zero [] l = refl
drop_all zero (x ∷ xs) l = absurd (omega arith)
drop_all (suc n) [] l = refl
drop_all (suc n) (x ∷ xs) l = drop_all n xs (omega arith)

-- the rest from b on, of a list whose front of n items is that of another one
rest_joined : (b n : ℕ) (xs ys : List Entry) → b ≤ n → n ≤ length ys → take n ys ≡ take n xs → take (n - b) (drop b xs) ++ drop n ys ≡ drop b ys
rest_joined zero n xs ys l w e = let z : n - 0 ≡ n = omega arith in ap (λ k. take k xs ++ drop n ys) z ∙ ap (λ l. l ++ drop n ys) (sym e) ∙ joined n ys
  where
    joined : (n : ℕ) (ys : List Entry) → take n ys ++ drop n ys ≡ ys
    joined zero ys = refl
    joined (suc n) [] = refl
    joined (suc n) (y ∷ ys) = ap (λ l. y ∷ l) (joined n ys)
rest_joined (suc b) zero xs ys l w e = absurd (omega arith)
rest_joined (suc b) (suc n) xs [] l w e = absurd (omega arith)
rest_joined (suc b) (suc n) [] (y ∷ ys) l w e = absurd cc
rest_joined (suc b) (suc n) (x ∷ xs) (y ∷ ys) l w e = let z : suc n - suc b ≡ n - b = omega arith in ap (λ k. take k (drop b xs) ++ drop n ys) z ∙ rest_joined b n xs ys (omega arith) (omega arith) (ap (drop 1) e)

-- the entries of a node that has compacted its log
pub own_entries : (h : NodeValue) → drop h.base (node_of h).log ≡ h.entries
own_entries h = drop_at (compacted h.snapshot h.base) h.entries h.base (compacted_length h.snapshot h.base)

pub put_away : (u : Node) → drop u.base (compact u).log ≡ drop u.base u.log
put_away u = drop_at (compacted u.snapshot u.base) (drop u.base u.log) u.base (compacted_length u.snapshot u.base)

-- ---- steps

-- what is shown of a node before and after a step
pub record Stepped (s t : Node) : Type 0 where
  pub low : s.base ≤ s.snapshot.index
  pub applied : s.snapshot.index ≤ s.commit
  pub within : s.commit ≤ length s.log
  pub u : Node
  pub is : t ≡ compact u
  pub log : compacted s.snapshot s.base ++ drop s.base s.log ≡ s.log
  pub moves : Moves s.log s.snapshot s.base s.commit u

pub stepped_of : (h : NodeValue) (i : Input) (t : Node) → IsCoherent h → IsIntake i → HasTerm (node_of h) → t ≡ (compacted_step h.id (node_of h) i).node → Stepped (node_of h) t
stepped_of h i t ok x has is =
    let m = step_moves h.id (node_of h) i x has in
    let n = whole_length h in
    let w = ok.within in
    record { low = ok.low; applied = ok.applied; within = omega arith; u = m.0; is = is ∙ m.1; log = compact_kept h.snapshot h.base h.entries; moves = m.2 }

snaps_differ : (a b : LogEnd) (commit : ℕ) {A : Type 0} → a ≡ b → b.index ≤ commit → commit < a.index → A
snaps_differ a b commit e l p = let i : a.index ≡ b.index = ap (λ (x : LogEnd). x.index) e in absurd (omega arith)

-- if the snapshot is the same, the same holds for the cut
same_base : (s t : Node) → Stepped s t → t.snapshot ≡ s.snapshot → t.base ≡ s.base
same_base s t x e = ap (λ (n : Node). n.base) x.is ∙ by x.moves
  where
    same : x.u.snapshot ≡ s.snapshot
    same = sym (ap (λ (n : Node). n.snapshot) x.is) ∙ e

    by : Moves s.log s.snapshot s.base s.commit x.u → x.u.base ≡ s.base
    by (stays a b c) = c
    by (writes a b c) = c
    by (cuts a b c d f) = snaps_differ x.u.snapshot s.snapshot s.commit same x.applied b
    by (clears a b c d f) = snaps_differ x.u.snapshot s.snapshot s.commit same x.applied b

-- a step that writes nothing of the log
pub nothing_written : (s t : Node) (bytes : List ℕ) → Stepped s t → t.snapshot ≡ s.snapshot → t.log ≡ s.log → kept_at t bytes ≡ with_vote t.term t.vote (kept_at s bytes)
nothing_written s t bytes x e l =
    let b = same_base s t x e in
    λ k. record { term = t.term; vote = t.vote; snap = record { index = (e k).index; term = (e k).term; bytes = bytes }; log = record { first = suc (b k); entries = drop (b k) (l k) } }

-- a step that writes a batch from this index on has another log than before
differs : (s t : Node) (first : ℕ) → Begins s.commit s.log t.log first → t.log ≡ s.log → ⊥
differs s t first b e =
    let n : length t.log ≡ length s.log = ap (λ (l : List Entry). length l) e in
    let w = b.within in
    ⊎_elim (λ (x : first ≡ suc (length s.log)). omega arith) (λ (x : term_at s.log first ≢ term_at t.log first). x (ap (λ l. term_at l first) (sym e))) b.differs

batch_term : (s t : Node) (first : ℕ) → Stepped s t → t.snapshot ≡ s.snapshot → Begins s.commit s.log t.log first → t.term ≢ 0
batch_term s t first x e b = by x.moves
  where
    snapshot : x.u.snapshot ≡ s.snapshot
    snapshot = sym (ap (λ (n : Node). n.snapshot) x.is) ∙ e

    term : t.term ≡ x.u.term
    term = ap (λ (n : Node). n.term) x.is

    by : Moves s.log s.snapshot s.base s.commit x.u → t.term ≢ 0
    by (stays l f c) = absurd (differs s t first b (ap (λ (n : Node). n.log) x.is ∙ ap (λ z. compacted z x.u.base ++ drop x.u.base x.u.log) f ∙ ap (λ z. compacted s.snapshot z ++ drop z x.u.log) c ∙ ap (λ z. compacted s.snapshot s.base ++ drop s.base z) l ∙ x.log))
    by (writes nz a c) = λ z. nz (sym term ∙ z)
    by (cuts nz p c d f) = snaps_differ x.u.snapshot s.snapshot s.commit snapshot x.applied p
    by (clears nz p c d f) = snaps_differ x.u.snapshot s.snapshot s.commit snapshot x.applied p

pub batch_fits : (s t : Node) (bytes : List ℕ) (first : ℕ) → Stepped s t → t.snapshot ≡ s.snapshot → Begins s.commit s.log t.log first → CanAppend (with_vote t.term t.vote (kept_at s bytes)) (batch_from first t.log)
batch_fits s t bytes first x e b =
    let low = x.low in
    let applied = x.applied in
    let within = x.within in
    let past = b.past in
    let next = b.next in
    let n : length (drop s.base s.log) ≡ length s.log - s.base = drop_length s.base s.log in
    record { has_term = batch_term s t first x e b; past = omega arith; upto = omega arith }

pub batch_written : (s t : Node) (bytes : List ℕ) (first : ℕ) → Stepped s t → t.snapshot ≡ s.snapshot → Begins s.commit s.log t.log first → with_batch (batch_from first t.log) (with_vote t.term t.vote (kept_at s bytes)) ≡ kept_at t bytes
batch_written s t bytes first x e b =
    let low = x.low in
    let applied = x.applied in
    let past = b.past in
    let within = b.within in
    let base = same_base s t x e in
    let count : first - suc s.base ≡ first - 1 - s.base = omega arith in
    let entries : take (first - suc s.base) (drop s.base s.log) ++ drop (first - 1) t.log ≡ drop t.base t.log =
    ap (λ k. take k (drop s.base s.log) ++ drop (first - 1) t.log) count ∙ rest_joined s.base (first - 1) s.log t.log (omega arith) (omega arith) b.same ∙ ap (λ k. drop k t.log) (sym base) in
    λ k. record { term = t.term; vote = t.vote; snap = record { index = (sym e k).index; term = (sym e k).term; bytes = bytes }; log = record { first = suc (sym base k); entries = entries k } }

-- ---- a snapshot that comes

-- the store's terms of entries are those of the rules
same_nth : (xs : List Entry) (k : ℕ) → kept_term xs k ≡ nth_term xs k
same_nth [] k = refl
same_nth (x ∷ xs) zero = refl
same_nth (x ∷ xs) (suc k) = same_nth xs k

term_past : (base i : ℕ) (log : List Entry) → base < i → kept_term (drop base log) (i - suc base) ≡ term_at log i
term_past base i log lt =
    let at : suc (base + (i - suc base)) ≡ i = omega arith in
    same_nth (drop base log) (i - suc base) ∙ nth_at base (i - suc base) log ∙ ap (term_at log) at

-- the log is kept after a snapshot whose end it has
pub kept_behind : (base : ℕ) (log : List Entry) (snap : Snap) → base < snap.index → snap.index ≤ length log → term_at log snap.index ≡ snap.term → behind snap (log_from base log) ≡ log_from base log
unfolding behind
kept_behind base log snap lt le e =
    let n : length (drop base log) ≡ length log - base = drop_length base log in
    let k = term_past base snap.index log lt in
    cond_both (nat_lt snap.index (suc base)) _ _ (λ (l : Log). l ≡ log_from base log) (λ c. refl)
    (λ c. cond_both (nat_lt snap.index (suc base + length (drop base log)) && (kept_term (drop base log) (snap.index - suc base) == snap.term)) _ _ (λ (l : Log). l ≡ log_from base log) (λ d. refl)
    (λ d. let a : snap.index < suc base + length (drop base log) = omega arith in absurd (bad _ _ (lt-ltb _ _ a) (eq-eqb _ _ (k ∙ e)) d)))
  where
    bad : (a b : Bool) → a ≡ true → b ≡ true → (a && b) ≡ false → ⊥
    bad true true p q r = absurd cc
    bad true false p q r = absurd cc
    bad false b p q r = absurd cc

-- and none of it after one whose end it hasn't
dropped_behind : (base : ℕ) (log : List Entry) (snap : Snap) → base < snap.index → matches log (record { index = snap.index; term = snap.term }) ≡ false → behind snap (log_from base log) ≡ record { first = suc snap.index; entries = [] }
unfolding behind matches
dropped_behind base log snap lt e =
    let n : length (drop base log) ≡ length log - base = drop_length base log in
    let k = term_past base snap.index log lt in
    cond_both (nat_lt snap.index (suc base)) _ _ (λ (l : Log). l ≡ record { first = suc snap.index; entries = [] }) (λ c. let l = ltb-true _ _ c in absurd (omega arith))
    (λ c. cond_both (nat_lt snap.index (suc base + length (drop base log)) && (kept_term (drop base log) (snap.index - suc base) == snap.term)) _ _ (λ (l : Log). l ≡ record { first = suc snap.index; entries = [] })
    (λ d. let p = and_parts _ _ d in
    let a : snap.index < suc base + length (drop base log) = ltb-true _ _ p.0 in
    let b : kept_term (drop base log) (snap.index - suc base) ≡ snap.term = eqb-true _ _ p.1 in
    absurd (bad _ _ (le-leb snap.index (length log) (omega arith)) (eq-eqb (term_at log snap.index) snap.term (sym k ∙ b)) e))
    (λ d. refl))
  where
    bad : (a b : Bool) → a ≡ true → b ≡ true → (a && b) ≡ false → ⊥
    bad true true p q r = absurd cc
    bad true false p q r = absurd cc
    bad false b p q r = absurd cc

-- a log that begins right past the snapshot is kept
next_behind : (snap : Snap) (es : List Entry) → behind snap (record { first = suc snap.index; entries = es }) ≡ record { first = suc snap.index; entries = es }
unfolding behind
next_behind snap es = cond_both (nat_lt snap.index (suc snap.index)) _ _ (λ (l : Log). l ≡ record { first = suc snap.index; entries = es }) (λ c. refl) (λ c. let l = ltb-false _ _ c in absurd (omega arith))

-- what is shown where a snapshot comes past the commit index
pub record Came (s t : Node) (snap : Snap) : Type 0 where
  pub term : t.term ≢ 0
  pub past : s.commit < snap.index
  pub base : t.base ≡ snap.index
  pub stays : Stays snap (log_from s.base s.log) (log_from snap.index t.log)

matched : (log : List Entry) (end : LogEnd) → matches log end ≡ true → (end.index ≤ length log) × (term_at log end.index ≡ end.term)
unfolding matches
matched log end e = let p = and_parts _ _ e in (leb-true _ _ p.0, eqb-true _ _ p.1)

came : (s t : Node) (snap : Snap) → Stepped s t → s.commit < t.snapshot.index → t.snapshot ≡ record { index = snap.index; term = snap.term } → Came s t snap
came s t snap x past is = by x.moves
  where
    end : LogEnd
    end = record { index = snap.index; term = snap.term }

    snapshot : x.u.snapshot ≡ end
    snapshot = sym (ap (λ (n : Node). n.snapshot) x.is) ∙ is

    base : t.base ≡ x.u.base
    base = ap (λ (n : Node). n.base) x.is

    term : t.term ≡ x.u.term
    term = ap (λ (n : Node). n.term) x.is

    index : t.snapshot.index ≡ snap.index
    index = ap (λ (l : LogEnd). l.index) is

    u_index : x.u.snapshot.index ≡ snap.index
    u_index = ap (λ (l : LogEnd). l.index) snapshot

    rest : (b : ℕ) → x.u.base ≡ b → drop b t.log ≡ drop b x.u.log
    rest b e = ap (λ (n : Node). drop b n.log) x.is ∙ ap (λ k. drop k (compacted x.u.snapshot x.u.base ++ drop x.u.base x.u.log)) (sym e) ∙ put_away x.u ∙ ap (λ k. drop k x.u.log) e

    by : Moves s.log s.snapshot s.base s.commit x.u → Came s t snap
    by (stays l f c) = snaps_differ t.snapshot s.snapshot s.commit (is ∙ sym snapshot ∙ f) x.applied past
    by (writes nz f c) = snaps_differ t.snapshot s.snapshot s.commit (is ∙ sym snapshot ∙ f) x.applied past
    by (cuts nz p c d f) =
        let low = x.low in
        let applied = x.applied in
        let at : x.u.base ≡ snap.index = c ∙ u_index in
        let m : matches s.log end ≡ true = ap (matches s.log) (sym snapshot) ∙ d in
        let has = matched s.log end m in
        let old = kept_behind s.base s.log snap (omega arith) has.0 has.1 in
        let n : length (drop s.base s.log) ≡ length s.log - s.base = drop_length s.base s.log in
        let le : snap.index ≤ length s.log = has.0 in
        let sum : s.base + (suc snap.index - suc s.base) ≡ snap.index = omega arith in
        record {
          term = λ z. nz (sym term ∙ z);
          past = omega arith;
          base = base ∙ at;
          stays = part old
              (record { first = omega arith; upto = omega arith; entries = rest snap.index at ∙ ap (drop snap.index) f ∙ sym (drop_drop (suc snap.index - suc s.base) s.base s.log ∙ ap (λ k. drop k s.log) sum) })
              (next_behind snap (drop snap.index t.log));
        }
    by (clears nz p c d f) =
        let low = x.low in
        let applied = x.applied in
        let at : x.u.base ≡ snap.index = c ∙ u_index in
        let m : matches s.log end ≡ false = ap (matches s.log) (sym snapshot) ∙ d in
        let empty : drop snap.index t.log ≡ [] = rest snap.index at ∙ drop_all snap.index x.u.log (omega arith) in
        record {
          term = λ z. nz (sym term ∙ z);
          past = omega arith;
          base = base ∙ at;
          stays = nothing (dropped_behind s.base s.log snap (omega arith) m) (λ k. record { first = suc snap.index; entries = empty k });
        }

pub snapshot_fits : (s t : Node) (bytes : List ℕ) (snap : Snap) → Stepped s t → s.commit < t.snapshot.index → t.snapshot ≡ record { index = snap.index; term = snap.term } → CanKeep (with_vote t.term t.vote (kept_at s bytes)) snap (log_from snap.index t.log)
snapshot_fits s t bytes snap x past is =
    let c = came s t snap x past is in
    let applied = x.applied in
    let p = c.past in
    record { has_term = c.term; past = omega arith; some = omega arith; upto = omega arith; stays = c.stays }

pub snapshot_written : (s t : Node) (bytes : List ℕ) (snap : Snap) → Stepped s t → s.commit < t.snapshot.index → t.snapshot ≡ record { index = snap.index; term = snap.term } → with_snapshot snap (log_from snap.index t.log) (with_vote t.term t.vote (kept_at s bytes)) ≡ kept_at t snap.bytes
snapshot_written s t bytes snap x past is =
    let c = came s t snap x past is in
    let b = sym c.base in
    λ k. record { term = t.term; vote = t.vote; snap = record { index = (sym is k).index; term = (sym is k).term; bytes = snap.bytes }; log = record { first = suc (b k); entries = drop (b k) t.log } }
