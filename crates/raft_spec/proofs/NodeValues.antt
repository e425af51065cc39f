-- The whole log that the code's node represents: what is compacted, and then its entries.
use Rattle.std.proofs.Common.{sym, ⊎_elim, append_assoc, ◌≡◌, ℕ, zero, suc, ◌+◌, ◌-◌, ◌<◌, ◌≤◌, List, [], ◌∷◌, ◌++◌, length, drop, refl, ap, ◌∙◌, arith, length-append}
use Rattle.std.proofs.lemmas.Bool.{cases_lt}
use Rattle.std.proofs.lemmas.List.{length-replicate, drop_at}
use Rattle.raft_spec.specs.Log.{Entry, Barrier, LogEnd, nth_term, term_at, log_end}
use Rattle.raft_spec.specs.Node.{Node}
use Rattle.raft_spec.specs.Compaction.{compacted, with_whole_log, compact}
use Rattle.raft_spec.specs.NodeValues.{NodeValue, node_of}

pub compacted_length : (last : LogEnd) (n : ℕ) → length (compacted last n) ≡ n
compacted_length last n = length-replicate n (record { term = last.term; kind = Barrier; bytes = [] })

-- a node with these entries has no more to compact
pub compact_kept : (last : LogEnd) (n : ℕ) (es : List Entry) → compacted last n ++ drop n (compacted last n ++ es) ≡ compacted last n ++ es
compact_kept last n es = ap (λ l. compacted last n ++ l) (drop_at (compacted last n) es n (compacted_length last n))

pub compact_node : (h : NodeValue) → compact (node_of h) ≡ node_of h
compact_node h = ap (with_whole_log (node_of h)) (compact_kept h.snapshot h.base h.entries)

-- nor has one to which entries are added
pub compact_grown : (s : Node) (last : LogEnd) (n : ℕ) (es more : List Entry) → s.snapshot ≡ last → s.base ≡ n → s.log ≡ (compacted last n ++ es) ++ more → compact s ≡ with_whole_log s (compacted last n ++ (es ++ more))
compact_grown s last n es more a b c =
    let whole : s.log ≡ compacted last n ++ (es ++ more) = c ∙ append_assoc (compacted last n) es more in
    ap (λ l. with_whole_log s (compacted s.snapshot s.base ++ drop s.base l)) whole ∙ ap (λ k. with_whole_log s (compacted s.snapshot k ++ drop k (compacted last n ++ (es ++ more)))) b ∙ ap (λ e. with_whole_log s (compacted e n ++ drop n (compacted last n ++ (es ++ more)))) a ∙ ap (with_whole_log s) (compact_kept last n (es ++ more))

pub whole_length : (h : NodeValue) → length (node_of h).log ≡ h.base + length h.entries
whole_length h = length-append (compacted h.snapshot h.base) h.entries ∙ ap (λ n. n + length h.entries) (compacted_length h.snapshot h.base)

pub nth_past : (xs ys : List Entry) (k : ℕ) → nth_term (xs ++ ys) (length xs + k) ≡ nth_term ys k
nth_past [] ys k = let e : 0 + k ≡ k = omega arith in ap (nth_term ys) e
nth_past (x ∷ xs) ys k = let e : suc (length xs) + k ≡ suc (length xs + k) = omega arith in ap (nth_term (x ∷ xs ++ ys)) e ∙ nth_past xs ys k

nth_compacted : (last : LogEnd) (n k : ℕ) (ys : List Entry) → k < n → nth_term (compacted last n ++ ys) k ≡ last.term
nth_compacted last zero k ys l = absurd (omega arith)
nth_compacted last (suc n) zero ys l = refl
nth_compacted last (suc n) (suc k) ys l = nth_compacted last n k ys (omega arith)

-- the term past the cut is that of the entry there
pub whole_term : (h : NodeValue) (k : ℕ) → h.base < k → term_at (node_of h).log k ≡ nth_term h.entries (k - suc h.base)
unfolding term_at
whole_term h zero l = absurd (omega arith)
whole_term h (suc k) l =
    let n = compacted_length h.snapshot h.base in
    let e : k ≡ length (compacted h.snapshot h.base) + (suc k - suc h.base) = omega arith in
    ap (nth_term (compacted h.snapshot h.base ++ h.entries)) e ∙ nth_past (compacted h.snapshot h.base) h.entries (suc k - suc h.base)

-- at the cut and below it is the snapshot's, but 0 at the index 0
pub whole_term_cut : (h : NodeValue) (k : ℕ) → 0 < k → k ≤ h.base → term_at (node_of h).log k ≡ h.snapshot.term
unfolding term_at
whole_term_cut h zero pos l = absurd (omega arith)
whole_term_cut h (suc k) pos l = nth_compacted h.snapshot h.base k h.entries (omega arith)

term_start : (xs : List Entry) → term_at xs 0 ≡ 0
unfolding term_at
term_start xs = refl

ends : (m n t u : ℕ) → m ≡ n → t ≡ u → let a : LogEnd = record { index = m; term = t } in let b : LogEnd = record { index = n; term = u } in a ≡ b
ends m n t u e f = λ k. record { index = e k; term = f k }

-- the end of a node's whole log: its last entry, else the snapshot's end, else nothing
pub whole_end : (h : NodeValue) (last : LogEnd) → last.index ≡ h.base + length h.entries → ((0 < length h.entries) → last.term ≡ nth_term h.entries (length h.entries - 1)) → (length h.entries ≡ 0 → 0 < h.base → last.term ≡ h.snapshot.term) → (length h.entries ≡ 0 → h.base ≡ 0 → last.term ≡ 0) → last ≡ log_end (node_of h).log
unfolding log_end
whole_end h last index some none empty =
    let n = whole_length h in
    ends last.index (length (node_of h).log) last.term (term_at (node_of h).log (length (node_of h).log)) (index ∙ sym n)
    (⊎_elim
    (λ (l : 0 < length h.entries).
    let e : length (node_of h).log - suc h.base ≡ length h.entries - 1 = omega arith in
    some l ∙ sym (whole_term h (length (node_of h).log) (omega arith) ∙ ap (nth_term h.entries) e))
    (λ (l : length h.entries ≤ 0).
    ⊎_elim
    (λ (b : 0 < h.base). none (omega arith) b ∙ sym (whole_term_cut h (length (node_of h).log) (omega arith) (omega arith)))
    (λ (b : h.base ≤ 0). empty (omega arith) (omega arith) ∙ sym (ap (term_at (node_of h).log) (n ∙ none_left h b l) ∙ term_start (node_of h).log))
    (cases_lt 0 h.base))
    (cases_lt 0 (length h.entries)))
  where
    none_left : (h : NodeValue) → h.base ≤ 0 → length h.entries ≤ 0 → h.base + length h.entries ≡ 0
    none_left h a b = omega arith
