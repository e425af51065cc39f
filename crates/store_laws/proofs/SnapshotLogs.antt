-- Older batches go, and the log keeps its end.
use Rattle.std.proofs.Common.{◌≡◌, inl, inr, ℕ, zero, suc, ◌+◌, ◌-◌, ◌≤◌, List, [], ◌∷◌, ◌++◌, length, take, drop, refl, sym, ap, ◌∙◌, subst, arith, length-append, length-drop}
use Rattle.std.proofs.lemmas.List.{drop_all, drop_at, length-take-le}
use Rattle.std.proofs.lemmas.Bool.{cases_lt}
use Rattle.raft_spec.specs.Log.{Entry}
use Rattle.store_laws.specs.Store.{Log, put_batch, nth_term, log_of, empty_log}
use Rattle.store_laws.specs.Snapshots.{Longer}
use Rattle.store_laws.proofs.Logs.{put_within, put_past, put_before}

pub longer_refl : (l : Log) → Longer l l
longer_refl l =
    let z : l.first - l.first ≡ 0 = omega arith in
    record { first = omega arith; upto = omega arith; entries = ap (λ (k : ℕ). drop k l.entries) (sym z) }

pub longer_is : (l m : Log) → l ≡ m → Longer l m
longer_is l m e = subst (Longer l) e (longer_refl l)

pub ends_alike : (l m : Log) → Longer l m → m.first + length m.entries ≡ l.first + length l.entries
ends_alike l m o = omega (arith, o.first, o.upto, ap length o.entries, length-drop (m.first - l.first) l.entries)

-- a batch after or within a log
pub put_longer : (l b : Log) → Longer (put_batch l b) b
put_longer l b = elim (cases_lt b.first l.first) [
  | inl h ↦ longer_is _ _ (put_before l b h)
  | inr h ↦ elim (cases_lt (l.first + length l.entries) b.first) [
    | inl k ↦ longer_is _ _ (put_past l b k)
    | inr k ↦
        let t : length (take (b.first - l.first) l.entries) ≡ b.first - l.first = length-take-le _ _ (omega arith) in
        subst (λ (x : Log). Longer x b) (sym (put_within l b h k)) (record {
          first = h;
          upto = omega (arith, length-append (take (b.first - l.first) l.entries) b.entries);
          entries = sym (drop_at (take (b.first - l.first) l.entries) b.entries (b.first - l.first) t);
        })
  ]
]

cut_drop : (a c : ℕ) (xs es : List Entry) → a + c ≤ length xs → drop a (take (a + c) xs ++ es) ≡ take c (drop a xs) ++ es
cut_drop zero c xs es h = let z : 0 + c ≡ c = omega arith in ap (λ (k : ℕ). take k xs ++ es) z
cut_drop (suc a) c [] es h = absurd (omega arith)
cut_drop (suc a) c (x ∷ xs) es h =
    let z : suc a + c ≡ suc (a + c) = omega arith in
    ap (λ (k : ℕ). drop (suc a) (take k (x ∷ xs) ++ es)) z ∙ cut_drop a c xs es (omega arith)

within : (l m b : Log) → Longer l m → m.first ≤ b.first → b.first ≤ m.first + length m.entries → Longer (record { first = l.first; entries = take (b.first - l.first) l.entries ++ b.entries }) (record { first = m.first; entries = take (b.first - m.first) m.entries ++ b.entries })
within l m b o h k =
    let same = ends_alike l m o in
    let a = m.first - l.first in
    let c = b.first - m.first in
    let f = o.first in
    let e : b.first - l.first ≡ a + c = omega arith in
    let fits : a + c ≤ length l.entries = omega arith in
    let t : length (take (b.first - l.first) l.entries) ≡ b.first - l.first = length-take-le _ _ (omega arith) in
    record {
      first = o.first;
      upto = omega (arith, length-append (take (b.first - l.first) l.entries) b.entries);
      entries = ap (λ (x : List Entry). take c x ++ b.entries) o.entries ∙ sym (cut_drop a c l.entries b.entries fits) ∙ ap (λ (n : ℕ). drop a (take n l.entries ++ b.entries)) (sym e);
    }

-- two logs of which one is the end of the other, with one batch more
put_both : (l m b : Log) → Longer l m → Longer (put_batch l b) (put_batch m b)
put_both l m b o =
    let same = ends_alike l m o in
    elim (cases_lt b.first m.first) [
      | inl h ↦ subst (Longer (put_batch l b)) (sym (put_before m b h)) (put_longer l b)
      | inr h ↦ elim (cases_lt (m.first + length m.entries) b.first) [
        | inl k ↦ longer_is _ _ (put_past l b (omega arith) ∙ sym (put_past m b k))
        | inr k ↦
            let wl = put_within l b (omega (arith, o.first)) (omega arith) in
            let wm = put_within m b h k in
            subst (λ (x : Log). Longer x (put_batch m b)) (sym wl) (subst (Longer (record { first = l.first; entries = take (b.first - l.first) l.entries ++ b.entries })) (sym wm)
            (within l m b o h k))
      ]
    ]

pub log_both : (l m : Log) → Longer l m → (bs : List Log) → Longer (log_of l bs) (log_of m bs)
unfolding log_of
log_both l m o [] = o
log_both l m o (b ∷ bs) = log_both (put_batch l b) (put_batch m b) (put_both l m b o) bs

-- the first batch is the whole log
pub put_empty : (b : Log) → put_batch empty_log b ≡ b
put_empty b = elim (cases_lt b.first 1) [
  | inl h ↦ put_before empty_log b h
  | inr h ↦ elim (cases_lt 1 b.first) [
    | inl k ↦ put_past empty_log b (omega arith)
    | inr k ↦
        let e : 1 ≡ b.first = omega arith in
        let z : b.first - 1 ≡ 0 = omega arith in
        put_within empty_log b h (omega arith) ∙ (λ i. record { first = e i; entries = take (z i) [] ++ b.entries })
  ]
]

-- whatever was before, batches that aren't none make the same end
pub later_batches : (l b : Log) (bs : List Log) → Longer (log_of l (b ∷ bs)) (log_of empty_log (b ∷ bs))
unfolding log_of
later_batches l b bs = log_both (put_batch l b) (put_batch empty_log b) (subst (Longer (put_batch l b)) (sym (put_empty b)) (put_longer l b)) bs

pub left_end : (l b : Log) (left : List Log) → Longer (log_of l (left ++ b ∷ [])) (log_of empty_log (left ++ b ∷ []))
left_end l b [] = later_batches l b []
left_end l b (c ∷ left) = later_batches l c (left ++ b ∷ [])

nth_drop : (n : ℕ) (es : List Entry) (k : ℕ) → nth_term (drop n es) k ≡ nth_term es (n + k)
nth_drop zero es k = let z : k ≡ 0 + k = omega arith in ap (nth_term es) z
nth_drop (suc n) [] k = refl
nth_drop (suc n) (e ∷ es) k = let z : suc (n + k) ≡ suc n + k = omega arith in nth_drop n es k ∙ ap (nth_term (e ∷ es)) z

-- the term at an index is that of the longer log
pub nth_longer : (l m : Log) → Longer l m → (i : ℕ) → m.first ≤ i → nth_term m.entries (i - m.first) ≡ nth_term l.entries (i - l.first)
nth_longer l m o i h =
    let f = o.first in
    let e : (m.first - l.first) + (i - m.first) ≡ i - l.first = omega arith in
    ap (λ (x : List Entry). nth_term x (i - m.first)) o.entries ∙ nth_drop (m.first - l.first) l.entries (i - m.first) ∙ ap (nth_term l.entries) e

pub longer_trans : (l m n : Log) → Longer l m → Longer m n → Longer l n
longer_trans l m n o p =
    let f = o.first in let g = p.first in
    let e : (n.first - m.first) + (m.first - l.first) ≡ n.first - l.first = omega arith in
    let same = ends_alike l m o in
    record {
      first = omega arith;
      upto = omega (arith, p.upto);
      entries = p.entries ∙ ap (drop (n.first - m.first)) o.entries ∙ drop_drop (n.first - m.first) (m.first - l.first) l.entries ∙ ap (λ (k : ℕ). drop k l.entries) e;
    }
  where
    drop_drop : (a b : ℕ) (xs : List Entry) → drop a (drop b xs) ≡ drop (a + b) xs
    drop_drop a zero xs = let z : a ≡ a + 0 = omega arith in ap (λ (k : ℕ). drop k xs) z
    drop_drop a (suc b) [] = drop_all a [] (omega arith) ∙ sym (drop_all (a + suc b) [] (omega arith))
    drop_drop a (suc b) (x ∷ xs) = drop_drop a b xs ∙ (let z : suc (a + b) ≡ a + suc b = omega arith in ap (λ (k : ℕ). drop k (x ∷ xs)) z)
