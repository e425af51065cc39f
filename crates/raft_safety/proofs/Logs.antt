-- Logs that agree up to an index, and the term at an index.
use Rattle.std.proofs.Common.{◌≡◌, ◌≢◌, ◌⊎◌, inl, inr, ℕ, zero, suc, ◌+◌, ◌-◌, ◌<◌, ◌≤◌, true, false, List, [], ◌∷◌, ◌++◌, length, take, drop, refl, sym, ap, ◌∙◌, subst, ⊎_elim, arith, length-append, length-drop}
use Rattle.std.specs.Prelude.{◌==◌}
use Rattle.std.proofs.lemmas.List.{length-take, take-append-drop, take-take, take-append-le, length-take-le, drop-take}
use Rattle.std.proofs.Math.Seq.{take-add}
use Rattle.std.proofs.lemmas.Bool.{eqb-true, eqb-false, cases_Bool, cond-true, cond-false}
use Rattle.raft_spec.specs.Log.{Entry, accept, merged, nth_term, term_at}
use Rattle.raft_spec.specs.Outcomes.{with_term}

-- the two logs agree up to the index
pub record Agree (i : ℕ) (xs ys : List Entry) : Type 0 where
  pub in_left : i ≤ length xs
  pub in_right : i ≤ length ys
  pub same : take i xs ≡ take i ys

nth-take : (p : ℕ) (xs : List Entry) (k : ℕ) → k < p → nth_term (take p xs) k ≡ nth_term xs k
nth-take zero xs k h = absurd (omega arith)
nth-take (suc p) [] k h = refl
nth-take (suc p) (x ∷ xs) zero h = refl
nth-take (suc p) (x ∷ xs) (suc k) h = nth-take p xs k (omega arith)

nth-append : (xs ys : List Entry) (k : ℕ) → k < length xs → nth_term (xs ++ ys) k ≡ nth_term xs k
nth-append [] ys k h = absurd (omega arith)
nth-append (x ∷ xs) ys zero h = refl
nth-append (x ∷ xs) ys (suc k) h = nth-append xs ys k (omega arith)

nth-past : (xs : List Entry) (k : ℕ) → length xs ≤ k → nth_term xs k ≡ 0
nth-past [] k h = refl
nth-past (x ∷ xs) zero h = absurd (omega arith)
nth-past (x ∷ xs) (suc k) h = nth-past xs k (omega arith)

nth-append_right : (xs ys : List Entry) (k : ℕ) → nth_term (xs ++ ys) (length xs + k) ≡ nth_term ys k
nth-append_right [] ys k = let e : 0 + k ≡ k = omega arith in ap (nth_term ys) e
nth-append_right (x ∷ xs) ys k =
    let e : suc (length xs) + k ≡ suc (length xs + k) = omega arith in
    ap (nth_term (x ∷ xs ++ ys)) e ∙ nth-append_right xs ys k

nth-drop : (p : ℕ) (xs : List Entry) (k : ℕ) → nth_term (drop p xs) k ≡ nth_term xs (p + k)
nth-drop zero xs k = let e : k ≡ 0 + k = omega arith in ap (nth_term xs) e
nth-drop (suc p) [] k = refl
nth-drop (suc p) (x ∷ xs) k =
    let e : suc (p + k) ≡ suc p + k = omega arith in
    nth-drop p xs k ∙ ap (nth_term (x ∷ xs)) e

pub term_at-zero : (xs : List Entry) → term_at xs 0 ≡ 0
unfolding term_at
term_at-zero xs = refl

pub term_at-nil : (i : ℕ) → term_at [] i ≡ 0
unfolding term_at
term_at-nil zero = refl
term_at-nil (suc i) = refl

pub term_at-suc : (xs : List Entry) (k : ℕ) → term_at xs (suc k) ≡ nth_term xs k
unfolding term_at
term_at-suc xs k = refl

pub term_at-take : (p : ℕ) (xs : List Entry) (i : ℕ) → i ≤ p → term_at (take p xs) i ≡ term_at xs i
unfolding term_at
term_at-take p xs zero h = refl
term_at-take p xs (suc k) h = nth-take p xs k h

pub term_at-append : (xs ys : List Entry) (i : ℕ) → i ≤ length xs → term_at (xs ++ ys) i ≡ term_at xs i
unfolding term_at
term_at-append xs ys zero h = refl
term_at-append xs ys (suc k) h = nth-append xs ys k h

pub term_at-past : (xs : List Entry) (i : ℕ) → length xs < i → term_at xs i ≡ 0
unfolding term_at
term_at-past xs zero h = absurd (omega arith)
term_at-past xs (suc k) h = nth-past xs k (omega arith)

-- an index with a term is in the log
pub term_at-within : (xs : List Entry) (i t : ℕ) → term_at xs i ≡ t → t ≢ 0 → i ≤ length xs
term_at-within xs i t e n = grind (arith, term_at-past)

nth-of_term : (u : ℕ) (es : List Entry) (k : ℕ) → k < length (with_term u es) → nth_term (with_term u es) k ≡ u
nth-of_term u [] k h = absurd (omega arith)
nth-of_term u (e ∷ es) zero h = refl
nth-of_term u (e ∷ es) (suc k) h = nth-of_term u es k (omega arith)

pub term_at-new : (u : ℕ) (xs es : List Entry) (i : ℕ) → length xs < i → i ≤ length (xs ++ with_term u es) → term_at (xs ++ with_term u es) i ≡ u
unfolding term_at
term_at-new u xs es zero h l = absurd (omega arith)
term_at-new u xs es (suc k) h l =
    let e : length xs + (k - length xs) ≡ k = omega arith in
    let b : k - length xs < length (with_term u es) = omega (arith, length-append xs (with_term u es)) in
    ap (nth_term (xs ++ with_term u es)) (sym e) ∙ nth-append_right xs (with_term u es) (k - length xs) ∙ nth-of_term u es (k - length xs) b

pub agree_refl : (i : ℕ) (xs : List Entry) → i ≤ length xs → Agree i xs xs
agree_refl i xs h = record { in_left = h; in_right = h; same = refl }

pub agree_sym : {i : ℕ} {xs ys : List Entry} → Agree i xs ys → Agree i ys xs
agree_sym a = record { in_left = a.in_right; in_right = a.in_left; same = sym a.same }

pub agree_trans : {i : ℕ} {xs ys zs : List Entry} → Agree i xs ys → Agree i ys zs → Agree i xs zs
agree_trans a b = record { in_left = a.in_left; in_right = b.in_right; same = a.same ∙ b.same }

pub agree_down : {i : ℕ} {xs ys : List Entry} (j : ℕ) → j ≤ i → Agree i xs ys → Agree j xs ys
agree_down {i} {xs} {ys} j h a = record {
  in_left = omega (arith, a.in_left);
  in_right = omega (arith, a.in_right);
  same = sym (take-take j i xs h) ∙ ap (take j) a.same ∙ take-take j i ys h;
}

pub agree_term : {i : ℕ} {xs ys : List Entry} (j : ℕ) → j ≤ i → Agree i xs ys → term_at xs j ≡ term_at ys j
agree_term {i} {xs} {ys} j h a = sym (term_at-take i xs j h) ∙ ap (λ l. term_at l j) a.same ∙ term_at-take i ys j h

pub agree_append : (i : ℕ) (xs ys : List Entry) → i ≤ length xs → Agree i xs (xs ++ ys)
agree_append i xs ys h = record {
  in_left = h;
  in_right = omega (arith, length-append xs ys);
  same = sym (take-append-le i xs ys h);
}

pub agree_take : (i p : ℕ) (xs : List Entry) → i ≤ p → p ≤ length xs → Agree i (take p xs) xs
agree_take i p xs h l = record {
  in_left = omega (arith, length-take-le p xs l);
  in_right = omega arith;
  same = take-take i p xs h;
}

-- what an accept leaves: the same entries, or the other log's
merged_cases : (rest es : List Entry) → ((k : ℕ) → k < length rest → k < length es → nth_term rest k ≡ nth_term es k → take (suc k) rest ≡ take (suc k) es) → ((k : ℕ) → k < length es → nth_term es k ≢ 0) → ((merged rest es ≡ rest) × (take (length es) rest ≡ es)) ⊎ ((merged rest es ≡ es) × ((c : ℕ) × (c < length es) × (nth_term rest c ≢ nth_term es c)))
unfolding merged
merged_cases [] [] coh pos = inl (refl, refl)
merged_cases (r ∷ rs) [] coh pos = inl (refl, refl)
merged_cases [] (e ∷ es) coh pos = inr (refl, (0, omega arith, λ z. pos 0 (omega arith) (sym z)))
merged_cases (r ∷ rs) (e ∷ es) coh pos =
    let ih = merged_cases rs es (λ k a b q. let z = coh (suc k) (omega arith) (omega arith) q in cc) (λ k b. pos (suc k) (omega arith)) in
    ⊎_elim
    (λ (t : (r.term == e.term) ≡ true).
    let one = coh 0 (omega arith) (omega arith) (eqb-true _ _ t) in
    let re : r ≡ e = cc in
    let m = cond-true (r.term == e.term) (r ∷ merged rs es) (e ∷ es) t in
    ⊎_elim
    (λ (x : (merged rs es ≡ rs) × (take (length es) rs ≡ es)). inl (m ∙ ap (λ l. r ∷ l) x.0, cc))
    (λ (x : (merged rs es ≡ es) × ((c : ℕ) × (c < length es) × (nth_term rs c ≢ nth_term es c))). inr (m ∙ cc (x.0), (suc x.1.0, omega (arith, x.1.1), x.1.2)))
    ih)
    (λ (f : (r.term == e.term) ≡ false). inr (cond-false (r.term == e.term) (r ∷ merged rs es) (e ∷ es) f, (0, omega arith, eqb-false _ _ f)))
    (cases_Bool (r.term == e.term))

-- entries that follow the place in another log
pub record Piece (p : ℕ) (es xs : List Entry) : Type 0 where
  pub within : p + length es ≤ length xs
  pub same : take (length es) (drop p xs) ≡ es

-- each index of the log at which the other has the same term, and not 0, is one up to which they agree
pub record Meets (xs ys : List Entry) : Type 0 where
  pub at : (i : ℕ) → i ≤ length xs → i ≤ length ys → term_at xs i ≡ term_at ys i → Agree i xs ys

pub record Terms (xs : List Entry) : Type 0 where
  pub at : (i : ℕ) → 0 < i → i ≤ length xs → term_at xs i ≢ 0

pub take_drops : (p k : ℕ) (xs ys : List Entry) → Agree (p + k) xs ys → take k (drop p xs) ≡ take k (drop p ys)
take_drops p k xs ys a = sym (drop-take p k xs) ∙ ap (drop p) a.same ∙ drop-take p k ys

pub nth_at : (p k : ℕ) (xs : List Entry) → nth_term (drop p xs) k ≡ term_at xs (suc (p + k))
nth_at p k xs = nth-drop p xs k ∙ sym (term_at-suc xs (p + k))

pub piece_nth : (p k : ℕ) (es xs : List Entry) → Piece p es xs → k < length es → nth_term es k ≡ term_at xs (suc (p + k))
piece_nth p k es xs a h = ap (λ l. nth_term l k) (sym a.same) ∙ nth-take (length es) (drop p xs) k h ∙ nth_at p k xs

take-len : (k : ℕ) (es zs : List Entry) → take (length es) zs ≡ es → k ≤ length es → take k es ≡ take k zs
take-len k es zs e h = ap (take k) (sym e) ∙ take-take k (length es) zs h

-- the log after an accept: itself, or the front of the other log, if a term differed before
pub data Accepted (p : ℕ) (n : ℕ) (xs ys new : List Entry) : Type 0 where
  stays : new ≡ xs → Agree (p + n) xs ys → Accepted p n xs ys new
  moves : new ≡ take (p + n) ys → (c : ℕ) → c ≤ p + n → term_at xs c ≢ term_at ys c → Accepted p n xs ys new

pub accept_cases : (p : ℕ) (xs es ys : List Entry) → Agree p xs ys → Piece p es ys → Meets xs ys → Terms ys → Accepted p (length es) xs ys (accept xs p es)
unfolding accept
accept_cases p xs es ys a piece meets terms =
    ⊎_elim
    (λ (x : (merged (drop p xs) es ≡ drop p xs) × (take (length es) (drop p xs) ≡ es)).
    let long : p + length es ≤ length xs = within x.1 in
    stays (ap (λ l. take p xs ++ l) x.0 ∙ take-append-drop p xs) (record {
      in_left = long;
      in_right = piece.within;
      same = take-add p (length es) xs ∙ cc (a.same, x.1, piece.same) ∙ sym (take-add p (length es) ys);
    }))
    (λ (x : (merged (drop p xs) es ≡ es) × ((c : ℕ) × (c < length es) × (nth_term (drop p xs) c ≢ nth_term es c))).
    moves
    (ap (λ l. take p xs ++ l) x.0 ∙ cc (a.same, piece.same) ∙ sym (take-add p (length es) ys))
    (suc (p + x.1.0))
    (omega (arith, x.1.1))
    (λ e. x.1.2 (nth_at p x.1.0 xs ∙ e ∙ sym (piece_nth p x.1.0 es ys piece x.1.1))))
    (merged_cases (drop p xs) es
    (λ k h l e.
    let up : suc (p + k) ≤ length xs = omega (arith, length-drop p xs) in
    let up' : suc (p + k) ≤ length ys = omega (arith, piece.within) in
    let same : term_at xs (suc (p + k)) ≡ term_at ys (suc (p + k)) = sym (nth_at p k xs) ∙ e ∙ piece_nth p k es ys piece l in
    let agree : Agree (p + suc k) xs ys = let q : suc (p + k) ≡ p + suc k = omega arith in subst (λ n. Agree n xs ys) q (meets.at (suc (p + k)) up up' same) in
    take_drops p (suc k) xs ys agree ∙ sym (take-len (suc k) es (drop p ys) piece.same l))
    (λ k l z. terms.at (suc (p + k)) (omega arith) (omega (arith, piece.within)) (sym (piece_nth p k es ys piece l) ∙ z)))
  where
    within : take (length es) (drop p xs) ≡ es → p + length es ≤ length xs
    within e =
        let l = ap length e in
        omega (arith, length-take (length es) (drop p xs), length-drop p xs, a.in_left)
