-- Logs agree, and every later leader has what was decided.
use Rattle.std.proofs.Common.{◌≡◌, ◌≢◌, ◌⊎◌, inl, inr, ℕ, ◌<◌, ◌≤◌, true, List, length, refl, sym, ap, ◌∙◌, subst, ⊎_elim, arith}
use Rattle.std.specs.Prelude.{nat_le, nat_lt, ◌==◌, ◌&&◌}
use Rattle.std.proofs.lemmas.Bool.{leb-true, ltb-true, eqb-true, and_parts, or_cases, cases_lt}
use Rattle.raft_spec.specs.Log.{Entry, LogEnd, is_up_to_date, log_end, term_at}
use Rattle.raft_safety.specs.Members.{Setup}
use Rattle.raft_safety.proofs.Logs.{Agree, Meets, Terms, agree_trans, agree_sym, agree_term, term_at-within, term_at-nil}
use Rattle.raft_safety.proofs.History.{Hist, elected, Sound, Decided, HistOk}

pub as_new_cases : (a b : LogEnd) → is_up_to_date a b ≡ true → (b.term < a.term) ⊎ ((a.term ≡ b.term) × (b.index ≤ a.index))
unfolding is_up_to_date
as_new_cases a b e =
    ⊎_elim (λ (x : nat_lt b.term a.term ≡ true). inl (ltb-true _ _ x))
    (λ (x : ((a.term == b.term) && nat_le b.index a.index) ≡ true). let p = and_parts _ _ x in inr (eqb-true _ _ p.0, leb-true _ _ p.1))
    (or_cases _ _ e)

pub end-index : (xs : List Entry) → (log_end xs).index ≡ length xs
unfolding log_end
end-index xs = refl

pub end-term : (xs : List Entry) → (log_end xs).term ≡ term_at xs (length xs)
unfolding log_end
end-term xs = refl

pub as_new_logs : (xs ys : List Entry) → is_up_to_date (log_end xs) (log_end ys) ≡ true → (term_at ys (length ys) < term_at xs (length xs)) ⊎ ((term_at xs (length xs) ≡ term_at ys (length ys)) × (length ys ≤ length xs))
unfolding log_end
as_new_logs xs ys e = as_new_cases (log_end xs) (log_end ys) e

-- two logs with one term at an index agree up to it
pub meet : {h : Hist} {xs ys : List Entry} → Sound h xs → Sound h ys → Meets xs ys
meet {h} {xs} {ys} a b = record { at = λ i x y e. agree_trans (a.at i x) (subst (λ t. Agree i (h.log_of t) ys) (sym e) (agree_sym (b.at i y))) }

-- whose term an index has was a leader
pub leads_at : {h : Hist} {xs : List Entry} (vs : Setup) (n : ℕ) → HistOk vs h → Sound h xs → n ≤ length xs → term_at xs n ≢ 0 → h.who (term_at xs n) ≢ 0
leads_at {h} {xs} vs n ok s le nz z =
    let a = s.at n le in
    nz (agree_term n (omega arith) a ∙ ap (λ l. term_at l n) (ok.none (term_at xs n) z) ∙ term_at-nil n)

pub terms : {h : Hist} {xs : List Entry} (vs : Setup) → HistOk vs h → Sound h xs → Terms xs
terms {h} {xs} vs ok s = record {
  at = λ i pos le z.
      let a = s.at i le in
      let e = ap length (ap h.log_of z ∙ ok.none 0 ok.zero_term) in
      let r = a.in_right in
      omega arith;
}

pub sorted : {h : Hist} {xs : List Entry} (vs : Setup) (i j : ℕ) → HistOk vs h → Sound h xs → i ≤ j → j ≤ length xs → term_at xs i ≤ term_at xs j
sorted {h} {xs} vs i j ok s le b =
    let e = agree_term i le (s.at j b) in
    let l = ok.below (term_at xs j) i in
    omega arith

-- an entry of a leader's own term is past the log that it was elected with
pub past_front : {h : Hist} (vs : Setup) (v n : ℕ) → HistOk vs h → h.who v ≢ 0 → term_at (h.log_of v) n ≡ v → length (elected h v) < n
past_front {h} vs v n ok e x =
    ⊎_elim (λ (l : length (elected h v) < n). l)
    (λ (l : n ≤ length (elected h v)). absurd (let y = agree_term n l (ok.front v e) in let z = ok.older v n e in omega arith))
    (cases_lt (length (elected h v)) n)

-- a log at least as new as one with an entry of term t at i ends in a greater term, or has the place
pub ends : {h : Hist} (vs : Setup) (c m : List Entry) (t i : ℕ) → HistOk vs h → Sound h m → is_up_to_date (log_end c) (log_end m) ≡ true → t ≢ 0 → term_at m i ≡ t → (t < term_at c (length c)) ⊎ ((term_at c (length c) ≡ t) × (i ≤ length c))
ends {h} vs c m t i ok sound new nz e =
    let within = term_at-within m i t e nz in
    let up = sorted vs i (length m) ok sound within (omega arith) in
    ⊎_elim (λ (x : term_at m (length m) < term_at c (length c)). inl (omega arith))
    (λ (x : (term_at c (length c) ≡ term_at m (length m)) × (length m ≤ length c)).
    ⊎_elim (λ (l : t < term_at c (length c)). inl l)
    (λ (l : term_at c (length c) ≤ t). inr (omega (arith, x.0), omega (arith, x.1)))
    (cases_lt t (term_at c (length c))))
    (as_new_logs c m new)

-- at a leader elected with a log that ends so, by what holds of the leader of that end's term
pub ended : {h : Hist} (vs : Setup) (c : List Entry) (t i : ℕ) → HistOk vs h → Sound h c → t ≢ 0 → term_at (h.log_of t) i ≡ t → (t < term_at c (length c) → h.who (term_at c (length c)) ≢ 0 → term_at (elected h (term_at c (length c))) i ≡ t) → (t < term_at c (length c)) ⊎ ((term_at c (length c) ≡ t) × (i ≤ length c)) → term_at c i ≡ t
ended {h} vs c t i ok sound nz entry before x =
    let a = sound.at (length c) (omega arith) in
    ⊎_elim
    (λ (l : t < term_at c (length c)).
    let leads = leads_at vs (length c) ok sound (omega arith) (omega arith) in
    let was = before l leads in
    let there = term_at-within (elected h (term_at c (length c))) i t was nz in
    let past = past_front vs (term_at c (length c)) (length c) ok leads (sym (agree_term (length c) (omega arith) a)) in
    agree_term i (omega arith) a ∙ sym (agree_term i there (ok.front (term_at c (length c)) leads)) ∙ was)
    (λ (y : (term_at c (length c) ≡ t) × (i ≤ length c)).
    agree_term i y.1 a ∙ ap (λ v. term_at (h.log_of v) i) y.0 ∙ entry)
    x

-- the log has all that was decided in terms below u
pub record Complete (vs : Setup) (h : Hist) (xs : List Entry) (u : ℕ) : Type 0 where
  pub at : (t i : ℕ) → t < u → Decided vs h t i → term_at xs i ≡ t
