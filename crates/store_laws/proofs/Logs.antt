-- A batch more in a log after a snapshot.
use Rattle.std.proofs.Common.{◌≡◌, inl, inr, ℕ, zero, suc, ◌+◌, ◌-◌, ◌≤◌, ◌<◌, Bool, true, false, List, [], ◌∷◌, ◌++◌, length, take, refl, sym, ap, ◌∙◌, subst, arith, length-append}
use Rattle.std.specs.Prelude.{◌==◌, ◌&&◌, nat_le, nat_lt}
use Rattle.std.proofs.lemmas.List.{length-take-le}
use Rattle.std.proofs.lemmas.Bool.{cases_Bool, cond-true, cond-false, cases_lt, and_parts, ltb-true, ltb-false, leb-true, leb-false}
use Rattle.raft_spec.specs.Log.{Entry}
use Rattle.store_laws.specs.Store.{Log, Snap, put_batch, behind, nth_term, log_of}
use Rattle.store_laws.specs.Append.{wanted, Takes}
use Rattle.store_laws.specs.Settled.{Steady, fits, ends_before}

-- a batch is taken, and the files' log stays one that the snapshot keeps, or that ends before it
pub record Steadily (s : Snap) (l b new : Log) : Type 0 where
  pub takes : Takes s l b new
  pub steady : Steady s (put_batch l b)

pub log_push : (l : Log) (bs : List Log) (b : Log) → log_of l (bs ++ b ∷ []) ≡ put_batch (log_of l bs) b
unfolding log_of
log_push l [] b = refl
log_push l (x ∷ bs) b = log_push (put_batch l x) bs b

pub log_one : (l b : Log) → log_of l (b ∷ []) ≡ put_batch l b
unfolding log_of
log_one l b = refl

lt_true : (a b : ℕ) → a < b → nat_lt a b ≡ true
lt_true a b h = elim (cases_Bool (nat_lt a b)) [ inl t ↦ t | inr t ↦ let l : b ≤ a = ltb-false _ _ t in absurd (omega arith) ]

lt_false : (a b : ℕ) → b ≤ a → nat_lt a b ≡ false
lt_false a b h = elim (cases_Bool (nat_lt a b)) [ inl t ↦ let l : a < b = ltb-true _ _ t in absurd (omega arith) | inr t ↦ t ]

le_true : (a b : ℕ) → a ≤ b → nat_le a b ≡ true
le_true a b h = elim (cases_Bool (nat_le a b)) [ inl t ↦ t | inr t ↦ let l : b < a = leb-false _ _ t in absurd (omega arith) ]

le_false : (a b : ℕ) → b < a → nat_le a b ≡ false
le_false a b h = elim (cases_Bool (nat_le a b)) [ inl t ↦ let l : a ≤ b = leb-true _ _ t in absurd (omega arith) | inr t ↦ t ]

pub nth_take : (n : ℕ) (es fs : List Entry) (k : ℕ) → k < n → n ≤ length es → nth_term (take n es ++ fs) k ≡ nth_term es k
nth_take zero es fs k h l = absurd (omega arith)
nth_take (suc n) [] fs k h l = absurd (omega arith)
nth_take (suc n) (e ∷ es) fs zero h l = refl
nth_take (suc n) (e ∷ es) fs (suc k) h l = nth_take n es fs k (omega arith) (omega arith)

pub behind_past : (s : Snap) (l : Log) → s.index < l.first → behind s l ≡ l
unfolding behind
behind_past s l h = cond-true _ _ _ (lt_true _ _ h)

pub behind_has : (s : Snap) (l : Log) → l.first ≤ s.index → s.index < l.first + length l.entries → (nth_term l.entries (s.index - l.first) == s.term) ≡ true → behind s l ≡ l
unfolding behind
behind_has s l h k t = cond-false _ _ _ (lt_false _ _ h) ∙ cond-true _ _ _ ((λ i. lt_true _ _ k i && t i))

pub behind_short : (s : Snap) (l : Log) → l.first ≤ s.index → l.first + length l.entries ≤ s.index → behind s l ≡ record { first = suc s.index; entries = [] }
unfolding behind
behind_short s l h k = cond-false _ _ _ (lt_false _ _ h) ∙ cond-false _ _ _ (λ i. lt_false _ _ k i && (nth_term l.entries (s.index - l.first) == s.term))

pub behind_other : (s : Snap) (l : Log) → l.first ≤ s.index → (nth_term l.entries (s.index - l.first) == s.term) ≡ false → behind s l ≡ record { first = suc s.index; entries = [] }
unfolding behind
behind_other s l h t = cond-false _ _ _ (lt_false _ _ h) ∙ cond-false _ _ _ (ap (λ (b : Bool). nat_lt s.index (l.first + length l.entries) && b) t ∙ none (nat_lt s.index (l.first + length l.entries)))
  where
    none : (b : Bool) → (b && false) ≡ false
    none true = refl
    none false = refl

-- why a log that begins at or before the snapshot's index is kept
pub kept_why : (s : Snap) (l : Log) → l.first ≤ s.index → behind s l ≡ l → (s.index < l.first + length l.entries) × ((nth_term l.entries (s.index - l.first) == s.term) ≡ true)
unfolding behind
kept_why s l h e =
    let b = nat_lt s.index (l.first + length l.entries) && (nth_term l.entries (s.index - l.first) == s.term) in
    elim (cases_Bool b) [
      | inl t ↦ let p = and_parts _ _ t in (ltb-true _ _ p.0, p.1)
      | inr n ↦
          let z : record { first = suc s.index; entries = [] } ≡ l = sym (cond-false _ _ _ (lt_false _ _ h) ∙ cond-false _ _ _ n) ∙ e in
          let y : suc s.index ≡ l.first = ap (λ (x : Log). x.first) z in
          absurd (omega arith)
    ]

pub put_within : (l b : Log) → l.first ≤ b.first → b.first ≤ l.first + length l.entries → put_batch l b ≡ record { first = l.first; entries = take (b.first - l.first) l.entries ++ b.entries }
unfolding put_batch
put_within l b h k = cond-true _ _ _ (λ i. le_true _ _ h i && le_true _ _ k i)

pub put_past : (l b : Log) → l.first + length l.entries < b.first → put_batch l b ≡ b
unfolding put_batch
put_past l b h = cond-false _ _ _ ((λ i. le_true l.first b.first (omega arith) i && le_false _ _ h i))

pub put_before : (l b : Log) → b.first < l.first → put_batch l b ≡ b
unfolding put_batch
put_before l b h = cond-false _ _ _ ((λ i. le_false _ _ h i && nat_le b.first (l.first + length l.entries)))

pub log_append : (l : Log) (bs cs : List Log) → log_of l (bs ++ cs) ≡ log_of (log_of l bs) cs
unfolding log_of
log_append l [] cs = refl
log_append l (x ∷ bs) cs = log_append (put_batch l x) bs cs

take_nil : (n : ℕ) (es : List Entry) → es ≡ take n [] ++ es
take_nil zero es = refl
take_nil (suc n) es = refl

pub appended : (s : Snap) (l b : Log) → Steady s l → l.first ≤ suc s.index → s.index < b.first → b.first ≤ (behind s l).first + length (behind s l).entries → Steadily s l b (wanted (behind s l) b)
appended s l b (fits e) gap past upto =
    let k : (behind s l).first + length (behind s l).entries ≡ l.first + length l.entries = ap (λ (x : Log). x.first + length x.entries) e in
    let w : put_batch l b ≡ wanted l b = put_within l b (omega arith) (omega arith) in
    let n : behind s (wanted l b) ≡ wanted l b = elim (cases_lt s.index l.first) [
      | inl h ↦ behind_past s (wanted l b) h
      | inr h ↦
          let why = kept_why s l h e in
          let t : length (take (b.first - l.first) l.entries) ≡ b.first - l.first = length-take-le _ _ (omega arith) in
          let long : s.index < l.first + length (wanted l b).entries = omega (arith, length-append (take (b.first - l.first) l.entries) b.entries) in
          let nth = nth_take (b.first - l.first) l.entries b.entries (s.index - l.first) (omega arith) (omega arith) in
          behind_has s (wanted l b) h long (ap (λ (x : ℕ). x == s.term) nth ∙ why.1)
    ] in
    record {
      takes = record { log = ap (behind s) w ∙ n ∙ ap (λ (x : Log). wanted x b) (sym e); no_gap = omega (arith, ap (λ (x : Log). x.first) w) };
      steady = fits (ap (behind s) w ∙ n ∙ sym w);
    }
appended s l b (ends_before h) gap past upto =
    let low : l.first ≤ s.index = omega arith in
    let e : behind s l ≡ record { first = suc s.index; entries = [] } = behind_short s l low h in
    let k : (behind s l).first + length (behind s l).entries ≡ suc s.index + 0 = ap (λ (x : Log). x.first + length x.entries) e in
    let at : b.first ≡ suc s.index = omega arith in
    let w : put_batch l b ≡ b = put_past l b (omega arith) in
    let n : behind s b ≡ b = behind_past s b past in
    let alone : b ≡ wanted (record { first = suc s.index; entries = [] }) b = λ i. record { first = at i; entries = take_nil (b.first - suc s.index) b.entries i } in
    record {
      takes = record { log = ap (behind s) w ∙ n ∙ alone ∙ ap (λ (x : Log). wanted x b) (sym e); no_gap = omega (arith, ap (λ (x : Log). x.first) w) };
      steady = fits (ap (behind s) w ∙ n ∙ sym w);
    }

-- a log that is dropped whole is emptied by a batch without entries at its first index
pub emptied : (s : Snap) (l : Log) → l.first ≤ s.index → behind s l ≡ record { first = suc s.index; entries = [] } → Steadily s l (record { first = l.first; entries = [] }) (behind s l)
emptied s l low e =
    let b : Log = record { first = l.first; entries = [] } in
    let z : l.first - l.first ≡ 0 = omega arith in
    let w : put_batch l b ≡ b = put_within l b (omega arith) (omega arith) ∙ (λ i. record { first = l.first; entries = take (z i) l.entries ++ [] }) in
    let n : behind s b ≡ record { first = suc s.index; entries = [] } = behind_short s b low (omega arith) in
    record {
      takes = record { log = ap (behind s) w ∙ n ∙ sym e; no_gap = omega (arith, ap (λ (x : Log). x.first) w) };
      steady = subst (Steady s) (sym w) (ends_before (omega arith));
    }
