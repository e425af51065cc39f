-- An Append of the own term keeps the node's invariant.
use Rattle.std.proofs.Common.{◌≡◌, ◌≢◌, ℕ, suc, ◌+◌, ◌<◌, ◌≤◌, List, length, take, refl, sym, ap, ◌∙◌, subst, ⊎_elim, arith}
use Rattle.std.proofs.lemmas.Bool.{cases_eq, cases_lt}
use Rattle.raft_spec.specs.Log.{Entry, term_at}
use Rattle.raft_safety.specs.Members.{Setup}
use Rattle.raft_safety.proofs.Logs.{Agree, Accepted, stays, moves, agree_trans, agree_sym, agree_down, agree_term, agree_take, term_at-within, term_at-take, term_at-past, term_at-nil}
use Rattle.std.proofs.lemmas.List.{length-take-le}
use Rattle.raft_safety.proofs.History.{Hist, elected, Sound, Kept, holds, betrayed, Decided, Committed, nothing, decided, HistOk}
use Rattle.raft_safety.proofs.Growth.{decided_within}
use Rattle.raft_safety.proofs.Complete.{meet}
use Rattle.raft_safety.proofs.Completes.{complete}
use Rattle.raft_safety.proofs.Bases.{BaseOk}

sound_take : {h : Hist} (ys : List Entry) (p : ℕ) → p ≤ length ys → Sound h ys → Sound h (take p ys)
sound_take {h} ys p le s = record {
  at = λ i within.
      let low : i ≤ p = omega (arith, length-take-le p ys le) in
      let front = agree_take i p ys low le in
      subst (λ t. Agree i (take p ys) (h.log_of t)) (sym (term_at-take p ys i low)) (agree_trans front (s.at i front.in_right));
}

-- what was committed in a term up to u is in the log of u's leader
pub committed_in : {vs : Setup} {h : Hist} {xs : List Entry} {u k : ℕ} → HistOk vs h → h.who u ≢ 0 → Committed vs h xs u k → Agree k xs (h.log_of u)
committed_in {vs} {h} {xs} {u} {k} ok leads c = go c
  where
    none : Agree 0 xs (h.log_of u)
    none = record { in_left = omega arith; in_right = omega arith; same = refl }

    go : Committed vs h xs u k → Agree k xs (h.log_of u)
    go (nothing e) = subst (λ k. Agree k xs (h.log_of u)) (sym e) none
    go (decided t i le d low a) =
        ⊎_elim (λ (e : t ≡ u). subst (λ t. Agree k xs (h.log_of t)) e a)
        (λ (e : t ≢ u).
        let has = complete vs h t i u ok d (omega arith) leads in
        let within = term_at-within (elected h u) i t has d.term in
        let front = ok.front u leads in
        let there : term_at (h.log_of u) i ≡ t = sym (agree_term i within front) ∙ has in
        let both = (meet (ok.sound t) (ok.sound u)).at i (decided_within vs d) (let x = front.in_right in omega arith) (d.entry ∙ sym there) in
        agree_trans a (agree_down k low both))
        (cases_eq t u)

pub accept_agree : {p c : ℕ} {xs ys new : List Entry} → p + c ≤ length ys → Accepted p c xs ys new → Agree (p + c) new ys
accept_agree {p} {c} {xs} {ys} {new} le (stays e a) = subst (λ zs. Agree (p + c) zs ys) (sym e) a
accept_agree {p} {c} {xs} {ys} {new} le (moves e k b ne) = subst (λ zs. Agree (p + c) zs ys) (sym e) (agree_take (p + c) (p + c) ys (omega arith) le)

-- the front of the leader's log, if the two differ within that front
moved : {vs : Setup} {h : Hist} {n u vote : ℕ} {xs : List Entry} {commit : ℕ} (q c : ℕ) → HistOk vs h → h.who u ≢ 0 → q ≤ length (h.log_of u) → c ≤ q → term_at xs c ≢ term_at (h.log_of u) c → BaseOk vs h n u vote xs commit → BaseOk vs h n u vote (take q (h.log_of u)) commit
moved {vs} {h} {n} {u} {vote} {xs} {commit} q c ok leads le b ne a = record {
  sound = sound_take (h.log_of u) q le (ok.sound u);
  below = λ i. below i;
  voted = a.voted;
  later = a.later;
  acks_later = a.acks_later;
  acks = λ t i nz low x. still t i nz x (a.acks t i nz low x);
  settled = along (committed_in ok leads a.settled) a.settled;
}
  where
    new : List Entry
    new = take q (h.log_of u)

    before : (i : ℕ) → Agree i xs (h.log_of u) → i < c
    before i agree = ⊎_elim (λ (x : i < c). x) (λ (x : c ≤ i). absurd (ne (agree_term c x agree))) (cases_lt i c)

    below : (i : ℕ) → term_at new i ≤ u
    below i = ⊎_elim
        (λ (x : q < i). let z = term_at-past new i (omega (arith, length-take-le q (h.log_of u) le)) in omega arith)
        (λ (x : i ≤ q). let y = ok.below u i in omega (arith, term_at-take q (h.log_of u) i x))
        (cases_lt q i)

    still : (t i : ℕ) → t ≢ 0 → term_at (h.log_of t) i ≡ t → Kept h t i xs (suc u) → Kept h t i new (suc u)
    still t i nz entry (betrayed x) = betrayed x
    still t i nz entry (holds x) =
        ⊎_elim
        (λ (e : term_at (h.log_of u) i ≡ t).
        let both = (meet a.sound (ok.sound u)).at i (term_at-within xs i t x nz) (term_at-within (h.log_of u) i t e nz) (x ∙ sym e) in
        let lt = before i both in
        holds (term_at-take q (h.log_of u) i (omega arith) ∙ e))
        (λ (e : term_at (h.log_of u) i ≢ t).
        let up = a.below i in
        let other : t ≢ u = λ y. e (ap (λ v. term_at (h.log_of v) i) (sym y) ∙ entry) in
        betrayed (record {
          voters_of = u;
          after = omega arith;
          before = omega arith;
          leads = leads;
          lacks = λ y. e (sym (agree_term i (term_at-within (elected h u) i t y nz) (ok.front u leads)) ∙ y);
        }))
        (cases_eq (term_at (h.log_of u) i) t)

    along : Agree commit xs (h.log_of u) → Committed vs h xs u commit → Committed vs h new u commit
    along agree (nothing e) = nothing e
    along agree (decided t i v d low x) =
        let lt = before commit agree in
        decided t i v d low (agree_trans (agree_take commit q (h.log_of u) (omega arith) le) (agree_trans (agree_sym agree) x))

pub accept_base : {vs : Setup} {h : Hist} {n u vote p c : ℕ} {xs new : List Entry} {commit : ℕ} → HistOk vs h → h.who u ≢ 0 → p + c ≤ length (h.log_of u) → Accepted p c xs (h.log_of u) new → BaseOk vs h n u vote xs commit → BaseOk vs h n u vote new commit
accept_base {vs} {h} {n} {u} {vote} {p} {c} {xs} {new} {commit} ok leads le (stays e agree) a = subst (λ zs. BaseOk vs h n u vote zs commit) (sym e) a
accept_base {vs} {h} {n} {u} {vote} {p} {c} {xs} {new} {commit} ok leads le (moves e k b ne) a = subst (λ zs. BaseOk vs h n u vote zs commit) (sym e) (moved (p + c) k ok leads le b ne a)

-- the decided term's leader there was
pub decided_leads : {vs : Setup} {h : Hist} {t i : ℕ} → HistOk vs h → Decided vs h t i → h.who t ≢ 0
decided_leads {vs} {h} {t} {i} ok d z = d.term (sym d.entry ∙ ap (λ xs. term_at xs i) (ok.none t z) ∙ term_at-nil i)

-- two logs agree up to where both are committed
pub committed_agree : {vs : Setup} {h : Hist} {xs ys : List Entry} {u v k : ℕ} → HistOk vs h → Committed vs h xs u k → Committed vs h ys v k → Agree k xs ys
committed_agree {vs} {h} {xs} {ys} {u} {v} {k} ok a b = go a b
  where
    none : k ≡ 0 → Agree k xs ys
    none e = subst (λ k. Agree k xs ys) (sym e) (record { in_left = omega arith; in_right = omega arith; same = refl })

    go : Committed vs h xs u k → Committed vs h ys v k → Agree k xs ys
    go (nothing e) y = none e
    go (decided t i b d le x) (nothing e) = none e
    go (decided t i b d le x) (decided w j c e low y) =
        ⊎_elim
        (λ (l : t < w). agree_trans (committed_in ok (decided_leads ok e) (decided t i (omega arith) d le x)) (agree_sym y))
        (λ (l : w ≤ t). agree_trans x (agree_sym (committed_in ok (decided_leads ok d) (decided w j l e low y))))
        (cases_lt t w)
