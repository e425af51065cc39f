-- Rows of a leader's progress, as loops find and add them.
use Rattle.std.proofs.Common.{◌≡◌, ◌≢◌, ℕ, zero, suc, ◌+◌, ◌-◌, ◌<◌, Bool, true, false, cond, List, [], ◌∷◌, ◌++◌, length, take, refl, sym, ap, ◌∙◌, arith, append_assoc}
use Rattle.std.specs.Prelude.{◌==◌, ◌||◌, min, max, slice_index_or, slice_set}
use Rattle.std.proofs.lemmas.Bool.{eqb-false, ne_eqb, cond-true, cond-false}
use Rattle.std.proofs.lemmas.List.{map-append, take_more}
use Rattle.std.proofs.lemmas.List.Elements.{filter-append}
use Rattle.raft_spec.specs.Node.{among, others}
use Rattle.raft_spec.specs.Progress.{PeerProgress, next_in, match_in, ids_in, rows_for, progress_of, after_ack}
use Rattle.raft_spec.proofs.ProgressRows.{At, has_row, next_at, match_at, good_row, bad_row}
use Rattle.raft_spec.proofs.ProgressPeers.{match_none}
use Rattle.raft_log.specs.Rows.{IsFirstRow, row_for}

within_same : (rs : List PeerProgress) (i : ℕ) (d e : PeerProgress) → i < length rs → slice_index_or rs i d ≡ slice_index_or rs i e
within_same [] i d e l = absurd (omega arith)
within_same (r ∷ rs) zero d e l = refl
within_same (r ∷ rs) (suc i) d e l = within_same rs i d e (omega arith)

-- the row that is there is the first of its id
pub at_row : (rs : List PeerProgress) (i id : ℕ) (r : PeerProgress) → IsFirstRow rs i id → r ≡ slice_index_or rs i r → At rs i r
at_row rs i id r f e = record {
  within = f.within;
  is = λ d. within_same rs i d r f.within ∙ sym e;
  first = ap (among (ids_in (take i rs))) (ap (λ (x : PeerProgress). x.id) e ∙ f.is r) ∙ f.first;
}

pub id_of : (rs : List PeerProgress) (i id : ℕ) (r : PeerProgress) → IsFirstRow rs i id → r ≡ slice_index_or rs i r → r.id ≡ id
id_of rs i id r f e = ap (λ (x : PeerProgress). x.id) e ∙ f.is r

pub next_found : (rs : List PeerProgress) (i id : ℕ) (r : PeerProgress) → IsFirstRow rs i id → r ≡ slice_index_or rs i r → r.next ≡ next_in rs id
next_found rs i id r f e = sym (next_at rs i r (at_row rs i id r f e)) ∙ ap (next_in rs) (id_of rs i id r f e)

pub match_found : (rs : List PeerProgress) (i id : ℕ) (r : PeerProgress) → IsFirstRow rs i id → r ≡ slice_index_or rs i r → r.matched ≡ match_in rs id
match_found rs i id r f e = sym (match_at rs i r (at_row rs i id r f e)) ∙ ap (match_in rs) (id_of rs i id r f e)

or_split : (a b : Bool) → (a || b) ≡ false → (a ≡ false) × (b ≡ false)
or_split true b e = absurd cc
or_split false b e = (refl, e)

pub next_unknown : (rs : List PeerProgress) (id : ℕ) → among (ids_in rs) id ≡ false → 1 ≡ next_in rs id
next_unknown [] id e = refl
next_unknown (r ∷ rs) id e =
    let parts = or_split (r.id == id) (among (ids_in rs) id) e in
    next_unknown rs id parts.1 ∙ sym (cond-false (id == r.id) r.next (next_in rs id) (turned id r.id parts.0))
  where
    turned : (a b : ℕ) → (b == a) ≡ false → (a == b) ≡ false
    turned a b f = ne_eqb a b (λ z. eqb-false b a f (sym z))

pub match_unknown : (rs : List PeerProgress) (id : ℕ) → among (ids_in rs) id ≡ false → 0 ≡ match_in rs id
match_unknown rs id e = sym (match_none rs id e)

rows_same : (a b : ℕ) (n m : ℕ) (k l : ℕ) → a ≡ b → n ≡ m → k ≡ l → let r : PeerProgress = record { id = a; next = n; matched = k } in let s : PeerProgress = record { id = b; next = m; matched = l } in r ≡ s
rows_same a b n m k l p q r = λ i. record { id = p i; next = q i; matched = r i }

pub row_found : (rs : List PeerProgress) (i id next : ℕ) (r : PeerProgress) → IsFirstRow rs i id → r ≡ slice_index_or rs i r → r ≡ row_for rs next id
row_found rs i id next r f e =
    let there : among (ids_in rs) id ≡ true = ap (among (ids_in rs)) (sym (id_of rs i id r f e)) ∙ has_row rs i r (at_row rs i id r f e) in
    rows_same r.id id r.next (cond (among (ids_in rs) id) (next_in rs id) next) r.matched (match_in rs id) (id_of rs i id r f e) (next_found rs i id r f e ∙ sym (cond-true (among (ids_in rs) id) (next_in rs id) next there)) (match_found rs i id r f e)

pub row_new : (rs : List PeerProgress) (id next : ℕ) → among (ids_in rs) id ≡ false → let r : PeerProgress = record { id = id; next = next; matched = 0 } in r ≡ row_for rs next id
row_new rs id next e = rows_same id id next (cond (among (ids_in rs) id) (next_in rs id) next) 0 (match_in rs id) refl (sym (cond-false (among (ids_in rs) id) (next_in rs id) next e)) (match_unknown rs id e)

pub others_append : (xs ys : List ℕ) (own : ℕ) → others (xs ++ ys) own ≡ others xs own ++ others ys own
unfolding others
others_append xs ys own = filter-append _ xs ys

pub rows_append : (xs ys : List ℕ) (next : ℕ) (old : List PeerProgress) → rows_for (xs ++ ys) next old ≡ rows_for xs next old ++ rows_for ys next old
rows_append xs ys next old = map-append _ xs ys

pub rows_both : (xs ys : List ℕ) (own next : ℕ) (old : List PeerProgress) → rows_for (others (xs ++ ys) own) next old ≡ rows_for (others xs own) next old ++ rows_for (others ys own) next old
rows_both xs ys own next old = ap (λ l. rows_for l next old) (others_append xs ys own) ∙ rows_append (others xs own) (others ys own) next old

-- one more id
pub rows_more : (now start old : List PeerProgress) (ids : List ℕ) (i own next : ℕ) → i < length ids → now ≡ start ++ rows_for (others (take i ids) own) next old → now ++ rows_for (others (slice_index_or ids i 0 ∷ []) own) next old ≡ start ++ rows_for (others (take (i + 1) ids) own) next old
rows_more now start old ids i own next l h =
    let id = slice_index_or ids i 0 in
    ap (λ r. r ++ rows_for (others (id ∷ []) own) next old) h ∙ append_assoc start (rows_for (others (take i ids) own) next old) (rows_for (others (id ∷ []) own) next old)
    ∙ ap (λ r. start ++ r) (sym (rows_both (take i ids) (id ∷ []) own next old) ∙ ap (λ x. rows_for (others x own) next old) (sym (take_more ids i 0 l)))

-- no id
pub rows_none : (own next : ℕ) (old : List PeerProgress) → rows_for (others [] own) next old ≡ []
unfolding others
rows_none own next old = refl

-- one more row of another id
pub passes : (rs : List PeerProgress) (i id : ℕ) (r : PeerProgress) → i < length rs → r ≡ slice_index_or rs i r → r.id ≢ id → among (ids_in (take i rs)) id ≡ false → among (ids_in (take (suc i) rs)) id ≡ false
passes [] i id r l e d h = absurd (omega arith)
passes (x ∷ rs) zero id r l e d h = or_false (x.id == id) (among (ids_in (take 0 rs)) id) (ne_eqb x.id id (λ z. d (ap (λ (y : PeerProgress). y.id) e ∙ z))) refl
  where
    or_false : (a b : Bool) → a ≡ false → b ≡ false → (a || b) ≡ false
    or_false true b p q = absurd cc
    or_false false b p q = q
passes (x ∷ rs) (suc i) id r l e d h = both (x.id == id) (among (ids_in (take i rs)) id) (among (ids_in (take (suc i) rs)) id) h (λ f. passes rs i id r (omega arith) e d f)
  where
    both : (a b c : Bool) → (a || b) ≡ false → (b ≡ false → c ≡ false) → (a || c) ≡ false
    both true b c p f = absurd cc
    both false b c p f = f p

-- an Ack of the id of the row that is there
pub ack_row : (rs : List PeerProgress) (i from : ℕ) (r s : PeerProgress) (good : Bool) (index : ℕ) → IsFirstRow rs i from → r ≡ slice_index_or rs i r → s.id ≡ r.id → s.matched ≡ cond good (max r.matched index) r.matched → s.next ≡ cond good (suc (max r.matched index)) (max (suc r.matched) (min (r.next - 1) (suc index))) → progress_of (slice_set rs i s) ≡ after_ack (progress_of rs) from good index
ack_row rs i from r s true index f e d m n = good_row rs i r s index (at_row rs i from r f e) d m n ∙ ap (λ p. after_ack (progress_of rs) p true index) (id_of rs i from r f e)
ack_row rs i from r s false index f e d m n = bad_row rs i r s index (at_row rs i from r f e) d m n ∙ ap (λ p. after_ack (progress_of rs) p false index) (id_of rs i from r f e)
