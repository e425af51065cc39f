-- The rows for other peers, by look-ups.
use Rattle.std.proofs.Common.{◌≡◌, ◌≢◌, ℕ, Bool, true, false, cond, List, [], ◌∷◌, refl, sym, ap, ◌∙◌, ⊎_elim}
use Rattle.std.specs.Prelude.{◌==◌, ◌||◌}
use Rattle.std.proofs.lemmas.Bool.{or_left, or_parts, eq-eqb, ne_eqb, cond-true, cond-false, cases_eq}
use Rattle.raft_spec.specs.Node.{among}
use Rattle.raft_spec.specs.Progress.{PeerProgress, next_in, match_in, ids_in, rows_for}

-- each of these ids has its row
pub ids_rows_for : (ids : List ℕ) (next : ℕ) (rows : List PeerProgress) → ids_in (rows_for ids next rows) ≡ ids
ids_rows_for [] next rows = refl
ids_rows_for (q ∷ ids) next rows = ap (λ l. q ∷ l) (ids_rows_for ids next rows)

-- a look-up in a list of ids, one id after another
picks : (q p : ℕ) (ids : List ℕ) (f : ℕ → ℕ) (none rest : ℕ) → rest ≡ cond (among ids p) (f p) none → cond (p == q) (f q) rest ≡ cond (among (q ∷ ids) p) (f p) none
picks q p ids f none rest ih = ⊎_elim
    (λ (y : p ≡ q). cond-true (p == q) (f q) rest (eq-eqb _ _ y) ∙ ap f (sym y) ∙ sym (cond-true (among (q ∷ ids) p) (f p) none (or_left _ _ (eq-eqb _ _ (sym y)))))
    (λ (y : p ≢ q). cond-false (p == q) (f q) rest (ne_eqb _ _ y) ∙ ih ∙ sym (ap (λ b. cond (b || among ids p) (f p) none) (ne_eqb q p (λ z. y (sym z)))))
    (cases_eq p q)

-- a peer that stays keeps its next, a new one has the given next, and who is no peer has 1
pub next_rows_for : (ids : List ℕ) (next : ℕ) (rows : List PeerProgress) (p : ℕ) → next_in (rows_for ids next rows) p ≡ cond (among ids p) (cond (among (ids_in rows) p) (next_in rows p) next) 1
next_rows_for [] next rows p = refl
next_rows_for (q ∷ ids) next rows p = picks q p ids (λ p. cond (among (ids_in rows) p) (next_in rows p) next) 1 (next_in (rows_for ids next rows) p) (next_rows_for ids next rows p)

-- who has no row has match 0
pub match_none : (rows : List PeerProgress) (p : ℕ) → among (ids_in rows) p ≡ false → match_in rows p ≡ 0
match_none [] p e = refl
match_none (r ∷ rows) p e =
    let parts = or_parts (r.id == p) (among (ids_in rows) p) e in
    cond-false (p == r.id) r.matched (match_in rows p) (ne_eqb _ _ (λ z. absurd_of parts.0 (eq-eqb _ _ (sym z)))) ∙ match_none rows p parts.1
  where
    absurd_of : {b : Bool} → b ≡ false → b ≡ true → ⊥
    absurd_of f t = absurd cc

-- a peer that stays keeps its match; a new one, and who is no peer, has 0
pub match_rows_for : (ids : List ℕ) (next : ℕ) (rows : List PeerProgress) (p : ℕ) → match_in (rows_for ids next rows) p ≡ cond (among ids p) (match_in rows p) 0
match_rows_for [] next rows p = refl
match_rows_for (q ∷ ids) next rows p = picks q p ids (match_in rows) 0 (match_in (rows_for ids next rows) p) (match_rows_for ids next rows p)
