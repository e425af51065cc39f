-- Who is searched, and sessions that are left or settled.
use Rattle.std.proofs.Common.{◌≡◌, ◌≢◌, ◌⊎◌, inl, inr, ℕ, Bool, true, false, true≢false, cond, List, [], ◌∷◌, ◌++◌, refl, sym, ap, ◌∙◌, subst, ⊎_elim}
use Rattle.std.specs.Prelude.{◌==◌, ◌&&◌, ◌||◌, not, Option, Some, None}
use Rattle.std.specs.List.{list_any, filter}
use Rattle.std.proofs.lemmas.Bool.{cond_both, cases_Bool, eqb-true, or_cases, or_left, or_right, or_parts, and_cases, and_parts, ne_eqb, eq-eqb, eqb-false, not-true, not_from_false}
use Rattle.raft_spec.specs.Node.{among}
use Rattle.session_spec.specs.Sessions.{Session, Gateway, Flight, Kind, Opening, Configuring, Writing, Committing, Querying, Later, Due, Lent, is_due, absent}
use Rattle.session_spec.specs.Limits.{holds, other_holds, writes_to}
use Rattle.session_spec.specs.Events.{settled_by, landed, still_lent, lost}
use Rattle.session_safety.proofs.Invariant.{Bare, IsFree, Once, Sole}

pub among_append : (xs : List ℕ) (ys : List ℕ) (c : ℕ) → among xs c ≡ true → among (xs ++ ys) c ≡ true
among_append [] ys c e = absurd (true≢false (sym e))
among_append (x ∷ xs) ys c e = ⊎_elim (λ (p : (x == c) ≡ true). or_left (x == c) (among (xs ++ ys) c) p) (λ (p : among xs c ≡ true). or_right (x == c) (among (xs ++ ys) c) (among_append xs ys c p)) (or_cases (x == c) (among xs c) e)

pub among_last : (xs : List ℕ) (c : ℕ) → among (xs ++ c ∷ []) c ≡ true
among_last [] c = or_left (c == c) false (eq-eqb c c refl)
among_last (x ∷ xs) c = or_right (x == c) (among (xs ++ c ∷ []) c) (among_last xs c)

pub among_filter : (f : ℕ → Bool) (xs : List ℕ) (c : ℕ) → among xs c ≡ true → f c ≡ true → among (filter f xs) c ≡ true
among_filter f [] c e t = e
among_filter f (x ∷ xs) c e t =
    cond_both (f x) (x ∷ filter f xs) (filter f xs) (λ l. among l c ≡ true)
    (λ y. ⊎_elim (λ (p : (x == c) ≡ true). or_left (x == c) (among (filter f xs) c) p) (λ (p : among xs c ≡ true). or_right (x == c) (among (filter f xs) c) (among_filter f xs c p t)) (or_cases (x == c) (among xs c) e))
    (λ y. ⊎_elim (λ (p : (x == c) ≡ true). absurd (true≢false (sym t ∙ ap f (sym (eqb-true x c p)) ∙ y))) (λ (p : among xs c ≡ true). among_filter f xs c p t) (or_cases (x == c) (among xs c) e))

-- each connection once

kept_among : (f : ℕ → Bool) (xs : List ℕ) (c : ℕ) → among (filter f xs) c ≡ true → (among xs c ≡ true) × (f c ≡ true)
kept_among f [] c e = absurd (true≢false (sym e))
kept_among f (x ∷ xs) c e =
    cond_both (f x) (x ∷ filter f xs) (filter f xs) (λ l. among l c ≡ true → (among (x ∷ xs) c ≡ true) × (f c ≡ true))
    (λ y z. ⊎_elim (λ (p : (x == c) ≡ true). (or_left (x == c) (among xs c) p, ap f (sym (eqb-true x c p)) ∙ y)) (λ (p : among (filter f xs) c ≡ true). let r = kept_among f xs c p in (or_right (x == c) (among xs c) r.0, r.1)) (or_cases (x == c) (among (filter f xs) c) z))
    (λ y z. let r = kept_among f xs c z in (or_right (x == c) (among xs c) r.0, r.1))
    e

-- what isn't so isn't
is_false : (b : Bool) → (b ≡ true → ⊥) → b ≡ false
is_false true h = absurd (h refl)
is_false false h = refl

once_filter : (f : ℕ → Bool) (xs : List ℕ) → Once xs → Once (filter f xs)
once_filter f [] h = tt
once_filter f (x ∷ xs) h = cond_both (f x) (x ∷ filter f xs) (filter f xs) Once
    (λ y. (is_false (among (filter f xs) x) (λ z. true≢false (sym (kept_among f xs x z).0 ∙ h.0)), once_filter f xs h.1))
    (λ y. once_filter f xs h.1)

among_two : (xs : List ℕ) (c d : ℕ) → among (xs ++ c ∷ []) d ≡ true → (among xs d ≡ true) ⊎ (c ≡ d)
among_two [] c d e = ⊎_elim (λ (p : (c == d) ≡ true). inr (eqb-true c d p)) (λ (p : false ≡ true). absurd (true≢false (sym p))) (or_cases (c == d) false e)
among_two (x ∷ xs) c d e = ⊎_elim
    (λ (p : (x == d) ≡ true). inl (or_left (x == d) (among xs d) p))
    (λ (p : among (xs ++ c ∷ []) d ≡ true). ⊎_elim (λ (q : among xs d ≡ true). inl (or_right (x == d) (among xs d) q)) (λ (q : c ≡ d). inr q) (among_two xs c d p))
    (or_cases (x == d) (among (xs ++ c ∷ []) d) e)

once_last : (xs : List ℕ) (c : ℕ) → Once xs → among xs c ≡ false → Once (xs ++ c ∷ [])
once_last [] c h e = (refl, tt)
once_last (x ∷ xs) c h e =
    let p = or_parts (x == c) (among xs c) e in
    (is_false (among (xs ++ c ∷ []) x) (λ z. ⊎_elim (λ (q : among xs x ≡ true). true≢false (sym q ∙ h.0)) (λ (q : c ≡ x). true≢false (sym (eq-eqb x c (sym q)) ∙ p.0)) (among_two xs c x z)), once_last xs c h.1 p.1)

pub sole_tidy : (conns : List ℕ) (session : ℕ → Session) → Once conns → Sole (filter (λ k. (session k).there) conns) session
sole_tidy conns session h = record { once = once_filter (λ k. (session k).there) conns h; there = λ c e. (kept_among (λ k. (session k).there) conns c e).1 }

pub sole_with : (conns : List ℕ) (session : ℕ → Session) (c : ℕ) (s : Session) → s.there ≡ true → Sole conns session → Sole conns (λ d. cond (d == c) s (session d))
sole_with conns session c s h a = record { once = a.once; there = λ d e. cond_both (d == c) s (session d) (λ x. x.there ≡ true) (λ y. h) (λ y. a.there d e) }

pub sole_joined : (conns : List ℕ) (session : ℕ → Session) (c : ℕ) (s : Session) → s.there ≡ true → (session c).there ≡ false → Sole conns session → Sole (conns ++ c ∷ []) (λ d. cond (d == c) s (session d))
sole_joined conns session c s h away a = record {
  once = once_last conns c a.once (is_false (among conns c) (λ z. true≢false (sym (a.there c z) ∙ away)));
  there = λ d e. cond_both (d == c) s (session d) (λ x. x.there ≡ true) (λ y. h) (λ y. ⊎_elim (λ (p : among conns d ≡ true). a.there d p) (λ (p : c ≡ d). absurd (true≢false (sym (eq-eqb d c (sym p)) ∙ y))) (among_two conns c d e));
}

any_none : (f : ℕ → Bool) (xs : List ℕ) (d : ℕ) → list_any f xs ≡ false → among xs d ≡ true → f d ≡ false
any_none f [] d h m = absurd (true≢false (sym m))
any_none f (x ∷ xs) d h m =
    let p = or_parts (f x) (list_any f xs) h in
    ⊎_elim (λ (q : (x == d) ≡ true). ap f (sym (eqb-true x d q)) ∙ p.0) (λ (q : among xs d ≡ true). any_none f xs d p.1 q) (or_cases (x == d) (among xs d) m)

-- no other session has the write lock
pub none_holds : (g : Gateway) (c d : ℕ) (n : List ℕ) → other_holds g c n ≡ false → d ≢ c → among g.conns d ≡ true → holds (g.session d) n ≡ false
unfolding other_holds
none_holds g c d n h e m =
    let one = any_none (λ k. not (k == c) && holds (g.session k) n) g.conns d h m in
    ⊎_elim (λ (p : not (d == c) ≡ false). absurd (true≢false (sym (not_from_false (d == c) (ne_eqb d c e)) ∙ p))) (λ (p : holds (g.session d) n ≡ false). p) (and_cases (not (d == c)) (holds (g.session d) n) one)

pub holds_writes : (s : Session) (n : List ℕ) → holds s n ≡ false → writes_to s.flight n ≡ false
unfolding holds
holds_writes s n h = (or_parts _ _ h).0

-- what is left of sessions

pub absent_bare : Bare absent
absent_bare = record { tx = refl; flight = refl; due = refl }

pub settled_bare : (i : ℕ) (s : Session) → Bare s → Bare (settled_by i s s.flight)
settled_bare i s b = subst (λ o. Bare (settled_by i s o)) (sym b.flight) b

landed_there : (s : Session) (f : Flight) (k : Kind) → (landed s f k).there ≡ s.there
landed_there s f Opening = refl
landed_there s f (Configuring short) = refl
landed_there s f (Writing reply) = refl
landed_there s f Committing = refl
landed_there s f (Querying statement) = refl

pub settled_there : (i : ℕ) (s : Session) (o : Option Flight) → (settled_by i s o).there ≡ true → s.there ≡ true
settled_there i s None e = e
settled_there i s (Some f) e =
    cond_both (f.last == i) (cond s.hung absent (landed s f f.kind)) s (λ x. x.there ≡ true → s.there ≡ true)
    (λ p. cond_both s.hung absent (landed s f f.kind) (λ x. x.there ≡ true → s.there ≡ true) (λ q z. absurd (true≢false (sym z))) (λ q z. sym (landed_there s f f.kind) ∙ z))
    (λ p z. z) e

none_some : {A : Type 0} {x : A} {o : Option A} → o ≡ None → o ≡ Some x → ⊥
none_some a b = cc

pub settled_absent : (i : ℕ) (s : Session) (o : Option Flight) → s.flight ≡ o → (s.there ≡ false → Bare s) → (settled_by i s o).there ≡ false → Bare (settled_by i s o)
settled_absent i s None q h e = h e
settled_absent i s (Some f) q h e =
    cond_both (f.last == i) (cond s.hung absent (landed s f f.kind)) s (λ x. x.there ≡ false → Bare x)
    (λ p. cond_both s.hung absent (landed s f f.kind) (λ x. x.there ≡ false → Bare x) (λ r z. absent_bare) (λ r z. absurd (none_some (h (sym (landed_there s f f.kind) ∙ z)).flight q)))
    (λ p z. h z) e

still_not_due : (d : Option Later) → is_due (still_lent d) ≡ false
still_not_due None = refl
still_not_due (Some (Due statement)) = refl
still_not_due (Some (Lent statement)) = refl

pub lost_bare : (s : Session) → Bare (lost s)
lost_bare s = cond_both s.hung absent _ Bare (λ e. absent_bare) (λ e. record { tx = refl; flight = refl; due = still_not_due s.later })

-- a reader's job stays
pub lost_free : (seen at : ℕ) (s : Session) → IsFree seen at s.later s.flight → IsFree seen at (lost s).later (lost s).flight
lost_free seen at s h = cond_both s.hung absent _ (λ x. IsFree seen at x.later x.flight) (λ e. tt) (λ e. by s.later h)
  where
    by : (d : Option Later) → IsFree seen at d s.flight → IsFree seen at (still_lent d) None
    by None x = tt
    by (Some (Due statement)) x = tt
    by (Some (Lent statement)) x = (refl, x.1)

pub lost_gone : (s : Session) → (s.there ≡ false → s.later ≡ None) → (lost s).there ≡ false → (lost s).later ≡ None
lost_gone s h = cond_both s.hung absent _ (λ x. x.there ≡ false → x.later ≡ None) (λ e z. refl) (λ e z. ap still_lent (h z))

pub settled_gone : (i : ℕ) (s : Session) (o : Option Flight) → s.flight ≡ o → (s.there ≡ false → Bare s) → (s.there ≡ false → s.later ≡ None) → (settled_by i s o).there ≡ false → (settled_by i s o).later ≡ None
settled_gone i s None q b h e = h e
settled_gone i s (Some f) q b h e =
    cond_both (f.last == i) (cond s.hung absent (landed s f f.kind)) s (λ x. x.there ≡ false → x.later ≡ None)
    (λ p. cond_both s.hung absent (landed s f f.kind) (λ x. x.there ≡ false → x.later ≡ None) (λ r z. refl) (λ r z. absurd (none_some (b (sym (landed_there s f f.kind) ∙ z)).flight q)))
    (λ p z. h z) e

pub lost_there : (s : Session) → (lost s).there ≡ true → s.there ≡ true
lost_there s = cond_both s.hung absent _ (λ x. x.there ≡ true → s.there ≡ true) (λ e z. absurd (true≢false (sym z))) (λ e z. z)

none_any : (f : ℕ → Bool) (xs : List ℕ) → ((d : ℕ) → f d ≡ true → ⊥) → list_any f xs ≡ false
none_any f [] h = refl
none_any f (x ∷ xs) h = ⊎_elim (λ (y : f x ≡ true). absurd (h x y)) (λ (y : f x ≡ false). or_none (f x) (list_any f xs) y (none_any f xs h)) (cases_Bool (f x))
  where
    or_none : (a b : Bool) → a ≡ false → b ≡ false → (a || b) ≡ false
    or_none true b x y = x
    or_none false b x y = y

-- no one else has the write lock
pub others_none : (g : Gateway) (c : ℕ) (n : List ℕ) → ((d : ℕ) → d ≢ c → holds (g.session d) n ≡ true → ⊥) → other_holds g c n ≡ false
unfolding other_holds
others_none g c n h = none_any (λ d. not (d == c) && holds (g.session d) n) g.conns (λ d e. let p = and_parts (not (d == c)) (holds (g.session d) n) e in h d (eqb-false d c (not-true (d == c) p.0)) p.1)
