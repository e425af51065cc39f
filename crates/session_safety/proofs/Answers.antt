-- Pending proposals are answered.
use Rattle.std.proofs.Common.{◌≡◌, inl, inr, ℕ, suc, Bool, true, false, true≢false, cond, List, [], ◌∷◌, ◌++◌, refl, sym, ap, ◌∙◌, subst, ⊎_elim}
use Rattle.std.specs.Prelude.{◌==◌, ◌&&◌, ◌||◌, not, nat_le, map, is_none, Option, Some, None}
use Rattle.std.proofs.lemmas.Bool.{cond-true, cond-false, cases_Bool, or_cases, or_left, or_right, cond_both, eqb-true, eq-eqb}
use Rattle.raft_spec.specs.Node.{among}
use Rattle.sql_engine.specs.declared.kind.EngineKind.{EngineKind}
use Rattle.sql_engine.specs.Meanings.{Meaning}
use Rattle.session_spec.specs.Causes.{LeadershipLost}
use Rattle.session_spec.specs.Sessions.{Refusal, Kind, Opening, Configuring, Writing, Committing, Querying, Flight, Due, is_due, is_flying, Session, absent}
use Rattle.sql_engine.specs.Replies.{Statement}
use Rattle.session_spec.specs.Events.{landed, settled_by, on_applied, tidy, waits, last_of, placed, ordered, told_lost}
use Rattle.session_safety.specs.Nodes.{Said, Trail, Node, started}
use Rattle.session_safety.specs.Life.{Apply, Lose, told_all, said_landed, said_by, said_applied, happens}
use Rattle.session_safety.specs.Laws.{life, SaidTo, Lands, AnswersCome}
use Rattle.session_safety.proofs.Invariant.{NodeOk}
use Rattle.session_safety.proofs.Tables.{among_filter}
use Rattle.session_safety.proofs.Lives.{run_ok, started_ok}

to_right : (c : ℕ) (P : Said → Type 0) (xs ys : List Said) → SaidTo c P ys → SaidTo c P (xs ++ ys)
to_right c P [] ys h = h
to_right c P (x ∷ xs) ys h = inr (to_right c P xs ys h)

to_left : (c : ℕ) (P : Said → Type 0) (xs ys : List Said) → SaidTo c P xs → SaidTo c P (xs ++ ys)
to_left c P [] ys h = absurd h
to_left c P (x ∷ xs) ys h = ⊎_elim (λ (y : (x.conn ≡ c) × P x). inl y) (λ (y : SaidTo c P xs). inr (to_left c P xs ys y)) h

-- the proposal is the barrier of a query
abbrev pub is_query : Kind → Bool
is_query Opening = false
is_query (Configuring short) = false
is_query (Writing reply) = false
is_query Committing = false
is_query (Querying statement) = true

landed_to : (c : ℕ) (t : Trail) (f : Flight) (k : Kind) → is_query k ≡ false → SaidTo c (λ x. x.index ≡ f.last) (said_landed c t f k)
landed_to c t f Opening q = inl (refl, refl)
landed_to c t f (Configuring short) q = inl (refl, refl)
landed_to c t f (Writing reply) q = inl (refl, refl)
landed_to c t f Committing q = inl (refl, refl)
landed_to c t f (Querying statement) q = absurd (true≢false q)

here_said : (index c : ℕ) (t : Trail) (hung : Bool) (o : Option Flight) (f : Flight) → o ≡ Some f → hung ≡ false → f.last ≡ index → is_query f.kind ≡ false → SaidTo c (λ x. x.index ≡ f.last) (said_by index c t hung o)
here_said index c t hung o f e h l q =
    subst (λ y. SaidTo c (λ x. x.index ≡ f.last) (said_by index c t hung y)) (sym e)
    (subst (SaidTo c (λ x. x.index ≡ f.last)) (sym (cond-true (f.last == index) (cond hung [] (said_landed c t f f.kind)) [] (eq-eqb f.last index l) ∙ cond-false hung [] (said_landed c t f f.kind) h)) (landed_to c t f f.kind q))

applied_said : (index : ℕ) (trail : ℕ → Trail) (session : ℕ → Session) (cs : List ℕ) (c : ℕ) (f : Flight) → among cs c ≡ true → (session c).flight ≡ Some f → (session c).hung ≡ false → f.last ≡ index → is_query f.kind ≡ false → SaidTo c (λ x. x.index ≡ f.last) (said_applied index trail session cs)
applied_said index trail session [] c f m e h l z = absurd (true≢false (sym m))
applied_said index trail session (d ∷ cs) c f m e h l z = ⊎_elim
    (λ (y : (d == c) ≡ true).
    let q : c ≡ d = sym (eqb-true d c y) in
    to_left c (λ x. x.index ≡ f.last) _ (said_applied index trail session cs) (subst (λ k. SaidTo c (λ x. x.index ≡ f.last) (said_by index k (trail k) (session k).hung (session k).flight)) q (here_said index c (trail c) (session c).hung (session c).flight f e h l z)))
    (λ (y : among cs c ≡ true). to_right c (λ x. x.index ≡ f.last) (said_by index d (trail d) (session d).hung (session d).flight) _ (applied_said index trail session cs c f y e h l z))
    (or_cases (d == c) (among cs c) m)

among_placed : (key : ℕ → ℕ) (x : ℕ) (xs : List ℕ) (c : ℕ) → among (x ∷ xs) c ≡ true → among (placed key x xs) c ≡ true
among_placed key x [] c e = e
among_placed key x (y ∷ ys) c e =
    cond_both (nat_le (key x) (key y)) (x ∷ y ∷ ys) (y ∷ placed key x ys) (λ l. among l c ≡ true) (λ z. e)
    (λ z. ⊎_elim
    (λ (q : (x == c) ≡ true). or_right (y == c) (among (placed key x ys) c) (among_placed key x ys c (or_left (x == c) (among ys c) q)))
    (λ (q : among (y ∷ ys) c ≡ true). ⊎_elim (λ (r : (y == c) ≡ true). or_left (y == c) (among (placed key x ys) c) r) (λ (r : among ys c ≡ true). or_right (y == c) (among (placed key x ys) c) (among_placed key x ys c (or_right (x == c) (among ys c) r))) (or_cases (y == c) (among ys c) q))
    (or_cases (x == c) (among (y ∷ ys) c) e))

among_ordered : (key : ℕ → ℕ) (xs : List ℕ) (c : ℕ) → among xs c ≡ true → among (ordered key xs) c ≡ true
among_ordered key [] c e = e
among_ordered key (x ∷ xs) c e = among_placed key x (ordered key xs) c (⊎_elim (λ (q : (x == c) ≡ true). or_left (x == c) (among (ordered key xs) c) q) (λ (q : among xs c ≡ true). or_right (x == c) (among (ordered key xs) c) (among_ordered key xs c q)) (or_cases (x == c) (among xs c) e))

told_to : (cs : List ℕ) (c : ℕ) → among cs c ≡ true → SaidTo c (λ x. x.reply ≡ Refusal LeadershipLost) (told_all (map (λ (d : ℕ). (d, Refusal LeadershipLost)) cs))
told_to [] c e = absurd (true≢false (sym e))
told_to (x ∷ xs) c e = ⊎_elim (λ (q : (x == c) ≡ true). inl (eqb-true x c q, refl)) (λ (q : among xs c ≡ true). inr (told_to xs c q)) (or_cases (x == c) (among xs c) e)

pub waits_for : (s : Session) (f : Flight) → s.flight ≡ Some f → s.hung ≡ false → waits s ≡ true
waits_for s f e h = ap (λ b. not b && (not (is_none s.flight) || is_due s.later)) h ∙ ap (λ o. not (is_none o) || is_due s.later) e

pub waits_due : (s : Session) → is_due s.later ≡ true → s.hung ≡ false → waits s ≡ true
waits_due s e h = ap (λ b. not b && (is_flying s || is_due s.later)) h ∙ or_right (is_flying s) (is_due s.later) e

-- a session with a proposal is there
pub there_of : (mean : Meaning) (w : Node) (c : ℕ) (f : Flight) → NodeOk mean w → (w.gate.session c).flight ≡ Some f → among w.gate.conns c ≡ true
there_of mean w c f a e = ⊎_elim (λ (y : (w.gate.session c).there ≡ true). a.listed c y) (λ (y : (w.gate.session c).there ≡ false). absurd (none_some (sym (a.absent c y).flight ∙ e))) (cases_Bool (w.gate.session c).there)
  where
    none_some : {A : Type 0} {x : A} → None ≡ Some x → ⊥
    none_some q = cc

apply_answers : (mean : Meaning) (w : Node) (c : ℕ) (f : Flight) → NodeOk mean w → (w.gate.session c).flight ≡ Some f → (w.gate.session c).hung ≡ false → f.last ≡ suc w.applied → is_query f.kind ≡ false → SaidTo c (λ x. x.index ≡ f.last) (happens w Apply).said
unfolding happens
apply_answers mean w c f a e h l z = to_right c (λ x. x.index ≡ f.last) w.said _ (applied_said (suc w.applied) w.trail w.gate.session w.gate.conns c f (there_of mean w c f a e) e h l z)

-- a query's barrier makes it due
apply_due : (mean : Meaning) (w : Node) (c : ℕ) (f : Flight) (s : Statement) → f.kind ≡ Querying s → (w.gate.session c).flight ≡ Some f → (w.gate.session c).hung ≡ false → f.last ≡ suc w.applied → ((happens w Apply).gate.session c).later ≡ Some (Due s)
unfolding happens on_applied tidy
apply_due mean w c f s k e h l =
    let x = w.gate.session c in
    subst (λ o. (settled_by (suc w.applied) x o).later ≡ Some (Due s)) (sym e)
    (subst (λ (y : Session). y.later ≡ Some (Due s)) (sym (cond-true (f.last == suc w.applied) (cond x.hung absent (landed x f f.kind)) x (eq-eqb f.last (suc w.applied) l) ∙ cond-false x.hung absent (landed x f f.kind) h))
    (subst (λ k. (landed x f k).later ≡ Some (Due s)) (sym k) refl))

lands : (mean : Meaning) (w : Node) (c : ℕ) (f : Flight) (k : Kind) → f.kind ≡ k → NodeOk mean w → (w.gate.session c).flight ≡ Some f → (w.gate.session c).hung ≡ false → f.last ≡ suc w.applied → Lands w c f k
lands mean w c f Opening k a e h l = apply_answers mean w c f a e h l (ap is_query k)
lands mean w c f (Configuring short) k a e h l = apply_answers mean w c f a e h l (ap is_query k)
lands mean w c f (Writing reply) k a e h l = apply_answers mean w c f a e h l (ap is_query k)
lands mean w c f Committing k a e h l = apply_answers mean w c f a e h l (ap is_query k)
lands mean w c f (Querying s) k a e h l = apply_due mean w c f s k e h l

lose_answers : (mean : Meaning) (w : Node) (t c : ℕ) (f : Flight) → NodeOk mean w → (w.gate.session c).flight ≡ Some f → (w.gate.session c).hung ≡ false → SaidTo c (λ x. x.reply ≡ Refusal LeadershipLost) (happens w (Lose t)).said
unfolding happens told_lost
lose_answers mean w t c f a e h = to_right c (λ x. x.reply ≡ Refusal LeadershipLost) w.said _ (told_to _ c (among_ordered (λ d. last_of (w.gate.session d).flight) _ c (among_filter (λ d. waits (w.gate.session d)) w.gate.conns c (there_of mean w c f a e) (waits_for (w.gate.session c) f e h))))

-- a session with a query that is due is there
pub there_due : (mean : Meaning) (w : Node) (c : ℕ) → NodeOk mean w → is_due (w.gate.session c).later ≡ true → among w.gate.conns c ≡ true
there_due mean w c a e = ⊎_elim (λ (y : (w.gate.session c).there ≡ true). a.listed c y) (λ (y : (w.gate.session c).there ≡ false). absurd (true≢false (sym e ∙ ap is_due (a.gone c y)))) (cases_Bool (w.gate.session c).there)

due_answers : (mean : Meaning) (w : Node) (t c : ℕ) → NodeOk mean w → is_due (w.gate.session c).later ≡ true → (w.gate.session c).hung ≡ false → SaidTo c (λ x. x.reply ≡ Refusal LeadershipLost) (happens w (Lose t)).said
unfolding happens told_lost
due_answers mean w t c a e h = to_right c (λ x. x.reply ≡ Refusal LeadershipLost) w.said _ (told_to _ c (among_ordered (λ d. last_of (w.gate.session d).flight) _ c (among_filter (λ d. waits (w.gate.session d)) w.gate.conns c (there_due mean w c a e) (waits_due (w.gate.session c) e h))))

pub answers_come_hold : (mean : Meaning) (kind : EngineKind) → AnswersCome mean kind
answers_come_hold mean kind log applied term es s h c =
    let w = life log applied term es in
    let a = run_ok mean kind (started log applied term) es h (started_ok mean kind log applied term s.within s.woven) in
    ((λ f e hung. ((λ l. lands mean w c f f.kind refl a e hung l), (λ t. lose_answers mean w t c f a e hung))), (λ e hung t. due_answers mean w t c a e hung))
