-- Sessions of which nothing is open nor pending stay so if the node doesn't serve.
use Rattle.std.proofs.Common.{◌≡◌, ℕ, suc, ◌≤◌, Bool, true, false, cond, List, [], ◌∷◌, ◌++◌, length, refl, sym, ap, ◌∙◌, subst, arith}
use Rattle.std.specs.Prelude.{map, not, ◌&&◌, ◌||◌, ◌==◌, Option, Some, None}
use Rattle.std.specs.List.{filter}
use Rattle.std.proofs.lemmas.Bool.{cond_both, cond-true, cond-false, eqb-true, eq-eqb}
use Rattle.session_spec.specs.Causes.{LeadershipLost}
use Rattle.session_spec.specs.Events.{tidy, on_applied, still_lent, loses, lost, on_lost, last_of, ordered, waits, told_lost, left, on_hangup, connected}
use Rattle.session_spec.specs.Requests.{with_tx, with_flight, with_later, with_lost, with_session}
use Rattle.session_spec.specs.Sessions.{Refusal, Flight, Later, Due, Lent, Session, Gateway, absent, fresh, is_due, no_sessions}
use Rattle.node_spec.specs.RaftTurns.{HasEnded, EndsOn}
use Rattle.node_spec.proofs.LostSessions.{filter_twice, lost_flight, lost_settled}

-- ---- one session

due_none : (o : Option Later) → is_due (still_lent o) ≡ false
due_none None = refl
due_none (Some (Due statement)) = refl
due_none (Some (Lent statement)) = refl

lent_twice : (o : Option Later) → still_lent (still_lent o) ≡ still_lent o
lent_twice None = refl
lent_twice (Some (Due statement)) = refl
lent_twice (Some (Lent statement)) = refl

and_false : (b : Bool) → (b && false) ≡ false
and_false true = refl
and_false false = refl

or_false : (b : Bool) → (b || false) ≡ b
or_false true = refl
or_false false = refl

abbrev over : Session → Session
over s = with_lost (with_later (with_flight (with_tx s None) None) (still_lent s.later)) (loses s)

lost_twice : (s : Session) → lost (lost s) ≡ lost s
lost_twice s = cond_both s.hung absent (over s) (λ (x : Session). lost x ≡ x) (λ e. refl)
    (λ e. cond-false s.hung absent (over (over s)) e ∙ ap (λ (l : Option Later). with_lost (with_later (over s) l) (loses s || false)) (lent_twice s.later) ∙ ap (with_lost (over s)) (or_false (loses s)))

silent : (s : Session) → waits (lost s) ≡ false
silent s = cond_both s.hung absent (over s) (λ (x : Session). waits x ≡ false) (λ e. refl) (λ e. ap (λ (b : Bool). not s.hung && b) (due_none s.later) ∙ and_false (not s.hung))

-- ---- lists

filter_none : (f : ℕ → Bool) (xs : List ℕ) → ((x : ℕ) → f x ≡ false) → filter f xs ≡ []
filter_none f [] h = refl
filter_none f (x ∷ xs) h = cond-false (f x) (x ∷ filter f xs) (filter f xs) (h x) ∙ filter_none f xs h

filter_short : (f : ℕ → Bool) (xs : List ℕ) → length (filter f xs) ≤ length xs
filter_short f [] = omega arith
filter_short f (x ∷ xs) =
    let r = filter_short f xs in
    cond_both (f x) (x ∷ filter f xs) (filter f xs) (λ (l : List ℕ). length l ≤ suc (length xs)) (λ e. omega (arith, r)) (λ e. omega (arith, r))

tail_is : (x : ℕ) (xs ys : List ℕ) → x ∷ xs ≡ x ∷ ys → xs ≡ ys
tail_is x xs ys e = cc

-- a list of which a test keeps all is kept by one that is true if that is
filter_wider : (f h : ℕ → Bool) (xs : List ℕ) → filter f xs ≡ xs → ((x : ℕ) → f x ≡ true → h x ≡ true) → filter h xs ≡ xs
filter_wider f h [] e wide = refl
filter_wider f h (x ∷ xs) e wide = by (f x) refl (λ q. filter_wider f h xs q wide)
  where
    by : (b : Bool) → f x ≡ b → (filter f xs ≡ xs → filter h xs ≡ xs) → filter h (x ∷ xs) ≡ x ∷ xs
    by true t rest = cond-true (h x) (x ∷ filter h xs) (filter h xs) (wide x t) ∙ ap (λ (l : List ℕ). x ∷ l) (rest (tail_is x (filter f xs) xs (sym (cond-true (f x) (x ∷ filter f xs) (filter f xs) t) ∙ e)))
    by false t rest =
        let short : length (filter f xs) ≤ length xs = filter_short f xs in
        let long : length (filter f xs) ≡ suc (length xs) = ap length (sym (cond-false (f x) (x ∷ filter f xs) (filter f xs) t) ∙ e) in
        absurd (omega (arith, short, long))

filter_more : (f : ℕ → Bool) (xs : List ℕ) (x : ℕ) → filter f xs ≡ xs → f x ≡ true → filter f (xs ++ x ∷ []) ≡ xs ++ x ∷ []
filter_more f [] x e t = cond-true (f x) (x ∷ []) [] t
filter_more f (y ∷ xs) x e t = by (f y) refl (λ q. filter_more f xs x q t)
  where
    by : (b : Bool) → f y ≡ b → (filter f xs ≡ xs → filter f (xs ++ x ∷ []) ≡ xs ++ x ∷ []) → filter f ((y ∷ xs) ++ x ∷ []) ≡ (y ∷ xs) ++ x ∷ []
    by true q rest = cond-true (f y) (y ∷ filter f (xs ++ x ∷ [])) (filter f (xs ++ x ∷ [])) q ∙ ap (λ (l : List ℕ). y ∷ l) (rest (tail_is y (filter f xs) xs (sym (cond-true (f y) (y ∷ filter f xs) (filter f xs) q) ∙ e)))
    by false q rest =
        let short : length (filter f xs) ≤ length xs = filter_short f xs in
        let long : length (filter f xs) ≡ suc (length xs) = ap length (sym (cond-false (f y) (y ∷ filter f xs) (filter f xs) q) ∙ e) in
        absurd (omega (arith, short, long))

-- ---- all sessions

-- by each session, and that no connection is listed that has none
ended_by : (g : Gateway) → ((conn : ℕ) → lost (g.session conn) ≡ g.session conn) → filter (λ (conn : ℕ). (g.session conn).there) g.conns ≡ g.conns → on_lost g ≡ g
unfolding on_lost tidy
ended_by g each listed =
    (λ i. record { conns = filter (λ (conn : ℕ). (each conn i).there) g.conns; session = λ (conn : ℕ). each conn i; weight = g.weight })
    ∙ ap (λ (l : List ℕ). record { conns = l; session = g.session; weight = g.weight }) listed

session_at : (g : Gateway) → on_lost g ≡ g → (conn : ℕ) → lost (g.session conn) ≡ g.session conn
unfolding on_lost tidy
session_at g e conn = ap (λ (z : Gateway). z.session conn) e

listed_at : (g : Gateway) → on_lost g ≡ g → filter (λ (conn : ℕ). (g.session conn).there) g.conns ≡ g.conns
unfolding on_lost tidy
listed_at g e = sym (λ i. filter (λ (conn : ℕ). (session_at g e conn i).there) g.conns) ∙ ap (λ (z : Gateway). z.conns) e

tells_none : (g : Gateway) → on_lost g ≡ g → HasEnded g
unfolding told_lost
tells_none g e = record {
  ended = e;
  told = ap (λ (l : List ℕ). map (λ (conn : ℕ). (conn, Refusal LeadershipLost)) (ordered (λ (conn : ℕ). last_of (g.session conn).flight) l))
      (filter_none (λ (conn : ℕ). waits (g.session conn)) g.conns (λ conn. ap waits (sym (session_at g e conn)) ∙ silent (g.session conn)));
}

none_started : on_lost no_sessions ≡ no_sessions
unfolding on_lost tidy
none_started = refl

lost_again : (g : Gateway) → on_lost (on_lost g) ≡ on_lost g
unfolding on_lost tidy
lost_again g = ended_by (on_lost g) (λ conn. lost_twice (g.session conn)) (filter_twice (λ (conn : ℕ). (lost (g.session conn)).there) g.conns)

flight_none : (g : Gateway) → on_lost g ≡ g → (conn : ℕ) → (g.session conn).flight ≡ None
flight_none g e conn = ap (λ (s : Session). s.flight) (sym (session_at g e conn)) ∙ lost_flight (g.session conn)

joins : (g : Gateway) (conn : ℕ) → on_lost g ≡ g → on_lost (connected g conn) ≡ connected g conn
unfolding connected
joins g conn e = ended_by (connected g conn)
    (λ other. cond_both (other == conn) fresh (g.session other) (λ (s : Session). lost s ≡ s) (λ q. refl) (λ q. session_at g e other))
    (filter_more (λ (other : ℕ). (cond (other == conn) fresh (g.session other)).there) g.conns conn
    (filter_wider (λ (other : ℕ). (g.session other).there) (λ (other : ℕ). (cond (other == conn) fresh (g.session other)).there) g.conns (listed_at g e)
    (λ other there. cond_both (other == conn) fresh (g.session other) (λ (s : Session). s.there ≡ true) (λ q. refl) (λ q. there)))
    (ap (λ (s : Session). s.there) (cond-true (conn == conn) fresh (g.session conn) (eq-eqb conn conn refl))))

goes : (g : Gateway) (conn : ℕ) → on_lost g ≡ g → on_lost (on_hangup g conn) ≡ on_hangup g conn
unfolding on_hangup tidy
goes g conn e = ended_by (on_hangup g conn)
    (λ other. cond_both (other == conn) (left (g.session conn) (g.session conn).flight) (g.session other) (λ (s : Session). lost s ≡ s)
    (λ q. subst (λ (o : Option Flight). lost (left (g.session conn) o) ≡ left (g.session conn) o) (sym (flight_none g e conn)) refl)
    (λ q. session_at g e other))
    (filter_twice (λ (other : ℕ). (cond (other == conn) (left (g.session conn) (g.session conn).flight) (g.session other)).there) g.conns)

sets : (g : Gateway) (conn : ℕ) (s : Session) → on_lost g ≡ g → lost s ≡ s → s.there ≡ (g.session conn).there → on_lost (with_session g conn s) ≡ with_session g conn s
unfolding with_session
sets g conn s e own there = ended_by (with_session g conn s)
    (λ other. cond_both (other == conn) s (g.session other) (λ (x : Session). lost x ≡ x) (λ q. own) (λ q. session_at g e other))
    (filter_wider (λ (other : ℕ). (g.session other).there) (λ (other : ℕ). (cond (other == conn) s (g.session other)).there) g.conns (listed_at g e)
    (λ other is. cond_both (other == conn) s (g.session other) (λ (x : Session). x.there ≡ true)
    (λ q. there ∙ ap (λ (k : ℕ). (g.session k).there) (sym (eqb-true other conn q)) ∙ is) (λ q. is)))

pub ends_on_holds : EndsOn
ends_on_holds = record {
  started = tells_none no_sessions none_started;
  lost_all = λ g. tells_none (on_lost g) (lost_again g);
  tells = tells_none;
  applied = λ index g h. subst HasEnded (sym (ap (on_applied index) (sym h.ended) ∙ lost_settled index g ∙ h.ended)) h;
  joined = λ g conn h. tells_none (connected g conn) (joins g conn h.ended);
  gone = λ g conn h. tells_none (on_hangup g conn) (goes g conn h.ended);
  session = λ g conn s h own there. tells_none (with_session g conn s) (sets g conn s h.ended own there);
}
