-- Looking at each session of a table is looking at the session of each connection.
use Rattle.std.proofs.Common.{◌≡◌, ◌≢◌, ℕ, Bool, true, false, not, ◌&&◌, ◌||◌, max, ◌<◌, ◌≤◌, ◌+◌, List, [], ◌∷◌, length, drop, get_or, map, find, Some, refl, sym, ap, ◌∙◌, arith}
use Rattle.std.specs.Prelude.{◌==◌}
use Rattle.std.specs.List.{AllByRecursion, list_any}
use Rattle.std.proofs.lemmas.List.{at_drop_more, at_drop_all}
use Rattle.std.proofs.Math.Nat.{le-max_left, le-max_right, max-le, max-zero}
use Rattle.std.proofs.lemmas.Bool.{cond-true, cond-false, eq-eqb, ne_eqb}
use Rattle.database_state.specs.declared.database.Database.{Database}
use Rattle.session_spec.specs.Sessions.{Session as RuleSession}
use Rattle.session_spec.specs.Limits.{holds, other_holds, flown_by, pending_pages, most}
use Rattle.session_table.specs.declared.session.Session.{Session}
use Rattle.session_table.specs.Table.{session_of, has_conn, session_found, session_at, table_of, AreApart, holds_beside, flown_in}

pub here : (databases : List Database) (s : Session) (ss : List Session) → session_at databases (s ∷ ss) s.conn ≡ session_of databases s
unfolding session_at
here databases s ss = ap (session_found databases) (cond-true (s.conn == s.conn) (Some s) (find (has_conn s.conn) ss) (eq-eqb s.conn s.conn refl))

pub elsewhere : (databases : List Database) (s : Session) (ss : List Session) (conn : ℕ) → s.conn ≢ conn → session_at databases (s ∷ ss) conn ≡ session_at databases ss conn
unfolding session_at
elsewhere databases s ss conn other = ap (session_found databases) (cond-false (s.conn == conn) (Some s) (find (has_conn conn) ss) (ne_eqb s.conn conn other))

-- each is found by its connection
abbrev pub IsFound : List Database → List Session → Session → Type 0
IsFound databases all s = session_at databases all s.conn ≡ session_of databases s

behind : (databases : List Database) (s : Session) (ss ts : List Session) → AllByRecursion (λ (t : Session). s.conn ≢ t.conn) ts → AllByRecursion (IsFound databases ss) ts → AllByRecursion (IsFound databases (s ∷ ss)) ts
behind databases s ss [] apart found = tt
behind databases s ss (t ∷ ts) apart found = (elsewhere databases s ss t.conn apart.0 ∙ found.0, behind databases s ss ts apart.1 found.1)

pub all_found : (databases : List Database) (sessions : List Session) → AreApart sessions → AllByRecursion (IsFound databases sessions) sessions
all_found databases [] apart = tt
all_found databases (s ∷ ss) apart = (here databases s ss, behind databases s ss ss apart.0 (all_found databases ss apart.1))

-- a test of each connection with its session is one of each session
pub any_found : (databases : List Database) (all sessions : List Session) (test : ℕ → RuleSession → Bool) → AllByRecursion (IsFound databases all) sessions
    → list_any (λ (conn : ℕ). test conn (session_at databases all conn)) (map (λ (s : Session). s.conn) sessions) ≡ list_any (λ (s : Session). test s.conn (session_of databases s)) sessions
any_found databases all [] test found = refl
any_found databases all (s ∷ ss) test found =
    ap (λ (r : RuleSession). test s.conn r || list_any (λ (conn : ℕ). test conn (session_at databases all conn)) (map (λ (t : Session). t.conn) ss)) found.0
    ∙ ap (λ (b : Bool). test s.conn (session_of databases s) || b) (any_found databases all ss test found.1)

-- a number of each connection's session is one of each session
pub map_found : (databases : List Database) (all sessions : List Session) (f : RuleSession → ℕ) → AllByRecursion (IsFound databases all) sessions
    → map (λ (conn : ℕ). f (session_at databases all conn)) (map (λ (s : Session). s.conn) sessions) ≡ map (λ (s : Session). f (session_of databases s)) sessions
map_found databases all [] f found = refl
map_found databases all (s ∷ ss) f found =
    ap (λ (r : RuleSession). f r ∷ map (λ (conn : ℕ). f (session_at databases all conn)) (map (λ (t : Session). t.conn) ss)) found.0
    ∙ ap (λ (ns : List ℕ). f (session_of databases s) ∷ ns) (map_found databases all ss f found.1)

pub others_hold : (databases : List Database) (sessions : List Session) (weight conn : ℕ) (name : List ℕ) → AreApart sessions
    → other_holds (table_of databases sessions weight) conn name ≡ list_any (holds_beside databases conn name) sessions
unfolding other_holds table_of
others_hold databases sessions weight conn name apart =
    any_found databases sessions sessions (λ (other : ℕ) (r : RuleSession). not (other == conn) && holds r name) (all_found databases sessions apart)

pub all_flown : (databases : List Database) (sessions : List Session) (weight : ℕ) (name : List ℕ) → AreApart sessions
    → pending_pages (table_of databases sessions weight) name ≡ most (map (flown_in name) sessions)
unfolding pending_pages table_of
all_flown databases sessions weight name apart =
    ap most (map_found databases sessions sessions (λ (r : RuleSession). flown_by r.flight name) (all_found databases sessions apart))

module _ {X : Type 0} (t : X → Bool) (xs : List X) (i : ℕ) (x : X) (whole : Bool) (is : x ≡ get_or xs i x) (so_far : list_any t (drop i xs) ≡ whole) where
  next : i < length xs → list_any t (drop i xs) ≡ (t x || list_any t (drop (i + 1) xs))
  next h = at_drop_more (λ (ys : List X). list_any t ys) xs i x h ∙ ap (λ (y : X). t y || list_any t (drop (i + 1) xs)) (sym is)

  pub any_skip : i < length xs → t x ≡ false → list_any t (drop (i + 1) xs) ≡ whole
  any_skip h miss = sym (next h ∙ ap (λ (b : Bool). b || list_any t (drop (i + 1) xs)) miss) ∙ so_far

  pub any_hit : i < length xs → t x ≡ true → whole ≡ true
  any_hit h hit = sym so_far ∙ next h ∙ ap (λ (b : Bool). b || list_any t (drop (i + 1) xs)) hit

pub any_end : {X : Type 0} (t : X → Bool) (xs : List X) (i : ℕ) (whole : Bool) → list_any t (drop i xs) ≡ whole → length xs ≤ i → whole ≡ false
any_end {X} t xs i whole so_far past = sym so_far ∙ at_drop_all (λ (ys : List X). list_any t ys) xs i past

max_three : (a b c : ℕ) → max (max a b) c ≡ max a (max b c)
max_three a b c =
    let l1 : a ≤ max a (max b c) = le-max_left a (max b c) in
    let l2 : max b c ≤ max a (max b c) = le-max_right a (max b c) in
    let l3 : b ≤ max b c = le-max_left b c in
    let l4 : c ≤ max b c = le-max_right b c in
    let l5 : b ≤ max a (max b c) = omega arith in
    let l6 : c ≤ max a (max b c) = omega arith in
    let l7 : max a b ≤ max a (max b c) = max-le l1 l5 in
    let low : max (max a b) c ≤ max a (max b c) = max-le l7 l6 in
    let r1 : max a b ≤ max (max a b) c = le-max_left (max a b) c in
    let r2 : c ≤ max (max a b) c = le-max_right (max a b) c in
    let r3 : a ≤ max a b = le-max_left a b in
    let r4 : b ≤ max a b = le-max_right a b in
    let r5 : a ≤ max (max a b) c = omega arith in
    let r6 : b ≤ max (max a b) c = omega arith in
    let r7 : max b c ≤ max (max a b) c = max-le r6 r2 in
    let high : max a (max b c) ≤ max (max a b) c = max-le r5 r7 in
    omega arith

pub most_next : {X : Type 0} (f : X → ℕ) (xs : List X) (i : ℕ) (x : X) (m whole : ℕ) → x ≡ get_or xs i x → i < length xs → max m (most (map f (drop i xs))) ≡ whole → max (max m (f x)) (most (map f (drop (i + 1) xs))) ≡ whole
most_next {X} f xs i x m whole is h so_far =
    let e : most (map f (drop i xs)) ≡ max (f x) (most (map f (drop (i + 1) xs))) = at_drop_more (λ (ys : List X). most (map f ys)) xs i x h ∙ ap (λ (y : X). max (f y) (most (map f (drop (i + 1) xs)))) (sym is) in
    max_three m (f x) (most (map f (drop (i + 1) xs))) ∙ ap (λ (n : ℕ). max m n) (sym e) ∙ so_far

pub most_end : {X : Type 0} (f : X → ℕ) (xs : List X) (i m whole : ℕ) → length xs ≤ i → max m (most (map f (drop i xs))) ≡ whole → m ≡ whole
most_end {X} f xs i m whole past so_far = sym (max-zero m) ∙ ap (λ (n : ℕ). max m n) (sym (at_drop_all (λ (ys : List X). most (map f ys)) xs i past)) ∙ so_far
