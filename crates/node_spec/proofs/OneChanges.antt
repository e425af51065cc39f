-- One change of servers, by walks over ids that ascend.
use Rattle.std.proofs.Common.{◌≡◌, ◌≢◌, inl, inr, ℕ, suc, ◌<◌, ◌≤◌, Bool, true, false, true≢false, cond, List, [], ◌∷◌, length, map, refl, sym, ap, subst, ◌∙◌, arith}
use Rattle.std.specs.Prelude.{◌==◌, ◌&&◌, ◌||◌, not, nat_lt}
use Rattle.std.specs.List.{AllByRecursion, filter}
use Rattle.std.proofs.lemmas.Bool.{cond-true, cond-false, cond_both, eqb-true, eq-eqb, ltb-true, ltb-false}
use Rattle.std.proofs.lemmas.List.{length-map}
use Rattle.raft_spec.specs.Node.{Server, among, voters}
use Rattle.raft_messages.specs.Servers.{Ascend, IsServer, IsConfiguration}
use Rattle.raft_safety.specs.Laws.{Neighbours}
use Rattle.raft_safety.specs.Members.{same_ids, one_more}
use Rattle.session_spec.specs.Asking.{is_promotion}
use Rattle.session_spec.specs.Servers.{has_server, with_server, in_role, with_role, without_server}
use Rattle.node_spec.specs.Changes.{are_near, JoinsStand, RolesStand, LeavesStand, VotersAreNear}

-- ---- tests

both_true : (a b : Bool) → a ≡ true → b ≡ true → (a && b) ≡ true
both_true true b p q = q
both_true false b p q = absurd cc

neither : (a b : Bool) → (a || b) ≡ false → (a ≡ false) × (b ≡ false)
neither true b e = absurd cc
neither false b e = (refl, e)

one_of_two : (a b : Bool) → (a && not b) ≡ false → a ≡ true → b ≡ true
one_of_two true true e p = refl
one_of_two true false e p = absurd cc
one_of_two false b e p = absurd cc

not_eq : (a b : ℕ) → b < a → (a == b) ≡ false
not_eq a b lt = by (a == b) refl
  where
    by : (c : Bool) → (a == b) ≡ c → (a == b) ≡ false
    by false e = e
    by true e = let same : a ≡ b = eqb-true a b e in absurd (omega arith)

apart : (a b : ℕ) → (a == b) ≡ false → a ≢ b
apart a b e same = true≢false (sym (eq-eqb a b same) ∙ e)

-- ---- lists of ids

same_refl : (xs : List ℕ) → same_ids xs xs ≡ true
same_refl [] = refl
same_refl (x ∷ xs) = both_true (x == x) (same_ids xs xs) (eq-eqb x x refl) (same_refl xs)

abbrev Above : ℕ → List ℕ → Type 0
Above last xs = AllByRecursion (λ (n : ℕ). last < n) xs

lower : (a b : ℕ) (xs : List ℕ) → a ≤ b → Above b xs → Above a xs
lower a b [] le h = tt
lower a b (x ∷ xs) le h = let lt : b < x = h.0 in (omega arith, lower a b xs le h.1)

-- an id below all others in front of them is one more
head_more : (x : ℕ) (xs : List ℕ) → Above x xs → one_more xs (x ∷ xs) ≡ true
head_more x [] h = refl
head_more x (v ∷ vs) h = cond-false (v == x) (one_more vs (v ∷ vs)) (same_ids (v ∷ vs) (v ∷ vs)) (not_eq v x h.0) ∙ same_refl (v ∷ vs)

not_among : (x : ℕ) (xs : List ℕ) → Above x xs → among xs x ≡ false
not_among x [] h = refl
not_among x (v ∷ vs) h = ap (λ (b : Bool). b || among vs x) (not_eq v x h.0) ∙ not_among x vs h.1

near_cons : (x : ℕ) (xs ys : List ℕ) → Neighbours xs ys → Neighbours (x ∷ xs) (x ∷ ys)
near_cons x xs ys (inl e) = inl (ap (λ (l : List ℕ). x ∷ l) e)
near_cons x xs ys (inr (inl o)) = inr (inl (cond-true (x == x) (one_more xs ys) (same_ids (x ∷ xs) ys) (eq-eqb x x refl) ∙ o))
near_cons x xs ys (inr (inr o)) = inr (inr (cond-true (x == x) (one_more ys xs) (same_ids (x ∷ ys) xs) (eq-eqb x x refl) ∙ o))

near_both : (b : Bool) (x : ℕ) (xs ys : List ℕ) → Neighbours xs ys → Neighbours (cond b (x ∷ xs) xs) (cond b (x ∷ ys) ys)
near_both true x xs ys h = near_cons x xs ys h
near_both false x xs ys h = h

near_head : (a b : Bool) (x : ℕ) (xs : List ℕ) → Above x xs → Neighbours (cond a (x ∷ xs) xs) (cond b (x ∷ xs) xs)
near_head true true x xs h = inl refl
near_head true false x xs h = inr (inr (head_more x xs h))
near_head false true x xs h = inr (inl (head_more x xs h))
near_head false false x xs h = inl refl

same_long : (xs ys : List ℕ) → same_ids xs ys ≡ true → length ys ≡ length xs
same_long [] [] e = refl
same_long [] (y ∷ ys) e = absurd cc
same_long (x ∷ xs) [] e = absurd cc
same_long (x ∷ xs) (y ∷ ys) e = ap suc (same_long xs ys (second (x == y) (same_ids xs ys) e))
  where
    second : (a b : Bool) → (a && b) ≡ true → b ≡ true
    second true b e = e
    second false b e = absurd cc

more_long : (xs ys : List ℕ) → one_more xs ys ≡ true → length ys ≡ suc (length xs)
more_long [] [] e = absurd cc
more_long (x ∷ xs) [] e = absurd cc
more_long [] (y ∷ ys) e = ap suc (same_long [] ys e)
more_long (x ∷ xs) (y ∷ ys) e = by (x == y) (λ f. more_long xs ys f) e
  where
    by : (b : Bool) → (one_more xs ys ≡ true → length ys ≡ suc (length xs)) → cond b (one_more xs ys) (same_ids (x ∷ xs) ys) ≡ true → suc (length ys) ≡ suc (suc (length xs))
    by true rest e = ap suc (rest e)
    by false rest e = ap suc (same_long (x ∷ xs) ys e)

near_long : (xs ys : List ℕ) → Neighbours xs ys → length ys ≤ suc (length xs)
near_long xs ys (inl e) = let n : length xs ≡ length ys = ap length e in omega arith
near_long xs ys (inr (inl o)) = let n = more_long xs ys o in omega arith
near_long xs ys (inr (inr o)) = let n = more_long ys xs o in omega arith

tests : (xs ys : List ℕ) → Neighbours xs ys → are_near xs ys ≡ true
tests xs ys (inl e) = subst (λ (l : List ℕ). are_near xs l ≡ true) e (ap (λ (b : Bool). b || one_more xs xs || one_more xs xs) (same_refl xs))
tests xs ys (inr (inl o)) = by (same_ids xs ys) (one_more xs ys) (one_more ys xs) o
  where
    by : (a b c : Bool) → b ≡ true → (a || b || c) ≡ true
    by true b c e = refl
    by false true c e = refl
    by false false c e = absurd cc
tests xs ys (inr (inr o)) = by (same_ids xs ys) (one_more xs ys) (one_more ys xs) o
  where
    by : (a b c : Bool) → c ≡ true → (a || b || c) ≡ true
    by true b c e = refl
    by false true c e = refl
    by false false c e = e

-- ---- voters

abbrev votes : Server → List ℕ → List ℕ
votes s rest = cond (s.role == 0) (s.id ∷ rest) rest

voters_cons : (s : Server) (ss : List Server) → voters (s ∷ ss) ≡ votes s (voters ss)
unfolding voters
voters_cons s ss = by (s.role == 0)
  where
    by : (b : Bool) → map (λ (x : Server). x.id) (cond b (s ∷ filter (λ (x : Server). x.role == 0) ss) (filter (λ (x : Server). x.role == 0) ss)) ≡ cond b (s.id ∷ map (λ (x : Server). x.id) (filter (λ (x : Server). x.role == 0) ss)) (map (λ (x : Server). x.id) (filter (λ (x : Server). x.role == 0) ss))
    by true = refl
    by false = refl

no_voters : voters [] ≡ []
unfolding voters
no_voters = refl

voters_above : (last : ℕ) (ss : List Server) → Ascend last ss → Above last (voters ss)
voters_above last [] a = subst (Above last) (sym no_voters) tt
voters_above last (s ∷ ss) a =
    let lt : last < s.id = a.0 in
    let rest = lower last s.id (voters ss) (omega arith) (voters_above s.id ss a.1) in
    subst (Above last) (sym (voters_cons s ss)) (cond_both (s.role == 0) (s.id ∷ voters ss) (voters ss) (Above last) (λ e. (lt, rest)) (λ e. rest))

-- ---- another role

abbrev changed : Server → ℕ → Server
changed s role = record { id = s.id; address = s.address; role = role }

stay_role : (id role last : ℕ) (ss : List Server) → id ≤ last → Ascend last ss → with_role id role ss ≡ ss
stay_role id role last [] le a = refl
stay_role id role last (s ∷ ss) le a =
    let lt : last < s.id = a.0 in
    let head = cond-false (s.id == id) (changed s role) s (not_eq s.id id (omega arith)) in
    let rest = stay_role id role s.id ss (omega arith) a.1 in
    λ i. head i ∷ rest i

-- the server of the id is first
here_role : (id role : ℕ) (s : Server) (ss : List Server) → s.id ≡ id → Ascend s.id ss → with_role id role (s ∷ ss) ≡ changed s role ∷ ss
here_role id role s ss e a =
    let head = cond-true (s.id == id) (changed s role) s (eq-eqb s.id id e) in
    let rest = stay_role id role s.id ss (omega arith) a in
    λ i. head i ∷ rest i

later_role : (id role : ℕ) (s : Server) (ss : List Server) → (s.id == id) ≡ false → with_role id role (s ∷ ss) ≡ s ∷ with_role id role ss
later_role id role s ss e = ap (λ (x : Server). x ∷ with_role id role ss) (cond-false (s.id == id) (changed s role) s e)

role_near : (id role last : ℕ) (ss : List Server) → Ascend last ss → Neighbours (voters ss) (voters (with_role id role ss))
role_near id role last [] a = inl refl
role_near id role last (s ∷ ss) a = by (s.id == id) refl (role_near id role s.id ss a.1)
  where
    by : (b : Bool) → (s.id == id) ≡ b → Neighbours (voters ss) (voters (with_role id role ss)) → Neighbours (voters (s ∷ ss)) (voters (with_role id role (s ∷ ss)))
    by true e rest =
        let same : s.id ≡ id = eqb-true s.id id e in
        subst (λ (l : List Server). Neighbours (voters (s ∷ ss)) (voters l)) (sym (here_role id role s ss same a.1))
        (subst (λ (l : List ℕ). Neighbours l (voters (changed s role ∷ ss))) (sym (voters_cons s ss))
        (subst (λ (l : List ℕ). Neighbours (votes s (voters ss)) l) (sym (voters_cons (changed s role) ss))
        (near_head (s.role == 0) (role == 0) s.id (voters ss) (voters_above s.id ss a.1))))
    by false e rest =
        subst (λ (l : List Server). Neighbours (voters (s ∷ ss)) (voters l)) (sym (later_role id role s ss e))
        (subst (λ (l : List ℕ). Neighbours l (voters (s ∷ with_role id role ss))) (sym (voters_cons s ss))
        (subst (λ (l : List ℕ). Neighbours (votes s (voters ss)) l) (sym (voters_cons s (with_role id role ss)))
        (near_both (s.role == 0) s.id (voters ss) (voters (with_role id role ss)) rest)))

votes_upto : (b : Bool) (x : ℕ) (xs ys : List ℕ) → length ys ≤ length xs → length (cond b (x ∷ ys) ys) ≤ length (cond b (x ∷ xs) xs)
votes_upto true x xs ys le = omega arith
votes_upto false x xs ys le = le

-- if no voter is gained there are no more of them
no_more : (id role last : ℕ) (ss : List Server) → Ascend last ss → (role == 0 ≡ true → among (voters ss) id ≡ true) → length (voters (with_role id role ss)) ≤ length (voters ss)
no_more id role last [] a h = omega arith
no_more id role last (s ∷ ss) a h = by (s.id == id) refl (λ f. no_more id role s.id ss a.1 f)
  where
    head : (x y : Bool) → s.id ≡ id → (role == 0) ≡ y → (y ≡ true → among (cond x (s.id ∷ voters ss) (voters ss)) id ≡ true) → length (cond y (s.id ∷ voters ss) (voters ss)) ≤ length (cond x (s.id ∷ voters ss) (voters ss))
    head true true same e f = omega arith
    head true false same e f = omega arith
    head false false same e f = omega arith
    head false true same e f = absurd (true≢false (sym (f refl) ∙ not_among id (voters ss) (subst (λ (n : ℕ). Above n (voters ss)) same (voters_above s.id ss a.1))))

    rest : (x : Bool) → (s.id == id) ≡ false → among (cond x (s.id ∷ voters ss) (voters ss)) id ≡ true → among (voters ss) id ≡ true
    rest true e f = sym (ap (λ (b : Bool). b || among (voters ss) id) e) ∙ f
    rest false e f = f

    by : (b : Bool) → (s.id == id) ≡ b → ((role == 0 ≡ true → among (voters ss) id ≡ true) → length (voters (with_role id role ss)) ≤ length (voters ss)) → length (voters (with_role id role (s ∷ ss))) ≤ length (voters (s ∷ ss))
    by true e fewer =
        let same : s.id ≡ id = eqb-true s.id id e in
        subst (λ (l : List Server). length (voters l) ≤ length (voters (s ∷ ss))) (sym (here_role id role s ss same a.1))
        (subst (λ (l : List ℕ). length l ≤ length (voters (s ∷ ss))) (sym (voters_cons (changed s role) ss))
        (subst (λ (l : List ℕ). length (votes (changed s role) (voters ss)) ≤ length l) (sym (voters_cons s ss))
        (head (s.role == 0) (role == 0) same refl (λ z. subst (λ (l : List ℕ). among l id ≡ true) (voters_cons s ss) (h z)))))
    by false e fewer =
        subst (λ (l : List Server). length (voters l) ≤ length (voters (s ∷ ss))) (sym (later_role id role s ss e))
        (subst (λ (l : List ℕ). length l ≤ length (voters (s ∷ ss))) (sym (voters_cons s (with_role id role ss)))
        (subst (λ (l : List ℕ). length (votes s (voters (with_role id role ss))) ≤ length l) (sym (voters_cons s ss))
        (votes_upto (s.role == 0) s.id (voters ss) (voters (with_role id role ss))
        (fewer (λ z. rest (s.role == 0) e (subst (λ (l : List ℕ). among l id ≡ true) (voters_cons s ss) (h z)))))))

kept_id : (id role : ℕ) (s : Server) → (in_role id role s).id ≡ s.id
kept_id id role s = cond_both (s.id == id) (changed s role) s (λ (x : Server). x.id ≡ s.id) (λ e. refl) (λ e. refl)

ascend_role : (id role last : ℕ) (ss : List Server) → Ascend last ss → Ascend last (with_role id role ss)
ascend_role id role last [] a = tt
ascend_role id role last (s ∷ ss) a =
    let e = sym (kept_id id role s) in (subst (λ (n : ℕ). last < n) e a.0, subst (λ (n : ℕ). Ascend n (with_role id role ss)) e (ascend_role id role s.id ss a.1))

each_role : (id role : ℕ) (ss : List Server) → role ≤ 2 → AllByRecursion IsServer ss → AllByRecursion IsServer (with_role id role ss)
each_role id role [] low h = tt
each_role id role (s ∷ ss) low h = (cond_both (s.id == id) (changed s role) s IsServer (λ e. (low, h.0.1, h.0.2)) (λ e. h.0), each_role id role ss low h.1)

-- ---- a server leaves

stay_leave : (id last : ℕ) (ss : List Server) → id ≤ last → Ascend last ss → without_server id ss ≡ ss
stay_leave id last [] le a = refl
stay_leave id last (s ∷ ss) le a =
    let lt : last < s.id = a.0 in
    cond-true (not (s.id == id)) (s ∷ without_server id ss) (without_server id ss) (ap not (not_eq s.id id (omega arith))) ∙ ap (λ (l : List Server). s ∷ l) (stay_leave id s.id ss (omega arith) a.1)

leave_near : (id last : ℕ) (ss : List Server) → Ascend last ss → Neighbours (voters ss) (voters (without_server id ss))
leave_near id last [] a = inl refl
leave_near id last (s ∷ ss) a = by (s.id == id) refl (leave_near id s.id ss a.1)
  where
    by : (b : Bool) → (s.id == id) ≡ b → Neighbours (voters ss) (voters (without_server id ss)) → Neighbours (voters (s ∷ ss)) (voters (without_server id (s ∷ ss)))
    by true e rest =
        let same : s.id ≡ id = eqb-true s.id id e in
        let gone : without_server id (s ∷ ss) ≡ ss = cond-false (not (s.id == id)) (s ∷ without_server id ss) (without_server id ss) (ap not e) ∙ stay_leave id s.id ss (omega arith) a.1 in
        subst (λ (l : List Server). Neighbours (voters (s ∷ ss)) (voters l)) (sym gone)
        (subst (λ (l : List ℕ). Neighbours l (voters ss)) (sym (voters_cons s ss)) (near_head (s.role == 0) false s.id (voters ss) (voters_above s.id ss a.1)))
    by false e rest =
        let stays : without_server id (s ∷ ss) ≡ s ∷ without_server id ss = cond-true (not (s.id == id)) (s ∷ without_server id ss) (without_server id ss) (ap not e) in
        subst (λ (l : List Server). Neighbours (voters (s ∷ ss)) (voters l)) (sym stays)
        (subst (λ (l : List ℕ). Neighbours l (voters (s ∷ without_server id ss))) (sym (voters_cons s ss))
        (subst (λ (l : List ℕ). Neighbours (votes s (voters ss)) l) (sym (voters_cons s (without_server id ss)))
        (near_both (s.role == 0) s.id (voters ss) (voters (without_server id ss)) rest)))

weaker : (a b : ℕ) (ss : List Server) → a ≤ b → Ascend b ss → Ascend a ss
weaker a b [] le h = tt
weaker a b (s ∷ ss) le h = let lt : b < s.id = h.0 in (omega arith, h.1)

ascend_leave : (id last : ℕ) (ss : List Server) → Ascend last ss → Ascend last (without_server id ss)
ascend_leave id last [] a = tt
ascend_leave id last (s ∷ ss) a =
    let lt : last < s.id = a.0 in
    let rest = ascend_leave id s.id ss a.1 in
    cond_both (not (s.id == id)) (s ∷ without_server id ss) (without_server id ss) (Ascend last) (λ e. (lt, rest)) (λ e. weaker last s.id (without_server id ss) (omega arith) rest)

each_leave : (id : ℕ) (ss : List Server) → AllByRecursion IsServer ss → AllByRecursion IsServer (without_server id ss)
each_leave id [] h = tt
each_leave id (s ∷ ss) h = cond_both (not (s.id == id)) (s ∷ without_server id ss) (without_server id ss) (AllByRecursion IsServer) (λ e. (h.0, each_leave id ss h.1)) (λ e. each_leave id ss h.1)

few_leave : (id : ℕ) (ss : List Server) → length (without_server id ss) ≤ length ss
few_leave id [] = omega arith
few_leave id (s ∷ ss) =
    let rest = few_leave id ss in
    cond_both (not (s.id == id)) (s ∷ without_server id ss) (without_server id ss) (λ (l : List Server). length l ≤ suc (length ss)) (λ e. omega arith) (λ e. omega arith)

voters_leave : (id : ℕ) (ss : List Server) → length (voters (without_server id ss)) ≤ length (voters ss)
voters_leave id [] = omega arith
voters_leave id (s ∷ ss) =
    let rest = voters_leave id ss in
    subst (λ (l : List ℕ). length (voters (without_server id (s ∷ ss))) ≤ length l) (sym (voters_cons s ss))
    (cond_both (not (s.id == id)) (s ∷ without_server id ss) (without_server id ss) (λ (l : List Server). length (voters l) ≤ length (votes s (voters ss)))
    (λ e. subst (λ (l : List ℕ). length l ≤ length (votes s (voters ss))) (sym (voters_cons s (without_server id ss))) (votes_upto (s.role == 0) s.id (voters ss) (voters (without_server id ss)) rest))
    (λ e. cond_both (s.role == 0) (s.id ∷ voters ss) (voters ss) (λ (l : List ℕ). length (voters (without_server id ss)) ≤ length l) (λ f. omega arith) (λ f. rest)))

-- ---- a server joins

join_voters : (new : Server) (ss : List Server) → new.role ≡ 2 → voters (with_server new ss) ≡ voters ss
join_voters new [] e = voters_cons new [] ∙ cond-false (new.role == 0) (new.id ∷ voters []) (voters []) (ap (λ (r : ℕ). r == 0) e)
join_voters new (s ∷ ss) e =
    cond_both (nat_lt new.id s.id) (new ∷ s ∷ ss) (s ∷ with_server new ss) (λ (l : List Server). voters l ≡ voters (s ∷ ss))
    (λ f. voters_cons new (s ∷ ss) ∙ cond-false (new.role == 0) (new.id ∷ voters (s ∷ ss)) (voters (s ∷ ss)) (ap (λ (r : ℕ). r == 0) e))
    (λ f. voters_cons s (with_server new ss) ∙ ap (votes s) (join_voters new ss e) ∙ sym (voters_cons s ss))

ascend_join : (new : Server) (last : ℕ) (ss : List Server) → last < new.id → has_server ss new.id ≡ false → Ascend last ss → Ascend last (with_server new ss)
ascend_join new last [] lt none a = (lt, tt)
ascend_join new last (s ∷ ss) lt none a =
    let no = neither (s.id == new.id) (has_server ss new.id) none in
    let other = apart s.id new.id no.0 in
    cond_both (nat_lt new.id s.id) (new ∷ s ∷ ss) (s ∷ with_server new ss) (Ascend last)
    (λ e. (lt, (ltb-true _ _ e, a.1)))
    (λ e. let le : s.id ≤ new.id = ltb-false _ _ e in (a.0, ascend_join new s.id ss (strict s.id new.id le other) no.1 a.1))
  where
    strict : (x y : ℕ) → x ≤ y → x ≢ y → x < y
    strict x y le n = grind arith

each_join : (new : Server) (ss : List Server) → IsServer new → AllByRecursion IsServer ss → AllByRecursion IsServer (with_server new ss)
each_join new [] own h = (own, tt)
each_join new (s ∷ ss) own h = cond_both (nat_lt new.id s.id) (new ∷ s ∷ ss) (s ∷ with_server new ss) (AllByRecursion IsServer) (λ e. (own, h)) (λ e. (h.0, each_join new ss own h.1))

one_joins : (new : Server) (ss : List Server) → length (with_server new ss) ≡ suc (length ss)
one_joins new [] = refl
one_joins new (s ∷ ss) = cond_both (nat_lt new.id s.id) (new ∷ s ∷ ss) (s ∷ with_server new ss) (λ (l : List Server). length l ≡ suc (suc (length ss))) (λ e. refl) (λ e. ap suc (one_joins new ss))

-- ---- the laws

pub joins_stand : JoinsStand
joins_stand old new j plain c =
    let s = j.server in
    let long = one_joins s old in
    let room = j.room in
    let role = j.spare in
    let same = ap length (join_voters s old j.spare) in
    let few = c.few_voters in
    subst IsConfiguration (sym j.is) (record {
      ascend = ascend_join s 0 old (above_zero s.id j.named) j.unknown c.ascend;
      each = each_join s old (omega arith, plain, j.short) c.each;
      few = omega arith;
      few_voters = omega arith;
    })
  where
    above_zero : (n : ℕ) → n ≢ 0 → 0 < n
    above_zero n h = grind arith

pub roles_stand : RolesStand
roles_stand v old new r c =
    let near = role_near r.id r.role 0 old c.ascend in
    let long = near_long (voters old) (voters (with_role r.id r.role old)) near in
    let few = c.few in
    let few_voters = c.few_voters in
    let size : length (with_role r.id r.role old) ≡ length old = length-map old (in_role r.id r.role) in
    let upto : length (voters (with_role r.id r.role old)) ≤ 7 = by (is_promotion old r.id r.role) refl in
    subst IsConfiguration (sym r.is) (record {
      ascend = ascend_role r.id r.role 0 old c.ascend;
      each = each_role r.id r.role old r.low c.each;
      few = omega arith;
      few_voters = upto;
    })
  where
    by : (b : Bool) → is_promotion old r.id r.role ≡ b → length (voters (with_role r.id r.role old)) ≤ 7
    by true e =
        let long = near_long (voters old) (voters (with_role r.id r.role old)) (role_near r.id r.role 0 old c.ascend) in
        let room = r.room e in
        omega arith
    by false e =
        let upto = no_more r.id r.role 0 old c.ascend (one_of_two (r.role == 0) (among (voters old) r.id) e) in
        let few = c.few_voters in
        omega arith

pub leaves_stand : LeavesStand
leaves_stand v old new l c =
    let fewer = few_leave l.id old in
    let few = c.few in
    let votes = voters_leave l.id old in
    let few_voters = c.few_voters in
    subst IsConfiguration (sym l.is) (record {
      ascend = ascend_leave l.id 0 old c.ascend;
      each = each_leave l.id old c.each;
      few = omega arith;
      few_voters = omega arith;
    })

pub voters_are_near : VotersAreNear
voters_are_near v old new (inl j) c = tests (voters old) (voters new) (inl (sym (ap voters j.is ∙ join_voters j.server old j.spare)))
voters_are_near v old new (inr (inl r)) c = subst (λ (l : List Server). are_near (voters old) (voters l) ≡ true) (sym r.is) (tests (voters old) (voters (with_role r.id r.role old)) (role_near r.id r.role 0 old c.ascend))
voters_are_near v old new (inr (inr l)) c = subst (λ (x : List Server). are_near (voters old) (voters x) ≡ true) (sym l.is) (tests (voters old) (voters (without_server l.id old)) (leave_near l.id 0 old c.ascend))
