-- Requests that are handled are those that were asked, maybe without some.
use Rattle.std.proofs.Common.{◌≡◌, inl, inr, ℕ, Bool, true, false, true≢false, map, List, [], ◌∷◌, ◌++◌, refl, sym, ap, ◌∙◌, subst, ⊎_elim, append_assoc}
use Rattle.std.specs.Prelude.{cond, ◌==◌, ◌&&◌}
use Rattle.std.proofs.lemmas.Bool.{and_parts}
use Rattle.wire_msgs.specs.declared.request.Request.{Request}
use Rattle.session_spec.specs.Sessions.{may_ask}
use Rattle.session_safety.specs.Answering.{asks_for, outcome, transaction_ran, Handled, comes, handled_in}
use Rattle.session_safety.specs.Nodes.{Node as Life}
use Rattle.session_safety.specs.Life.{happens as goes_on, Event as Doing, Connect, Hangup, Call, Resume, Done, Apply, Lose, Lead, Serve, Append, Follow}
use Rattle.node_spec.specs.Steps.{calls, ArePartOf}

pub part_same : (xs : List Request) → ArePartOf xs xs
part_same [] = tt
part_same (x ∷ xs) = inl (refl, part_same xs)

pub part_trans : (zs ys xs : List Request) → ArePartOf xs ys → ArePartOf ys zs → ArePartOf xs zs
part_trans zs ys [] a b = tt
part_trans zs [] (x ∷ xs) a b = absurd a
part_trans [] (y ∷ ys) (x ∷ xs) a b = absurd b
part_trans (z ∷ zs) (y ∷ ys) (x ∷ xs) a b =
    ⊎_elim
    (λ (q : (y ≡ z) × ArePartOf ys zs).
    ⊎_elim
    (λ (p : (x ≡ y) × ArePartOf xs ys). inl (p.0 ∙ q.0, part_trans zs ys xs p.1 q.1))
    (λ (p : ArePartOf (x ∷ xs) ys). inr (part_trans zs ys (x ∷ xs) p q.1))
    a)
    (λ (q : ArePartOf (y ∷ ys) zs). inr (part_trans zs (y ∷ ys) (x ∷ xs) a q))
    b

pub part_front : (c xs ys : List Request) → ArePartOf xs ys → ArePartOf (c ++ xs) (c ++ ys)
part_front [] xs ys a = a
part_front (r ∷ c) xs ys a = inl (refl, part_front c xs ys a)

pub part_back : (ys xs c : List Request) → ArePartOf xs ys → ArePartOf (xs ++ c) (ys ++ c)
part_back [] [] c a = part_same c
part_back (y ∷ ys) [] c a = later y c ys (part_back ys [] c tt)
  where
    later : (y : Request) (c ys : List Request) → ArePartOf c (ys ++ c) → ArePartOf c (y ∷ (ys ++ c))
    later y [] ys a = tt
    later y (x ∷ c) ys a = inr a
part_back [] (x ∷ xs) c a = absurd a
part_back (y ∷ ys) (x ∷ xs) c a =
    ⊎_elim
    (λ (p : (x ≡ y) × ArePartOf xs ys). inl (p.0, part_back ys xs c p.1))
    (λ (p : ArePartOf (x ∷ xs) ys). inr (part_back ys (x ∷ xs) c p))
    a

-- two stretches, one after the other
pub part_join : (c1 w1 w0 a1 c2 w2 a2 : List Request) → ArePartOf (c1 ++ w1) (w0 ++ a1) → ArePartOf (c2 ++ w2) (w1 ++ a2) → ArePartOf ((c1 ++ c2) ++ w2) (w0 ++ (a1 ++ a2))
part_join c1 w1 w0 a1 c2 w2 a2 one two =
    let now : ArePartOf ((c1 ++ c2) ++ w2) ((c1 ++ w1) ++ a2) =
    subst (λ l. ArePartOf l ((c1 ++ w1) ++ a2)) (sym (append_assoc c1 c2 w2)) (subst (λ l. ArePartOf (c1 ++ (c2 ++ w2)) l) (sym (append_assoc c1 w1 a2)) (part_front c1 (c2 ++ w2) (w1 ++ a2) two)) in
    let then : ArePartOf ((c1 ++ w1) ++ a2) (w0 ++ (a1 ++ a2)) = subst (λ l. ArePartOf ((c1 ++ w1) ++ a2) l) (append_assoc w0 a1 a2) (part_back (w0 ++ a1) (c1 ++ w1) a2 one) in
    part_trans (w0 ++ (a1 ++ a2)) ((c1 ++ w1) ++ a2) ((c1 ++ c2) ++ w2) now then

pub calls_join : (conn : ℕ) (xs ys : List Doing) → calls conn (xs ++ ys) ≡ calls conn xs ++ calls conn ys
calls_join conn [] ys = refl
calls_join conn (Connect k ∷ xs) ys = calls_join conn xs ys
calls_join conn (Hangup k ∷ xs) ys = calls_join conn xs ys
calls_join conn (Call k standing request answers ∷ xs) ys =
    ap (λ (l : List Request). cond (k == conn) (request ∷ []) [] ++ l) (calls_join conn xs ys) ∙ sym (append_assoc (cond (k == conn) (request ∷ []) []) (calls conn xs) (calls conn ys))
calls_join conn (Resume k standing answers ∷ xs) ys = calls_join conn xs ys
calls_join conn (Done k answers ∷ xs) ys = calls_join conn xs ys
calls_join conn (Apply ∷ xs) ys = calls_join conn xs ys
calls_join conn (Lose term ∷ xs) ys = calls_join conn xs ys
calls_join conn (Lead term ∷ xs) ys = calls_join conn xs ys
calls_join conn (Serve ∷ xs) ys = calls_join conn xs ys
calls_join conn (Append contents ∷ xs) ys = calls_join conn xs ys
calls_join conn (Follow entries ∷ xs) ys = calls_join conn xs ys

part_later : (ys xs : List Request) (x : Request) → ArePartOf (x ∷ xs) ys → ArePartOf xs ys
part_later [] xs x a = absurd a
part_later (y ∷ ys) [] x a = tt
part_later (y ∷ ys) (z ∷ xs) x a = ⊎_elim (λ (p : (x ≡ y) × ArePartOf (z ∷ xs) ys). inr p.1) (λ (p : ArePartOf (x ∷ z ∷ xs) ys). inr (part_later ys (z ∷ xs) x p)) a

part_none : (ys : List Request) → ArePartOf [] ys
part_none ys = tt

-- a front of what is part is part
pub part_less : (xs rest ys : List Request) → ArePartOf (xs ++ rest) ys → ArePartOf xs ys
part_less [] rest ys a = part_none ys
part_less (x ∷ xs) rest [] a = absurd a
part_less (x ∷ xs) rest (y ∷ ys) a = ⊎_elim (λ (p : (x ≡ y) × ArePartOf (xs ++ rest) ys). inl (p.0, part_less xs rest ys p.1)) (λ (p : ArePartOf (x ∷ (xs ++ rest)) ys). inr (part_less (x ∷ xs) rest ys p)) a

part_if : (a b : Bool) (x : Request) (xs ys : List Request) → ArePartOf xs ys → (b ≡ true → a ≡ true) → ArePartOf (cond b (x ∷ xs) xs) (cond a (x ∷ ys) ys)
part_if true true x xs ys p f = inl (refl, p)
part_if true false x [] ys p f = tt
part_if true false x (z ∷ xs) ys p f = inr p
part_if false true x xs ys p f = absurd (true≢false (sym (f refl)))
part_if false false x xs ys p f = p

-- what is handled was called
pub handled_called : (conn : ℕ) (w : Life) (es : List Doing) → ArePartOf (map (λ (h : Handled). h.request) (handled_in conn w es)) (calls conn es)
handled_called conn w [] = tt
handled_called conn w (Connect k ∷ es) = handled_called conn (goes_on w (Connect k)) es
handled_called conn w (Hangup k ∷ es) = handled_called conn (goes_on w (Hangup k)) es
handled_called conn w (Call k standing request answers ∷ es) =
    let v = goes_on w (Call k standing request answers) in
    let test = k == conn && (may_ask (w.gate.session k) && comes (outcome w k standing request answers)) in
    let own : Handled = record { request = request; before = transaction_ran w k; own = asks_for w k standing request } in
    subst (λ l. ArePartOf l (cond (k == conn) (request ∷ []) [] ++ calls conn es)) (sym (split test own (handled_in conn v es)))
    (subst (ArePartOf (cond test (request ∷ rest v) (rest v))) (sym (front (k == conn)))
    (part_if (k == conn) test request (rest v) (calls conn es) (handled_called conn v es) (λ e. (and_parts (k == conn) _ e).0)))
  where
    rest : Life → List Request
    rest v = map (λ (h : Handled). h.request) (handled_in conn v es)

    front : (a : Bool) → cond a (request ∷ []) [] ++ calls conn es ≡ cond a (request ∷ calls conn es) (calls conn es)
    front true = refl
    front false = refl

    split : (a : Bool) (h : Handled) (hs : List Handled) → map (λ (x : Handled). x.request) (cond a (h ∷ []) [] ++ hs) ≡ cond a (h.request ∷ map (λ (x : Handled). x.request) hs) (map (λ (x : Handled). x.request) hs)
    split true h hs = refl
    split false h hs = refl
handled_called conn w (Resume k standing answers ∷ es) = handled_called conn (goes_on w (Resume k standing answers)) es
handled_called conn w (Done k answers ∷ es) = handled_called conn (goes_on w (Done k answers)) es
handled_called conn w (Apply ∷ es) = handled_called conn (goes_on w Apply) es
handled_called conn w (Lose term ∷ es) = handled_called conn (goes_on w (Lose term)) es
handled_called conn w (Lead term ∷ es) = handled_called conn (goes_on w (Lead term)) es
handled_called conn w (Serve ∷ es) = handled_called conn (goes_on w Serve) es
handled_called conn w (Append contents ∷ es) = handled_called conn (goes_on w (Append contents)) es
handled_called conn w (Follow entries ∷ es) = handled_called conn (goes_on w (Follow entries)) es
