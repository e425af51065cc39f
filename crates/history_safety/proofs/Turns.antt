-- What is true of a client at first, and stays true with each answer, is true of it at each place of a history.
use Rattle.std.proofs.Common.{◌≡◌, ℕ, zero, suc, ◌+◌, ◌<◌, ◌≤◌, Bool, true, false, List, [], ◌∷◌, ◌++◌, length, take, refl, sym, ap, ◌∙◌, subst, arith}
use Rattle.std.specs.Prelude.{◌==◌, Option, Some, None, slice_get, if◌then◌else◌}
use Rattle.std.proofs.Math.Seq.{take-length}
use Rattle.std.proofs.lemmas.Bool.{eqb-true}
use Rattle.std.proofs.lemmas.List.{take-take}
use Rattle.wire_msgs.specs.declared.request.Request.{Request}
use Rattle.wire_msgs.specs.declared.response.Response.{Response}
use Rattle.headline.specs.Clients.{Client, refused, new_client, after_answer, client_after}
use Rattle.headline.specs.Headline.{Observation, Asks, Answers, Shows, Closes, GoesDown, asked_from, asked_before, answers_on, IsReply, client_at}

-- ---- places of lists

get_take : {A : Type 0} → (xs : List A) (n k : ℕ) (x : A) → slice_get (take n xs) k ≡ Some x → (k < n) × (slice_get xs k ≡ Some x)
get_take [] zero k x e = absurd cc
get_take [] (suc n) k x e = absurd cc
get_take (y ∷ xs) zero k x e = absurd cc
get_take (y ∷ xs) (suc n) zero x e = (omega arith, e)
get_take (y ∷ xs) (suc n) (suc k) x e = let r = get_take xs n k x e in let low = r.0 in (omega arith, r.1)

front_length : {A : Type 0} → (xs : List A) (k : ℕ) (x : A) → slice_get xs k ≡ Some x → length (take k xs) ≡ k
front_length [] k x e = absurd cc
front_length (y ∷ xs) zero x e = refl
front_length (y ∷ xs) (suc k) x e = ap suc (front_length xs k x e)

none_more : {A : Type 0} → (xs : List A) (k : ℕ) → slice_get xs k ≡ None → take (suc k) xs ≡ take k xs
none_more [] zero e = refl
none_more [] (suc k) e = refl
none_more (y ∷ xs) zero e = absurd cc
none_more (y ∷ xs) (suc k) e = ap (λ ys. y ∷ ys) (none_more xs k e)

sum_zero : (n : ℕ) → n ≡ n + 0
sum_zero n = omega arith

same_pair : (x y : ℕ × Option Request) → Some x ≡ Some y → x ≡ y
same_pair x y e = cc

-- ---- the k-th message and the k-th answer of a connection

record FoundAsk (h : List Observation) (conn first k place : ℕ) (request : Option Request) : Type 0 where
  at : ℕ
  node : ℕ
  sum : place ≡ first + at
  is : slice_get h at ≡ Some (Asks node conn request)
  front : asked_from conn first (take at h) ≡ take k (asked_from conn first h)

no_ask : (x : Observation) (h : List Observation) (conn first k place : ℕ) (request : Option Request) →
    ((l : List Observation) → asked_from conn first (x ∷ l) ≡ asked_from conn (suc first) l) →
    slice_get (asked_from conn first (x ∷ h)) k ≡ Some (place, request) →
    (slice_get (asked_from conn (suc first) h) k ≡ Some (place, request) → FoundAsk h conn (suc first) k place request) →
    FoundAsk (x ∷ h) conn first k place request
no_ask x h conn first k place request same e rest =
    let f = rest (sym (ap (λ l. slice_get l k) (same h)) ∙ e) in
    let sum = f.sum in
    record {
      at = suc f.at;
      node = f.node;
      sum = omega arith;
      is = f.is;
      front = same (take f.at h) ∙ f.front ∙ ap (take k) (sym (same h));
    }

one_ask : (node c : ℕ) (q : Option Request) (h : List Observation) (conn first k place : ℕ) (request : Option Request) → c ≡ conn →
    ((l : List Observation) → asked_from conn first (Asks node c q ∷ l) ≡ (first, q) ∷ asked_from conn (suc first) l) →
    slice_get (asked_from conn first (Asks node c q ∷ h)) k ≡ Some (place, request) →
    ((j : ℕ) → slice_get (asked_from conn (suc first) h) j ≡ Some (place, request) → FoundAsk h conn (suc first) j place request) →
    FoundAsk (Asks node c q ∷ h) conn first k place request
one_ask node c q h conn first zero place request own same e rest =
    let f : Some (first, q) ≡ Some (place, request) = sym (ap (λ l. slice_get l 0) (same h)) ∙ e in
    let g = same_pair (first, q) (place, request) f in
    let u : first ≡ place = ap (λ (z : ℕ × Option Request). z.0) g in
    let v : q ≡ request = ap (λ (z : ℕ × Option Request). z.1) g in
    record {
      at = 0;
      node = node;
      sum = sym u ∙ sum_zero first;
      is = ap (λ r. Some (Asks node c r)) v ∙ ap (λ n. Some (Asks node n request)) own;
      front = refl;
    }
one_ask node c q h conn first (suc k) place request own same e rest =
    let f = rest k (sym (ap (λ l. slice_get l (suc k)) (same h)) ∙ e) in
    let sum = f.sum in
    record {
      at = suc f.at;
      node = f.node;
      sum = omega arith;
      is = f.is;
      front = same (take f.at h) ∙ ap (λ l. (first, q) ∷ l) f.front ∙ ap (take (suc k)) (sym (same h));
    }

ask_by : (b : Bool) (node c : ℕ) (q : Option Request) (h : List Observation) (conn first k place : ℕ) (request : Option Request) → (c == conn) ≡ b →
    slice_get (asked_from conn first (Asks node c q ∷ h)) k ≡ Some (place, request) →
    ((j : ℕ) → slice_get (asked_from conn (suc first) h) j ≡ Some (place, request) → FoundAsk h conn (suc first) j place request) →
    FoundAsk (Asks node c q ∷ h) conn first k place request
ask_by true node c q h conn first k place request is e rest =
    one_ask node c q h conn first k place request (eqb-true c conn is)
    (λ l. ap (λ b. (if b then (first, q) ∷ [] else []) ++ asked_from conn (suc first) l) is) e rest
ask_by false node c q h conn first k place request is e rest =
    no_ask (Asks node c q) h conn first k place request
    (λ l. ap (λ b. (if b then (first, q) ∷ [] else []) ++ asked_from conn (suc first) l) is) e (rest k)

find_ask : (h : List Observation) (conn first k place : ℕ) (request : Option Request) → slice_get (asked_from conn first h) k ≡ Some (place, request) →
    FoundAsk h conn first k place request
find_ask [] conn first k place request e = absurd cc
find_ask (Asks node c q ∷ h) conn first k place request e =
    ask_by (c == conn) node c q h conn first k place request refl e (λ j. find_ask h conn (suc first) j place request)
find_ask (Answers n c a ∷ h) conn first k place request e =
    no_ask (Answers n c a) h conn first k place request (λ l. refl) e (find_ask h conn (suc first) k place request)
find_ask (Shows n v ∷ h) conn first k place request e =
    no_ask (Shows n v) h conn first k place request (λ l. refl) e (find_ask h conn (suc first) k place request)
find_ask (Closes c ∷ h) conn first k place request e =
    no_ask (Closes c) h conn first k place request (λ l. refl) e (find_ask h conn (suc first) k place request)
find_ask (GoesDown n ∷ h) conn first k place request e =
    no_ask (GoesDown n) h conn first k place request (λ l. refl) e (find_ask h conn (suc first) k place request)

record FoundAnswer (h : List Observation) (conn k : ℕ) (answer : List Response) : Type 0 where
  at : ℕ
  node : ℕ
  is : slice_get h at ≡ Some (Answers node conn answer)
  front : answers_on conn (take at h) ≡ take k (answers_on conn h)

no_answer : (x : Observation) (h : List Observation) (conn k : ℕ) (answer : List Response) →
    ((l : List Observation) → answers_on conn (x ∷ l) ≡ answers_on conn l) →
    slice_get (answers_on conn (x ∷ h)) k ≡ Some answer →
    (slice_get (answers_on conn h) k ≡ Some answer → FoundAnswer h conn k answer) → FoundAnswer (x ∷ h) conn k answer
no_answer x h conn k answer same e rest =
    let f = rest (sym (ap (λ l. slice_get l k) (same h)) ∙ e) in
    record { at = suc f.at; node = f.node; is = f.is; front = same (take f.at h) ∙ f.front ∙ ap (take k) (sym (same h)) }

one_answer : (node c : ℕ) (a : List Response) (h : List Observation) (conn k : ℕ) (answer : List Response) → c ≡ conn →
    ((l : List Observation) → answers_on conn (Answers node c a ∷ l) ≡ a ∷ answers_on conn l) →
    slice_get (answers_on conn (Answers node c a ∷ h)) k ≡ Some answer →
    ((j : ℕ) → slice_get (answers_on conn h) j ≡ Some answer → FoundAnswer h conn j answer) → FoundAnswer (Answers node c a ∷ h) conn k answer
one_answer node c a h conn zero answer own same e rest =
    let f : Some a ≡ Some answer = sym (ap (λ l. slice_get l 0) (same h)) ∙ e in
    let u : a ≡ answer = cc in
    record { at = 0; node = node; is = ap (λ r. Some (Answers node c r)) u ∙ ap (λ n. Some (Answers node n answer)) own; front = refl }
one_answer node c a h conn (suc k) answer own same e rest =
    let f = rest k (sym (ap (λ l. slice_get l (suc k)) (same h)) ∙ e) in
    record {
      at = suc f.at;
      node = f.node;
      is = f.is;
      front = same (take f.at h) ∙ ap (λ l. a ∷ l) f.front ∙ ap (take (suc k)) (sym (same h));
    }

answer_by : (b : Bool) (node c : ℕ) (a : List Response) (h : List Observation) (conn k : ℕ) (answer : List Response) → (c == conn) ≡ b →
    slice_get (answers_on conn (Answers node c a ∷ h)) k ≡ Some answer →
    ((j : ℕ) → slice_get (answers_on conn h) j ≡ Some answer → FoundAnswer h conn j answer) → FoundAnswer (Answers node c a ∷ h) conn k answer
answer_by true node c a h conn k answer is e rest =
    one_answer node c a h conn k answer (eqb-true c conn is) (λ l. ap (λ b. (if b then a ∷ [] else []) ++ answers_on conn l) is) e rest
answer_by false node c a h conn k answer is e rest =
    no_answer (Answers node c a) h conn k answer (λ l. ap (λ b. (if b then a ∷ [] else []) ++ answers_on conn l) is) e (rest k)

find_answer : (h : List Observation) (conn k : ℕ) (answer : List Response) → slice_get (answers_on conn h) k ≡ Some answer → FoundAnswer h conn k answer
find_answer [] conn k answer e = absurd cc
find_answer (Answers node c a ∷ h) conn k answer e = answer_by (c == conn) node c a h conn k answer refl e (λ j. find_answer h conn j answer)
find_answer (Asks n c q ∷ h) conn k answer e = no_answer (Asks n c q) h conn k answer (λ l. refl) e (find_answer h conn k answer)
find_answer (Shows n v ∷ h) conn k answer e = no_answer (Shows n v) h conn k answer (λ l. refl) e (find_answer h conn k answer)
find_answer (Closes c ∷ h) conn k answer e = no_answer (Closes c) h conn k answer (λ l. refl) e (find_answer h conn k answer)
find_answer (GoesDown n ∷ h) conn k answer e = no_answer (GoesDown n) h conn k answer (λ l. refl) e (find_answer h conn k answer)

-- ---- one answer more

after_one : (asked : List (ℕ × Option Request)) (answers : List (List Response)) (k : ℕ) (s : Client) (x : ℕ × Option Request) (a : List Response) →
    slice_get asked k ≡ Some x → slice_get answers k ≡ Some a →
    client_after s (take (suc k) asked) answers ≡ after_answer (client_after s (take k asked) answers) x.0 x.1 a (refused a)
after_one [] answers k s x a e f = absurd cc
after_one (y ∷ asked) [] k s x a e f = absurd cc
after_one (y ∷ asked) (b ∷ answers) zero s x a e f =
    let u : y ≡ x = cc in
    let v : b ≡ a = cc in
    ap (λ (z : ℕ × Option Request). after_answer s z.0 z.1 b (refused b)) u ∙ ap (λ c. after_answer s x.0 x.1 c (refused c)) v
after_one (y ∷ asked) (b ∷ answers) (suc k) s x a e f = after_one asked answers k (after_answer s y.0 y.1 b (refused b)) x a e f

after_none : (asked : List (ℕ × Option Request)) (answers : List (List Response)) (k : ℕ) (s : Client) → slice_get answers k ≡ None →
    client_after s (take (suc k) asked) answers ≡ client_after s (take k asked) answers
after_none [] answers zero s f = refl
after_none [] answers (suc k) s f = refl
after_none (y ∷ asked) [] zero s f = refl
after_none (y ∷ asked) [] (suc k) s f = refl
after_none (y ∷ asked) (b ∷ answers) zero s f = absurd cc
after_none (y ∷ asked) (b ∷ answers) (suc k) s f = after_none asked answers k (after_answer s y.0 y.1 b (refused b)) f

-- ---- all answers

module _ (h : List Observation) (conn : ℕ) (Q : Client → Type 0)
    (each : (node place answered : ℕ) (request : Option Request) (answer : List Response) → IsReply h node conn place answered request answer →
    Q (client_at h conn place) → Q (after_answer (client_at h conn place) place request answer (refused answer))) where
  -- the message and the answer of the same number
  paired : (last k : ℕ) (x : ℕ × Option Request) (a : List Response) → slice_get (asked_before conn last h) k ≡ Some x →
      slice_get (answers_on conn h) k ≡ Some a →
      Q (client_after new_client (take k (asked_before conn last h)) (answers_on conn h)) →
      Q (after_answer (client_after new_client (take k (asked_before conn last h)) (answers_on conn h)) x.0 x.1 a (refused a))
  paired last k x a e f q =
      let m = find_ask (take last h) conn 0 k x.0 x.1 e in
      let r = find_answer h conn k a f in
      let sum = m.sum in
      let own : m.at ≡ x.0 = omega arith in
      let g = get_take h last m.at (Asks m.node conn x.1) m.is in
      let low = g.0 in
      let le : m.at ≤ last = omega arith in
      let front : asked_before conn x.0 h ≡ take k (asked_before conn last h) =
      ap (λ n. asked_from conn 0 (take n h)) (sym own) ∙ ap (asked_from conn 0) (sym (take-take m.at last h le)) ∙ m.front in
      let reply : IsReply h r.node conn x.0 r.at x.1 a = record {
        home = m.node;
        asks = subst (λ n. slice_get h n ≡ Some (Asks m.node conn x.1)) own g.1;
        answers = r.is;
        turn = ap length front ∙ front_length (asked_before conn last h) k x e ∙ sym (ap length r.front ∙ front_length (answers_on conn h) k a f);
      } in
      let now : client_at h conn x.0 ≡ client_after new_client (take k (asked_before conn last h)) (answers_on conn h) =
      ap (λ l. client_after new_client l (answers_on conn h)) front in
      subst (λ s. Q (after_answer s x.0 x.1 a (refused a))) now (each r.node x.0 r.at x.1 a reply (subst Q (sym now) q))

  one_more : (last k : ℕ) (o : Option (ℕ × Option Request)) (p : Option (List Response)) → slice_get (asked_before conn last h) k ≡ o →
      slice_get (answers_on conn h) k ≡ p → Q (client_after new_client (take k (asked_before conn last h)) (answers_on conn h)) →
      Q (client_after new_client (take (suc k) (asked_before conn last h)) (answers_on conn h))
  one_more last k None p e f q = subst (λ l. Q (client_after new_client l (answers_on conn h))) (sym (none_more (asked_before conn last h) k e)) q
  one_more last k (Some x) None e f q = subst Q (sym (after_none (asked_before conn last h) (answers_on conn h) k new_client f)) q
  one_more last k (Some x) (Some a) e f q =
      subst Q (sym (after_one (asked_before conn last h) (answers_on conn h) k new_client x a e f)) (paired last k x a e f q)

  up_to : (last k : ℕ) → Q new_client → Q (client_after new_client (take k (asked_before conn last h)) (answers_on conn h))
  up_to last zero first = first
  up_to last (suc k) first =
      one_more last k (slice_get (asked_before conn last h) k) (slice_get (answers_on conn h) k) refl refl (up_to last k first)

  pub along : Q new_client → (place : ℕ) → Q (client_at h conn place)
  along first place =
      subst (λ l. Q (client_after new_client l (answers_on conn h))) (take-length (asked_before conn place h))
      (up_to place (length (asked_before conn place h)) first)
