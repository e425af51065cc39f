-- A ROLLBACK after a reported loss is allowed.
use Rattle.std.proofs.Common.{◌≡◌, ℕ, zero, suc, ◌<◌, ◌≤◌, Bool, true, false, List, [], ◌∷◌, length, take, refl, sym, ap, ◌∙◌, subst, arith}
use Rattle.std.specs.Prelude.{Option, Some, slice_get, codes}
use Rattle.dq_base.specs.declared.images.Image.{Image}
use Rattle.wire_msgs.specs.declared.request.Request.{Request}
use Rattle.wire_msgs.specs.declared.response.Response.{Response}
use Rattle.wire_msgs.specs.declared.response.Response.TheVariants as responses
use Rattle.sql_scan.specs.declared.pieces.StatementSpan.{StatementSpan}
use Rattle.sql_scan.specs.declared.heading.WordKind.TheVariants as words
use Rattle.sql_engine.specs.Meanings.{Meaning}
use Rattle.database_state.specs.Files.{empty_image}
use Rattle.headline.specs.Clients.{refused, Idle, Begun, Lost, Begins, RollsBack, purpose, after_result, after_refusal}
use Rattle.headline.specs.Headline.{NodeView, Observation, Asks, Answers, Shows, Closes, IsAt, asked_before, answers_on, IsReply, StaysUp, IsFinished, answered, closed, down, client_at, purpose_at, Change, image_in, shown_image, NoneAt, AskedBefore, HasPast, ComesFromMessage, IsRightResult, IsRightAnswer, HoldsOfAll, HeadlineHolds}
use Rattle.headline.specs.Laws.{IsSole, execs, done, starts, RollbackIsAllowed}
use Rattle.headline.proofs.Seen.{each_ask, each_answer, each_show, each_down, each_close}
use Rattle.headline.proofs.Knowing.{open_request, exec, db, result, knows, exec_is}

module _ (m : Meaning) (begin sql back text : List ℕ) (one two three : StatementSpan) (at_once : Bool) (first : IsSole begin one (words.Begin at_once))
    (second : IsSole sql two words.Write)
    (third : IsSole back three words.Rollback) where
  abbrev refusal : List Response
  refusal = responses.Failure 10250 text ∷ []

  abbrev h : List Observation
  h = starts (execs 1 1 begin ∷ done 1 1 0 ∷ execs 1 1 sql ∷ Answers 1 1 refusal ∷ execs 1 1 back ∷ done 1 1 0 ∷ [])

  abbrev change : Change
  change = record { place = 1; name = codes "d"; after = empty_image }

  abbrev order : List Change
  order = change ∷ []

  abbrev index : ℕ → ℕ
  index zero = 0
  index (suc a) = 1

  abbrev rests : ℕ → ℕ
  rests place = 1

  abbrev work : ℕ → Image
  work place = empty_image

  at_five : client_at h 1 5 ≡ knows false (Begun 3 3)
  at_five = ap (after_result (knows false Idle) 3 (result 0)) (exec_is (knows false Idle) begin one (words.Begin at_once) first)

  at_seven : client_at h 1 7 ≡ knows false Lost
  at_seven =
      ap (λ s. after_refusal true s (purpose s (exec sql))) at_five
      ∙ ap (after_refusal true (knows false (Begun 3 3))) (exec_is (knows false (Begun 3 3)) sql two words.Write second)

  begins : purpose (knows false Idle) (exec begin) ≡ Begins
  begins = exec_is (knows false Idle) begin one (words.Begin at_once) first

  rolls_back : purpose_at h 1 7 (exec back) ≡ RollsBack
  rolls_back = ap (λ s. purpose s (exec back)) at_seven ∙ exec_is (knows false Lost) back three words.Rollback third

  of_pair : (G : ℕ → ℕ → ℕ → ℕ → Option Request → List Response → Type 0) → G 1 1 2 1 (open_request 0) db → G 1 3 4 1 (exec begin) (result 0) →
      G 1 5 6 1 (exec sql) refusal → G 1 7 8 1 (exec back) (result 0) →
      (node conn p q : ℕ) (request : Option Request) (answer : List Response) → IsReply h node conn p q request answer → G node p q conn request answer
  of_pair G a b c e node conn p q request answer x =
      each_ask (λ p n c request. (q : ℕ) (answer : List Response) → IsAt h q (Answers node c answer) →
      length (asked_before c p h) ≡ length (answers_on c (take q h)) → G node p q c request answer) h (
        (λ q answer at turn. each_answer (λ q n k answer. 0 ≡ length (answers_on 1 (take q h)) → G n 1 q 1 (open_request 0) answer) h (
          (λ v. a),
          (
            (λ v. let w : 0 ≡ 1 = v in absurd (omega (arith, w))),
            (
              (λ v. let w : 0 ≡ 2 = v in absurd (omega (arith, w))),
              ((λ v. let w : 0 ≡ 3 = v in absurd (omega (arith, w))), tt),
            ),
          ),
        ) q node 1 answer at turn),
        (
          (λ q answer at turn. each_answer (λ q n k answer. 1 ≡ length (answers_on 1 (take q h)) → G n 3 q 1 (exec begin) answer) h (
            (λ v. let w : 1 ≡ 0 = v in absurd (omega (arith, w))),
            ((λ v. b), ((λ v. let w : 1 ≡ 2 = v in absurd (omega (arith, w))), ((λ v. let w : 1 ≡ 3 = v in absurd (omega (arith, w))), tt))),
          ) q node 1 answer at
              turn),
          (
            (λ q answer at turn. each_answer (λ q n k answer. 2 ≡ length (answers_on 1 (take q h)) → G n 5 q 1 (exec sql) answer) h (
              (λ v. let w : 2 ≡ 0 = v in absurd (omega (arith, w))),
              (
                (λ v. let w : 2 ≡ 1 = v in absurd (omega (arith, w))),
                ((λ v. c), ((λ v. let w : 2 ≡ 3 = v in absurd (omega (arith, w))), tt)),
              ),
            ) q node 1 answer at turn),
            (
              (λ q answer at turn. each_answer (λ q n k answer. 3 ≡ length (answers_on 1 (take q h)) → G n 7 q 1 (exec back) answer) h (
                (λ v. let w : 3 ≡ 0 = v in absurd (omega (arith, w))),
                (
                  (λ v. let w : 3 ≡ 1 = v in absurd (omega (arith, w))),
                  ((λ v. let w : 3 ≡ 2 = v in absurd (omega (arith, w))), ((λ v. e), tt)),
                ),
              ) q node 1 answer at turn),
              tt,
            ),
          ),
        ),
      ) p x.home conn request x.asks q answer x.answers x.turn

  is_first : (i : ℕ) (c : Change) → slice_get order i ≡ Some c → (i ≡ 0) × (c.place ≡ 1)
  is_first zero c e = let f : change ≡ c = cc in (refl, ap (λ (x : Change). x.place) (sym f))
  is_first (suc n) c e = absurd cc

  finished_after : (p at : ℕ) → IsFinished h p at → p < at
  finished_after p at (answered node conn request answer x) = of_pair (λ node p q conn request answer. p < q) (omega arith) (omega arith) (omega arith)
      (omega arith) node conn p at request answer x
  finished_after p at (closed node conn request a b) = absurd (each_close (λ place conn. ⊥) h tt at conn b)
  finished_after p at (down node conn request a b lt) = lt

  past_none : (k place : ℕ) → place < 3 → HasPast h order k place
  past_none k place small i at c is over lt = let a = finished_after c.place at over in let u = (is_first i c is).1 in omega (arith, a, u, lt, small)

  past_one : (place : ℕ) → HasPast h order 1 place
  past_one place i at c is over lt = let u = (is_first i c is).0 in omega (arith, u)

  none_at : (p : ℕ) → 1 < p → NoneAt order p
  none_at p lt i c e q = let u = (is_first i c e).1 in omega (arith, u, lt, q)

  known : (q : ℕ) → 1 < q → AskedBefore order 1 q
  known q lt i c e small = let u = (is_first i c e).1 in omega (arith, u, lt)

  comes : (i : ℕ) (c : Change) → slice_get order i ≡ Some c → ComesFromMessage m rests work h (take i order) c × HasPast h order i c.place
  comes zero c e = let f : change ≡ c = cc in subst (λ (x : Change). ComesFromMessage m rests work h [] x × HasPast h order 0 x.place) f
      (record { node = 1; conn = 1; request = open_request 0; asked = refl; makes = (refl, refl, refl) }, past_none 0 1 (omega arith))
  comes (suc n) c e = absurd cc

  same : (i j : ℕ) (c x : Change) → slice_get order i ≡ Some c → slice_get order j ≡ Some x → i ≡ j
  same i j c x e f = let u = (is_first i c e).0 in let v = (is_first j x f).0 in omega (arith, u, v)

  no_order : (i j : ℕ) (c x : Change) → slice_get order i ≡ Some c → slice_get order j ≡ Some x → c.place < x.place → i < j
  no_order i j c x e f lt = let u = (is_first i c e).1 in let v = (is_first j x f).1 in absurd (omega (arith, u, v, lt))

  not_later : (i node conn place q : ℕ) (c : Change) (request : Option Request) (answer : List Response) → slice_get order i ≡ Some c →
      IsReply h node conn place q request answer → place < c.place → 1 ≤ i
  not_later i node conn place q c request answer is x lt = let u = (is_first i c is).1 in
      of_pair (λ node p q conn request answer. p < c.place → 1 ≤ i) (λ lt. absurd (omega (arith, u, lt))) (λ lt. absurd (omega (arith, u, lt)))
      (λ lt. absurd (omega (arith, u, lt))) (λ lt. absurd (omega (arith, u, lt)))
      node conn place q request answer x lt

  grows : (a b : ℕ) → a ≤ b → index a ≤ index b
  grows zero b le = omega arith
  grows (suc a) zero le = absurd (omega (arith, le))
  grows (suc a) (suc b) le = omega arith

  abbrev view : NodeView
  view = record { term = 1; leads = true; applied = 0; files = [] }

  is_view : (p node : ℕ) (v : NodeView) → IsAt h p (Shows node v) → (p ≡ 0) × (view ≡ v)
  is_view p node v e = each_show (λ p node v. (p ≡ 0) × (view ≡ v)) h ((refl, refl), tt) p node v e

  files_at : (p node : ℕ) (v : NodeView) → IsAt h p (Shows node v) →
      ((name : List ℕ) → shown_image v.files name ≡ image_in (take (index v.applied) order) name) × AskedBefore order (index v.applied) p
  files_at p node v e = subst (λ v. ((name : List ℕ) → shown_image v.files name ≡ image_in (take (index v.applied) order) name) ×
      AskedBefore order (index v.applied) p) (is_view p node v e).1
      ((λ name. refl), (λ i c is lt. absurd (omega (arith, lt))))

  same_view : (p q n k : ℕ) (v w : NodeView) → IsAt h p (Shows n v) → IsAt h q (Shows k w) → v ≡ w
  same_view p q n k v w e f = sym (is_view p n v e).1 ∙ (is_view q k w f).1

  answered_at : (p node conn : ℕ) (answer : List Response) → IsAt h p (Answers node conn answer) →
      length (answers_on conn (take p h)) < length (asked_before conn p h)
  answered_at p node conn answer e = each_answer (λ p node conn answer. length (answers_on conn (take p h)) < length (asked_before conn p h)) h
      (omega arith, (omega arith, (omega arith, (omega arith, tt)))) p node conn answer e

  home_at : (p node home conn q : ℕ) (request : Option Request) (answer : List Response) → IsReply h node conn p q request answer →
      IsAt h p (Asks home conn request) →
      (node ≡ home) × StaysUp h node p q × ((end : ℕ) → IsAt h end (Closes conn) → q < end)
  home_at p node home conn q request answer x e =
      let ones : (node ≡ 1) × (home ≡ 1) = (
        of_pair (λ node p q conn request answer. node ≡ 1) refl refl refl refl node conn p q request answer x,
        each_ask (λ p n c request. n ≡ 1) h (refl, (refl, (refl, (refl, tt)))) p home conn request e,
      ) in (
        ones.0 ∙ sym ones.1,
        (λ fall at after before. absurd (each_down (λ place n. ⊥) h tt fall node at)),
        λ end at.
            absurd (each_close (λ place conn. ⊥) h tt end conn at),
      )

  abbrev Good : ℕ → ℕ → ℕ → Option Request → List Response → Type 0
  Good p q conn request answer = IsRightAnswer m order rests work (client_at h conn p) p (purpose_at h conn p request) answer (refused answer) ×
      AskedBefore order (rests p) q

  right_at : (node conn p q : ℕ) (request : Option Request) (answer : List Response) → IsReply h node conn p q request answer → Good p q conn request answer
  right_at node conn p q request answer x = of_pair (λ node p q conn request answer. Good p q conn request answer)
      ((refl, (empty_image, refl)), known 2 (omega arith))
      (subst (λ w. IsRightResult m order rests work (knows false Idle) 3 w (result 0)) (sym begins) (refl, refl), known 4 (omega arith))
      ((λ apart. none_at 5 (omega arith)), known 6 (omega arith))
      (subst (λ w. IsRightResult m order rests work (client_at h 1 7) 7 w (result 0)) (sym rolls_back) refl, known 8 (omega arith))
      node conn p q request answer x

  abbrev Led : ℕ → ℕ → Type 0
  Led node place =
      (first last : ℕ) × (v w : NodeView) × IsAt h first (Shows node v) × IsAt h last (Shows node w) × (v.leads ≡ true) × (w.leads ≡ true) ×
      (v.term ≡ w.term) × (last < place)
      × ((p : ℕ) (u : NodeView) → IsAt h p (Shows node u) → p < place → p ≤ last) × HasPast h order (rests place) first

  led_by : (place : ℕ) → 0 < place → Led 1 place
  led_by place lt = (
    0,
    0,
    view,
    view,
    refl,
    refl,
    refl,
    refl,
    refl,
    lt,
    (λ p u e small. let z = (is_view p 1 u e).0 in omega (arith, z)),
    past_none 1 0
        (omega arith),
  )

  led_at : (node conn p q : ℕ) (request : Option Request) (answer : List Response) → IsReply h node conn p q request answer → Led node p
  led_at node conn p q request answer x = of_pair (λ node p q conn request answer. Led node p) (led_by 1 (omega arith)) (led_by 3 (omega arith))
      (led_by 5 (omega arith)) (led_by 7 (omega arith)) node conn p q request answer x

  fresh_at : (node conn p q : ℕ) (request : Option Request) (answer : List Response) → IsReply h node conn p q request answer → HasPast h order 1 p
  fresh_at node conn p q request answer x = past_one p

  same_code : (a b : ℕ) → Some a ≡ Some b → a ≡ b
  same_code a b e = cc

  ended_at : (node conn p q : ℕ) (request : Option Request) (answer : List Response) → IsReply h node conn p q request answer → refused answer ≡ Some 10506 → ⊥
  ended_at node conn p q request answer x = of_pair (λ node p q conn request answer. refused answer ≡ Some 10506 → ⊥)
      (λ e. absurd cc) (λ e. absurd cc) (λ e. let f = same_code 10250 10506 e in omega (arith, f)) (λ e. absurd cc) node conn p q request answer x

  holds : HoldsOfAll m h
  holds = record {
    order = order;
    index = index;
    rests = rests;
    work = work;
    grows = grows;
    comes = comes;
    once = λ i j c x e f g. same i j c x e f;
    own = λ i j node other conn c x r request e f a b lt. no_order i j c x e f lt;
    later = λ i node home conn place q c r request answer is at pair lt fine. not_later i node conn place q c request answer is pair lt;
    files = files_at;
    alike = λ p q n k v w e f g. ap (λ (v : NodeView). v.files) (same_view p q n k v w e f);
    stays = λ p q n v w e f le up. let g = ap (λ (v : NodeView). v.applied) (same_view p q n n v w e f) in omega (arith, g);
    answered = answered_at;
    home = home_at;
    right = right_at;
    applied = λ node conn place q p v request answer pair fine has e lt up. let z = (is_view p node v e).0 in absurd (omega (arith, z, lt));
    newest = λ node conn place q p v request answer pair fine is e lt up. subst (λ v. index v.applied ≤ 1) (is_view p node v e).1 (omega arith);
    seen = λ node n conn p q place s r request a answer first second lt f g u v. omega arith;
    led = λ node conn place q request answer pair fine is led. led_at node conn place q request answer pair;
    fresh = λ node conn place q request answer pair fine waits. fresh_at node conn place q request answer pair;
    ended = λ node conn place q p v request answer pair fine next. absurd (ended_at node conn place q request answer pair fine);
  }

  pub allowed : HeadlineHolds m h
  allowed = record {
    all = h;
    is_seen = (_, refl, (_, refl, (_, refl, (_, refl, (_, refl, (_, refl, (_, refl, (_, refl, (_, refl, refl)))))))));
    holds = holds;
  }

pub rollback_is_allowed : (m : Meaning) → RollbackIsAllowed m
rollback_is_allowed m begin sql back text one two three at_once first second third = allowed m begin sql back text one two three at_once first second third
