-- A small history of which the headline holds.
use Rattle.std.proofs.Common.{◌≡◌, ◌⊎◌, inl, inr, ⊎_elim, ℕ, zero, suc, ◌<◌, ◌≤◌, Bool, true, false, List, [], ◌∷◌, length, take, refl, sym, ap, ◌∙◌, subst, arith}
use Rattle.std.specs.Prelude.{Option, Some, None, slice_get, bytes_eq, codes, if◌then◌else◌}
use Rattle.std.specs.Option.{option_or}
use Rattle.dq_base.specs.declared.images.Image.{Image}
use Rattle.wire_msgs.specs.declared.request.Request.{Request}
use Rattle.wire_msgs.specs.declared.response.Response.{Response}
use Rattle.sql_scan.specs.declared.pieces.StatementSpan.{StatementSpan}
use Rattle.sql_scan.specs.declared.heading.WordKind.TheVariants as words
use Rattle.sql_engine.specs.Replies.{Reply}
use Rattle.sql_engine.specs.Meanings.{Meaning}
use Rattle.database_state.specs.Files.{empty_image}
use Rattle.headline.specs.Clients.{refused, Idle, Runs, purpose}
use Rattle.headline.specs.Headline.{NodeView, Observation, Asks, Answers, Shows, Closes, GoesDown, IsAt, asked_before, answers_on, IsReply, StaysUp, IsFinished, answered, closed, down, client_at, purpose_at, Change, image_in, shown_image, NoneAt, AskedBefore, HasPast, MakesChange, ComesFromMessage, IsRightResult, IsRightAnswer, HoldsOfAll, HeadlineHolds}
use Rattle.headline.specs.Laws.{statement, leads, opens, opened, queries, d, wrote, AllowsReading, AHistoryIsAllowed}
use Rattle.headline.proofs.Seen.{each_ask, each_answer, each_show, each_down, each_close}
use Rattle.headline.proofs.Knowing.{open_request, exec, query, db, result, knows, exec_is, query_is}
use Rattle.headline.proofs.Results.{refused_none}

module _ (m : Meaning) (sql text : List ℕ) (one two : StatementSpan) (after : Image) (r t : Reply) (rows : List Response)
    (y : AllowsReading m sql text one two after r t rows) where
  abbrev h : List Observation
  h = wrote sql r.affected (leads 1 1 3 (d after ∷ []) ∷ GoesDown 1 ∷ leads 2 2 4 (d after ∷ []) ∷ opens 2 2 4294967296 ∷ opened 2 2 ∷ queries 2 2 text ∷
      Answers 2 2 rows ∷ [])

  abbrev first : Change
  first = record { place = 1; name = codes "d"; after = empty_image }

  abbrev second : Change
  second = record { place = 3; name = codes "d"; after = after }

  abbrev order : List Change
  order = first ∷ second ∷ []

  abbrev index : ℕ → ℕ
  index zero = 0
  index (suc a) = 2

  abbrev rests : ℕ → ℕ
  rests zero = 1
  rests (suc zero) = 1
  rests (suc (suc place)) = 2

  abbrev work : ℕ → Image
  work place = empty_image

  of_pair : (G : ℕ → ℕ → ℕ → ℕ → Option Request → List Response → Type 0) → G 1 1 2 1 (open_request 0) db → G 1 3 4 1 (exec sql) (result r.affected) →
      G 2 8 9 2 (open_request 4294967296) db → G 2 10 11 2 (query text) rows →
      (node conn p q : ℕ) (request : Option Request) (answer : List Response) → IsReply h node conn p q request answer → G node p q conn request answer
  of_pair G a b c e node conn p q request answer x =
      each_ask (λ p n c request. (q : ℕ) (answer : List Response) → IsAt h q (Answers node c answer) →
      length (asked_before c p h) ≡ length (answers_on c (take q h)) → G node p q c request answer) h (
        (λ q answer at turn. each_answer (λ q n k answer. k ≡ 1 → 0 ≡ length (answers_on 1 (take q h)) → G n 1 q 1 (open_request 0) answer) h (
          (λ u v. a),
          (
            (λ u v. let w : 0 ≡ 1 = v in absurd (omega (arith, w))),
            ((λ u v. absurd (omega (arith, u))), ((λ u v. absurd (omega (arith, u))), tt)),
          ),
        ) q node 1 answer at refl turn),
        (
          (λ q answer at turn. each_answer (λ q n k answer. k ≡ 1 → 1 ≡ length (answers_on 1 (take q h)) → G n 3 q 1 (exec sql) answer) h (
            (λ u v. let w : 1 ≡ 0 = v in absurd (omega (arith, w))),
            ((λ u v. b), ((λ u v. absurd (omega (arith, u))), ((λ u v. absurd (omega (arith, u))), tt))),
          ) q node 1 answer at refl turn),
          (
            (λ q answer at turn. each_answer (λ q n k answer. k ≡ 2 → 0 ≡ length (answers_on 2 (take q h)) → G n 8 q 2 (open_request 4294967296) answer) h (
              (λ u v. absurd (omega (arith, u))),
              ((λ u v. absurd (omega (arith, u))), ((λ u v. c), ((λ u v. let w : 0 ≡ 1 = v in absurd (omega (arith, w))), tt))),
            ) q node 2 answer at refl
                turn),
            (
              (λ q answer at turn. each_answer (λ q n k answer. k ≡ 2 → 1 ≡ length (answers_on 2 (take q h)) → G n 10 q 2 (query text) answer) h (
                (λ u v. absurd (omega (arith, u))),
                ((λ u v. absurd (omega (arith, u))), ((λ u v. let w : 1 ≡ 0 = v in absurd (omega (arith, w))), ((λ u v. e), tt))),
              ) q node 2 answer at
                  refl turn),
              tt,
            ),
          ),
        ),
      ) p x.home conn request x.asks q answer x.answers x.turn

  -- the changes
  which : (i : ℕ) (c : Change) → slice_get order i ≡ Some c → ((i ≡ 0) × (c.place ≡ 1)) ⊎ ((i ≡ 1) × (c.place ≡ 3))
  which zero c e = let f : first ≡ c = cc in inl (refl, ap (λ (x : Change). x.place) (sym f))
  which (suc zero) c e = let f : second ≡ c = cc in inr (refl, ap (λ (x : Change). x.place) (sym f))
  which (suc (suc n)) c e = absurd cc

  below_two : (i : ℕ) (c : Change) → slice_get order i ≡ Some c → i < 2
  below_two i c e = ⊎_elim (λ u. let a = u.0 in omega (arith, a)) (λ u. let a = u.0 in omega (arith, a)) (which i c e)

  some_place : (i : ℕ) (c : Change) → slice_get order i ≡ Some c → 1 ≤ c.place
  some_place i c e = ⊎_elim (λ u. let a = u.1 in omega (arith, a)) (λ u. let a = u.1 in omega (arith, a)) (which i c e)

  place_below : (i : ℕ) (c : Change) → slice_get order i ≡ Some c → c.place < 4
  place_below i c e = ⊎_elim (λ u. let a = u.1 in omega (arith, a)) (λ u. let a = u.1 in omega (arith, a)) (which i c e)

  place_first : (i : ℕ) (c : Change) → slice_get order i ≡ Some c → i < 1 → c.place < 2
  place_first i c e lt = ⊎_elim (λ u. let a = u.1 in omega (arith, a)) (λ u. let a = u.0 in absurd (omega (arith, a, lt))) (which i c e)

  is_first : (i : ℕ) (c : Change) → slice_get order i ≡ Some c → c.place < 3 → i < 1
  is_first i c e lt = ⊎_elim (λ u. let a = u.0 in omega (arith, a)) (λ u. let a = u.1 in absurd (omega (arith, a, lt))) (which i c e)

  none_at : (p : ℕ) → 3 < p → NoneAt order p
  none_at p lt i c e q = let s = place_below i c e in absurd (omega (arith, s, lt, q))

  known : (q : ℕ) → 3 < q → AskedBefore order 2 q
  known q l i c is lt = let b = place_below i c is in omega (arith, b, l)

  -- a message is over after it came
  over_after : (p at : ℕ) → IsFinished h p at → p < at
  over_after p at (answered node conn request answer x) = of_pair (λ node p q conn request answer. p < q) (omega arith) (omega arith) (omega arith)
      (omega arith) node conn p at request answer x
  over_after p at (closed node conn request a b) = absurd (each_close (λ place conn. ⊥) h tt at conn b)
  over_after p at (down node conn request a b lt) = lt

  past_none : (k place : ℕ) → place < 3 → HasPast h order k place
  past_none k place small i at c is over lt = let a = over_after c.place at over in let b = some_place i c is in omega (arith, a, b, lt, small)

  past_all : (place : ℕ) → HasPast h order 2 place
  past_all place i at c is over lt = below_two i c is

  past_one : (place : ℕ) → place < 4 → HasPast h order 1 place
  past_one place small i at c is over lt = let a = over_after c.place at over in is_first i c is (omega (arith, a, lt, small))

  wanted : purpose (knows false Idle) (exec sql) ≡ Runs false (statement sql one ∷ [])
  wanted = exec_is (knows false Idle) sql one words.Write y.write

  asked_rows : purpose (knows true Idle) (query text) ≡ Runs true (statement text two ∷ [])
  asked_rows = query_is (knows true Idle) text two y.query_sole

  makes_second : MakesChange m (first ∷ []) rests work (knows false Idle) (purpose (knows false Idle) (exec sql)) second
  makes_second = subst (λ w. MakesChange m (first ∷ []) rests work (knows false Idle) w second) (sym wanted)
      (refl, refl, (r ∷ [], (empty_image, refl, (after, (y.writes, refl)))))

  comes : (i : ℕ) (c : Change) → slice_get order i ≡ Some c → ComesFromMessage m rests work h (take i order) c × HasPast h order i c.place
  comes zero c e = let f : first ≡ c = cc in subst (λ (x : Change). ComesFromMessage m rests work h [] x × HasPast h order 0 x.place) f
      (record { node = 1; conn = 1; request = open_request 0; asked = refl; makes = (refl, refl, refl) }, past_none 0 1 (omega arith))
  comes (suc zero) c e = let f : second ≡ c = cc in subst (λ (x : Change). ComesFromMessage m rests work h (first ∷ []) x × HasPast h order 1 x.place) f
      (record { node = 1; conn = 1; request = exec sql; asked = refl; makes = makes_second }, past_one 3 (omega arith))
  comes (suc (suc n)) c e = absurd cc

  once : (i j : ℕ) (c x : Change) → slice_get order i ≡ Some c → slice_get order j ≡ Some x → c.place ≡ x.place → i ≡ j
  once i j c x e f g = ⊎_elim
      (λ u. ⊎_elim (λ v. let a = u.0 in let b = v.0 in omega (arith, a, b)) (λ v. let a = u.1 in let b = v.1 in absurd (omega (arith, a, b, g))) (which j x f))
      (λ u. ⊎_elim (λ v. let a = u.1 in let b = v.1 in absurd (omega (arith, a, b, g))) (λ v. let a = u.0 in let b = v.0 in omega (arith, a, b)) (which j x f))
      (which i c e)

  own : (i j : ℕ) (c x : Change) → slice_get order i ≡ Some c → slice_get order j ≡ Some x → c.place < x.place → i < j
  own i j c x e f g = ⊎_elim
      (λ u. ⊎_elim (λ v. let a = u.1 in let b = v.1 in absurd (omega (arith, a, b, g))) (λ v. let a = u.0 in let b = v.0 in omega (arith, a, b)) (which j x f))
      (λ u. ⊎_elim (λ v. let a = u.1 in let b = v.1 in absurd (omega (arith, a, b, g))) (λ v. let a = u.1 in let b = v.1 in absurd (omega (arith, a, b, g)))
      (which j x f))
      (which i c e)

  later : (i node conn place q : ℕ) (c : Change) (request : Option Request) (answer : List Response) → slice_get order i ≡ Some c →
      IsReply h node conn place q request answer → place < c.place → rests place ≤ i
  later i node conn place q c request answer is x = of_pair (λ node p q conn request answer. p < c.place → rests p ≤ i)
      (λ lt. ⊎_elim (λ u. let a = u.1 in absurd (omega (arith, a, lt))) (λ u. let a = u.0 in omega (arith, a)) (which i c is))
      (λ lt. let b = place_below i c is in absurd (omega (arith, b, lt)))
      (λ lt. let b = place_below i c is in absurd (omega (arith, b, lt)))
      (λ lt. let b = place_below i c is in absurd (omega (arith, b, lt)))
      node conn place q request answer x

  grows : (a b : ℕ) → a ≤ b → index a ≤ index b
  grows zero b le = omega arith
  grows (suc a) zero le = absurd (omega (arith, le))
  grows (suc a) (suc b) le = omega arith

  rests_grow : (a b : ℕ) → a ≤ b → rests a ≤ rests b
  rests_grow zero zero le = omega arith
  rests_grow zero (suc zero) le = omega arith
  rests_grow zero (suc (suc b)) le = omega arith
  rests_grow (suc zero) zero le = omega arith
  rests_grow (suc zero) (suc zero) le = omega arith
  rests_grow (suc zero) (suc (suc b)) le = omega arith
  rests_grow (suc (suc a)) zero le = absurd (omega (arith, le))
  rests_grow (suc (suc a)) (suc zero) le = absurd (omega (arith, le))
  rests_grow (suc (suc a)) (suc (suc b)) le = omega arith

  files_by : (b : Bool) → (if b then Some after else None) ≡ option_or (option_or None (if b then Some after else None)) (if b then Some empty_image else None)
  files_by true = refl
  files_by false = refl

  files_at : (p node : ℕ) (v : NodeView) → IsAt h p (Shows node v) →
      ((name : List ℕ) → shown_image v.files name ≡ image_in (take (index v.applied) order) name) × AskedBefore order (index v.applied) p
  files_at p node v e = each_show (λ p node v. ((name : List ℕ) → shown_image v.files name ≡ image_in (take (index v.applied) order) name) ×
      AskedBefore order (index v.applied) p) h (
        ((λ name. refl), (λ i c is lt. absurd (omega (arith, lt)))),
        (
          ((λ name. files_by (bytes_eq (codes "d") name)), known 5 (omega arith)),
          (((λ name. files_by (bytes_eq (codes "d") name)), known 7 (omega arith)), tt),
        ),
      ) p node v e

  alike_at : (p q n k : ℕ) (v w : NodeView) → IsAt h p (Shows n v) → IsAt h q (Shows k w) → v.applied ≡ w.applied → v.files ≡ w.files
  alike_at p q n k v w e g = each_show (λ p n v. v.applied ≡ w.applied → v.files ≡ w.files) h (
    (λ u. each_show (λ q k w. 0 ≡ w.applied → [] ≡ w.files) h ((λ u. refl), ((λ u. absurd (omega (arith, u))), ((λ u. absurd (omega (arith, u))), tt))) q k w
        g u),
    (
      (λ u. each_show (λ q k w. 3 ≡ w.applied → d after ∷ [] ≡ w.files) h ((λ u. absurd (omega (arith, u))), ((λ u. refl), ((λ u. refl), tt))) q k w g u),
      ((λ u. each_show (λ q k w. 4 ≡ w.applied → d after ∷ [] ≡ w.files) h ((λ u. absurd (omega (arith, u))), ((λ u. refl), ((λ u. refl), tt))) q k w g u), tt),
    ),
  ) p n v e

  stays_at : (p q n k : ℕ) (v w : NodeView) → IsAt h p (Shows n v) → IsAt h q (Shows k w) → p ≤ q → v.applied ≤ w.applied
  stays_at p q n k v w e g = each_show (λ p n v. p ≤ q → v.applied ≤ w.applied) h (
    (λ u. omega arith),
    (
      (λ u. each_show (λ q k w. 5 ≤ q → 3 ≤ w.applied) h ((λ u. absurd (omega (arith, u))), ((λ u. omega arith), ((λ u. omega arith), tt))) q k w g u),
      (
        (λ u. each_show (λ q k w. 7 ≤ q → 4 ≤ w.applied) h ((λ u. absurd (omega (arith, u))), ((λ u. absurd (omega (arith, u))), ((λ u. omega arith), tt))) q k
            w g u),
        tt,
      ),
    ),
  ) p n v e

  answered_at : (p node conn : ℕ) (answer : List Response) → IsAt h p (Answers node conn answer) →
      length (answers_on conn (take p h)) < length (asked_before conn p h)
  answered_at p node conn answer e = each_answer (λ p node conn answer. length (answers_on conn (take p h)) < length (asked_before conn p h)) h
      (omega arith, (omega arith, (omega arith, (omega arith, tt)))) p node conn answer e

  home_at : (p node home conn q : ℕ) (request : Option Request) (answer : List Response) → IsReply h node conn p q request answer →
      IsAt h p (Asks home conn request) →
      (node ≡ home) × StaysUp h node p q × ((end : ℕ) → IsAt h end (Closes conn) → q < end)
  home_at p node home conn q request answer x e = of_pair (λ node p q conn request answer. (request : Option Request) → IsAt h p (Asks home conn request) →
      (node ≡ home) × StaysUp h node p q × ((end : ℕ) → IsAt h end (Closes conn) → q < end))
      (λ request e. let u : 1 ≡ home = cc in (
        u,
        (λ fall at after before. each_down (λ place n. 1 < place → place < 2 → ⊥) h ((λ after before. omega (arith, before)), tt) fall 1 at after
            before),
        λ end at. absurd (each_close (λ place conn. ⊥) h tt end 1 at),
      ))
      (λ request e. let u : 1 ≡ home = cc in (
        u,
        (λ fall at after before. each_down (λ place n. 3 < place → place < 4 → ⊥) h ((λ after before. omega (arith, before)), tt) fall 1 at after
            before),
        λ end at. absurd (each_close (λ place conn. ⊥) h tt end 1 at),
      ))
      (λ request e. let u : 2 ≡ home = cc in (
        u,
        (λ fall at after before. each_down (λ place n. 8 < place → place < 9 → ⊥) h ((λ after before. omega (arith, after)), tt) fall 2 at after
            before),
        λ end at. absurd (each_close (λ place conn. ⊥) h tt end 2 at),
      ))
      (λ request e. let u : 2 ≡ home = cc in (
        u,
        (λ fall at after before. each_down (λ place n. 10 < place → place < 11 → ⊥) h ((λ after before. omega (arith, after)), tt) fall 2 at after
            before),
        λ end at. absurd (each_close (λ place conn. ⊥) h tt end 2 at),
      ))
      node conn p q request answer x request e

  abbrev Good : ℕ → ℕ → ℕ → Option Request → List Response → Type 0
  Good p q conn request answer = IsRightAnswer m order rests work (client_at h conn p) p (purpose_at h conn p request) answer (refused answer) ×
      AskedBefore order (rests p) q

  right_write : Good 3 4 1 (exec sql) (result r.affected)
  right_write = (
    subst (λ w. IsRightResult m order rests work (knows false Idle) 3 w (result r.affected)) (sym wanted) (
      r ∷ [],
      refl,
      inl (
        record { number = 1; change = second; count = refl; found = refl; asked = refl; database = refl },
        (empty_image, refl, (after, (y.writes, refl))),
      ),
    ),
    known 4 (omega arith),
  )

  right_query : Good 10 11 2 (query text) rows
  right_query = (
    subst (λ o. IsRightAnswer m order rests work (knows true Idle) 10 (purpose (knows true Idle) (query text)) rows o) (sym (refused_none rows y.no_refusal))
        (subst (λ w. IsRightResult m order rests work (knows true Idle) 10 w rows) (sym asked_rows)
        (t ∷ [], y.sends, inr (none_at 10 (omega arith), (after, refl, (after, (y.reads, refl)))))),
    known 11 (omega arith),
  )

  right_at : (node conn p q : ℕ) (request : Option Request) (answer : List Response) → IsReply h node conn p q request answer → Good p q conn request answer
  right_at node conn p q request answer x = of_pair (λ node p q conn request answer. Good p q conn request answer)
      ((refl, (empty_image, refl)), λ i c is lt. place_first i c is lt)
      right_write
      ((refl, (after, refl)), known 9 (omega arith))
      right_query
      node conn p q request answer x

  applied_at : (node conn p q at n : ℕ) (v : NodeView) (request : Option Request) (answer : List Response) → IsReply h node conn p q request answer →
      IsAt h at (Shows n v) → q < at → rests p ≤ index v.applied
  applied_at node conn p q at n v request answer x e = of_pair (λ node p q conn request answer. q < at → rests p ≤ index v.applied)
      (λ lt. each_show (λ at n v. 2 < at → 1 ≤ index v.applied) h ((λ lt. absurd (omega (arith, lt))), ((λ lt. omega arith), ((λ lt. omega arith), tt))) at n
      v e lt)
      (λ lt. each_show (λ at n v. 4 < at → 2 ≤ index v.applied) h ((λ lt. absurd (omega (arith, lt))), ((λ lt. omega arith), ((λ lt. omega arith), tt))) at n
      v e lt)
      (λ lt. each_show (λ at n v. 9 < at → 2 ≤ index v.applied) h ((λ lt. absurd (omega (arith, lt))), ((λ lt. omega arith), ((λ lt. omega arith), tt))) at n
      v e lt)
      (λ lt. each_show (λ at n v. 11 < at → 2 ≤ index v.applied) h ((λ lt. absurd (omega (arith, lt))), ((λ lt. omega arith), ((λ lt. omega arith), tt))) at n
      v e lt)
      node conn p q request answer x

  newest_at : (node conn p q at n : ℕ) (v : NodeView) (request : Option Request) (answer : List Response) → IsReply h node conn p q request answer →
      IsAt h at (Shows n v) → at < p → index v.applied ≤ rests p
  newest_at node conn p q at n v request answer x e = of_pair (λ node p q conn request answer. at < p → index v.applied ≤ rests p)
      (λ lt. each_show (λ at n v. at < 1 → index v.applied ≤ 1) h
      ((λ lt. omega arith), ((λ lt. absurd (omega (arith, lt))), ((λ lt. absurd (omega (arith, lt))), tt))) at n v e lt)
      (λ lt. each_show (λ at n v. at < 3 → index v.applied ≤ 2) h ((λ lt. omega arith), ((λ lt. omega arith), ((λ lt. omega arith), tt))) at n v e lt)
      (λ lt. each_show (λ at n v. at < 8 → index v.applied ≤ 2) h ((λ lt. omega arith), ((λ lt. omega arith), ((λ lt. omega arith), tt))) at n v e lt)
      (λ lt. each_show (λ at n v. at < 10 → index v.applied ≤ 2) h ((λ lt. omega arith), ((λ lt. omega arith), ((λ lt. omega arith), tt))) at n v e lt)
      node conn p q request answer x

  abbrev Led : ℕ → ℕ → Type 0
  Led node place =
      (first last : ℕ) × (v w : NodeView) × IsAt h first (Shows node v) × IsAt h last (Shows node w) × (v.leads ≡ true) × (w.leads ≡ true) ×
      (v.term ≡ w.term) × (last < place)
      × ((p : ℕ) (u : NodeView) → IsAt h p (Shows node u) → p < place → p ≤ last) × HasPast h order (rests place) first

  abbrev view_one : NodeView
  view_one = record { term = 1; leads = true; applied = 0; files = [] }

  abbrev view_two : NodeView
  view_two = record { term = 2; leads = true; applied = 4; files = d after ∷ [] }

  last_show : (place : ℕ) → place < 11 → (p node : ℕ) (u : NodeView) → IsAt h p (Shows node u) → p < place → p ≤ 7
  last_show place small p node u e lt = each_show (λ p node u. p ≤ 7) h (omega arith, (omega arith, (omega arith, tt))) p node u e

  led_at : (node conn p q : ℕ) (request : Option Request) (answer : List Response) → IsReply h node conn p q request answer → Led node p
  led_at node conn p q request answer x = of_pair (λ node p q conn request answer. Led node p)
      (0, 0, view_one, view_one, refl, refl, refl, refl, refl, omega arith, (λ p u e lt. omega (arith, lt)), past_none 1 0 (omega arith)) (
        0,
        0,
        view_one,
        view_one,
        refl,
        refl,
        refl,
        refl,
        refl,
        omega arith,
        (λ p u e lt.
            each_show (λ p node u. p < 3 → p ≤ 0) h ((λ lt. omega arith), ((λ lt. absurd (omega (arith, lt))), ((λ lt. absurd (omega (arith, lt))), tt))) p 1 u
            e lt),
        past_none 2 0 (omega arith),
      )
      (7, 7, view_two, view_two, refl, refl, refl, refl, refl, omega arith, (λ p u e lt. omega (arith, lt)), past_all 7)
      (7, 7, view_two, view_two, refl, refl, refl, refl, refl, omega arith, (λ p u e lt. last_show 10 (omega arith) p 2 u e lt), past_all 7)
      node conn p q request answer x

  fresh_at : (node conn p q : ℕ) (request : Option Request) (answer : List Response) → IsReply h node conn p q request answer → HasPast h order (rests p) p
  fresh_at node conn p q request answer x = of_pair (λ node p q conn request answer. HasPast h order (rests p) p) (past_none 1 1 (omega arith)) (past_all 3)
      (past_all 8) (past_all 10) node conn p q request answer x

  no_code : (code : ℕ) → None ≡ Some code → ⊥
  no_code code e = absurd cc

  ended_at : (node conn p q : ℕ) (request : Option Request) (answer : List Response) → IsReply h node conn p q request answer → refused answer ≡ Some 10506 → ⊥
  ended_at node conn p q request answer x = of_pair (λ node p q conn request answer. refused answer ≡ Some 10506 → ⊥)
      (no_code 10506) (no_code 10506) (no_code 10506) (λ e. no_code 10506 (sym (refused_none rows y.no_refusal) ∙ e)) node conn p q request answer x

  holds : HoldsOfAll m h
  holds = record {
    order = order;
    index = index;
    rests = rests;
    work = work;
    grows = grows;
    comes = comes;
    once = once;
    own = λ i j node other conn c e r request f g a b lt. own i j c e f g lt;
    later = λ i node home conn place q c r request answer is at pair lt fine. later i node conn place q c request answer is pair lt;
    files = files_at;
    alike = alike_at;
    stays = λ p q n v w e g le up. stays_at p q n n v w e g le;
    answered = answered_at;
    home = home_at;
    right = right_at;
    applied = λ node conn place q p v request answer pair fine has e lt up. applied_at node conn place q p node v request answer pair e lt;
    newest = λ node conn place q p v request answer pair fine is e lt up. newest_at node conn place q p node v request answer pair e lt;
    seen = λ node n conn p q place s r request a answer first second lt f g u v. rests_grow p place (omega (arith, lt));
    led = λ node conn place q request answer pair fine is led. led_at node conn place q request answer pair;
    fresh = λ node conn place q request answer pair fine waits. fresh_at node conn place q request answer pair;
    ended = λ node conn place q p v request answer pair fine next. absurd (ended_at node conn place q request answer pair fine);
  }

  pub allowed : HeadlineHolds m h
  allowed = record {
    all = h;
    is_seen = (_, refl, (_, refl, (_, refl, (_, refl, (_, refl, (_, refl, ([], _, refl, (_, refl, (_, refl, (_, refl, (_, refl, (_, refl, refl))))))))))));
    holds = holds;
  }

pub a_history_is_allowed : (m : Meaning) → AHistoryIsAllowed m
a_history_is_allowed m sql text one two after r t rows y = allowed m sql text one two after r t rows y
