-- What follows from an answer that is no refusal.
use Rattle.std.proofs.Common.{◌≡◌, ◌≢◌, ⊎_elim, ℕ, suc, ◌<◌, ◌≤◌, Bool, true, false, List, [], ◌∷◌, take, refl, sym, ap, ◌∙◌, subst, arith}
use Rattle.std.specs.Prelude.{Option, Some, None, slice_get, codes}
use Rattle.dq_base.specs.declared.images.Image.{Image}
use Rattle.wire_msgs.specs.declared.request.Request.{Request}
use Rattle.wire_msgs.specs.declared.response.Response.{Response}
use Rattle.wire_msgs.specs.declared.response.Response.TheVariants as responses
use Rattle.sql_scan.specs.declared.pieces.StatementSpan.{StatementSpan}
use Rattle.sql_engine.specs.Replies.{Statement, Reply}
use Rattle.sql_engine.specs.Meanings.{Meaning}
use Rattle.sql_engine.specs.Runs.{RanAll}
use Rattle.std.proofs.lemmas.Bool.{cases_lt}
use Rattle.headline.specs.Clients.{refused, Client, Idle, Purpose, Runs, purpose}
use Rattle.headline.specs.Headline.{Observation, IsReply, client_at, Change, image_in, IsSentAs, RanOutside, IsRightResult, IsRightAnswer, HoldsOfAll}
use Rattle.headline.specs.Laws.{IsMarked, StaysInImages, statement, MarksImages, MovesImages, NeverSends}
use Rattle.headline.proofs.Stays.{Plain, stays}
use Rattle.headline.proofs.Knowing.{exec, result, knows, exec_is}

pub right_result : (m : Meaning) (h : List Observation) (x : HoldsOfAll m h) (node conn place q : ℕ) (request : Option Request) (answer : List Response)
    (s : Client) (p : Purpose) →
    IsReply h node conn place q request answer → refused answer ≡ None → client_at h conn place ≡ s → purpose s request ≡ p →
    IsRightResult m x.order x.rests x.work s place p answer
right_result m h x node conn place q request answer s p pair fine is w =
    let right = (x.right node conn place q request answer pair).0 in
    let one = subst (λ o. IsRightAnswer m x.order x.rests x.work (client_at h conn place) place (purpose (client_at h conn place) request) answer o) fine
    right in
    let two = subst (λ (c : Client). IsRightResult m x.order x.rests x.work c place (purpose c request) answer) is one in
    subst (λ v. IsRightResult m x.order x.rests x.work s place v answer) w two

-- statements outside a transaction that were answered
pub ran_outside : (m : Meaning) (h : List Observation) (x : HoldsOfAll m h) (node conn place q : ℕ) (request : Option Request) (answer : List Response)
    (barriers rows : Bool) (ss : List Statement) →
    IsReply h node conn place q request answer → refused answer ≡ None → client_at h conn place ≡ knows barriers Idle →
    purpose (knows barriers Idle) request ≡ Runs rows ss →
    (replies : List Reply) × IsSentAs rows replies answer × RanOutside m x.order place (x.rests place) (codes "d") ss replies
ran_outside m h x node conn place q request answer barriers rows ss pair fine is w =
    right_result m h x node conn place q request answer (knows barriers Idle) (Runs rows ss) pair fine is w

-- the change of a place: what its statement made of some image
pub record Committed (m : Meaning) (h : List Observation) (x : HoldsOfAll m h) (place : ℕ) (name : List ℕ) (s : Statement) : Type 0 where
  pub number : ℕ
  pub change : Change
  pub found : slice_get x.order number ≡ Some change
  pub asked : change.place ≡ place
  pub database : change.name ≡ name
  pub count : x.rests place ≡ suc number
  pub before : Image
  pub reply : Reply
  pub runs : m.runs before s change.after reply

-- one statement leads from one image to another
pub one_ran : (m : Meaning) (b a : Image) (s : Statement) (rs : List Reply) → RanAll m b (s ∷ []) a rs → (r : Reply) × (rs ≡ r ∷ []) × m.runs b s a r
one_ran m b a s [] ran = absurd ran
one_ran m b a s (r ∷ []) (next, (runs, same)) = (r, refl, subst (λ i. m.runs b s i r) same runs)
one_ran m b a s (r ∷ t ∷ rs) (next, (runs, ran)) = absurd ran

moved : (m : Meaning) (h : List Observation) (x : HoldsOfAll m h) (place : ℕ) (name : List ℕ) (s : Statement) (replies : List Reply) →
    ((image : Image) (r : Reply) → m.runs image s image r → ⊥) →
    RanOutside m x.order place (x.rests place) name (s ∷ []) replies → Committed m h x place name s
moved m h x place name s replies moves ran =
    ⊎_elim
    (λ (made, (before, from, all)). let one = one_ran m before made.change.after s replies all in
    record {
      number = made.number;
      change = made.change;
      found = made.found;
      asked = made.asked;
      database = made.database;
      count = made.count;
      before =
          before;
      reply = one.0;
      runs = one.2;
    })
    (λ (none, (image, is, all)). let one = one_ran m image image s replies all in absurd (moves image one.0 one.2))
    ran

-- the write of a text that leaves no image as it was
pub committed : (m : Meaning) (h : List Observation) (x : HoldsOfAll m h) (node conn place q count : ℕ) (sql : List ℕ) (span : StatementSpan)
    (barriers : Bool) → MovesImages m sql span →
    IsReply h node conn place q (exec sql) (result count) → client_at h conn place ≡ knows barriers Idle →
    Committed m h x place (codes "d") (statement sql span)
committed m h x node conn place q count sql span barriers moves pair is =
    let ran = ran_outside m h x node conn place q (exec sql) (result count) barriers false (statement sql span ∷ []) pair refl is
    (exec_is (knows barriers Idle) sql span _ moves.sole) in
    moved m h x place (codes "d") (statement sql span) ran.0 moves.moves ran.2

-- a change of a place that gave its image a mark
pub record GaveMark (m : Meaning) (h : List Observation) (x : HoldsOfAll m h) (place : ℕ) (marked : Image → Bool) : Type 0 where
  pub number : ℕ
  pub change : Change
  pub found : slice_get x.order number ≡ Some change
  pub asked : change.place ≡ place
  pub database : change.name ≡ codes "d"
  pub mark : marked change.after ≡ true

abbrev pub gave : (m : Meaning) (h : List Observation) (x : HoldsOfAll m h) (place : ℕ) (sql : List ℕ) (span : StatementSpan) (marked : Image → Bool) →
    MarksImages m marked sql span →
    (w : Committed m h x place (codes "d") (statement sql span)) → GaveMark m h x place marked
gave m h x place sql span marked writes w =
    record {
      number = w.number;
      change = w.change;
      found = w.found;
      asked = w.asked;
      database = w.database;
      mark = writes.makes w.before w.change.after
          w.reply w.runs;
    }

-- an image after more changes than this one has the mark
pub marked_after : (m : Meaning) (h : List Observation) (x : HoldsOfAll m h) (place k : ℕ) (marked : Image → Bool) (image : Image) →
    StaysInImages m (IsMarked marked) → Plain h →
    (w : GaveMark m h x place marked) → w.number < k → image_in (take k x.order) (codes "d") ≡ Some image → marked image ≡ true
marked_after m h x place k marked image keeps plain w lt is =
    let has = stays m (IsMarked marked) h x w.number k w.change w.found w.mark keeps plain lt in
    let same : image_in (take k x.order) (codes "d") ≡ Some has.0 = subst (λ n. image_in (take k x.order) n ≡ Some has.0) w.database has.1 in
    let e : has.0 ≡ image = cc in
    subst (IsMarked marked) e has.2

pub marked_later : (m : Meaning) (h : List Observation) (x : HoldsOfAll m h) (place k : ℕ) (sql : List ℕ) (span : StatementSpan) (marked : Image → Bool)
    (image : Image) →
    MarksImages m marked sql span → Plain h → (w : Committed m h x place (codes "d") (statement sql span)) → w.number < k →
    image_in (take k x.order) (codes "d") ≡ Some image → marked image ≡ true
marked_later m h x place k sql span marked image writes plain w lt is = marked_after m h x place k marked image writes.stays plain
    (gave m h x place sql span marked writes w) lt is

pub refused_none : (a : List Response) → ((code : ℕ) (message : List ℕ) → a ≢ responses.Failure code message ∷ []) → refused a ≡ None
refused_none [] h = refl
refused_none (r ∷ s ∷ rs) h = refl
refused_none (r ∷ []) h = one r h
  where
    one : (r : Response) → ((code : ℕ) (message : List ℕ) → r ∷ [] ≢ responses.Failure code message ∷ []) → refused (r ∷ []) ≡ None
    one (responses.Failure code message) h = absurd (h code message refl)
    one r h = refl

some_change : (a b : Change) → Some a ≡ Some b → a ≡ b
some_change a b e = cc

further : (i j k : ℕ) → i < k → k ≡ suc j → (i ≡ j → ⊥) → i < j
further i j k lt e apart = ⊎_elim (λ l. l) (λ (g : j ≤ i). absurd (apart (omega (arith, lt, e, g)))) (cases_lt i j)

-- rows that no image with the mark gives are not sent for a query that rests on the change
pub query_refused_after : (m : Meaning) (h : List Observation) (x : HoldsOfAll m h) (place other : ℕ) (text : List ℕ) (another : StatementSpan)
    (marked : Image → Bool) (rows : List Response) (replies : List Reply) →
    StaysInImages m (IsMarked marked) → NeverSends m marked text another rows → Plain h → (w : GaveMark m h x place marked) → place ≢ other →
    w.number < x.rests other → IsSentAs true replies rows →
    RanOutside m x.order other (x.rests other) (codes "d") (statement text another ∷ []) replies → ⊥
query_refused_after m h x place other text another marked rows replies keeps queries plain w apart lt sent ran =
    ⊎_elim
    (λ (made, (before, from, all)).
    let one = one_ran m before made.change.after (statement text another) replies all in
    let same : w.number ≡ made.number → ⊥ = λ e. apart (sym w.asked ∙ ap (λ (c : Change). c.place)
    (some_change w.change made.change (sym w.found ∙ ap (λ n. slice_get x.order n) e ∙ made.found)) ∙ made.asked) in
    let past : w.number < made.number = further w.number made.number (x.rests other) lt made.count same in
    queries.differs before made.change.after one.0 one.2 (marked_after m h x place made.number marked before keeps plain w past from)
    (subst (λ rs. IsSentAs true rs rows) one.1 sent))
    (λ (none, (image, is, all)).
    let one = one_ran m image image (statement text another) replies all in
    queries.differs image image one.0 one.2 (marked_after m h x place (x.rests other) marked image keeps plain w lt is)
    (subst (λ rs. IsSentAs true rs rows) one.1 sent))
    ran

pub query_refused : (m : Meaning) (h : List Observation) (x : HoldsOfAll m h) (place other : ℕ) (sql text : List ℕ) (span another : StatementSpan)
    (marked : Image → Bool) (rows : List Response) (replies : List Reply) →
    MarksImages m marked sql span → NeverSends m marked text another rows → Plain h → (w : Committed m h x place (codes "d") (statement sql span)) →
    place ≢ other → w.number < x.rests other → IsSentAs true replies rows →
    RanOutside m x.order other (x.rests other) (codes "d") (statement text another ∷ []) replies → ⊥
query_refused m h x place other sql text span another marked rows replies writes queries plain w apart lt sent ran =
    query_refused_after m h x place other text another marked rows replies writes.stays queries plain (gave m h x place sql span marked writes w) apart lt
    sent ran
