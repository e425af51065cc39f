-- Transactions run from the image of their BEGIN; each change is what statements make of the image before; so what no statement takes away stays.
use Rattle.std.proofs.Common.{◌≡◌, ⊎_elim, ℕ, zero, suc, ◌<◌, ◌≤◌, Bool, true, false, true≢false, List, [], ◌∷◌, ◌++◌, length, take, drop, refl, sym, ap, ◌∙◌, subst, arith}
use Rattle.std.specs.Prelude.{Option, Some, None, slice_get, bytes_eq, if◌then◌else◌, nat_lt}
use Rattle.std.specs.Option.{option_or}
use Rattle.std.proofs.lemmas.Bool.{cases_lt}
use Rattle.std.proofs.lemmas.List.{take-take}
use Rattle.dq_base.specs.declared.images.Image.{Image}
use Rattle.wire_msgs.specs.declared.request.Request.{Request}
use Rattle.wire_msgs.specs.declared.response.Response.{Response}
use Rattle.sql_engine.specs.Replies.{Statement, Reply}
use Rattle.sql_engine.specs.Meanings.{Meaning}
use Rattle.sql_engine.specs.Runs.{RanAll}
use Rattle.sql_engine.proofs.Chaining.{chains}
use Rattle.session_spec.proofs.Names.{same_name, name_is, names_apart}
use Rattle.headline.specs.Clients.{Client, refused, is_loss, Transaction, Idle, Begun, Lost, Purpose, Never, Opens, Begins, Commits, RollsBack, Runs, Prepares, Drops, Dumps, Empties, Other, has_database, has_image, purpose, ran_at, after_result, after_loss, after_refusal, after_answer}
use Rattle.headline.specs.Headline.{Observation, client_at, purpose_at, Change, image_in, IsUntouched, MakesCommit, MakesChange, RanOutside, RanInside, IsRightResult, IsRightAnswer, HoldsOfAll}
use Rattle.headline.specs.Laws.{StaysInImages, HasProperty, IsMarked}
use Rattle.headline.proofs.Lists.{take_one, take_none, image_one}
use Rattle.headline.proofs.Stays.{ran_keeps}
use Rattle.history_safety.specs.Histories.{IsLedTo, IsRunIfAny, TransactionsRun, ChangesAreRun, ChangesStay, StatementsMark, AnswersAreShown}
use Rattle.history_safety.proofs.Turns.{along}
use Rattle.history_safety.proofs.Purposes.{NeedsDatabase, purpose_needs}

-- ---- images

untouched_none : (name : List ℕ) (cs : List Change) → IsUntouched name cs → image_in cs name ≡ None
untouched_none name [] h = refl
untouched_none name (c ∷ cs) (apart, h) =
    ap (λ o. option_or o (if bytes_eq c.name name then Some c.after else None)) (untouched_none name cs h)
    ∙ ap (λ b. if b then Some c.after else None) (names_apart c.name name apart)

untouched : (name : List ℕ) (cs : List Change) (k : ℕ) → IsUntouched name (drop k cs) → image_in cs name ≡ image_in (take k cs) name
untouched name [] zero h = refl
untouched name [] (suc k) h = refl
untouched name (c ∷ cs) zero h = untouched_none name (c ∷ cs) h
untouched name (c ∷ cs) (suc k) h = ap (λ o. option_or o (if bytes_eq c.name name then Some c.after else None)) (untouched name cs k h)

some_is : (a b : Image) → Some a ≡ Some b → a ≡ b
some_is a b e = cc

none_some : (a : Image) → None ≡ Some a → ⊥
none_some a e = cc

length_front : (cs : List Change) (i : ℕ) → length (take i cs) ≤ i
length_front [] zero = omega arith
length_front [] (suc i) = omega arith
length_front (c ∷ cs) zero = omega arith
length_front (c ∷ cs) (suc i) = let low = length_front cs i in omega arith

-- ---- transactions

module _ (m : Meaning) (h : List Observation) (x : HoldsOfAll m h) where
  -- a loss leaves no transaction open
  lost_run : (name : List ℕ) (w : Purpose) (t : Transaction) → IsRunIfAny m h x name (after_loss w t)
  lost_run known Never Idle = tt
  lost_run known Never (Begun begin last) = tt
  lost_run known Never Lost = tt
  lost_run known (Opens name barriers) Idle = tt
  lost_run known (Opens name barriers) (Begun begin last) = tt
  lost_run known (Opens name barriers) Lost = tt
  lost_run known Begins Idle = tt
  lost_run known Begins (Begun begin last) = tt
  lost_run known Begins Lost = tt
  lost_run known Commits t = tt
  lost_run known RollsBack Idle = tt
  lost_run known RollsBack (Begun begin last) = tt
  lost_run known RollsBack Lost = tt
  lost_run known (Runs rows ss) Idle = tt
  lost_run known (Runs rows ss) (Begun begin last) = tt
  lost_run known (Runs rows ss) Lost = tt
  lost_run known (Prepares p tail) Idle = tt
  lost_run known (Prepares p tail) (Begun begin last) = tt
  lost_run known (Prepares p tail) Lost = tt
  lost_run known (Drops id) Idle = tt
  lost_run known (Drops id) (Begun begin last) = tt
  lost_run known (Drops id) Lost = tt
  lost_run known (Dumps name) Idle = tt
  lost_run known (Dumps name) (Begun begin last) = tt
  lost_run known (Dumps name) Lost = tt
  lost_run known Empties Idle = tt
  lost_run known Empties (Begun begin last) = tt
  lost_run known Empties Lost = tt
  lost_run known Other Idle = tt
  lost_run known Other (Begun begin last) = tt
  lost_run known Other Lost = tt

  refused_run : (b : Bool) (s : Client) (w : Purpose) → IsRunIfAny m h x s.name s.transaction →
      IsRunIfAny m h x (after_refusal b s w).name (after_refusal b s w).transaction
  refused_run true s w was = lost_run s.name w s.transaction
  refused_run false s w was = was

  -- a client whose transaction is open does not open a database
  opened_run : (old name : List ℕ) (t : Transaction) → nat_lt 0 (length old) ≡ false → IsRunIfAny m h x old t → IsRunIfAny m h x name t
  opened_run old name Idle none was = tt
  opened_run old name (Begun begin last) none was = absurd (true≢false (sym was.opened ∙ none))
  opened_run old name Lost none was = tt

  runs_run : (s : Client) (place : ℕ) (ss : List Statement) (replies : List Reply) (name : List ℕ) (t : Transaction) →
      RanInside m x.order x.rests x.work s place ss replies t → IsRunIfAny m h x name t → IsRunIfAny m h x name (ran_at place t)
  runs_run s place ss replies name Idle ran was = tt
  runs_run s place ss replies name (Begun begin last) (same, none, ran) was =
      record {
        opened = was.opened;
        begun = was.begun;
        led = record {
          statements = was.led.statements ++ ss;
          replies = was.led.replies ++ replies;
          ran = chains m (x.work begin) (x.work last) (x.work place) was.led.statements ss was.led.replies replies was.led.ran ran;
        };
      }
  runs_run s place ss replies name Lost ran was = tt

  result_run : (s : Client) (place : ℕ) (answer : List Response) (w : Purpose) → NeedsDatabase (has_database s) w →
      IsRightResult m x.order x.rests x.work s place w answer → IsRunIfAny m h x s.name s.transaction →
      IsRunIfAny m h x (after_result s place answer w).name (after_result s place answer w).transaction
  result_run s place answer Never need right was = absurd right
  result_run s place answer (Opens name barriers) need right was = opened_run s.name name s.transaction need was
  result_run s place answer Begins need right was =
      record { opened = need; begun = right.1; led = record { statements = []; replies = []; ran = refl } }
  result_run s place answer Commits need right was = tt
  result_run s place answer RollsBack need right was = tt
  result_run s place answer (Runs rows ss) need (replies, sent, ran) was = runs_run s place ss replies s.name s.transaction ran was
  result_run s place answer (Prepares p tail) need right was = was
  result_run s place answer (Drops id) need right was = was
  result_run s place answer (Dumps name) need right was = was
  result_run s place answer Empties need right was = was
  result_run s place answer Other need right was = was

  answer_run : (s : Client) (place : ℕ) (request : Option Request) (answer : List Response) (o : Option ℕ) →
      IsRightAnswer m x.order x.rests x.work s place (purpose s request) answer o → IsRunIfAny m h x s.name s.transaction →
      IsRunIfAny m h x (after_answer s place request answer o).name (after_answer s place request answer o).transaction
  answer_run s place request answer (Some code) right was = refused_run (is_loss code) s (purpose s request) was
  answer_run s place request answer None right was = result_run s place answer (purpose s request) (purpose_needs s request) right was

  run_at : (conn place : ℕ) → IsRunIfAny m h x (client_at h conn place).name (client_at h conn place).transaction
  run_at conn place = along h conn (λ s. IsRunIfAny m h x s.name s.transaction)
      (λ node p q request answer reply was.
      answer_run (client_at h conn p) p request answer (refused answer) (x.right node conn p q request answer reply).0 was)
      tt place

  -- ---- changes

  commit_run : (i : ℕ) (c : Change) (before : Image) (t : Transaction) → image_in (take i x.order) c.name ≡ Some before → IsRunIfAny m h x c.name t →
      MakesCommit (take i x.order) x.rests x.work t c → IsLedTo m before c.after
  commit_run i c before Idle is was makes = absurd makes
  commit_run i c before (Begun begin last) is was (le, alone, after) =
      let low = length_front x.order i in
      let fits : x.rests begin ≤ i = omega arith in
      let same : image_in (take i x.order) c.name ≡ image_in (take (x.rests begin) x.order) c.name =
      untouched c.name (take i x.order) (x.rests begin) alone ∙ ap (λ cs. image_in cs c.name) (take-take (x.rests begin) i x.order fits) in
      let begun : x.work begin ≡ before = some_is (x.work begin) before (sym was.begun ∙ sym same ∙ is) in
      record {
        statements = was.led.statements;
        replies = was.led.replies;
        ran = subst (λ a. RanAll m before was.led.statements a was.led.replies) (sym after)
            (subst (λ b. RanAll m b was.led.statements (x.work last) was.led.replies) begun was.led.ran);
      }
  commit_run i c before Lost is was makes = absurd makes

  made_run : (i : ℕ) (c : Change) (before : Image) (s : Client) (w : Purpose) → image_in (take i x.order) c.name ≡ Some before →
      IsRunIfAny m h x s.name s.transaction → MakesChange m (take i x.order) x.rests x.work s w c → IsLedTo m before c.after
  made_run i c before s Never is was makes = absurd makes
  made_run i c before s (Opens name barriers) is was (same, none, after) =
      absurd (none_some before (sym none ∙ subst (λ n. image_in (take i x.order) n ≡ Some before) same is))
  made_run i c before s Begins is was makes = absurd makes
  made_run i c before s Commits is was (same, makes) =
      commit_run i c before s.transaction is (subst (λ n. IsRunIfAny m h x n s.transaction) (sym same) was) makes
  made_run i c before s RollsBack is was makes = absurd makes
  made_run i c before s (Runs rows ss) is was (same, out, (replies, (from, there, ran))) =
      let e : from ≡ before = some_is from before (sym there ∙ subst (λ n. image_in (take i x.order) n ≡ Some before) same is) in
      record { statements = ss; replies = replies; ran = subst (λ b. RanAll m b ss c.after replies) e ran }
  made_run i c before s (Prepares p tail) is was makes = absurd makes
  made_run i c before s (Drops id) is was makes = absurd makes
  made_run i c before s (Dumps name) is was makes = absurd makes
  made_run i c before s Empties is was makes = absurd makes
  made_run i c before s Other is was makes = absurd makes

  change_run : (i : ℕ) (c : Change) (before : Image) → slice_get x.order i ≡ Some c → image_in (take i x.order) c.name ≡ Some before → IsLedTo m before c.after
  change_run i c before e is =
      let comes = (x.comes i c e).0 in
      made_run i c before (client_at h comes.conn c.place) (purpose_at h comes.conn c.place comes.request) is (run_at comes.conn c.place) comes.makes

  -- ---- what no statement takes away

  module _ (P : Image → Type 0) (keeps : StaysInImages m P) where
    led_keeps : (before after : Image) → IsLedTo m before after → P before → P after
    led_keeps before after l p = ran_keeps m P before after l.statements l.replies keeps l.ran p

    at_by : (b : Bool) (o : Option Image) (image a : Image) → o ≡ Some image → P image → (b ≡ true → P a) → HasProperty P (if b then Some a else o)
    at_by true o image a is p q = (a, refl, q refl)
    at_by false o image a is p q = (image, is, p)

    one_more : (name : List ℕ) (k : ℕ) (o : Option Change) → slice_get x.order k ≡ o → HasProperty P (image_in (take k x.order) name) →
        HasProperty P (image_in (take (suc k) x.order) name)
    one_more name k None e has = subst (λ cs. HasProperty P (image_in cs name)) (sym (take_none x.order k e)) has
    one_more name k (Some c) e (image, is, p) =
        let after : bytes_eq c.name name ≡ true → P c.after = λ same.
        led_keeps image c.after
        (change_run k c image e (subst (λ n. image_in (take k x.order) n ≡ Some image) (sym (name_is c.name name same)) is)) p in
        subst (HasProperty P) (sym (ap (λ cs. image_in cs name) (take_one x.order k c e) ∙ image_one (take k x.order) c name))
        (at_by (bytes_eq c.name name) (image_in (take k x.order) name) image c.after is p after)

    stays_from : (name : List ℕ) (i k : ℕ) → i ≤ k → HasProperty P (image_in (take i x.order) name) → HasProperty P (image_in (take k x.order) name)
    stays_from name i zero le has = let e : i ≡ 0 = omega (arith, le) in subst (λ j. HasProperty P (image_in (take j x.order) name)) e has
    stays_from name i (suc k) le has =
        ⊎_elim
        (λ (q : i < suc k). one_more name k (slice_get x.order k) refl (stays_from name i k (omega (arith, q)) has))
        (λ (q : suc k ≤ i). let same : i ≡ suc k = omega (arith, q, le) in subst (λ j. HasProperty P (image_in (take j x.order) name)) same has)
        (cases_lt i (suc k))

    after_change : (i : ℕ) (c : Change) → slice_get x.order i ≡ Some c → P c.after → HasProperty P (image_in (take (suc i) x.order) c.name)
    after_change i c e p =
        let same : bytes_eq c.name c.name ≡ true = same_name c.name in (
          c.after,
          ap (λ cs. image_in cs c.name) (take_one x.order i c e) ∙ image_one (take i x.order) c c.name ∙ ap
              (λ b. if b then Some c.after else image_in (take i x.order) c.name) same,
          p,
        )

  -- ---- answers

  -- what statements outside a transaction make is in the image on which their answer rests
  ran_outside : (marked : Image → Bool) (place : ℕ) (name : List ℕ) (ss : List Statement) (replies : List Reply) → StatementsMark m marked ss →
      RanOutside m x.order place (x.rests place) name ss replies → HasProperty (IsMarked marked) (image_in (take (x.rests place) x.order) name)
  ran_outside marked place name ss replies mk ran = ⊎_elim
      (λ (made, (from, there, led)).
      subst (λ n. HasProperty (IsMarked marked) (image_in (take (x.rests place) x.order) n)) made.database
      (subst (λ k. HasProperty (IsMarked marked) (image_in (take k x.order) made.change.name)) (sym made.count)
      (after_change (IsMarked marked) mk.stays made.number made.change made.found (mk.makes from made.change.after replies led))))
      (λ (none, (image, is, led)). (image, is, mk.makes image image replies led))
      ran

pub transactions_run_hold : (m : Meaning) → TransactionsRun m
transactions_run_hold m h x conn place = run_at m h x conn place

pub changes_are_run_hold : (m : Meaning) → ChangesAreRun m
changes_are_run_hold m h x i c before e is = change_run m h x i c before e is

pub changes_stay_hold : (m : Meaning) → ChangesStay m
changes_stay_hold m h x marked i k c keeps e p lt =
    stays_from m h x (IsMarked marked) keeps c.name (suc i) k lt (after_change m h x (IsMarked marked) keeps i c e p)

outside_of : (m : Meaning) (order : List Change) (rests : ℕ → ℕ) (work : ℕ → Image) (s : Client) (place : ℕ) (ss : List Statement) (rows : Bool)
    (w : Purpose) (answer : List Response) → w ≡ Runs rows ss → s.transaction ≡ Idle → IsRightResult m order rests work s place w answer →
    (replies : List Reply) × RanOutside m order place (rests place) s.name ss replies
outside_of m order rests work s place ss rows w answer is idle right =
    let r = subst (λ v. IsRightResult m order rests work s place v answer) is right in
    (r.0, subst (RanInside m order rests work s place ss r.0) idle r.2)

pub answers_are_shown_hold : (m : Meaning) → AnswersAreShown m
answers_are_shown_hold m h x marked ss node conn place answered shown v mk a shows past up =
    let s = client_at h conn place in
    let w = purpose_at h conn place a.request in
    let right = subst (IsRightAnswer m x.order x.rests x.work s place w a.answer) a.good (x.right node conn place answered a.request a.answer a.reply).0 in
    let ran = outside_of m x.order x.rests x.work s place ss a.rows w a.answer a.runs a.outside right in
    let has = ran_outside m h x marked place s.name ss ran.0 mk ran.1 in
    let le = x.applied node conn place answered shown v a.request a.answer a.reply a.good (ap has_image a.runs) shows past up in
    subst (HasProperty (IsMarked marked)) (sym ((x.files shown node v shows).0 s.name))
    (stays_from m h x (IsMarked marked) mk.stays s.name (x.rests place) (x.index v.applied) le has)
