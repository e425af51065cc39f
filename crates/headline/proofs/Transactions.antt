-- Wrong histories of transactions.
use Rattle.std.proofs.Common.{◌≡◌, ◌≢◌, ⊎_elim, ℕ, zero, suc, ◌<◌, ◌≤◌, Bool, true, false, List, [], ◌∷◌, take, drop, refl, sym, ap, ◌∙◌, subst, arith}
use Rattle.std.specs.Prelude.{Some, slice_get, codes}
use Rattle.dq_base.specs.declared.images.Image.{Image}
use Rattle.wire_msgs.specs.declared.response.Response.{Response}
use Rattle.wire_msgs.specs.declared.response.Response.TheVariants as responses
use Rattle.sql_scan.specs.declared.pieces.StatementSpan.{StatementSpan}
use Rattle.sql_scan.specs.declared.heading.WordKind.TheVariants as words
use Rattle.sql_engine.specs.Meanings.{Meaning}
use Rattle.database_state.specs.Files.{empty_image}
use Rattle.headline.specs.Clients.{Client, Idle, Begun, Lost, Never, Commits, Runs, purpose, after_result, after_refusal}
use Rattle.headline.specs.Headline.{NodeView, Observation, Answers, Shows, IsReply, IsFinished, answered, client_at, purpose_at, Change, NoneAt, IsUntouched, MakesChange, MadeChange, HoldsOfAll}
use Rattle.headline.specs.Laws.{statement, IsSole, opens, opened, execs, done, d, starts, NoRolledBackWrite, NoCommitInParts, NoLostUpdate, NoWriteAfterLoss}
use Rattle.std.proofs.lemmas.Bool.{cases_lt}
use Rattle.headline.proofs.Lists.{Have, all_have}
use Rattle.headline.proofs.Seen.{held, each_ask}
use Rattle.headline.proofs.Knowing.{exec, result, knows, exec_is}
use Rattle.headline.proofs.Results.{right_result, Committed, one_ran, committed}
use Rattle.headline.proofs.Refused.{makes_new}

-- the client after a BEGIN, and after a write in the transaction
after_begin : (place : ℕ) (sql : List ℕ) (span : StatementSpan) (at_once : Bool) → IsSole sql span (words.Begin at_once) →
    after_result (knows false Idle) place (result 0) (purpose (knows false Idle) (exec sql)) ≡ knows false (Begun place place)
after_begin place sql span at_once sole = ap (after_result (knows false Idle) place (result 0)) (exec_is (knows false Idle) sql span (words.Begin at_once) sole)

after_write : (s : Client) (begin last place count : ℕ) (sql : List ℕ) (span : StatementSpan) → IsSole sql span words.Write →
    s ≡ knows false (Begun begin last) →
    after_result s place (result count) (purpose s (exec sql)) ≡ knows false (Begun begin place)
after_write s begin last place count sql span sole is =
    ap (λ s. after_result s place (result count) (purpose s (exec sql))) is
    ∙ ap (after_result (knows false (Begun begin last)) place (result count)) (exec_is (knows false (Begun begin last)) sql span words.Write sole)

-- ---- a transaction that did not commit leaves nothing

module _ (m : Meaning) (begin sql end : List ℕ) (one two : StatementSpan) (at_once : Bool) (count applied : ℕ) (answer : List Response) (image : Image)
    (first : IsSole begin one (words.Begin at_once)) (second : IsSole sql two words.Write) where
  abbrev view : NodeView
  view = record { term = 1; leads = true; applied = applied; files = d image ∷ [] }

  abbrev h : List Observation
  h = starts (execs 1 1 begin ∷ done 1 1 0 ∷ execs 1 1 sql ∷ done 1 1 count ∷ execs 1 1 end ∷ Answers 1 1 answer ∷ Shows 1 view ∷ [])

  pub at_five : client_at h 1 5 ≡ knows false (Begun 3 3)
  at_five = after_begin 3 begin one at_once first

  pub at_seven : client_at h 1 7 ≡ knows false (Begun 3 5)
  at_seven = after_write (client_at h 1 5) 3 3 5 count sql two second at_five

  in_transaction : (earlier : List Change) (rests : ℕ → ℕ) (work : ℕ → Image) (c : Change) →
      MakesChange m earlier rests work (client_at h 1 5) (purpose_at h 1 5 (exec sql)) c → ⊥
  in_transaction earlier rests work c makes =
      let a = subst (λ s. MakesChange m earlier rests work s (purpose s (exec sql)) c) at_five makes in
      let b = subst (λ p. MakesChange m earlier rests work (knows false (Begun 3 3)) p c) (exec_is (knows false (Begun 3 3)) sql two words.Write second) a in
      idle b.1
    where
      idle : Begun 3 3 ≡ Idle → ⊥
      idle e = absurd cc

  begin_none : (earlier : List Change) (rests : ℕ → ℕ) (work : ℕ → Image) (c : Change) →
      MakesChange m earlier rests work (knows false Idle) (purpose (knows false Idle) (exec begin)) c → ⊥
  begin_none earlier rests work c makes = subst (λ p. MakesChange m earlier rests work (knows false Idle) p c)
      (exec_is (knows false Idle) begin one (words.Begin at_once) first) makes

  pub nothing_left : (y : HoldsOfAll m h) → ((i : ℕ) (c : Change) → slice_get y.order i ≡ Some c → c.place ≡ 7 →
      MakesChange m (take i y.order) y.rests y.work (client_at h 1 7) (purpose_at h 1 7 (exec end)) c → ⊥) →
      image ≢ empty_image → ⊥
  nothing_left y ends apart =
      let each : (i : ℕ) (c : Change) → slice_get y.order i ≡ Some c → Have (λ i. i ≡ empty_image) y.order i → c.after ≡ empty_image = λ i c is earlier.
      let comes = (y.comes i c is).0 in
      each_ask (λ place node conn request. c.place ≡ place → MakesChange m (take i y.order) y.rests y.work (client_at h conn place)
      (purpose_at h conn place request) c → c.after ≡ empty_image) h (
        (λ e makes. makes_new m (take i y.order) y.rests y.work (client_at h 1 1) 0 c makes),
        (
          (λ e makes. absurd (begin_none (take i y.order) y.rests y.work c makes)),
          ((λ e makes. absurd (in_transaction (take i y.order) y.rests y.work c makes)), ((λ e makes. absurd (ends i c is e makes)), tt)),
        ),
      ) c.place comes.node comes.conn comes.request comes.asked refl comes.makes in
      let shows = (y.files 9 1 view refl).0 (codes "d") in
      apart (all_have (λ i. i ≡ empty_image) y.order each (y.index applied) (codes "d") image (sym shows))

pub no_rolled_back_write : (m : Meaning) → NoRolledBackWrite m
no_rolled_back_write m begin sql back one two three at_once count applied image first second third apart x =
    let h = starts (execs 1 1 begin ∷ done 1 1 0 ∷ execs 1 1 sql ∷ done 1 1 count ∷ execs 1 1 back ∷ done 1 1 0 ∷ Shows 1
    (record { term = 1; leads = true; applied = applied; files = d image ∷ [] }) ∷ []) in
    let y = held m h refl x in
    let seven = at_seven m begin sql back one two at_once count applied (result 0) image first second in
    nothing_left m begin sql back one two at_once count applied (result 0) image first second y
    (λ i c is e makes.
    let a = subst (λ s. MakesChange m (take i y.order) y.rests y.work s (purpose s (exec back)) c) seven makes in
    subst (λ p. MakesChange m (take i y.order) y.rests y.work (knows false (Begun 3 5)) p c)
    (exec_is (knows false (Begun 3 5)) back three words.Rollback third) a)
    apart

pub no_commit_in_parts : (m : Meaning) → NoCommitInParts m
no_commit_in_parts m begin sql end text one two at_once count code applied image first second other apart x =
    let answer : List Response = responses.Failure code text ∷ [] in
    let h = starts (execs 1 1 begin ∷ done 1 1 0 ∷ execs 1 1 sql ∷ done 1 1 count ∷ execs 1 1 end ∷ Answers 1 1 answer ∷
    Shows 1 (record { term = 1; leads = true; applied = applied; files = d image ∷ [] }) ∷ []) in
    let y = held m h refl x in
    let pair : IsReply h 1 1 7 8 (exec end) answer = record { home = 1; asks = refl; answers = refl; turn = refl } in
    let none : NoneAt y.order 7 = (y.right 1 1 7 8 (exec end) answer pair).0 other in
    nothing_left m begin sql end one two at_once count applied answer image first second y (λ i c is e makes. none i c is e) apart

-- ---- a lost transaction

pub no_write_after_loss : (m : Meaning) → NoWriteAfterLoss m
no_write_after_loss m begin sql other text one two three at_once many first second third x =
    let answer : List Response = responses.Failure 10250 text ∷ [] in
    let h = starts (execs 1 1 begin ∷ done 1 1 0 ∷ execs 1 1 sql ∷ Answers 1 1 answer ∷ execs 1 1 other ∷ done 1 1 many ∷ []) in
    let y = held m h refl x in
    let pair : IsReply h 1 1 7 8 (exec other) (result many) = record { home = 1; asks = refl; answers = refl; turn = refl } in
    let five : client_at h 1 5 ≡ knows false (Begun 3 3) = after_begin 3 begin one at_once first in
    let seven : client_at h 1 7 ≡ knows false Lost =
    ap (λ s. after_refusal true s (purpose s (exec sql))) five ∙ ap (after_refusal true (knows false (Begun 3 3)))
    (exec_is (knows false (Begun 3 3)) sql two words.Write second) in
    right_result m h y 1 1 7 8 (exec other) (result many) (knows false Lost) Never pair refl seven (exec_is (knows false Lost) other three words.Write third)

-- ---- a lost update

drop_none : (cs : List Change) → drop 0 cs ≡ cs
drop_none [] = refl
drop_none (c ∷ cs) = refl

untouched_at : (name : List ℕ) (cs : List Change) (k j : ℕ) (c : Change) → j < k → slice_get cs j ≡ Some c → IsUntouched name (take k cs) → c.name ≢ name
untouched_at name [] k j c lt e all = absurd cc
untouched_at name (x ∷ xs) zero j c lt e all = absurd (omega (arith, lt))
untouched_at name (x ∷ xs) (suc k) zero c lt e all = let f : x ≡ c = cc in subst (λ (c : Change). c.name ≢ name) f all.0
untouched_at name (x ∷ xs) (suc k) (suc j) c lt e all = untouched_at name xs k j c (omega (arith, lt)) e all.1

untouched_get : (name : List ℕ) (cs : List Change) (r k j : ℕ) (c : Change) → r ≤ j → j < k → slice_get cs j ≡ Some c →
    IsUntouched name (drop r (take k cs)) → c.name ≢ name
untouched_get name cs zero k j c le lt e all = untouched_at name cs k j c lt e (subst (IsUntouched name) (drop_none (take k cs)) all)
untouched_get name [] (suc r) k j c le lt e all = absurd cc
untouched_get name (x ∷ xs) (suc r) zero j c le lt e all = absurd (omega (arith, lt))
untouched_get name (x ∷ xs) (suc r) (suc k) zero c le lt e all = absurd (omega (arith, le))
untouched_get name (x ∷ xs) (suc r) (suc k) (suc j) c le lt e all = untouched_get name xs r k j c (omega (arith, le)) (omega (arith, lt)) e all

pub no_lost_update : (m : Meaning) → NoLostUpdate m
no_lost_update m begin sql other commit one two three four at_once count many first moves moved fourth x =
    let h = starts (opens 1 2 0 ∷ opened 1 2 ∷ execs 1 1 begin ∷ done 1 1 0 ∷ execs 1 2 other ∷ done 1 2 many ∷ execs 1 1 sql ∷ done 1 1 count ∷ execs 1 1
    commit ∷ done 1 1 0 ∷ []) in
    let y = held m h refl x in
    let begins : IsReply h 1 1 5 6 (exec begin) (result 0) = record { home = 1; asks = refl; answers = refl; turn = refl } in
    let others : IsReply h 1 2 7 8 (exec other) (result many) = record { home = 1; asks = refl; answers = refl; turn = refl } in
    let writes : IsReply h 1 1 9 10 (exec sql) (result count) = record { home = 1; asks = refl; answers = refl; turn = refl } in
    let commits : IsReply h 1 1 11 12 (exec commit) (result 0) = record { home = 1; asks = refl; answers = refl; turn = refl } in
    let nine : client_at h 1 9 ≡ knows false (Begun 5 5) = after_begin 5 begin one at_once first in
    let eleven : client_at h 1 11 ≡ knows false (Begun 5 9) = after_write (client_at h 1 9) 5 5 9 count sql two moves.sole nine in
    let w : Committed m h y 7 (codes "d") (statement other three) = committed m h y 1 2 7 8 many other three false moved others refl in
    let known = (y.right 1 1 5 6 (exec begin) (result 0) begins).1 in
    let ran = right_result m h y 1 1 9 10 (exec sql) (result count) (knows false (Begun 5 5)) (Runs false (statement sql two ∷ [])) writes refl nine
    (exec_is (knows false (Begun 5 5)) sql two words.Write moves.sole) in
    let wanted : purpose (knows false (Begun 5 9)) (exec commit) ≡ Commits = exec_is (knows false (Begun 5 9)) commit four words.Commit fourth in
    let ends = right_result m h y 1 1 11 12 (exec commit) (result 0) (knows false (Begun 5 9)) Commits commits refl eleven wanted in
    ⊎_elim
    (λ (made : MadeChange y.order 11 (y.rests 11) (codes "d")).
    let came = y.comes made.number made.change made.found in
    let over : IsFinished h w.change.place 8 = subst (λ p. IsFinished h p 8) (sym w.asked) (answered 1 2 (exec other) (result many) others) in
    let asked = made.asked in
    let past : w.number < made.number = came.1 w.number 8 w.change w.found over (omega (arith, asked)) in
    let place = w.asked in
    let late : y.rests 5 ≤ w.number = ⊎_elim (λ (q : w.number < y.rests 5). let before = known w.number w.change w.found q in
    absurd (omega (arith, before, place))) (λ (q : y.rests 5 ≤ w.number). q) (cases_lt w.number (y.rests 5)) in
    let makes = each_ask (λ place node conn request. made.change.place ≡ place →
    MakesChange m (take made.number y.order) y.rests y.work (client_at h conn place) (purpose_at h conn place request) made.change →
    MakesChange m (take made.number y.order) y.rests y.work (client_at h 1 11) (purpose_at h 1 11 (exec commit)) made.change) h (
      (λ e k. absurd (omega (arith, e, asked))),
      (
        (λ e k. absurd (omega (arith, e, asked))),
        (
          (λ e k. absurd (omega (arith, e, asked))),
          ((λ e k. absurd (omega (arith, e, asked))), ((λ e k. absurd (omega (arith, e, asked))), ((λ e k. k), tt))),
        ),
      ),
    )
    made.change.place came.0.node came.0.conn came.0.request came.0.asked refl came.0.makes in
    let a = subst (λ s. MakesChange m (take made.number y.order) y.rests y.work s (purpose s (exec commit)) made.change) eleven makes in
    let b = subst (λ p. MakesChange m (take made.number y.order) y.rests y.work (knows false (Begun 5 9)) p made.change) wanted a in
    untouched_get made.change.name y.order (y.rests 5) made.number w.number w.change late past w.found b.1.1 (w.database ∙ sym b.0))
    (λ (none, count, same).
    let one = one_ran m (y.work 5) (y.work 9) (statement sql two) ran.0 ran.2.2 in
    moves.moves (y.work 5) one.0 (subst (λ i. m.runs (y.work 5) (statement sql two) i one.0) same one.2))
    ends.1
