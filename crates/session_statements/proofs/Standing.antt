-- Where running the statements of a text stands.
use Rattle.std.proofs.Common.{◌≡◌, ℕ, ◌+◌, ◌≤◌, List, ◌∷◌, ◌++◌, length, take, drop, Option, Some, None, refl, sym, ap, subst, ◌∙◌, arith}
use Rattle.std.proofs.lemmas.List.{drop_all}
use Rattle.std.proofs.lemmas.List.Sums.{sum_by-cons}
use Rattle.dq_base.specs.declared.images.Image.{Image}
use Rattle.wire_words.specs.declared.value.Value.{Value}
use Rattle.sql_scan.specs.declared.pieces.StatementSpan.{StatementSpan}
use Rattle.sql_engine.specs.declared.kind.EngineKind.{EngineKind}
use Rattle.sql_engine.specs.Replies.{Statement}
use Rattle.sql_engine.specs.Meanings.{Meaning, Told}
use Rattle.session_spec.specs.Statements.{prepared_from}
use Rattle.session_statements.specs.declared.ending.Ending.{Ending as CodeEnding}
use Rattle.session_statements.specs.declared.ending.Ending.TheVariants as codes
use Rattle.session_spec.specs.Touched.{numbers_of, ListsAll}
use Rattle.sql_engine.specs.declared.answer.StatementResult.{StatementResult}
use Rattle.session_statements.specs.Texts.{wants, assigned}
use Rattle.session_statements.specs.Calls.{call_of}
use Rattle.session_statements.specs.Running.{Led, Went, Stepped, RanTo}
use Rattle.session_statements.proofs.Touching.{touches_more}
use Rattle.session_statements.proofs.Reaching.{Reached, reached_more, reached_led, reached_fault, reached_too_far}

pub record Standing (m : Meaning) (kind now : EngineKind) (image : Image) (text : List ℕ) (pieces : List StatementSpan) (params : List Value) (i : ℕ) (rest : List Value) (told_before told_now : Option Told) (cur : Image) (answer : StatementResult) : Type 0 where
  pub same_kind : now ≡ kind
  pub fit : wants (drop i pieces) ≡ length rest
  pub reached : Reached m kind image (assigned text pieces params) (assigned text (drop i pieces) rest) told_before told_now cur answer

-- the statements from a place on, where the next stands
assigned_from : (text : List ℕ) (pieces others : List StatementSpan) (p : StatementSpan) (one : List ℕ) (rest own later : List Value) → pieces ≡ p ∷ others → one ≡ (prepared_from text p).text → own ≡ take p.params rest → later ≡ drop p.params rest
    → assigned text pieces rest ≡ record { text = one; params = own } ∷ assigned text others later
assigned_from text pieces others p one rest own later next is front back = rw (next, is, front, back) refl

-- it has as many parameters as it wants, and the others as they want
pub fits_next : (pieces others : List StatementSpan) (p : StatementSpan) (rest : List Value) → pieces ≡ p ∷ others → wants pieces ≡ length rest → p.params + wants others ≡ length rest
fits_next pieces others p rest next fit = sym (sum_by-cons (λ (q : StatementSpan). q.params) p others) ∙ ap wants (sym next) ∙ fit

module _ (meaning : EngineKind → Meaning) (kind now next : EngineKind) (tx : ℕ) (image : Image) (text : List ℕ) (pieces : List StatementSpan) (params : List Value) (i : ℕ) (rest own later : List Value) (told_before told_now told_next : Option Told) (from to : Image) (before after : StatementResult) (p : StatementSpan) (one : List ℕ) (o : Option CodeEnding)
    (s : Standing (meaning kind) kind now image text pieces params i rest told_before told_now from before)
    (step : Stepped (call_of (meaning now) now told_now told_next) tx from (record { text = one; params = own }) to after o)
    (is : one ≡ (prepared_from text p).text) (cut : drop i pieces ≡ p ∷ drop (i + 1) pieces) (front : own ≡ take p.params rest) (back : later ≡ drop p.params rest) where
  statement : Statement
  statement = record { text = one; params = own }

  there : Reached (meaning kind) kind image (assigned text pieces params) (statement ∷ assigned text (drop (i + 1) pieces) later) told_before told_now from before
  unfolding statement
  there = subst (λ (ss : List Statement). Reached (meaning kind) kind image (assigned text pieces params) ss told_before told_now from before) (assigned_from text (drop i pieces) (drop (i + 1) pieces) p one rest own later cut is front back) s.reached

  stepped : (e : Option CodeEnding) → o ≡ e → Stepped (call_of (meaning kind) kind told_now told_next) tx from statement to after e
  unfolding statement
  stepped e same = subst (λ (x : Option CodeEnding). Stepped (call_of (meaning kind) kind told_now told_next) tx from statement to after x) same (subst (λ (k : EngineKind). Stepped (call_of (meaning k) k told_now told_next) tx from statement to after o) s.same_kind step)

  pub standing_more : next ≡ now → length later + p.params ≡ length rest → o ≡ None → Standing (meaning kind) kind next image text pieces params (i + 1) later told_before told_next to after
  standing_more kept back_length none = record {
    same_kind = kept ∙ s.same_kind;
    fit = let f = fits_next (drop i pieces) (drop (i + 1) pieces) p rest cut s.fit in omega arith;
    reached = reached_more (meaning kind) kind tx image (assigned text pieces params) statement (assigned text (drop (i + 1) pieces) later) told_before told_now told_next from to before after there (stepped None none);
  }

  -- the pages that it changed are touched too
  pub touches_step : (ns ms : List ℕ) → o ≡ None → (o ≡ None → ms ≡ ns ++ numbers_of after.after.pages) → ListsAll ns image from → ListsAll ms image to
  touches_step ns ms none more lists =
      let w : Went (call_of (meaning kind) kind told_now told_next) tx from statement to after = stepped None none in
      touches_more (meaning kind) statement tx after ns ms image from to w.answers w.image (more none) lists

  stops : (e : CodeEnding) → Stepped (call_of (meaning kind) kind told_now told_next) tx from statement to after (Some e) → RanTo (call_of (meaning kind) kind told_before told_next) tx image (assigned text pieces params) e
  stops (codes.Ended all) step = absurd step
  stops (codes.TooLarge answer) step = reached_too_far (meaning kind) kind tx image (assigned text pieces params) statement (assigned text (drop (i + 1) pieces) later) told_before told_now told_next from before answer there step
  stops (codes.Stopped fault) step = reached_fault (meaning kind) kind tx image (assigned text pieces params) statement (assigned text (drop (i + 1) pieces) later) told_before told_now told_next from before fault there step

  pub standing_stops : (e : CodeEnding) → o ≡ Some e → RanTo (call_of (meaning kind) kind told_before told_next) tx image (assigned text pieces params) e
  standing_stops e same = stops e (stepped (Some e) same)

pub standing_ends : (m : Meaning) (kind now : EngineKind) (image : Image) (text : List ℕ) (pieces : List StatementSpan) (params : List Value) (i : ℕ) (rest : List Value) (told_before told_now : Option Told) (cur : Image) (answer : StatementResult)
    → Standing m kind now image text pieces params i rest told_before told_now cur answer → length pieces ≤ i
    → Led (call_of m kind told_before told_now) image (assigned text pieces params) cur answer
standing_ends m kind now image text pieces params i rest told_before told_now cur answer s past =
    reached_led m kind image (assigned text pieces params) told_before told_now cur answer
    (subst (λ (ps : List StatementSpan). Reached m kind image (assigned text pieces params) (assigned text ps rest) told_before told_now cur answer) (drop_all i pieces past) s.reached)
