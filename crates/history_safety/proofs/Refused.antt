-- The wrong histories are refused.
use Rattle.std.proofs.Common.{◌≡◌, ℕ, Bool, true, false, true≢false, List, [], ◌∷◌, take, refl, sym, ap, ◌∙◌, subst}
use Rattle.std.specs.Prelude.{Option, Some, None, slice_get, if◌then◌else◌}
use Rattle.dq_base.specs.declared.images.Image.{Image}
use Rattle.sql_scan.specs.declared.pieces.StatementSpan.{StatementSpan}
use Rattle.sql_scan.specs.declared.heading.WordKind.TheVariants as words
use Rattle.sql_engine.specs.Meanings.{Meaning}
use Rattle.sql_engine.specs.Replies.{Reply}
use Rattle.sql_engine.specs.Runs.{RanAll}
use Rattle.session_spec.proofs.Names.{is_name}
use Rattle.headline.specs.Clients.{Client, Idle, Begun, purpose, after_result}
use Rattle.headline.specs.Headline.{NodeView, Observation, client_at, Change, image_in}
use Rattle.headline.specs.Laws.{StaysInImages, HasProperty, IsMarked, statement, IsSole, MarksImages, execs, done, d, starts, wrote}
use Rattle.headline.proofs.Knowing.{exec, result, knows, exec_is}
use Rattle.headline.proofs.Refused.{first_pair}
use Rattle.headline.proofs.Stays.{ran_keeps}
use Rattle.history_safety.specs.Histories.{IsLedTo, IsRunIfAny, StatementsMark, AreAnswered}
use Rattle.history_safety.specs.Wrong.{NoMarkLostInside, NoMarkLostByChange, NoMarkLostLater, NoWriteLostEver}
use Rattle.history_safety.proofs.Staying.{transactions_run_hold, changes_are_run_hold, changes_stay_hold, answers_are_shown_hold}

-- what is led to from an image with the mark
led_marked : (m : Meaning) (marked : Image → Bool) (before after : Image) → StaysInImages m (IsMarked marked) → IsLedTo m before after →
    marked before ≡ true → marked after ≡ false → ⊥
led_marked m marked before after keeps led has lacks =
    true≢false (sym (ran_keeps m (IsMarked marked) before after led.statements led.replies keeps led.ran has) ∙ lacks)

-- after BEGIN and a write
module _ (begin sql : List ℕ) (one two : StatementSpan) (at_once : Bool) (count : ℕ) (more : List Observation) (first : IsSole begin one (words.Begin at_once))
    (second : IsSole sql two words.Write) where
  abbrev h : List Observation
  h = starts (execs 1 1 begin ∷ done 1 1 0 ∷ execs 1 1 sql ∷ done 1 1 count ∷ more)

  at_five : client_at h 1 5 ≡ knows false (Begun 3 3)
  at_five = ap (after_result (knows false Idle) 3 (result 0)) (exec_is (knows false Idle) begin one (words.Begin at_once) first)

  at_seven : client_at h 1 7 ≡ knows false (Begun 3 5)
  at_seven = ap (λ s. after_result s 5 (result count) (purpose s (exec sql))) at_five
      ∙ ap (after_result (knows false (Begun 3 3)) 5 (result count)) (exec_is (knows false (Begun 3 3)) sql two words.Write second)

pub no_mark_lost_inside : (m : Meaning) → NoMarkLostInside m
no_mark_lost_inside m marked begin sql one two at_once count more first second keeps x has lacks =
    let h = starts (execs 1 1 begin ∷ done 1 1 0 ∷ execs 1 1 sql ∷ done 1 1 count ∷ more) in
    let run = subst (λ (s : Client). IsRunIfAny m h x s.name s.transaction) (at_seven begin sql one two at_once count more first second)
    (transactions_run_hold m h x 1 7) in
    led_marked m marked (x.work 3) (x.work 5) keeps run.led has lacks

first_image : (c e : Change) (cs : List Change) → cs ≡ c ∷ e ∷ [] → e.name ≡ c.name → image_in (take 1 cs) e.name ≡ Some c.after
first_image c e cs is same =
    ap (λ l. image_in (take 1 l) e.name) is ∙ ap (λ b. if b then Some c.after else None) (is_name c.name e.name (sym same))

pub no_mark_lost_by_change : (m : Meaning) → NoMarkLostByChange m
no_mark_lost_by_change m h x marked c e keeps is same has lacks =
    let led = changes_are_run_hold m h x 1 e c.after (ap (λ l. slice_get l 1) is) (first_image c e x.order is same) in
    led_marked m marked c.after e.after keeps led has lacks

-- an image that is there and has the mark
shows_mark : (marked : Image → Bool) (o : Option Image) (image : Image) → HasProperty (IsMarked marked) o → o ≡ Some image → marked image ≡ false → ⊥
shows_mark marked o image (found, is, has) there lacks =
    let both : Some found ≡ Some image = sym is ∙ there in
    let same : found ≡ image = cc in
    true≢false (sym has ∙ ap marked same ∙ lacks)

pub no_mark_lost_later : (m : Meaning) → NoMarkLostLater m
no_mark_lost_later m h x marked c k image keeps is has low there lacks =
    shows_mark marked (image_in (take k x.order) c.name) image (changes_stay_hold m h x marked 0 k c keeps is has low) there lacks

one_marks : (m : Meaning) (marked : Image → Bool) (sql : List ℕ) (span : StatementSpan) → MarksImages m marked sql span → (before after : Image)
    (replies : List Reply) → RanAll m before (statement sql span ∷ []) after replies → marked after ≡ true
one_marks m marked sql span mk before after [] ran =
    let none : ⊥ = ran in
    absurd none
one_marks m marked sql span mk before after (r ∷ []) (next, (runs, is)) = ap marked (sym is) ∙ mk.makes before next r runs
one_marks m marked sql span mk before after (r ∷ s ∷ rs) (next, (runs, rest)) =
    let none : ⊥ = rest in
    absurd none

pub no_write_lost_ever : (m : Meaning) → NoWriteLostEver m
no_write_lost_ever m marked sql span count shown term applied image more mk x shows past up lacks =
    let h = wrote sql count more in
    let view : NodeView = record { term = term; leads = true; applied = applied; files = d image ∷ [] } in
    let marks : StatementsMark m marked (statement sql span ∷ []) = record { makes = one_marks m marked sql span mk; stays = mk.stays } in
    let answered : AreAnswered h 1 1 3 4 (statement sql span ∷ []) = record {
      request = exec sql;
      answer = result count;
      rows = false;
      reply = first_pair sql count more;
      good = refl;
      runs = exec_is (knows false Idle) sql span words.Write mk.sole;
      outside = refl;
    } in
    shows_mark marked (Some image) image (answers_are_shown_hold m h x marked (statement sql span ∷ []) 1 1 3 4 shown view marks answered shows past up)
    refl lacks
