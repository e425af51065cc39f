-- The pages of an answer, as a change whose numbers are noted.
use Rattle.std.proofs.Common.{◌≡◌, ℕ, List, ◌++◌, sym, ap, subst, ◌∙◌}
use Rattle.dq_base.specs.declared.images.Image.{Image}
use Rattle.dq_base.specs.Applying.{applied}
use Rattle.dq_base.specs.Changes.{changed}
use Rattle.sql_engine.specs.declared.answer.StatementResult.{StatementResult}
use Rattle.sql_engine.specs.Replies.{Statement}
use Rattle.sql_engine.specs.Meanings.{Meaning, Answers}
use Rattle.sql_engine.proofs.Leading.{leads_on}
use Rattle.image_diff.specs.Undoing.{IsChange}
use Rattle.image_diff.proofs.Touched.{lists_next}
use Rattle.session_spec.specs.Touched.{numbers_of, ListsAll}

-- the pages of an answer are a whole change
pub is_change : (m : Meaning) (image : Image) (s : Statement) (tx : ℕ) (ran : StatementResult) → Answers m image s tx ran → IsChange image ran.after.pages
is_change m image s tx ran a = record { to = a.after; main_fits = a.short.main; side_fits = a.short.side; all = ap (λ set. set.pages) a.pages }

-- and lead to the image that they lead to when they are applied
change_of : (m : Meaning) (image to : Image) (s : Statement) (tx : ℕ) (ran : StatementResult) → Answers m image s tx ran → to ≡ applied image ran.after.pages → ran.after.pages ≡ changed image to
change_of m image to s tx ran a is = ap (λ set. set.pages) a.pages ∙ ap (changed image) (sym (is ∙ leads_on m image s tx ran a))

-- its numbers after those of the pages that differ so far
pub touches_more : (m : Meaning) (s : Statement) (tx : ℕ) (ran : StatementResult) (ns ms : List ℕ) (a b c : Image) → Answers m b s tx ran → c ≡ applied b ran.after.pages → ms ≡ ns ++ numbers_of ran.after.pages → ListsAll ns a b → ListsAll ms a c
touches_more m s tx ran ns ms a b c answers is more lists =
    subst (λ (numbers : List ℕ). ListsAll numbers a c) (sym more) (lists_next ns ran.after.pages a b c lists (change_of m b c s tx ran answers is))
