-- An image that takes over the pages which lead to another one is that one.
use Rattle.std.proofs.Common.{◌≡◌, ◌+◌, List, length, ap, ◌∙◌, inl, inr, arith}
use Rattle.std.specs.Str.{bytes_eq}
use Rattle.std.proofs.lemmas.Bool.{cases_Bool, both_ways, and_parts, and_from}
use Rattle.std.proofs.lemmas.List.{length_push}
use Rattle.std.proofs.lemmas.Slice.Eq.{bytes_eq-Decides}
use Rattle.dq_base.specs.declared.images.Image.{Image}
use Rattle.dq_base.specs.declared.pages.NumberedPage.{NumberedPage}
use Rattle.dq_base.specs.Applying.{applied}
use Rattle.dq_base.specs.Changes.{same_image, changed, changed_from, numbers_above_one, sizes_of}
use Rattle.dq_base.proofs.ChangeLaw.{same_images, changed_is, applied_change}
use Rattle.sqlite_files.proofs.TakenPages.{same_change}
use Rattle.sql_engine.specs.Meanings.{IsShort}

pub nothing_taken : (before after : Image) (pages : List NumberedPage) → length pages ≡ 0 → pages ≡ changed before after → before ≡ after
nothing_taken before after pages none is = elim (cases_Bool (same_image before after)) [
  | inl same ↦
      let both = and_parts (bytes_eq before.main after.main) (bytes_eq before.side after.side) same in
      same_images before after ((bytes_eq-Decides before.main after.main).0 both.0) ((bytes_eq-Decides before.side after.side).0 both.1)
  | inr other ↦
      let differ : before ≡ after → ⊥ = λ e. both_ways (same_image before after) other
      (and_from (bytes_eq before.main after.main) (bytes_eq before.side after.side) ((bytes_eq-Decides before.main after.main).1 (ap (λ (x : Image). x.main) e)) ((bytes_eq-Decides before.side after.side).1 (ap (λ (x : Image). x.side) e))) in
      let front : List NumberedPage = changed_from 2 (numbers_above_one after) before after in
      let some : length pages ≡ length front + 1 = ap length is ∙ ap length (changed_is before after differ) ∙ length_push front (sizes_of after) in
      absurd (omega (arith, none, some))
]

pub taken_over : (before now after : Image) (pages : List NumberedPage) → (length pages ≡ 0 → ⊥) → now ≡ applied before pages → IsShort after → pages ≡ changed before after → now ≡ after
taken_over before now after pages some taken short is =
    taken ∙ ap (applied before) is ∙ applied_change before after (λ same. some (ap length is ∙ ap length (same_change before after same))) short.main short.side
