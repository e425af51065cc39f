-- The image that pages lead to.
use Rattle.std.specs.Prelude.{◌≡◌, ℕ, Bool, true, false, is_none, List, Option, Some, None, Result, Ok, Err}
use Rattle.dq_base.specs.declared.images.Image.{Image}
use Rattle.dq_base.specs.declared.pages.NumberedPage.{NumberedPage}
use Rattle.dq_base.specs.Applying.{applied, page_fault}
use Rattle.dq_base.specs.Images.{page_count}
use Rattle.log_commands.specs.Spelling.{HaveSizes}
use Rattle.session_spec.specs.Causes.{Cause as RuleCause}
use Rattle.session_table.specs.declared.cause.Cause.{Cause}
use Rattle.session_table.specs.Named.{cause_named}

-- An image that pages lead to from another one, if they can be applied; each page has its bytes. If they can't be
-- applied, any image will do.
abbrev pub LeadsTo : List NumberedPage → Image → Type 0
LeadsTo pages to = is_none (page_fault pages) ≡ true → HaveSizes pages × ((from : Image) × (applied from pages ≡ to))

-- There is no room for a change; or this is the page count of the image that it leads to.
abbrev pub HasRoom : List NumberedPage → Image → Bool → Option ℕ → Type 0
HasRoom pages to full None = full ≡ true
HasRoom pages to full (Some count) = (full ≡ false) × (count ≡ page_count to) × (is_none (page_fault pages) ≡ true)

-- Nothing hinders a change that can be applied, and this is the page count of the image that it leads to; or this hinders it.
abbrev pub Hinders : List NumberedPage → Image → Option RuleCause → Result ℕ Cause → Type 0
Hinders pages to hindrance (Ok count) = (hindrance ≡ None) × (count ≡ page_count to) × (is_none (page_fault pages) ≡ true)
Hinders pages to hindrance (Err cause) = hindrance ≡ Some (cause_named cause)
