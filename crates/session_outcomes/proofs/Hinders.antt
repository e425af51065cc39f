-- What hinders a change of pages, by the tests that are made for it.
use Rattle.std.proofs.Common.{◌≡◌, ℕ, ◌+◌, Bool, true, false, cond, not, ◌||◌, is_none, List, length, Option, Some, None, Ok, refl, sym, ap, ◌∙◌}
use Rattle.std.specs.Prelude.{nat_lt, ◌==◌}
use Rattle.dq_base.specs.declared.images.Image.{Image}
use Rattle.dq_base.specs.declared.pages.NumberedPage.{NumberedPage}
use Rattle.dq_base.specs.Images.{page_count, pages_of, resized, is_main, is_side}
use Rattle.dq_base.specs.Applying.{applied, applied_at, page_fault, StateLengths}
use Rattle.dq_base.proofs.PutPages.{length-put_pages}
use Rattle.dq_base.proofs.FileBytes.{length-resized}
use Rattle.log_commands.specs.Spelling.{HaveSizes}
use Rattle.session_spec.specs.Causes.{Cause, Locked, OutOfDate, DatabaseFull}
use Rattle.session_spec.specs.Machine.{Machine}
use Rattle.session_spec.specs.Engines.{no_pages, takes}
use Rattle.session_spec.specs.Sessions.{Gateway}
use Rattle.session_spec.specs.Limits.{pages_with, too_full, other_holds, change_refusal}
use Rattle.session_outcomes.specs.Hindered.{LeadsTo, HasRoom, Hinders}

pub counted : (pages : List NumberedPage) (main side : ℕ) → StateLengths pages main side → HaveSizes pages → (image : Image) → page_count (applied image pages) ≡ 1 + pages_of main + pages_of side
counted pages main side states sizes image =
    ap page_count (states image)
    ∙ ap (λ (n : ℕ). 1 + pages_of n + pages_of (length (applied_at main side pages image).side)) (length-put_pages is_main pages (resized main image.main) sizes ∙ length-resized main image.main)
    ∙ ap (λ (n : ℕ). 1 + pages_of main + pages_of n) (length-put_pages is_side pages (resized side image.side) sizes ∙ length-resized side image.side)

takes_so : (pages : List NumberedPage) → no_pages pages ≡ false → takes pages ≡ is_none (page_fault pages)
unfolding takes
takes_so pages some = ap (λ (b : Bool). b || is_none (page_fault pages)) some

counts_to : (pages : List NumberedPage) (to : Image) (count : ℕ) → is_none (page_fault pages) ≡ true → (HaveSizes pages → (image : Image) → page_count (applied image pages) ≡ count) → LeadsTo pages to → count ≡ page_count to
counts_to pages to count taken counts leads = let led = leads taken in sym (counts led.0 led.1.0) ∙ ap page_count led.1.1

full_by : (m : Machine) (g : Gateway) (name : List ℕ) (pages : List NumberedPage) (to : Image) (count : ℕ) → no_pages pages ≡ false → is_none (page_fault pages) ≡ true → count ≡ page_count to
    → too_full m g name pages to ≡ nat_lt 16384 (pages_with m g name count)
unfolding too_full
full_by m g name pages to count some taken is =
    ap (λ (b : Bool). not b || nat_lt 16384 (pages_with m g name (page_count to))) (takes_so pages some ∙ taken)
    ∙ ap (λ (n : ℕ). nat_lt 16384 (pages_with m g name n)) (sym is)

module _ (m : Machine) (g : Gateway) (name : List ℕ) (pages : List NumberedPage) (to : Image) (count : ℕ) (some : no_pages pages ≡ false) (taken : is_none (page_fault pages) ≡ true)
    (counts : HaveSizes pages → (image : Image) → page_count (applied image pages) ≡ count) (leads : LeadsTo pages to) (full : Bool) (is : full ≡ nat_lt 16384 (pages_with m g name count)) where
  pub no_room : full ≡ true → HasRoom pages to (too_full m g name pages to) None
  no_room e = full_by m g name pages to count some taken (counts_to pages to count taken counts leads) ∙ sym is ∙ e

  pub with_room : full ≡ false → HasRoom pages to (too_full m g name pages to) (Some count)
  with_room e = (full_by m g name pages to count some taken (counts_to pages to count taken counts leads) ∙ sym is ∙ e, counts_to pages to count taken counts leads, taken)

pub full_anyway : (m : Machine) (g : Gateway) (name : List ℕ) (pages : List NumberedPage) (to : Image) → no_pages pages ≡ false → is_none (page_fault pages) ≡ false → HasRoom pages to (too_full m g name pages to) None
unfolding too_full
full_anyway m g name pages to some refused = (ap (λ (b : Bool). not b || nat_lt 16384 (pages_with m g name (page_count to))) (takes_so pages some ∙ refused))

abbrev chain : Bool → Bool → Bool → Option Cause
chain a b c = cond a (Some Locked) (cond b (Some OutOfDate) (cond c (Some DatabaseFull) None))

module _ (m : Machine) (g : Gateway) (conn : ℕ) (name : List ℕ) (mark : ℕ) (pages : List NumberedPage) (to : Image) where
  hindered : (a b c : Bool) → a ≡ other_holds g conn name → b ≡ not ((m.base name).newest == mark) → c ≡ too_full m g name pages to → chain a b c ≡ change_refusal m g conn name mark pages to
  unfolding change_refusal
  hindered a b c ea eb ec =
      ap (λ (x : Bool). chain x b c) ea ∙ ap (λ (x : Bool). chain (other_holds g conn name) x c) eb
      ∙ ap (λ (x : Bool). chain (other_holds g conn name) (not ((m.base name).newest == mark)) x) ec

  pub is_locked : (a : Bool) → a ≡ other_holds g conn name → a ≡ true → change_refusal m g conn name mark pages to ≡ Some Locked
  is_locked a ea hit = sym (hindered true (not ((m.base name).newest == mark)) (too_full m g name pages to) (sym hit ∙ ea) refl refl)

  pub is_old : (a b : Bool) → a ≡ other_holds g conn name → b ≡ not ((m.base name).newest == mark) → a ≡ false → b ≡ true → change_refusal m g conn name mark pages to ≡ Some OutOfDate
  is_old a b ea eb miss hit = sym (hindered false true (too_full m g name pages to) (sym miss ∙ ea) (sym hit ∙ eb) refl)

  pub is_full : (a b : Bool) → a ≡ other_holds g conn name → b ≡ not ((m.base name).newest == mark) → a ≡ false → b ≡ false → HasRoom pages to (too_full m g name pages to) None → change_refusal m g conn name mark pages to ≡ Some DatabaseFull
  is_full a b ea eb na nb full = sym (hindered false false true (sym na ∙ ea) (sym nb ∙ eb) (sym full))

  pub is_free : (a b : Bool) (count : ℕ) → a ≡ other_holds g conn name → b ≡ not ((m.base name).newest == mark) → a ≡ false → b ≡ false → HasRoom pages to (too_full m g name pages to) (Some count) → Hinders pages to (change_refusal m g conn name mark pages to) (Ok count)
  is_free a b count ea eb na nb room = (sym (hindered false false false (sym na ∙ ea) (sym nb ∙ eb) (sym room.0)), room.1, room.2)
