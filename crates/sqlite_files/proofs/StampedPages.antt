-- What is known by stamps of the pages of a file.
use Rattle.std.proofs.Common.{◌≡◌, ℕ, zero, suc, ◌+◌, ◌-◌, ◌*◌, ◌^◌, ◌<◌, ◌≤◌, min, max, Bool, true, false, cond, List, [], ◌∷◌, ◌++◌, length, set, refl, sym, subst, ◌∙◌, ap, arith, inl, inr, nat_lt, Option}
use lib.Dec.{T, lt→ltb, ltb→lt}
use Rattle.std.proofs.lemmas.Bool.{cases_lt}
use Rattle.std.proofs.lemmas.List.{append-nil, length-map, map-set, get_or-set_other}
use Rattle.std.proofs.lemmas.List.Sums.{sum_by-cons, sum_by-set}
use Rattle.std.proofs.lemmas.Grind.{get_or-set_at}
use Rattle.sqlite_disk.specs.Disk.{Torn, Cut}
use Rattle.dq_base.specs.declared.images.Image.{Image}
use Rattle.dq_base.specs.declared.pages.NumberedPage.{NumberedPage}
use Rattle.dq_base.specs.Changes.{changed_page, changed_from}
use Rattle.sqlite_files.specs.Pairs.{piece_of, page_of}
use Rattle.sqlite_files.specs.Recording.{stamp_at, since, is_touched, touched_count, Touches, StampsPages, IsRecorded, PastFile, IsSince}
use Rattle.sqlite_files.proofs.TouchedPages.{recorded_torn, recorded_cut, grown_recorded}
use Rattle.sqlite_files.proofs.TakenPages.{main_page_same, side_page_same, same_is_unlisted, changed_two_more}
use Rattle.sqlite_files.proofs.ComparedPages.{main_page, side_page}

-- ---- one number below another, as a test

below_true : (a b : ℕ) → a < b → nat_lt a b ≡ true
below_true a b lt = is (nat_lt a b) (lt→ltb a b lt)
  where
    is : (c : Bool) → T c → c ≡ true
    is true t = refl
    is false t = absurd t

below_false : (a b : ℕ) → nat_lt a b ≡ false → b ≤ a
below_false a b e = elim (cases_lt a b) [
  | inl lt ↦ absurd (subst T e (lt→ltb a b lt))
  | inr le ↦ le
]

above_false : (a b : ℕ) → b ≤ a → nat_lt a b ≡ false
above_false a b le = no (nat_lt a b) (λ t. omega (arith, ltb→lt a b t))
  where
    no : (c : Bool) → (T c → ⊥) → c ≡ false
    no true f = absurd (f tt)
    no false f = refl

-- ---- the pages that were touched after a call, by their stamps

pub since_is : (mark page : ℕ) (stamps : List ℕ) → is_touched (since mark stamps) page ≡ nat_lt mark (stamp_at stamps page)
since_is mark page [] = sym (above_false mark 0 (omega arith))
since_is mark zero (stamp ∷ stamps) = refl
since_is mark (suc page) (stamp ∷ stamps) = since_is mark page stamps

-- a page past the last stamp was never touched
pub past_is_clean : (mark page : ℕ) (stamps : List ℕ) → length stamps ≤ page → is_touched (since mark stamps) page ≡ false
past_is_clean mark page [] past = refl
past_is_clean mark zero (stamp ∷ stamps) past = absurd (omega (arith, past))
past_is_clean mark (suc page) (stamp ∷ stamps) past = past_is_clean mark page stamps (omega (arith, past))

module _ (stamp from to : ℕ) (old new : List ℕ) (noted : StampsPages stamp from to old new) (mark : ℕ) (below : mark < stamp) where
  touches : Touches from to (since mark old) (since mark new)
  touches = record {
    keeps = λ page clean.
        let low : stamp_at new page ≤ mark = below_false mark (stamp_at new page) (sym (since_is mark page new) ∙ clean) in
        since_is mark page old ∙ ap (nat_lt mark) (noted.keeps page (omega arith)) ∙ sym (since_is mark page new) ∙ clean;
    covers = λ page first last. since_is mark page new ∙ ap (nat_lt mark) (noted.covers page first last) ∙ below_true mark stamp below;
  }

-- ---- a call of the disk

-- one call more, also at the last number that there is
module _ (past : PastFile) (file stamps : List ℕ) (writes writes_after : ℕ) (more : writes_after ≡ min (writes + 1) (2 ^ 64 - 1))
    (was : IsSince past file stamps writes) where
  above : past.mark < writes_after
  above = omega (arith, more, was.made, was.low)

  pub since_later : IsSince past file stamps writes_after
  since_later = record { made = omega (arith, above); low = was.low; recorded = was.recorded }

  module _ (new stamps_after : List ℕ) (from to : ℕ) (noted : StampsPages writes_after from to stamps stamps_after) where
    pub since_torn : (at n : ℕ) → from ≡ min at (length file) → to ≡ at + n → Torn at n file new → IsSince past new stamps_after writes_after
    since_torn at n from_is to_is torn = record {
      made = omega (arith, above);
      low = was.low;
      recorded = recorded_torn from to (since past.mark stamps) (since past.mark stamps_after)
          (touches writes_after from to stamps stamps_after noted past.mark above) past.bytes file new at n from_is to_is torn was.recorded;
    }

    pub since_cut : (n : ℕ) → from ≡ min n (length file) → to ≡ max n (length file) → Cut n file new → IsSince past new stamps_after writes_after
    since_cut n from_is to_is cut = record {
      made = omega (arith, above);
      low = was.low;
      recorded = recorded_cut from to (since past.mark stamps) (since past.mark stamps_after)
          (touches writes_after from to stamps stamps_after noted past.mark above) past.bytes file new n from_is to_is cut was.recorded;
    }

-- a file is now what it is now
pub since_now : (file stamps : List ℕ) (writes : ℕ) → writes < 2 ^ 64 - 1 → IsSince (record { bytes = file; mark = writes }) file stamps writes
since_now file stamps writes low = record {
  made = omega arith;
  low = low;
  recorded = record { bytes = λ i clean. refl; reach = λ i clean. (λ h. h, λ h. h) };
}

-- a file whose bytes are those before, and of which no page has a stamp
pub copy_is_since : (before bytes : List ℕ) → before ≡ bytes → IsSince (record { bytes = before; mark = 0 }) bytes [] 0
copy_is_since before bytes same = subst (λ (file : List ℕ). IsSince (record { bytes = before; mark = 0 }) file [] 0) same (since_now before [] 0 (omega arith))

-- a file that was empty before, of which each page was stamped by the first call
pub grown_is_since : (bytes old stamps : List ℕ) → StampsPages 1 0 (length bytes) old stamps → IsSince (record { bytes = []; mark = 0 }) bytes stamps 1
grown_is_since bytes old stamps noted = record {
  made = omega arith;
  low = omega arith;
  recorded = grown_recorded bytes (since 0 old) (since 0 stamps) (touches 1 0 (length bytes) old stamps noted 0 (omega arith));
}

-- ---- stamping one page

pub stamp_keeps : (stamps : List ℕ) (i page stamp : ℕ) → i < length stamps → stamp_at (set stamps i stamp) page < stamp
    → stamp_at stamps page ≡ stamp_at (set stamps i stamp) page
stamp_keeps stamps i page stamp within low =
    elim (cases_lt page i) [
      | inl below ↦ sym (get_or-set_other stamps i page stamp 0 (λ e. omega arith))
      | inr above ↦ elim (cases_lt i page) [
        | inl past ↦ sym (get_or-set_other stamps i page stamp 0 (λ e. omega arith))
        | inr here ↦ let is = get_or-set_at stamps i page stamp 0 (omega arith) within in absurd (omega (arith, is, low))
      ]
    ]

pub stamp_covers : (stamps : List ℕ) (i page stamp : ℕ) → i < length stamps → (page < i → stamp_at stamps page ≡ stamp) → page < i + 1
    → stamp_at (set stamps i stamp) page ≡ stamp
stamp_covers stamps i page stamp within was below =
    elim (cases_lt page i) [
      | inl under ↦ get_or-set_other stamps i page stamp 0 (λ e. omega arith) ∙ was under
      | inr here ↦ get_or-set_at stamps i page stamp 0 (omega arith) within
    ]

at_most_one : (b : Bool) → cond b 1 0 ≤ 1
at_most_one true = omega arith
at_most_one false = omega arith

pub stamp_counts : (stamps : List ℕ) (i stamp : ℕ) → i < length stamps → touched_count (since 0 (set stamps i stamp)) ≤ touched_count (since 0 stamps) + 1
stamp_counts stamps i stamp within =
    let flags : List Bool = since 0 stamps in
    let inside : i < length flags = omega (arith, within, length-map stamps (λ (s : ℕ). nat_lt 0 s)) in
    let counted = sum_by-set (λ (b : Bool). cond b 1 0) flags i (nat_lt 0 stamp) false inside in
    let few : cond (nat_lt 0 stamp) 1 0 ≤ 1 = at_most_one (nat_lt 0 stamp) in
    subst (λ (list : List Bool). touched_count list ≤ touched_count flags + 1) (sym (map-set (λ (s : ℕ). nat_lt 0 s) stamps i stamp))
    (omega (arith, counted, few))

-- files with the same stamps have as many touched pages
abbrev counted : Bool → ℕ
counted b = cond b 1 0

counts_first : (stamp : ℕ) (stamps : List ℕ) → touched_count (since 0 (stamp ∷ stamps)) ≡ counted (nat_lt 0 stamp) + touched_count (since 0 stamps)
counts_first stamp stamps = sum_by-cons counted (nat_lt 0 stamp) (since 0 stamps)

counts_nothing : (stamp : ℕ) → stamp ≡ 0 → counted (nat_lt 0 stamp) ≡ 0
counts_nothing stamp none = ap (λ (s : ℕ). counted (nat_lt 0 s)) none

pub same_counts : (old new : List ℕ) → ((page : ℕ) → stamp_at new page ≡ stamp_at old page) → touched_count (since 0 new) ≡ touched_count (since 0 old)
same_counts [] [] same = refl
same_counts [] (stamp ∷ new) same = omega (arith, counts_first stamp new, counts_nothing stamp (same zero), same_counts [] new (λ page. same (suc page)))
same_counts (stamp ∷ old) [] same = omega (arith, counts_first stamp old, counts_nothing stamp (sym (same zero)), same_counts old [] (λ page. same (suc page)))
same_counts (before ∷ old) (stamp ∷ new) same =
    omega (
      arith,
      counts_first before old,
      counts_first stamp new,
      ap (λ (s : ℕ). counted (nat_lt 0 s)) (same zero),
      same_counts old new (λ page. same (suc page)),
    )

-- up to an end that lies past the last stamp the pages are untouched if those up to the last are
pub clean_to_end : (mark from at last end : ℕ) (stamps : List ℕ) → last ≡ min end (length stamps) → last ≤ at
    → ((page : ℕ) → from ≤ page → page < at → is_touched (since mark stamps) page ≡ false)
    → (page : ℕ) → from ≤ page → page < end → is_touched (since mark stamps) page ≡ false
clean_to_end mark from at last end stamps last_is over so_far page above below = elim (cases_lt page at) [
  | inl before ↦ so_far page above before
  | inr past ↦ past_is_clean mark page stamps (omega (arith, last_is, over, past, below))
]

-- ---- pages that were not touched

pub main_piece_same : (a b : Image) (page : ℕ) (touched : List Bool) → IsRecorded a.main b.main touched → is_touched touched page ≡ false
    → page_of (piece_of a.main page) ≡ page_of (piece_of b.main page)
main_piece_same a b page touched was clean = sym (main_page a page) ∙ main_page_same a b page touched was clean ∙ main_page b page

pub side_piece_same : (a b : Image) (page : ℕ) (touched : List Bool) → IsRecorded a.side b.side touched → is_touched touched page ≡ false
    → page_of (piece_of a.side page) ≡ page_of (piece_of b.side page)
side_piece_same a b page touched was clean = sym (side_page a page) ∙ side_page_same a b page touched was clean ∙ side_page b page

-- a page that is the same isn't listed
pub unlisted : (pages : List NumberedPage) (number : ℕ) (before now : Option (List ℕ)) → before ≡ now → pages ≡ pages ++ changed_page number before now
unlisted pages number before now same = sym (ap (λ (page : Option (List ℕ)). pages ++ changed_page number page now) same ∙ none)
  where
    none : pages ++ changed_page number now now ≡ pages
    none = rw (same_is_unlisted number now, append-nil) refl

-- and none of a stretch is in which no page was touched
module _ (a b : Image) (main side : List Bool) (of_main : IsRecorded a.main b.main main) (of_side : IsRecorded a.side b.side side) (from : ℕ) where
  pub skipped : (n to : ℕ) → from + n ≡ to → ((page : ℕ) → from ≤ page → page < to → is_touched main page ≡ false)
      → ((page : ℕ) → from ≤ page → page < to → is_touched side page ≡ false)
      → changed_from 2 (2 * to) a b ≡ changed_from 2 (2 * from) a b
  skipped zero to is clean_main clean_side = let same : to ≡ from = omega (arith, is) in ap (λ (k : ℕ). changed_from 2 (2 * k) a b) same
  skipped (suc n) to is clean_main clean_side =
      let last : ℕ = from + n in
      let so_far : List NumberedPage = changed_from 2 (2 * last) a b in
      let next : to ≡ last + 1 = omega (arith, is) in
      let main_same = main_page_same a b last main of_main (clean_main last (omega arith) (omega (arith, next))) in
      let side_same = side_page_same a b last side of_side (clean_side last (omega arith) (omega (arith, next))) in
      ap (λ (k : ℕ). changed_from 2 (2 * k) a b) next
      ∙ sym (changed_two_more a b last so_far so_far so_far refl (unlisted so_far _ _ _ main_same) (unlisted so_far _ _ _ side_same))
      ∙ skipped n last refl (λ page above below. clean_main page above (omega (arith, below, next)))
      (λ page above below. clean_side page above (omega (arith, below, next)))
