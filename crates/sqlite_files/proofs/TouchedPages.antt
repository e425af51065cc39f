-- What the calls of a file record.
use Rattle.std.proofs.Common.{◌≡◌, ℕ, ◌+◌, ◌/◌, ◌<◌, ◌≤◌, min, max, Bool, false, List, [], length, sym, ◌∙◌, arith, inl, inr}
use Rattle.std.proofs.lemmas.Bool.{cases_lt}
use Rattle.std.proofs.lemmas.List.{get_or_past}
use Rattle.sqlite_disk.specs.Disk.{Torn, Cut}
use Rattle.dq_base.specs.Images.{pages_of}
use Rattle.sqlite_files.specs.Recording.{is_touched, Touches, IsRecorded}

-- ---- a call of the disk

-- the page of a byte that isn't touched is past the range that was noted, or before it
module _ (from to : ℕ) (touched touched_after : List Bool) (noted : Touches from to touched touched_after) where
  outside : (i : ℕ) → is_touched touched_after (i / 4096) ≡ false → from ≤ i → i < to → ⊥
  outside i clean above below =
      let first : from / 4096 ≤ i / 4096 = omega arith in
      let last : i / 4096 < pages_of to = omega arith in
      let is = noted.covers (i / 4096) first last in
      absurd cc

  pub recorded_torn : (before old new : List ℕ) (at n : ℕ) → from ≡ min at (length old) → to ≡ at + n → Torn at n old new → IsRecorded before old touched → IsRecorded before new touched_after
  recorded_torn before old new at n from_is to_is torn was = record {
    bytes = λ i clean.
        let same = was.bytes i (noted.keeps (i / 4096) clean) in
        elim (cases_lt i to) [
          | inl below ↦ elim (cases_lt i from) [
            | inl under ↦ same ∙ sym (torn.below i (omega arith) (omega arith))
            | inr above ↦ absurd (outside i clean above below)
          ]
          | inr past ↦ elim (cases_lt i (length old)) [
            | inl inside ↦ same ∙ sym (torn.above i inside (omega arith))
            | inr beyond ↦ same ∙ get_or_past old i 0 beyond ∙ sym (get_or_past new i 0 (omega (arith, torn.no_longer)))
          ]
        ];
    reach = λ i clean.
        let same = was.reach i (noted.keeps (i / 4096) clean) in (
          λ inside. (let there : i < length old = same.0 inside in omega (arith, torn.no_shorter)),
          λ inside. elim (cases_lt i (length old)) [
            | inl there ↦ same.1 there
            | inr beyond ↦ elim (cases_lt i to) [
              | inl below ↦ absurd (outside i clean (omega arith) below)
              | inr past ↦ absurd (omega (arith, torn.no_longer))
            ]
          ],
        );
  }

  pub recorded_cut : (before old new : List ℕ) (n : ℕ) → from ≡ min n (length old) → to ≡ max n (length old) → Cut n old new → IsRecorded before old touched → IsRecorded before new touched_after
  recorded_cut before old new n from_is to_is cut was = record {
    bytes = λ i clean.
        let same = was.bytes i (noted.keeps (i / 4096) clean) in
        elim (cases_lt i from) [
          | inl under ↦ same ∙ sym (cut.below i (omega arith) (omega arith))
          | inr above ↦ elim (cases_lt i to) [
            | inl below ↦ absurd (outside i clean above below)
            | inr past ↦ same ∙ get_or_past old i 0 (omega arith) ∙ sym (get_or_past new i 0 (omega (arith, cut.no_longer)))
          ]
        ];
    reach = λ i clean.
        let same = was.reach i (noted.keeps (i / 4096) clean) in
        elim (cases_lt i from) [
          | inl under ↦ (λ inside. omega (arith, cut.no_shorter), λ inside. same.1 (omega arith))
          | inr above ↦ elim (cases_lt i to) [
            | inl below ↦ absurd (outside i clean above below)
            | inr past ↦ (
              λ inside. (let there : i < length old = same.0 inside in absurd (omega arith)),
              λ inside. absurd (omega (arith, cut.no_longer)),
            )
          ]
        ];
  }

-- a file that was empty before, of which each page was noted
pub grown_recorded : (bytes : List ℕ) (old touched : List Bool) → Touches 0 (length bytes) old touched → IsRecorded [] bytes touched
grown_recorded bytes old touched noted = record {
  bytes = λ i clean. sym (get_or_past bytes i 0 (past i clean));
  reach = λ i clean. (λ h. omega (arith, h), λ h. omega (arith, h, past i clean));
}
  where
    past : (i : ℕ) → is_touched touched (i / 4096) ≡ false → length bytes ≤ i
    past i clean = elim (cases_lt i (length bytes)) [
      | inl inside ↦ absurd (let is = noted.covers (i / 4096) (omega arith) (omega arith) in cc)
      | inr beyond ↦ beyond
    ]
