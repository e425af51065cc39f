-- Frames by the bytes that are compared.
use Rattle.std.proofs.Common.{◌≡◌, ℕ, ◌+◌, ◌*◌, suc, zero, List, [], ◌∷◌, take, drop, sym, refl, ap, ◌∙◌, arith}
use Rattle.std.proofs.lemmas.List.{drop-take}
use Rattle.sqlite_wal.specs.Format.{part, be32, commit_size, content}
use Rattle.sqlite_wal.specs.Recovery.{frames_len, frame_at, frame}
use Rattle.sqlite_wal.proofs.FormatLemmas.{be32-part}
use Rattle.sqlite_facts.specs.Alike.{IsAlikeAt}

-- the frames of 4,120 bytes that begin there have the same count of pages and the same bytes of their page
abbrev pub HaveSameParts : List ℕ → List ℕ → ℕ → Type 0
HaveSameParts one other at = (part one (at + 4) 4 ≡ part other (at + 4) 4) × (part one (at + 24) 4096 ≡ part other (at + 24) 4096)

drop_nil : (n : ℕ) → drop {A = ℕ} n [] ≡ []
drop_nil zero = refl
drop_nil (suc n) = refl

drop_both : (m n : ℕ) (bytes : List ℕ) → drop m (drop n bytes) ≡ drop (n + m) bytes
drop_both m zero bytes = let same : 0 + m ≡ m = omega arith in ap (λ k. drop k bytes) (sym same)
drop_both m (suc n) [] = drop_nil m ∙ sym (drop_nil (suc n + m))
drop_both m (suc n) (byte ∷ bytes) =
    let next : suc n + m ≡ suc (n + m) = omega arith in
    drop_both m n bytes ∙ ap (λ k. drop k (byte ∷ bytes)) (sym next)

place_of : (i : ℕ) → frame_at 4096 i ≡ 32 + i * 4120
unfolding frames_len
place_of i = omega arith

module _ (log : List ℕ) (i at : ℕ) (place : frame_at 4096 i ≡ at) where
  count_there : commit_size (frame 4096 log i) ≡ be32 (part log (at + 4) 4) 0
  count_there =
      let start : at + 4 + 0 ≡ at + 4 = omega arith in
      ap (λ p. commit_size (part log p 4120)) place ∙ be32-part log at 4120 4 (omega arith) ∙ sym (ap (be32 log) start)
      ∙ sym (be32-part log (at + 4) 4 0 (omega arith))

  content_there : content (frame 4096 log i) ≡ part log (at + 24) 4096
  unfolding part
  content_there = ap (λ p. content (part log p 4120)) place ∙ drop-take 24 4096 (drop at log) ∙ ap (take 4096) (drop_both 24 at log)

pub alike_from : (one other : List ℕ) (i : ℕ) → HaveSameParts one other (32 + i * 4120) → IsAlikeAt 4096 one other i
alike_from one other i same =
    let place = place_of i in (
      count_there one i _ place ∙ ap (λ b. be32 b 0) same.0 ∙ sym (count_there other i _ place),
      content_there one i _ place ∙ same.1 ∙ sym (content_there other i _ place),
    )
