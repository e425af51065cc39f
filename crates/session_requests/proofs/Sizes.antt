-- Sums that might pass 64 bits, and how many bytes the files of a database fill.
use Rattle.std.proofs.Common.{◌≡◌, ℕ, ◌+◌, ◌-◌, ◌<◌, ◌≤◌, ◌^◌, min, List, [], ◌∷◌, ◌++◌, length, take, get_or, Option, Some, None, refl, sym, ap, ◌∙◌, ⊎_elim, arith, codes}
use Rattle.std.specs.Prelude.{nat_lt, sum_by}
use Rattle.std.specs.Option.{option_map}
use Rattle.std.proofs.lemmas.Bool.{cases_lt, lt-ltb, le-ltb}
use Rattle.std.proofs.lemmas.List.{length-append, length-replicate}
use Rattle.std.proofs.lemmas.List.Sums.{sum_by_more}
use Rattle.dq_base.specs.declared.images.Image.{Image}
use Rattle.dq_base.specs.Images.{page_count}
use Rattle.page_store.specs.Store.{newest_image}
use Rattle.database_state.specs.declared.database.Database.{Database}
use Rattle.wire_words.specs.Items.{word, raw, gap, text, blob}
use Rattle.session_spec.specs.Asking.{body_size, files_of}
use Rattle.session_spec.specs.Machine.{base_of}
use Rattle.session_requests.specs.Looking.{padded, files_size}

-- ---- sums

pub sum_capped : {X : Type 0} (f : X → ℕ) (xs : List X) (i : ℕ) (x : X) (n total : ℕ) → i < length xs → x ≡ get_or xs i x → n ≡ f x → total ≡ min (sum_by f (take i xs)) (2 ^ 64 - 1)
    → min (total + n) (2 ^ 64 - 1) ≡ min (sum_by f (take (i + 1) xs)) (2 ^ 64 - 1)
sum_capped {X} f xs i x n total lt is own so_far =
    let more : sum_by f (take (i + 1) xs) ≡ sum_by f (take i xs) + f (get_or xs i x) = sum_by_more f xs i x lt in
    let here : f x ≡ f (get_or xs i x) = ap f is in
    omega arith

pub passes : (own others all : ℕ) → others ≡ min all (2 ^ 64 - 1) → nat_lt 16384 (min (own + others) (2 ^ 64 - 1)) ≡ nat_lt 16384 (own + all)
passes own others all e = ⊎_elim over under (cases_lt 16384 (own + all))
  where
    over : 16384 < own + all → nat_lt 16384 (min (own + others) (2 ^ 64 - 1)) ≡ nat_lt 16384 (own + all)
    over h =
        let l : 16384 < min (own + others) (2 ^ 64 - 1) = omega arith in
        lt-ltb 16384 (min (own + others) (2 ^ 64 - 1)) l ∙ sym (lt-ltb 16384 (own + all) h)

    under : own + all ≤ 16384 → nat_lt 16384 (min (own + others) (2 ^ 64 - 1)) ≡ nat_lt 16384 (own + all)
    under h =
        let l : min (own + others) (2 ^ 64 - 1) ≤ 16384 = omega arith in
        le-ltb 16384 (min (own + others) (2 ^ 64 - 1)) l ∙ sym (le-ltb 16384 (own + all) h)

-- ---- the newest image

pub pages_known : (o : Option Database) (pages : ℕ) → option_map (λ (d : Database). page_count (newest_image d.store)) o ≡ Some pages → page_count (base_of o).image ≡ pages
pages_known None pages e = (cc)
pages_known (Some d) pages e = (cc)

pub pages_unknown : (o : Option Database) → option_map (λ (d : Database). page_count (newest_image d.store)) o ≡ None → page_count (base_of o).image ≡ 1
pages_unknown None e = refl
pages_unknown (Some d) e = (cc)

-- ---- the files of a database

joined : (xs ys : List ℕ) (m n : ℕ) → length xs ≡ m → length ys ≡ n → length (xs ++ ys) ≡ m + n
joined xs ys m n a b = length-append xs ys ∙ (ap (λ (k : ℕ). k + length ys) a ∙ ap (λ (k : ℕ). m + k) b)

raw_length : (bytes : List ℕ) → length (raw bytes) ≡ padded (length bytes)
raw_length bytes =
    let e : length (raw bytes) ≡ length bytes + gap (length bytes) = length-append bytes _ ∙ ap (λ (n : ℕ). length bytes + n) (length-replicate (gap (length bytes)) 0) in
    omega arith

text_length : (t : List ℕ) → length (text t) ≡ padded (length t + 1)
text_length t = raw_length (t ++ 0 ∷ []) ∙ ap padded (length-append t (0 ∷ []))

blob_length : (bytes : List ℕ) → length (blob bytes) ≡ 8 + padded (length bytes)
blob_length bytes = joined (word (length bytes)) (raw bytes) 8 (padded (length bytes)) refl (raw_length bytes)

regroup : (a b c d : ℕ) → 8 + (a + ((8 + b) + (c + ((8 + d) + 0)))) ≡ 8 + (a + (8 + b)) + (c + (8 + d))
regroup a b c d = omega arith

side_length : (name : List ℕ) → length (name ++ codes "-side") + 1 ≡ length name + 6
side_length name = ap (λ (n : ℕ). n + 1) (length-append name (codes "-side")) ∙ (omega arith)

pub files_length : (name : List ℕ) (image : Image) → body_size (files_of name image) ≡ files_size (length name) (length image.main) (length image.side)
files_length name image =
    let last : length (blob image.side ++ []) ≡ (8 + padded (length image.side)) + 0 = joined (blob image.side) [] _ 0 (blob_length image.side) refl in
    let third : length (text (name ++ codes "-side") ++ (blob image.side ++ [])) ≡ padded (length name + 6) + ((8 + padded (length image.side)) + 0) = joined (text (name ++ codes "-side")) (blob image.side ++ []) _ _ (text_length (name ++ codes "-side") ∙ ap padded (side_length name)) last in
    let second : length (blob image.main ++ (text (name ++ codes "-side") ++ (blob image.side ++ []))) ≡ (8 + padded (length image.main)) + (padded (length name + 6) + ((8 + padded (length image.side)) + 0)) = joined (blob image.main) (text (name ++ codes "-side") ++ (blob image.side ++ [])) _ _ (blob_length image.main) third in
    let first : length (text name ++ (blob image.main ++ (text (name ++ codes "-side") ++ (blob image.side ++ [])))) ≡ padded (length name + 1) + ((8 + padded (length image.main)) + (padded (length name + 6) + ((8 + padded (length image.side)) + 0))) = joined (text name) (blob image.main ++ (text (name ++ codes "-side") ++ (blob image.side ++ []))) _ _ (text_length name) second in
    joined (word 2) (text name ++ (blob image.main ++ (text (name ++ codes "-side") ++ (blob image.side ++ [])))) 8 _ refl first
    ∙ regroup (padded (length name + 1)) (padded (length image.main)) (padded (length name + 6)) (padded (length image.side))
