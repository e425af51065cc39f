-- The newer of two metadata, if one may be torn or new.
use Rattle.std.proofs.Common.{◌≡◌, ◌≢◌, ◌⊎◌, inl, inr, ℕ, suc, ◌%◌, ◌≤◌, ◌<◌, sym, ap, ◌∙◌, arith}
use Rattle.std.specs.Prelude.{◌==◌, nat_lt}
use Rattle.std.proofs.lemmas.Bool.{cases_Bool, cond-true, cond-false, cases_eq, cases_lt, eqb-true, eqb-false, ltb-true, ltb-false}
use Rattle.store_laws.specs.Store.{Meta, no_meta, newest}
use Rattle.store_laws.specs.Meta.{next_stamp}
use Rattle.store_laws.proofs.Metas.{Three, none, before, after}

pub newest_left : (a b : Meta) → b.stamp ≤ a.stamp → newest a b ≡ a
unfolding newest
newest_left a b h = elim (cases_Bool (nat_lt a.stamp b.stamp)) [
  | inl t ↦ let l : a.stamp < b.stamp = ltb-true _ _ t in absurd (omega arith)
  | inr n ↦ cond-false _ b a n
]

pub newest_right : (a b : Meta) → a.stamp < b.stamp → newest a b ≡ b
unfolding newest
newest_right a b h = elim (cases_Bool (nat_lt a.stamp b.stamp)) [
  | inl t ↦ cond-true _ b a t
  | inr n ↦ let l : b.stamp ≤ a.stamp = ltb-false _ _ n in absurd (omega arith)
]

-- the stamp that comes next: what is in the file that it goes to isn't the newest
pub record Order (old other t : ℕ) : Type 0 where
  pub not_newest : old ≤ other
  pub newer : other < t
  pub apart : old ≡ other → other ≡ 0

next_of : (m : Meta) → (m.stamp ≡ 0 × (next_stamp m ≡ 2)) ⊎ (m.stamp ≢ 0 × (next_stamp m ≡ suc m.stamp))
next_of m = elim (cases_Bool (m.stamp == 0)) [
  | inl t ↦ inl (eqb-true _ _ t, cond-true _ _ _ t)
  | inr n ↦ inr (eqb-false _ _ n, cond-false _ _ _ n)
]

stamps : (a b : Meta) → ((newest a b).stamp ≡ a.stamp × (b.stamp ≤ a.stamp)) ⊎ ((newest a b).stamp ≡ b.stamp × (a.stamp < b.stamp))
stamps a b = elim (cases_lt a.stamp b.stamp) [
  | inl l ↦ inr (ap (λ (m : Meta). m.stamp) (newest_right a b l), l)
  | inr l ↦ inl (ap (λ (m : Meta). m.stamp) (newest_left a b l), l)
]

-- a b even and odd
pub first_order : (a b : Meta) → a.stamp % 2 ≡ 0 → (b.stamp ≢ 0 → b.stamp % 2 ≡ 1) → next_stamp (newest a b) % 2 ≡ 0 → Order a.stamp b.stamp (next_stamp (newest a b))
first_order a b ea ob et = elim (cases_eq b.stamp 0) [
  | inl z ↦ elim (stamps a b) [
    | inl (s, l) ↦ elim (next_of (newest a b)) [
      | inl (p, q) ↦ record { not_newest = omega arith; newer = omega arith; apart = λ e. z }
      | inr (p, q) ↦ absurd (omega arith)
    ]
    | inr (s, l) ↦ absurd (omega arith)
  ]
  | inr nz ↦
      let o : b.stamp % 2 ≡ 1 = ob nz in
      elim (stamps a b) [
        | inl (s, l) ↦ elim (next_of (newest a b)) [
          | inl (p, q) ↦ absurd (omega arith)
          | inr (p, q) ↦ absurd (omega arith)
        ]
        | inr (s, l) ↦ elim (next_of (newest a b)) [
          | inl (p, q) ↦ absurd (omega arith)
          | inr (p, q) ↦ record { not_newest = omega arith; newer = omega arith; apart = λ e. absurd (omega arith) }
        ]
      ]
]

pub second_order : (a b : Meta) → a.stamp % 2 ≡ 0 → (b.stamp ≢ 0 → b.stamp % 2 ≡ 1) → (next_stamp (newest a b) % 2 ≡ 0 → ⊥) → Order b.stamp a.stamp (next_stamp (newest a b))
second_order a b ea ob nt = elim (next_of (newest a b)) [
  | inl (p, q) ↦ absurd (nt (ap (λ (n : ℕ). n % 2) q))
  | inr (p, q) ↦ elim (stamps a b) [
    | inl (s, l) ↦ record { not_newest = l; newer = omega arith; apart = λ e. elim (cases_eq b.stamp 0) [ inl z ↦ omega arith | inr nz ↦ let o : b.stamp % 2 ≡ 1 = ob nz in absurd (omega (arith, ap (λ (n : ℕ). n % 2) e)) ] }
    | inr (s, l) ↦ elim (cases_eq b.stamp 0) [
      | inl z ↦ absurd (omega arith)
      | inr nz ↦ let o : b.stamp % 2 ≡ 1 = ob nz in absurd (nt (even_next (next_stamp (newest a b)) b.stamp o (q ∙ ap suc s)))
    ]
  ]
]
  where
    even_next : (t b : ℕ) → b % 2 ≡ 1 → t ≡ suc b → t % 2 ≡ 0
    even_next t b o e = omega arith

abbrev Two : Meta → Meta → Meta → Type 0
Two m old new = (m ≡ old) ⊎ (m ≡ new)

pub as_first : (x old new o : Meta) → Order old.stamp o.stamp new.stamp → (old.stamp ≡ 0 → old ≡ no_meta) → (o.stamp ≡ 0 → o ≡ no_meta) → Three x old new → Two (newest x o) (newest old o) new
as_first x old new o ord zo zz (before e) = inl (ap (λ (m : Meta). newest m o) e)
as_first x old new o ord zo zz (after e) = inr (ap (λ (m : Meta). newest m o) e ∙ newest_left new o (omega (arith, ord.newer)))
as_first x old new o ord zo zz (none e) = elim (cases_eq o.stamp 0) [
  | inl z ↦
      let y : old.stamp ≡ 0 = omega (arith, ord.not_newest) in
      inl (ap (λ (m : Meta). newest m o) (e ∙ sym (zo y)))
  | inr nz ↦
      let l : old.stamp < o.stamp = elim (cases_eq old.stamp o.stamp) [ inl s ↦ absurd (nz (ord.apart s)) | inr s ↦ omega (arith, ord.not_newest) ] in
      inl (ap (λ (m : Meta). newest m o) e ∙ newest_right no_meta o (omega arith) ∙ sym (newest_right old o l))
]

pub as_second : (x old new o : Meta) → Order old.stamp o.stamp new.stamp → Three x old new → Two (newest o x) (newest o old) new
as_second x old new o ord (before e) = inl (ap (newest o) e)
as_second x old new o ord (after e) = inr (ap (newest o) e ∙ newest_right o new ord.newer)
as_second x old new o ord (none e) = inl (ap (newest o) e ∙ newest_left o no_meta (omega arith) ∙ sym (newest_left o old ord.not_newest))
