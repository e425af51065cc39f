-- The order of pairs of a page number and a place.
use Rattle.std.proofs.Common.{◌≡◌, ℕ, ◌<◌, ◌⊎◌, true, false, refl, sym, ap, ◌∙◌, inl, inr}
use Rattle.std.specs.declared.cmp.Ordering.{Ordering}
use Rattle.std.specs.declared.cmp.Ordering.TheVariants.{Less, Equal, Greater}
use Rattle.std.specs.Ordering.{nat_cmp, ordering_then, is_eq, is_lt}
use Rattle.std.specs.Cmp.{ranked, nat_cmp_is, Equal-is}
use Rattle.std.proofs.lemmas.Map.Lookups.{exact_unsigned, exact_pairs}
use Rattle.std.proofs.lemmas.Bool.{false≢true}
use Rattle.page_store.specs.Places.{pair_cmp}

nat_below : (a b : ℕ) → a < b → nat_cmp a b ≡ Less
nat_below a b h = sym (nat_cmp_is a b Less h)

nat_same : (a : ℕ) → nat_cmp a a ≡ Equal
nat_same a = sym (nat_cmp_is a a Equal refl)

-- a pair is at itself, and a pair at which a query is, is the query
pub pair_same : (a : ℕ × ℕ) → is_eq (pair_cmp a a) ≡ true
pair_same a = ap (λ (r : Ordering). is_eq (ordering_then r (nat_cmp a.1 a.1))) (nat_same a.0) ∙ ap is_eq (nat_same a.1)

pub pair_is : (a b : ℕ × ℕ) → is_eq (pair_cmp a b) ≡ true → a ≡ b
pair_is a b e = exact_pairs nat_cmp nat_cmp exact_unsigned exact_unsigned a b ((Equal-is (pair_cmp a b)).0 e)

-- lower numbers first, and at one number lower places
pub below_number : (a b p q : ℕ) → a < b → pair_cmp (a, p) (b, q) ≡ Less
below_number a b p q h = ap (λ (r : Ordering). ordering_then r (nat_cmp p q)) (nat_below a b h)

pub below_place : (a p q : ℕ) → p < q → pair_cmp (a, p) (a, q) ≡ Less
below_place a p q h = ap (λ (r : Ordering). ordering_then r (nat_cmp p q)) (nat_same a) ∙ nat_below p q h

pub below_is : (a b p q : ℕ) → pair_cmp (a, p) (b, q) ≡ Less → (a < b) ⊎ ((a ≡ b) × (p < q))
below_is a b p q e =
    elim (nat_cmp a b) as (λ r. r ≡ nat_cmp a b → ordering_then r (nat_cmp p q) ≡ Less → (a < b) ⊎ ((a ≡ b) × (p < q))) [
      | Less ↦ λ is h. inl (ranked a b Less is)
      | Equal ↦ λ is h. inr (ranked a b Equal is, ranked p q Less (sym h))
      | Greater ↦ λ is h. absurd (false≢true (ap is_lt h))
    ] refl e

-- no pair that the greatest is not below lies above it
pub place_up_to : (a p q : ℕ) → is_lt (pair_cmp (a, p) (a, q)) ≡ false → p < q → ⊥
place_up_to a p q e h = false≢true (sym e ∙ ap is_lt (below_place a p q h))
