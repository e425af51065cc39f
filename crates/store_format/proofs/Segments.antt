-- What is read of the segments is what their files represent.
use Rattle.std.proofs.Common.{◌≡◌, inl, inr, ℕ, suc, ◌-◌, ◌≤◌, Bool, true, false, cond, not, List, [], ◌∷◌, ◌++◌, length, drop, Option, Some, None, refl, sym, ap, ◌∙◌, subst, arith, append_assoc}
use Rattle.std.specs.Prelude.{◌&&◌, ◌||◌, ◌==◌, nat_lt, map, is_some}
use Rattle.std.proofs.lemmas.List.{append-nil, map-append}
use Rattle.std.proofs.lemmas.Bool.{cases_Bool, cond-true, cond-false, lt-ltb, ne_eqb, eq-eqb}
use Rattle.store_laws.specs.Names.{NodeFiles}
use Rattle.store_laws.specs.Store.{Format, Log, empty_log, log_of, opens, reader, batches_in, torn, is_whole, is_empty, has_any, all_batches}
use Rattle.store_laws.specs.Damage.{Numbered, numbered, first_damage, good_end}
use Rattle.store_laws.proofs.Logs.{log_append}
use Rattle.store_laws.specs.Chance.{Lawful}
use Rattle.store_laws.proofs.Folders.{all_append, all_one}
use Rattle.store_laws.proofs.Damages.{bytes_of, same_segments, damage_places}
use Rattle.store_format.specs.declared.segment_log.Damage.{Damage}
use Rattle.store_format.specs.declared.segment_log.LastSegment.{LastSegment}
use Rattle.store_format.specs.BatchesTaken.{InLog}
use Rattle.store_format.specs.SegmentLog.{SegmentsRead, none_read, reads_whole, damage_before, last_of, with_segment, all_read, place_of, last_in, IsRead, SegmentsAreRead}

-- ---- one segment more, as the code has it

pub taken : (f : Format) (n : ℕ) (bytes : List ℕ) (s : SegmentsRead) (log : Log) (good : ℕ) → InLog f bytes s.log log good
    → record { log = log; any = s.any || nat_lt 8 good; damage = damage_before s.damage s.last; last = Some (record { number = n; size = length bytes; good = good }) } ≡ with_segment f (record { number = n; bytes = bytes }) s
unfolding with_segment
taken f n bytes s log good t = λ i. record {
  log = t.log i;
  any = s.any || t.any i;
  damage = damage_before s.damage s.last;
  last = Some (record { number = n; size = length bytes; good = t.good i });
}

-- ---- whole segments

whole_is : (f : Format) → Lawful f → (x : Numbered) → is_whole f x.bytes ≡ reads_whole (last_of f x)
unfolding is_whole good_end
whole_is f law x = which (opens f x.bytes) refl
  where
    left : List ℕ
    left = torn (reader f x.bytes) (length x.bytes) (drop 8 x.bytes)

    ends : (l : List ℕ) → 8 ≤ length x.bytes → is_empty l ≡ (nat_lt 0 (length x.bytes - length l) && (length x.bytes - length l == length x.bytes))
    ends [] long = sym (λ i. lt-ltb 0 (length x.bytes - 0) (omega (arith, long)) i && eq-eqb (length x.bytes - 0) (length x.bytes) (omega arith) i)
    ends (y ∷ ys) long =
        let other : (length x.bytes - suc (length ys) == length x.bytes) ≡ false = ne_eqb (length x.bytes - suc (length ys)) (length x.bytes) (λ q. absurd (omega (arith, q, long))) in
        sym (ap (λ (b : Bool). nat_lt 0 (length x.bytes - suc (length ys)) && b) other ∙ no_second (nat_lt 0 (length x.bytes - suc (length ys))))
      where
        no_second : (b : Bool) → (b && false) ≡ false
        no_second true = refl
        no_second false = refl

    which : (o : Bool) → opens f x.bytes ≡ o → (opens f x.bytes && is_empty left) ≡ (nat_lt 0 (cond (opens f x.bytes) (length x.bytes - length left) 0) && (cond (opens f x.bytes) (length x.bytes - length left) 0 == length x.bytes))
    which true o = (λ i. o i && is_empty left) ∙ ends left (law.opens_long x.bytes o) ∙ sym (λ i. nat_lt 0 (cond (o i) (length x.bytes - length left) 0) && (cond (o i) (length x.bytes - length left) 0 == length x.bytes))
    which false o = (λ i. o i && is_empty left) ∙ sym (λ i. nat_lt 0 (cond (o i) (length x.bytes - length left) 0) && (cond (o i) (length x.bytes - length left) 0 == length x.bytes))

-- ---- one more segment

last_push : (f : Format) (xs : List Numbered) (x : Numbered) → last_in f (xs ++ x ∷ []) ≡ Some (last_of f x)
last_push f [] x = refl
last_push f (y ∷ []) x = refl
last_push f (y ∷ z ∷ xs) x = last_push f (z ∷ xs) x

-- the damage before a segment that comes after others
module _ (f : Format) (law : Lawful f) where
  at_last : (x : Numbered) → cond (is_whole f x.bytes) None (Some (x.number, good_end f x.bytes)) ≡ place_of (damage_before None (Some (last_of f x)))
  at_last x = ap (λ (b : Bool). cond b None (Some (x.number, good_end f x.bytes))) (whole_is f law x) ∙ which (reads_whole (last_of f x))
    where
      which : (b : Bool) → cond b None (Some (x.number, good_end f x.bytes)) ≡ place_of (cond b None (Some (record { segment = x.number; at = good_end f x.bytes })))
      which true = refl
      which false = refl

  damage_more : (xs : List Numbered) (y : Numbered) (d : Option Damage) → place_of d ≡ first_damage f xs → place_of (damage_before d (last_in f xs)) ≡ first_damage f (xs ++ y ∷ [])
  unfolding first_damage
  damage_more [] y None e = refl
  damage_more [] y (Some d) e = absurd cc
  damage_more (x ∷ []) y None e = sym (at_last x)
  damage_more (x ∷ []) y (Some d) e = absurd cc
  damage_more (x ∷ z ∷ xs) y d e = elim (cases_Bool (is_whole f x.bytes)) [
    | inl t ↦
        let step : place_of d ≡ first_damage f (z ∷ xs) = e ∙ cond-true _ _ _ t in
        damage_more (z ∷ xs) y d step ∙ sym (cond-true _ _ _ t)
    | inr n ↦
        let here : place_of d ≡ Some (x.number, good_end f x.bytes) = e ∙ cond-false _ _ _ n in
        stays d here ∙ sym (cond-false _ _ _ n)
  ]
    where
      stays : (c : Option Damage) → place_of c ≡ Some (x.number, good_end f x.bytes) → place_of (damage_before c (last_in f (x ∷ z ∷ xs))) ≡ Some (x.number, good_end f x.bytes)
      stays None q = absurd cc
      stays (Some c) q = q

  record Holds (xs : List Numbered) (s : SegmentsRead) : Type 0 where
    log : s.log ≡ log_of empty_log (all_batches f (map bytes_of xs))
    any : s.any ≡ has_any (all_batches f (map bytes_of xs))
    damage : place_of s.damage ≡ first_damage f xs
    last : s.last ≡ last_in f xs

  any_append : (xs ys : List Log) → has_any (xs ++ ys) ≡ (has_any xs || has_any ys)
  any_append [] ys = refl
  any_append (x ∷ xs) ys = refl

  more : (xs : List Numbered) (x : Numbered) (s : SegmentsRead) → Holds xs s → Holds (xs ++ x ∷ []) (with_segment f x s)
  unfolding with_segment
  more xs x s h =
      let all : all_batches f (map bytes_of (xs ++ x ∷ [])) ≡ all_batches f (map bytes_of xs) ++ batches_in f x.bytes = ap (all_batches f) (map-append bytes_of xs (x ∷ [])) ∙ all_append f (map bytes_of xs) (x.bytes ∷ []) ∙ ap (λ (l : List Log). all_batches f (map bytes_of xs) ++ l) (all_one f x.bytes) in
      record {
        log = ap (λ (l : Log). log_of l (batches_in f x.bytes)) h.log ∙ sym (log_append empty_log (all_batches f (map bytes_of xs)) (batches_in f x.bytes)) ∙ ap (log_of empty_log) (sym all);
        any = ap (λ (b : Bool). b || has_any (batches_in f x.bytes)) h.any ∙ sym (any_append (all_batches f (map bytes_of xs)) (batches_in f x.bytes)) ∙ ap has_any (sym all);
        damage = ap (λ (l : Option LastSegment). place_of (damage_before s.damage l)) h.last ∙ damage_more xs x s.damage h.damage;
        last = sym (last_push f xs x);
      }

  all : (ps xs : List Numbered) (s : SegmentsRead) → Holds ps s → Holds (ps ++ xs) (all_read f s xs)
  unfolding all_read
  all ps [] s h = subst (λ (l : List Numbered). Holds l s) (sym (append-nil ps)) h
  all ps (x ∷ xs) s h = subst (λ (l : List Numbered). Holds l (all_read f (with_segment f x s) xs)) (append_assoc ps (x ∷ []) xs) (all (ps ++ x ∷ []) xs (with_segment f x s) (more ps x s h))

  none : Holds [] none_read
  unfolding first_damage all_batches log_of
  none = record { log = refl; any = refl; damage = refl; last = refl }

  some_place : (d : Option Damage) → is_some (place_of d) ≡ is_some d
  some_place None = refl
  some_place (Some d) = refl

  pub is_read : (top : ℕ) (g : NodeFiles) → IsRead f top g (all_read f none_read (numbered top g))
  is_read top g =
      let h = all [] (numbered top g) none_read none in
      let same = same_segments top g in
      record {
        log = h.log ∙ ap (λ (l : List (List ℕ)). log_of empty_log (all_batches f l)) (sym same);
        any = h.any ∙ ap (λ (l : List (List ℕ)). has_any (all_batches f l)) (sym same);
        damage = h.damage;
        sound = (damage_places f top g).sound ∙ ap (λ (o : Option (ℕ × ℕ)). not (is_some o)) (sym h.damage) ∙ ap not (some_place (all_read f none_read (numbered top g)).damage);
        last = h.last;
      }

pub segments_are_read : SegmentsAreRead
segments_are_read f law top g = is_read f law top g
