-- The run through the batches of one segment.
use Rattle.std.proofs.Common.{◌≡◌, ◌≢◌, ℕ, zero, suc, ◌+◌, ◌-◌, ◌≤◌, ◌<◌, true, false, cond, List, [], ◌∷◌, ◌++◌, length, drop, refl, sym, ap, ◌∙◌, subst, arith, append_assoc, length-drop}
use Rattle.std.specs.Prelude.{nat_lt, Option, Some, None, MatchOption, Result, Ok, Err, IfOk}
use Rattle.std.proofs.lemmas.List.{append-nil}
use Rattle.std.proofs.lemmas.Bool.{cond-true, cond-false, lt-ltb}
use Rattle.std.specs.declared.alloc.AllocError.{AllocError}
use Rattle.store_format.specs.Words.{format_in}
use Rattle.store_format.specs.Batches.{batch_in, read_of_found}
use Rattle.store_format.specs.NodeFormat.{node_format}
use Rattle.store_format.proofs.BatchesLawful.{is_lawful}
use Rattle.store_format.specs.declared.batch_reading.FoundBatch.{FoundBatch}
use Rattle.store_laws.specs.Store.{Format, Reader, Read, Log, put_batch, log_of, batches, torn, opens, reader, batches_in, has_any}
use Rattle.store_laws.specs.Chance.{LawfulReader}
use Rattle.store_laws.specs.Damage.{good_end}
use Rattle.store_laws.proofs.Fronts.{stop_batches, stop_torn, go_torn, not_zero}
use Rattle.store_laws.proofs.Logs.{log_push}
use Rattle.store_format.specs.BatchesTaken.{Steps, ReadsAll, InLog}

-- what is found, by cases
pub found_or_none : (r : Result (Option FoundBatch) AllocError) (x : Read) → IfOk r (λ f. read_of_found f ≡ x) → IfOk r (λ f. MatchOption f (Unit {0}) (λ b. 0 < b.size))
    → IfOk r (λ f. MatchOption f (x.size ≡ 0) (λ b. (x ≡ record { batch = record { first = b.first; entries = b.entries }; size = b.size }) × (0 < b.size)))
found_or_none (Err e) x is some = tt
found_or_none (Ok None) x is some = sym (ap (λ (r : Read). r.size) is)
found_or_none (Ok (Some b)) x is some = (sym is, some)

go_batches : (rd : Reader) (n : ℕ) (ys : List ℕ) → (rd ys).size ≢ 0 → batches rd (suc n) ys ≡ (rd ys).batch ∷ batches rd n (drop (rd ys).size ys)
unfolding batches
go_batches rd n ys ne = cond-false _ _ _ (not_zero _ ne)

any_push : (bs : List Log) (b : Log) → has_any (bs ++ b ∷ []) ≡ true
any_push [] b = refl
any_push (x ∷ bs) b = refl

-- so far these batches were taken, up to a place
pub record Came (rd : Reader) (bytes : List ℕ) (old new : Log) (place : ℕ) : Type 0 where
  pub fuel : ℕ
  pub gone : List Log
  pub enough : length (drop place bytes) ≤ fuel
  pub log : new ≡ log_of old gone
  pub any : nat_lt 8 place ≡ has_any gone
  pub split : batches rd (length bytes) (drop 8 bytes) ≡ gone ++ batches rd fuel (drop place bytes)
  pub tail : torn rd (length bytes) (drop 8 bytes) ≡ torn rd fuel (drop place bytes)
  pub from : 8 ≤ place
  pub within : place ≤ length bytes

pub came_none : (rd : Reader) (bytes : List ℕ) (old : Log) → 8 ≤ length bytes → Came rd bytes old old 8
unfolding log_of
came_none rd bytes old long = record {
  fuel = length bytes;
  gone = [];
  enough = let k : length (drop 8 bytes) ≡ length bytes - 8 = length-drop 8 bytes in omega (arith, k);
  log = refl;
  any = refl;
  split = refl;
  tail = refl;
  from = omega arith;
  within = long;
}

module _ (rd : Reader) (law : LawfulReader rd) (bytes : List ℕ) (old : Log) where
  push : (place after : ℕ) (l new : Log) (fuel : ℕ) (gone : List Log) → length (drop place bytes) ≤ fuel → l ≡ log_of old gone
      → batches rd (length bytes) (drop 8 bytes) ≡ gone ++ batches rd fuel (drop place bytes) → torn rd (length bytes) (drop 8 bytes) ≡ torn rd fuel (drop place bytes)
      → 8 ≤ place → place ≤ length bytes → Steps rd bytes place after l new true → Came rd bytes old new after
  push place after l new zero gone enough log split tail from within (some, (at, is)) =
      let size : (rd (drop place bytes)).size ≤ length (drop place bytes) = law.size_within (drop place bytes) in
      absurd (omega (arith, size, some, enough))
  push place after l new (suc m) gone enough log split tail from within (some, (at, is)) =
      let s = (rd (drop place bytes)).size in
      let size : s ≤ length (drop place bytes) = law.size_within (drop place bytes) in
      let left : length (drop place bytes) ≡ length bytes - place = length-drop place bytes in
      let there : drop s (drop place bytes) ≡ drop after bytes = drop_both s place bytes after at in
      let rest : length (drop after bytes) ≡ length bytes - after = length-drop after bytes in
      let ne : s ≢ 0 = λ z. absurd (omega (arith, z, some)) in
      record {
        fuel = m;
        gone = gone ++ (rd (drop place bytes)).batch ∷ [];
        enough = omega (arith, rest, left, enough, at, some);
        log = is ∙ ap (λ (x : Log). put_batch x (rd (drop place bytes)).batch) log ∙ sym (log_push old gone (rd (drop place bytes)).batch);
        any = lt-ltb 8 after (omega (arith, at, some, from)) ∙ sym (any_push gone (rd (drop place bytes)).batch);
        split =
            split
            ∙ ap (λ (x : List Log). gone ++ x) (go_batches rd m (drop place bytes) ne ∙ ap (λ (y : List ℕ). (rd (drop place bytes)).batch ∷ batches rd m y) there)
            ∙ sym (append_assoc gone ((rd (drop place bytes)).batch ∷ []) (batches rd m (drop after bytes)));
        tail = tail ∙ go_torn rd m (drop place bytes) ne ∙ ap (torn rd m) there;
        from = omega (arith, at, from);
        within = omega (arith, at, size, left, within);
      }
    where
      drop_nil : (n : ℕ) → drop {A = ℕ} n [] ≡ []
      drop_nil zero = refl
      drop_nil (suc n) = refl

      drop_both : (s p : ℕ) (xs : List ℕ) (n : ℕ) → n ≡ p + s → drop s (drop p xs) ≡ drop n xs
      drop_both s zero xs n e = let z : s ≡ n = omega (arith, e) in ap (λ (k : ℕ). drop k xs) z
      drop_both s (suc p) [] n e = drop_nil s ∙ sym (drop_nil n)
      drop_both s (suc p) (x ∷ xs) zero e = absurd (omega (arith, e))
      drop_both s (suc p) (x ∷ xs) (suc n) e = drop_both s p xs n (omega (arith, e))

  pub came_more : (place after : ℕ) (l new : Log) → Came rd bytes old l place → Steps rd bytes place after l new true → Came rd bytes old new after
  came_more place after l new c s = push place after l new c.fuel c.gone c.enough c.log c.split c.tail c.from c.within s

  pub came_all : (place after : ℕ) (l new : Log) → Came rd bytes old l place → Steps rd bytes place after l new false → ReadsAll rd bytes old new after
  came_all place after l new c (none, (at, is)) =
      let stops : batches rd c.fuel (drop place bytes) ≡ [] = stop_batches rd c.fuel (drop place bytes) none in
      let all : batches rd (length bytes) (drop 8 bytes) ≡ c.gone = c.split ∙ ap (λ (x : List Log). c.gone ++ x) stops ∙ append-nil c.gone in
      record {
        log = is ∙ c.log ∙ ap (log_of old) (sym all);
        any = ap (nat_lt 8) at ∙ c.any ∙ ap has_any (sym all);
        torn = c.tail ∙ stop_torn rd c.fuel (drop place bytes) none ∙ ap (λ (n : ℕ). drop n bytes) (sym at);
        from = omega (arith, at, c.from);
        within = omega (arith, at, c.within);
      }

-- how many bytes a batch has that was found
pub found_size : (o : Option FoundBatch) (b : FoundBatch) (y : Read) → MatchOption o (y.size ≡ 0) (λ c. (y ≡ record { batch = record { first = c.first; entries = c.entries }; size = c.size }) × (0 < c.size)) → o ≡ Some b → y.size ≡ b.size
found_size None b y m e = absurd cc
found_size (Some c) b y m e = let z : c ≡ b = cc in ap (λ (r : Read). r.size) m.0 ∙ ap (λ (x : FoundBatch). x.size) z

-- a segment whose first word says a format, and one whose doesn't
pub opened : (f : Format) (bytes : List ℕ) (old new : Log) (end : ℕ) → opens f bytes ≡ true → ReadsAll (reader f bytes) bytes old new end → InLog f bytes old new end
unfolding batches_in good_end
opened f bytes old new end o r =
    let all : cond (opens f bytes) (batches (reader f bytes) (length bytes) (drop 8 bytes)) [] ≡ batches (reader f bytes) (length bytes) (drop 8 bytes) = cond-true _ _ _ o in
    let long : length (torn (reader f bytes) (length bytes) (drop 8 bytes)) ≡ length bytes - end = ap length r.torn ∙ length-drop end bytes in
    record {
      log = r.log ∙ ap (log_of old) (sym all);
      any = r.any ∙ ap has_any (sym all);
      good = omega (arith, long, r.within) ∙ sym (cond-true (opens f bytes) (length bytes - length (torn (reader f bytes) (length bytes) (drop 8 bytes))) 0 o);
    }

pub closed : (f : Format) (bytes : List ℕ) (old : Log) → opens f bytes ≡ false → InLog f bytes old old 0
unfolding batches_in good_end log_of
closed f bytes old o =
    let none : cond (opens f bytes) (batches (reader f bytes) (length bytes) (drop 8 bytes)) [] ≡ [] = cond-false _ _ _ o in
    record {
      log = ap (log_of old) (sym none);
      any = ap has_any (sym none);
      good = sym (cond-false (opens f bytes) (length bytes - length (torn (reader f bytes) (length bytes) (drop 8 bytes))) 0 o);
    }

-- the same by the format that the code found
pub no_format : (bytes : List ℕ) (old : Log) (n : ℕ) → n ≡ format_in bytes → n ≡ 0 → InLog node_format bytes old old 0
no_format bytes old n e z = closed node_format bytes old (ap (nat_lt 0) (sym e ∙ z))

opens_by : (bytes : List ℕ) (n : ℕ) → n ≡ format_in bytes → n ≢ 0 → opens node_format bytes ≡ true
opens_by bytes n e some = ap (nat_lt 0) (sym e) ∙ lt-ltb 0 n (omega (arith, some))

pub format_long : (bytes : List ℕ) (n : ℕ) → n ≡ format_in bytes → n ≢ 0 → 8 ≤ length bytes
format_long bytes n e some = is_lawful.opens_long bytes (opens_by bytes n e some)

pub in_log : {E : Type 0} (bytes : List ℕ) (old new : Log) (n : ℕ) (r : Result ℕ E) → n ≡ format_in bytes → n ≢ 0 → IfOk r (λ end. ReadsAll (batch_in n) bytes old new end) → IfOk r (λ end. InLog node_format bytes old new end)
in_log bytes old new n (Ok end) e some reads = opened node_format bytes old new end (opens_by bytes n e some) (subst (λ (k : ℕ). ReadsAll (batch_in k) bytes old new end) e reads)
in_log bytes old new n (Err x) e some reads = tt
