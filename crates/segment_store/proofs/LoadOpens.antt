-- From the calls of a load to the store that is open.
use Rattle.std.proofs.Common.{◌≡◌, ℕ, suc, ◌^◌, ◌<◌, Bool, true, false, cond, List, [], ◌∷◌, ◌++◌, Option, Some, None, Result, Ok, Err, inl, inr, refl, sym, ap, ◌∙◌, subst}
use Rattle.disk_model.specs.Disk.{Disk}
use Rattle.disk_model.specs.Calls.{Call, Done, Until}
use Rattle.disk_model.specs.Spelled.{all_spelled}
use Rattle.disk_model.specs.Trait.{Text, Known, told}
use Rattle.store_laws.specs.Names.{Segment}
use Rattle.store_laws.specs.Meta.{next_stamp}
use Rattle.store_laws.specs.WholeLoad.{is_stale}
use Rattle.store_format.specs.declared.segment_log.LastSegment.{LastSegment}
use Rattle.store_format.specs.FilesRead.{FilesRead, kept_by}
use Rattle.segment_store.specs.declared.fault.StoreFault.{StoreFault}
use Rattle.segment_store.specs.FileNames.{file_name}
use Rattle.segment_store.specs.Grow.{IsFree}
use Rattle.segment_store.specs.Keeps.{folder, HasNew, Went}
use Rattle.segment_store.specs.Listed.{FolderList}
use Rattle.segment_store.specs.Loading.{StaysSeen}
use Rattle.segment_store.specs.Open.{Open}
use Rattle.segment_store.specs.Repairs.{last_number}
use Rattle.segment_store.specs.Settling.{front_calls, emptying_calls, left_after, Empties, Settles}
use Rattle.segment_store.proofs.LoadSettles.{front_fails, front_stops, front_opens, number_free, empty_fails, empty_opens}

-- whether the log is to be emptied, by what the code found
pub fresh_is : (b : Bool) (x : ℕ) → None ≡ cond b (Some x) None → b ≡ false
fresh_is true x e = absurd cc
fresh_is false x e = refl

pub stale_by : (b : Bool) (x y : ℕ) → Some y ≡ cond b (Some x) None → (b ≡ true) × (y ≡ x)
stale_by true x y e = (refl, cc)
stale_by false x y e = absurd cc

module _ (l : FolderList) (r : FilesRead) (first second : Option ℕ) (fits : r.segments.log.first < 2 ^ 64) (last : Option LastSegment) (is_last : last ≡ r.segments.last) where
  abbrev calls : List (Call Text)
  calls = all_spelled file_name (front_calls l last)

  by_last : (before after : Disk Text → Type 0) (result : Result (Unit {0}) StoreFault) → Went calls before after result → Went (all_spelled file_name (front_calls l r.segments.last)) before after result
  by_last before after result went = subst (λ (x : Option LastSegment). Went (all_spelled file_name (front_calls l x)) before after result) is_last went

  -- a sync or the repair failed
  pub settle_fails : (before after : Disk Text → Type 0) (x y : StoreFault) → Went {E = StoreFault} calls before after (Err x) → Settles l r first second before after {E = StoreFault} (Err y)
  settle_fails before after x y went = record {
    each = λ d b seen listed all ok. let z = (by_last before after (Err x) went).each d b in (z.0, (z.1.0, (tt, front_fails l r first second d seen listed all ok fits z.0 z.1.1.1)));
  }

  -- or something after them, without a call
  pub settle_stops : (before after : Disk Text → Type 0) (u : Unit {0}) (y : StoreFault) → Went {E = StoreFault} calls before after (Ok u) → Settles l r first second before after {E = StoreFault} (Err y)
  settle_stops before after u y went = record {
    each = λ d b seen listed all ok. let z = (by_last before after (Ok u) went).each d b in (z.0, (z.1.0, (tt, front_stops l r first second d seen listed all ok fits z.0 z.1.1.0)));
  }

  -- no log is to be emptied
  pub settle_opens : (before after : Disk Text → Type 0) (u : Unit {0}) (version next : ℕ) (s : Open) → Went {E = StoreFault} calls before after (Ok u)
      → next_stamp r.meta ≡ suc (suc version) → is_stale r.snap r.segments.log ≡ false → next ≡ suc (last_number last)
      → s ≡ record { version = version; first = first; second = second; next = next; size = None; segments = left_after last l.segments; snapshots = l.snapshots }
      → Settles l r first second before after {E = StoreFault} (Ok s)
  settle_opens before after u version next s went v fresh n is = record {
    each = λ d b seen listed all ok.
        let z = (by_last before after (Ok u) went).each d b in
        let o = front_opens l r first second d seen listed all ok fits version v fresh z.0 z.1.1.0 in
        (z.0, (z.1.0, (subst (λ (x : Open). HasNew x (kept_by r) (folder z.0)) (sym (is ∙ (λ i. record { version = version; first = first; second = second; next = (n ∙ ap (λ (x : Option LastSegment). suc (last_number x)) is_last) i; size = None; segments = left_after (is_last i) l.segments; snapshots = l.snapshots }))) o, tt)));
  }

  -- the batch that empties it wasn't written, or not whole
  pub empty_breaks : (tells : Bool) (before mid after : Disk Text → Type 0) (u : Unit {0}) (number at : ℕ) (x y : StoreFault) {T : Type 0} → Went {E = StoreFault} calls before mid (Ok u)
      → is_stale r.snap r.segments.log ≡ true → number ≡ suc (last_number last) → at ≡ r.segments.log.first
      → Empties tells number at mid after {T = T} {E = StoreFault} (Err x) → Settles l r first second before after {E = StoreFault} (Err y)
  empty_breaks tells before mid after u number at x y went s n e empties = record {
    each = λ d b seen listed all ok.
        let z = (by_last before mid (Ok u) went).each d b in
        let m : number ≡ suc (last_number r.segments.last) = n ∙ ap (λ (x : Option LastSegment). suc (last_number x)) is_last in
        let free = subst (λ (k : ℕ). IsFree (file_name (Segment k)) z.0) (sym m) (number_free l r first second d seen listed all ok fits z.0 z.1.1.0) in
        let w = empties.each (told z.0 z.1.0 free) z.0 z.1.0 in
        let calls_are : emptying_calls number at ≡ emptying_calls (suc (last_number r.segments.last)) r.segments.log.first = (λ i. emptying_calls (m i) (e i)) in (
          w.0,
          (
            w.1.0,
            (
              tt,
              elim w.1.1.1 [
                | inl (small, until) ↦ empty_fails l r first second d seen listed all ok fits z.0 w.0 (subst (λ (k : ℕ). k < 10000000000000000) m small) s z.1.1.0 (subst (λ (cs : List (Call Text)). Until cs z.0 w.0) calls_are until)
                | inr none ↦ subst (λ (x : Disk Text). StaysSeen (folder d) (folder x)) (sym none) (front_stops l r first second d seen listed all ok fits z.0 z.1.1.0)
              ],
            ),
          ),
        );
  }

  pub empty_settles : (tells : Bool) (before mid after : Disk Text → Type 0) (u : Unit {0}) {T : Type 0} (v : T) (version number at next : ℕ) (store : Open) → Went {E = StoreFault} calls before mid (Ok u)
      → next_stamp r.meta ≡ suc (suc version) → is_stale r.snap r.segments.log ≡ true → number ≡ suc (last_number last) → at ≡ r.segments.log.first → next ≡ suc number
      → number < 10000000000000000 → Empties tells number at mid after {T = T} {E = StoreFault} (Ok v)
      → store ≡ record { version = version; first = first; second = second; next = next; size = None; segments = left_after last l.segments ++ number ∷ []; snapshots = l.snapshots }
      → Settles l r first second before after {E = StoreFault} (Ok store)
  empty_settles tells before mid after u v version number at next store went st s n e next_is small empties is = record {
    each = λ d b seen listed all ok.
        let z = (by_last before mid (Ok u) went).each d b in
        let m : number ≡ suc (last_number r.segments.last) = n ∙ ap (λ (x : Option LastSegment). suc (last_number x)) is_last in
        let free = subst (λ (k : ℕ). IsFree (file_name (Segment k)) z.0) (sym m) (number_free l r first second d seen listed all ok fits z.0 z.1.1.0) in
        let w = empties.each (told z.0 z.1.0 free) z.0 z.1.0 in
        let calls_are : emptying_calls number at ≡ emptying_calls (suc (last_number r.segments.last)) r.segments.log.first = (λ i. emptying_calls (m i) (e i)) in
        let o = empty_opens l r first second d seen listed all ok fits (subst (λ (k : ℕ). k < 10000000000000000) m small) version st z.0 w.0 s z.1.1.0 (subst (λ (cs : List (Call Text)). Done cs z.0 w.0) calls_are w.1.1.0) in
        let same : store ≡ record { version = version; first = first; second = second; next = suc (suc (last_number r.segments.last)); size = None; segments = left_after r.segments.last l.segments ++ suc (last_number r.segments.last) ∷ []; snapshots = l.snapshots } =
        is ∙ (λ i. record { version = version; first = first; second = second; next = (next_is ∙ ap suc m) i; size = None; segments = left_after (is_last i) l.segments ++ m i ∷ []; snapshots = l.snapshots }) in
        (w.0, (w.1.0, (subst (λ (x : Open). HasNew x (kept_by r) (folder w.0)) (sym same) o, tt)));
  }

-- ---- a log is emptied, or nothing was called

pub empties_stop : {T E : Type 0} (tells : Bool) (number at : ℕ) (states : Disk Text → Type 0) (y : E) → Empties tells number at states states {T = T} (Err y)
empties_stop tells number at states y = record { each = λ known d b. (d, (b, (tt, inr refl))) }

pub empties_err : {T E F : Type 0} (tells : Bool) (number at : ℕ) (before after : Disk Text → Type 0) (x : E) (y : F) → number < 10000000000000000
    → (Known tells before (IsFree (file_name (Segment number))) → Went {E = E} (emptying_calls number at) before after (Err x)) → Empties tells number at before after {T = T} (Err y)
empties_err tells number at before after x y small went = record { each = λ known d b. let z = (went known).each d b in (z.0, (z.1.0, (tt, inl (small, z.1.1.1)))) }

pub empties_ok : {T E : Type 0} (tells : Bool) (number at : ℕ) (before after : Disk Text → Type 0) (x : Unit {0}) (y : T)
    → (Known tells before (IsFree (file_name (Segment number))) → Went {E = E} (emptying_calls number at) before after (Ok x)) → Empties tells number at before after {E = E} (Ok y)
empties_ok tells number at before after x y went = record { each = λ known d b. let z = (went known).each d b in (z.0, (z.1.0, (z.1.1.0, tt))) }

-- ---- the store, by what the code made

pub store_is : (version next : ℕ) (sizes : Option ℕ × Option ℕ) (xs ys segments snapshots : List ℕ) (s : Open) → s ≡ record { version = version; first = sizes.0; second = sizes.1; next = next; size = None; segments = xs; snapshots = ys } → xs ≡ segments → ys ≡ snapshots
    → s ≡ record { version = version; first = sizes.0; second = sizes.1; next = next; size = None; segments = segments; snapshots = snapshots }
store_is version next sizes xs ys segments snapshots s is a b = is ∙ (λ i. record { version = version; first = sizes.0; second = sizes.1; next = next; size = None; segments = a i; snapshots = b i })
