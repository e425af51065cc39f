-- What is kept, if the files represent a state, is what a node may start with.
use Rattle.std.proofs.Common.{◌≡◌, ℕ, suc, ◌+◌, ◌<◌, ◌≤◌, ◌-◌, Bool, true, false, cond, length, refl, sym, subst, arith}
use Rattle.std.specs.Prelude.{◌&&◌, ◌==◌, nat_lt, is_some}
use Rattle.std.proofs.lemmas.Bool.{cond_both, and_parts, ltb-true, ltb-false}
use Rattle.store_laws.specs.Store.{Snap, Log, Kept, Loaded, Damaged, NoMeta, Gap, behind, nth_term}
use Rattle.store_format.specs.FilesRead.{FilesRead, lacks, kept_by, judged}
use Rattle.store_format.specs.Starts.{CanStart}

-- a log after a snapshot begins at most one past it, and reaches at least that far
abbrev Meets : Snap → Log → Type 0
Meets s l = (l.first ≤ suc s.index) × (s.index < l.first + length l.entries)

meets : (s : Snap) (l : Log) → l.first ≤ suc s.index → Meets s (behind s l)
unfolding behind
meets s l low =
    cond_both (nat_lt s.index l.first) _ _ (Meets s)
    (λ e. let lt = ltb-true s.index l.first e in (low, omega arith))
    (λ n. cond_both (nat_lt s.index (l.first + length l.entries) && (nth_term l.entries (s.index - l.first) == s.term)) _ _ (Meets s)
    (λ e. let lt = ltb-true s.index (l.first + length l.entries) (and_parts (nat_lt s.index (l.first + length l.entries)) (nth_term l.entries (s.index - l.first) == s.term) e).0 in (low, lt))
    (λ m. (omega arith, omega arith)))

no_gap : (z d gap : Bool) (x y : ℕ) (k : Kept) → cond z NoMeta (cond d Damaged (cond gap (Gap x y) (Loaded k))) ≡ Loaded k → gap ≡ false
no_gap true d gap x y k e = absurd cc
no_gap false true gap x y k e = absurd cc
no_gap false false true x y k e = absurd cc
no_gap false false false x y k e = refl

pub kept_starts : (r : FilesRead) (k : Kept) → k ≡ kept_by r → 0 < k.log.first → judged r ≡ Loaded (kept_by r) → CanStart k
unfolding judged
kept_starts r k is first loaded =
    let none = no_gap (lacks r) (is_some r.segments.damage) (nat_lt (suc r.snap.index) r.segments.log.first) r.segments.log.first r.snap.index (kept_by r) loaded in
    let low = ltb-false (suc r.snap.index) r.segments.log.first none in
    let m = meets r.snap r.segments.log (omega arith) in
    let both : Meets k.snap k.log = subst (λ (x : Kept). Meets x.snap x.log) (sym is) m in
    record { first = first; low = both.0; within = both.1 }
