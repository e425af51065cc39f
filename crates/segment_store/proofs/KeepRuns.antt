-- Following a plan runs its calls.
use Rattle.std.proofs.Common.{◌≡◌, ℕ, ◌+◌, ◌<◌, ◌≤◌, Bool, true, false, cond, List, [], ◌∷◌, ◌++◌, length, take, drop, get_or, Result, Ok, Err, refl, sym, ap, ◌∙◌, subst, arith}
use Rattle.std.proofs.lemmas.List.{take_more, drop_more, take_all, take-append-drop}
use Rattle.disk_model.specs.Disk.{Disk, Found, Held}
use Rattle.disk_model.specs.Calls.{Call, CutTo, Remove, SyncNames, Done, MayWrite, after_cut}
use Rattle.disk_model.specs.Trait.{Text, Known, Steps, Ran}
use Rattle.disk_model.specs.Writing.{replace_calls}
use Rattle.disk_model.specs.declared.faults.DiskFault.{DiskFault}
use Rattle.disk_model.proofs.Elsewhere.{Elsewhere, else_same, else_on, else_names}
use Rattle.disk_model.proofs.Runs.{ran_stops, ran_then, ran_last, known_steps, known_ran, known_map}
use Rattle.store_format.specs.BatchesWritten.{segment_word}
use Rattle.segment_store.specs.declared.keep_plan.KeepPlan.{KeepPlan}
use Rattle.segment_store.specs.declared.keep_plan.NewSnapshot.{NewSnapshot}
use Rattle.segment_store.specs.Grow.{begin_calls, IsFree}
use Rattle.segment_store.specs.Keeping.{file_calls, removal_calls, loose_removal_calls}
use Rattle.segment_store.specs.Plans.{file_bytes, snapshot_plan_calls, segment_plan_calls, MayKeep}
use Rattle.segment_store.proofs.Segments.{ran_both}

-- ---- the snapshot's file

cut_standing : (b : Bool) (h : Held) → (cond b (after_cut 0 h) h).standing ≡ h.standing
cut_standing true h = refl
cut_standing false h = refl

-- a file that was truncated may be written
pub cut_may_write : (n : Text) (tells : Bool) (old mid : Disk Text → Type 0) (x : Unit {0}) → Known tells old (MayWrite n 0) → Steps (CutTo n 0) old mid (Ok x) → Known tells mid (MayWrite n 0)
cut_may_write n tells old mid x known steps = known_steps (CutTo n 0) old mid (Ok x) tells (MayWrite n 0) (MayWrite n 0) known steps (λ d e may z. record {
  within = omega arith;
  no_removal = λ q. may.no_removal (sym (ap (λ (h : Held). h.standing) z.0.held ∙ cut_standing (d.read n).there (d.held n)) ∙ q);
})

-- the file's calls, by the parts that the code has
pub file_ran : (p : NewSnapshot) (b : Bool) (n : Text) (head : List ℕ) (tells : Bool) (old new : Disk Text → Type 0) (result : Result Unit DiskFault) → p.is_there ≡ b → n ≡ p.name → head ≡ p.head.items
    → (Known tells old (MayWrite n 0) → Ran (file_calls n b (head ++ p.content.now ++ p.tail.now)) old new result) → Known tells old (MayWrite p.name 0) → Ran (snapshot_plan_calls p) old new result
file_ran p b n head tells old new result there name is ran known =
    subst (λ (c : Bool). Ran (file_calls p.name c (file_bytes p)) old new result) (sym there)
    (subst (λ (h : List ℕ). Ran (file_calls p.name b (h ++ p.content.now ++ p.tail.now)) old new result) is
    (subst (λ (t : Text). Ran (file_calls t b (head ++ p.content.now ++ p.tail.now)) old new result) name (ran (subst (λ (t : Text). Known tells old (MayWrite t 0)) (sym name) known))))

written_else : (n : Text) (bytes : List ℕ) (d m e : Disk Text) → Elsewhere n d m → Done (replace_calls n bytes false) m e → Elsewhere n d e
written_else n bytes d m e so (p, (did, (q, (syn, (r, (names, last)))))) =
    subst (Elsewhere n d) (sym last) (else_names n d q r (else_on n d p q (else_on n d m p so did.others) syn.others) names)

file_else : (n : Text) (b : Bool) (bytes : List ℕ) (d e : Disk Text) → Done (file_calls n b bytes) d e → Elsewhere n d e
file_else n false bytes d e done = written_else n bytes d d e (else_same n d) done
file_else n true bytes d e (m, (did, done)) = written_else n bytes d m e (else_on n d d m (else_same n d) did.others) done

-- ---- a plan

pub file_may : (p : KeepPlan) (tells : Bool) (old : Disk Text → Type 0) → Known tells old (MayKeep p) → Known tells old (MayWrite p.snapshot.name 0)
file_may p tells old known = known_map tells old (MayKeep p) (MayWrite p.snapshot.name 0) known (λ d m. m.file)

module _ (p : KeepPlan) (tells : Bool) (old mid : Disk Text → Type 0) (known : Known tells old (MayKeep p)) where
  -- the segment isn't there after the snapshot's file
  free_behind : (x : Unit {0}) → Ran (snapshot_plan_calls p.snapshot) old mid (Ok x) → Known tells mid (IsFree p.segment.name)
  free_behind x ran = known_ran (snapshot_plan_calls p.snapshot) old mid (Ok x) tells (MayKeep p) (IsFree p.segment.name) known ran (λ d e m z.
      let so = file_else p.snapshot.name p.snapshot.is_there (file_bytes p.snapshot) d e z.0 in
      record { not_there = ap (λ (f : Found). f.there) (so.read p.segment.name m.apart) ∙ m.free.not_there; rest = so.rest p.segment.name m.apart m.free.rest })

  pub segment_ran : (x : Unit {0}) (new : Disk Text → Type 0) (n : Text) (batch : List ℕ) (result : Result Unit DiskFault) → n ≡ p.segment.name → batch ≡ p.segment.batch.items → Ran (snapshot_plan_calls p.snapshot) old mid (Ok x)
      → (Known tells mid (IsFree n) → Ran (begin_calls n segment_word batch) mid new result) → Ran (segment_plan_calls p.segment) mid new result
  segment_ran x new n batch result name is first ran =
      let free = subst (λ (t : Text). Known tells mid (IsFree t)) (sym name) (free_behind x first) in
      subst (λ (b : List ℕ). Ran (begin_calls p.segment.name segment_word b) mid new result) is
      (subst (λ (t : Text). Ran (begin_calls t segment_word batch) mid new result) name (ran free))

-- ---- removals

removals_both : (ns ms : List Text) → removal_calls (ns ++ ms) ≡ removal_calls ns ++ removal_calls ms
removals_both [] ms = refl
removals_both (n ∷ ns) ms = ap (λ (l : List (Call Text)). Remove n ∷ SyncNames ∷ l) (removals_both ns ms)

loose_both : (ns ms : List Text) → loose_removal_calls (ns ++ ms) ≡ loose_removal_calls ns ++ loose_removal_calls ms
loose_both [] ms = refl
loose_both (n ∷ ns) ms = ap (λ (l : List (Call Text)). Remove n ∷ l) (loose_both ns ms)

-- the files before a place are gone, and the one there goes
module _ (ns : List Text) (i : ℕ) (d n : Text) (is : n ≡ get_or ns i d) (l : i < length ns) (old mid : Disk Text → Type 0) (x : Unit {0}) where
  parted : ns ≡ take i ns ++ (n ∷ drop (i + 1) ns)
  parted = sym (take-append-drop i ns) ∙ ap (λ (r : List Text). take i ns ++ r) (drop_more ns i d l) ∙ ap (λ (m : Text). take i ns ++ (m ∷ drop (i + 1) ns)) (sym is)

  one_more : take (i + 1) ns ≡ take i ns ++ n ∷ []
  one_more = take_more ns i d l ∙ ap (λ (m : Text). take i ns ++ m ∷ []) (sym is)

  module _ (before : Ran (removal_calls (take i ns)) old mid (Ok x)) where
    abbrev synced_after : List (Call Text)
    synced_after = Remove n ∷ SyncNames ∷ removal_calls (drop (i + 1) ns)

    all_removals : removal_calls ns ≡ removal_calls (take i ns) ++ synced_after
    all_removals = ap removal_calls parted ∙ removals_both (take i ns) (n ∷ drop (i + 1) ns)

    pub went_synced : (between new : Disk Text → Type 0) (y z : Unit {0}) → Steps (Remove n) mid between (Ok y) → Steps SyncNames between new (Ok z) → Ran {T = Unit {0}} (removal_calls (take (i + 1) ns)) old new (Ok tt)
    went_synced between new y z gone synced =
        let more : removal_calls (take (i + 1) ns) ≡ removal_calls (take i ns) ++ (Remove n ∷ SyncNames ∷ []) = ap removal_calls one_more ∙ removals_both (take i ns) (n ∷ []) in
        subst (λ (cs : List (Call Text)). Ran {T = Unit {0}} cs old new (Ok tt)) (sym more)
        (ran_both (removal_calls (take i ns)) (Remove n ∷ SyncNames ∷ []) old mid new x (Ok tt) before (ran_then _ _ _ _ _ y (Ok tt) gone (ran_last _ _ _ (Ok tt) synced)))

    pub synced_stays : (new : Disk Text → Type 0) (e f : DiskFault) → Steps {T = Unit {0}} (Remove n) mid new (Err e) → Ran {T = Unit {0}} (removal_calls ns) old new (Err f)
    synced_stays new e f stays =
        subst (λ (cs : List (Call Text)). Ran {T = Unit {0}} cs old new (Err f)) (sym all_removals)
        (ran_both (removal_calls (take i ns)) synced_after old mid new x (Err f) before (ran_stops _ _ _ _ e f stays))

    pub names_stay : (between new : Disk Text → Type 0) (y : Unit {0}) (e f : DiskFault) → Steps (Remove n) mid between (Ok y) → Steps {T = Unit {0}} SyncNames between new (Err e) → Ran {T = Unit {0}} (removal_calls ns) old new (Err f)
    names_stay between new y e f gone stays =
        subst (λ (cs : List (Call Text)). Ran {T = Unit {0}} cs old new (Err f)) (sym all_removals)
        (ran_both (removal_calls (take i ns)) synced_after old mid new x (Err f) before (ran_then _ _ _ _ _ y (Err f) gone (ran_stops _ _ _ _ e f stays)))

  module _ (before : Ran (loose_removal_calls (take i ns)) old mid (Ok x)) where
    abbrev loose_after : List (Call Text)
    loose_after = Remove n ∷ loose_removal_calls (drop (i + 1) ns)

    pub went_loose : (new : Disk Text → Type 0) (y : Unit {0}) → Steps (Remove n) mid new (Ok y) → Ran {T = Unit {0}} (loose_removal_calls (take (i + 1) ns)) old new (Ok tt)
    went_loose new y gone =
        let more : loose_removal_calls (take (i + 1) ns) ≡ loose_removal_calls (take i ns) ++ (Remove n ∷ []) = ap loose_removal_calls one_more ∙ loose_both (take i ns) (n ∷ []) in
        subst (λ (cs : List (Call Text)). Ran {T = Unit {0}} cs old new (Ok tt)) (sym more)
        (ran_both (loose_removal_calls (take i ns)) (Remove n ∷ []) old mid new x (Ok tt) before (ran_last _ _ _ (Ok tt) gone))

    pub loose_stays : (new : Disk Text → Type 0) (e f : DiskFault) → Steps {T = Unit {0}} (Remove n) mid new (Err e) → Ran {T = Unit {0}} (loose_removal_calls ns) old new (Err f)
    loose_stays new e f stays =
        subst (λ (cs : List (Call Text)). Ran {T = Unit {0}} cs old new (Err f)) (sym (ap loose_removal_calls parted ∙ loose_both (take i ns) (n ∷ drop (i + 1) ns)))
        (ran_both (loose_removal_calls (take i ns)) loose_after old mid new x (Err f) before (ran_stops _ _ _ _ e f stays))

pub no_fewer : (a b c : ℕ) → a ≤ b → b ≤ c → a ≤ c
no_fewer a b c h k = omega (arith, h, k)

-- all of them
pub all_removed : (ns : List Text) (i : ℕ) (old new : Disk Text → Type 0) → length ns ≤ i → Ran {T = Unit {0}} (removal_calls (take i ns)) old new (Ok tt) → Ran {T = Unit {0}} (removal_calls ns) old new (Ok tt)
all_removed ns i old new l ran = subst (λ (ms : List Text). Ran (removal_calls ms) old new (Ok tt)) (take_all i ns l) ran

pub all_loose : (ns : List Text) (i : ℕ) (old new : Disk Text → Type 0) → length ns ≤ i → Ran {T = Unit {0}} (loose_removal_calls (take i ns)) old new (Ok tt) → Ran {T = Unit {0}} (loose_removal_calls ns) old new (Ok tt)
all_loose ns i old new l ran = subst (λ (ms : List Text). Ran (loose_removal_calls ms) old new (Ok tt)) (take_all i ns l) ran
