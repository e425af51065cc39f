-- Lists of calls under the faults of the store.
use Rattle.std.proofs.Common.{◌≡◌, inl, inr, true, false, List, [], ◌∷◌, ◌++◌, Result, Ok, Err, refl, sym, ap, ◌∙◌, subst}
use Rattle.std.specs.Prelude.{◌==◌}
use Rattle.std.proofs.lemmas.Bool.{cond-true, cond-false}
use Rattle.disk_model.specs.Disk.{Disk}
use Rattle.disk_model.specs.Calls.{Call, CutTo, Sync, Remove, SyncNames, Done, Until}
use Rattle.disk_model.specs.Spelled.{spelled, all_spelled}
use Rattle.disk_model.specs.SyncAll.{sync_all}
use Rattle.disk_model.specs.Trait.{Text, Steps}
use Rattle.disk_model.specs.declared.faults.DiskFault.{DiskFault}
use Rattle.store_laws.specs.Names.{Segment, NodeCall}
use Rattle.store_format.specs.declared.segment_log.LastSegment.{LastSegment}
use Rattle.segment_store.specs.declared.names.File.{File}
use Rattle.segment_store.specs.FileNames.{file_name, name_of}
use Rattle.segment_store.specs.Keeps.{Went}
use Rattle.segment_store.specs.Listed.{named}
use Rattle.segment_store.specs.Repairs.{repairs}

until_none : (ds : List (Call Text)) (d e : Disk Text) → e ≡ d → Until ds d e
until_none [] d e q = q
until_none (c ∷ ds) d e q = inl q

pub went_done : {E : Type 0} (states : Disk Text → Type 0) (x : Unit {0}) → Went {E = E} [] states states (Ok x)
went_done states x = record { each = λ d y. (d, (y, (refl, tt))) }

pub went_stop : {E : Type 0} (cs : List (Call Text)) (states : Disk Text → Type 0) (fault : E) → Went cs states states (Err fault)
went_stop cs states fault = record { each = λ d y. (d, (y, (tt, until_none cs d d refl))) }

-- one call, and then others
pub went_stops : {S E : Type 0} (c : Call Text) (cs : List (Call Text)) (old new : Disk Text → Type 0) (x : DiskFault) (y : E) → Steps {T = S} c old new (Err x) → Went (c ∷ cs) old new (Err y)
went_stops c cs old new x y steps = record { each = λ d was. let z = steps.each d was in (z.0, (z.1.0, (tt, inr (inl z.1.1.1)))) }

pub went_last : {S E : Type 0} (c : Call Text) (old new : Disk Text → Type 0) (a : S) (b : Unit {0}) → Steps c old new (Ok a) → Went {E = E} (c ∷ []) old new (Ok b)
went_last c old new a b steps = record { each = λ d y. let z = steps.each d y in (z.0, (z.1.0, ((z.0, (z.1.1.0, refl)), tt))) }

pub went_then : {S E : Type 0} (c : Call Text) (cs : List (Call Text)) (old mid new : Disk Text → Type 0) (a : S) (result : Result (Unit {0}) E) → Steps c old mid (Ok a) → Went cs mid new result → Went (c ∷ cs) old new result
went_then c cs old mid new a (Ok x) steps went = record {
  each = λ d y. let z = steps.each d y in let w = went.each z.0 z.1.0 in (w.0, (w.1.0, ((z.0, (z.1.1.0, w.1.1.0)), tt)));
}
went_then c cs old mid new a (Err x) steps went = record {
  each = λ d y. let z = steps.each d y in let w = went.each z.0 z.1.0 in (w.0, (w.1.0, (tt, inr (inr (z.0, (z.1.1.0, w.1.1.1))))));
}

-- one list, and then another
done_both : (cs ds : List (Call Text)) (d m e : Disk Text) → Done cs d m → Done ds m e → Done (cs ++ ds) d e
done_both [] ds d m e q done = subst (λ (x : Disk Text). Done ds x e) q done
done_both (c ∷ cs) ds d m e (p, (did, rest)) done = (p, (did, done_both cs ds p m e rest done))

until_both : (cs ds : List (Call Text)) (d m e : Disk Text) → Done cs d m → Until ds m e → Until (cs ++ ds) d e
until_both [] ds d m e q u = subst (λ (x : Disk Text). Until ds x e) q u
until_both (c ∷ cs) ds d m e (p, (did, rest)) u = inr (inr (p, (did, until_both cs ds p m e rest u)))

until_front : (cs ds : List (Call Text)) (d e : Disk Text) → Until cs d e → Until (cs ++ ds) d e
until_front [] ds d e q = until_none ds d e q
until_front (c ∷ cs) ds d e (inl q) = inl q
until_front (c ∷ cs) ds d e (inr (inl broke)) = inr (inl broke)
until_front (c ∷ cs) ds d e (inr (inr (m, (did, u)))) = inr (inr (m, (did, until_front cs ds m e u)))

pub went_both : {E : Type 0} (cs ds : List (Call Text)) (old mid new : Disk Text → Type 0) (x : Unit {0}) (result : Result (Unit {0}) E) → Went {E = E} cs old mid (Ok x) → Went ds mid new result → Went (cs ++ ds) old new result
went_both cs ds old mid new x (Ok y) first second = record { each = λ d z. let a = first.each d z in let b = second.each a.0 a.1.0 in (b.0, (b.1.0, (done_both cs ds d a.0 b.0 a.1.1.0 b.1.1.0, tt))) }
went_both cs ds old mid new x (Err y) first second = record { each = λ d z. let a = first.each d z in let b = second.each a.0 a.1.0 in (b.0, (b.1.0, (tt, until_both cs ds d a.0 b.0 a.1.1.0 b.1.1.1))) }

pub went_front : {E F : Type 0} (cs ds : List (Call Text)) (old new : Disk Text → Type 0) (x : E) (y : F) → Went cs old new (Err x) → Went (cs ++ ds) old new (Err y)
went_front cs ds old new x y first = record { each = λ d z. let a = first.each d z in (a.0, (a.1.0, (tt, until_front cs ds d a.0 a.1.1.1))) }

pub went_fault : {E F : Type 0} (cs : List (Call Text)) (old new : Disk Text → Type 0) (x : E) (y : F) → Went cs old new (Err x) → Went cs old new (Err y)
went_fault cs old new x y went = record { each = λ d z. let a = went.each d z in (a.0, (a.1.0, (tt, a.1.1.1))) }

-- a call by a name that is that of a file
pub named_step : {S : Type 0} (call : Text → Call Text) (n m : Text) (old new : Disk Text → Type 0) (r : Result S DiskFault) → n ≡ m → Steps (call n) old new r → Steps (call m) old new r
named_step call n m old new r e steps = subst (λ (t : Text). Steps (call t) old new r) e steps

-- ---- syncs of files

abbrev pub syncs : List File → List (Call Text)
syncs [] = []
syncs (f ∷ fs) = Sync (file_name (name_of f)) ∷ syncs fs

pub sync_all_is : (fs : List File) → all_spelled file_name (sync_all (named fs)) ≡ syncs fs ++ SyncNames ∷ []
sync_all_is [] = refl
sync_all_is (f ∷ fs) = ap (λ (cs : List (Call Text)). Sync (file_name (name_of f)) ∷ cs) (sync_all_is fs)

pub syncs_push : (fs : List File) (f : File) → syncs (fs ++ f ∷ []) ≡ syncs fs ++ Sync (file_name (name_of f)) ∷ []
syncs_push [] f = refl
syncs_push (x ∷ fs) f = ap (λ (cs : List (Call Text)). Sync (file_name (name_of x)) ∷ cs) (syncs_push fs f)

-- ---- repairs

pub spelled_both : (cs ds : List NodeCall) → all_spelled file_name (cs ++ ds) ≡ all_spelled file_name cs ++ all_spelled file_name ds
spelled_both [] ds = refl
spelled_both (c ∷ cs) ds = ap (λ (l : List (Call Text)). spelled file_name c ∷ l) (spelled_both cs ds)

pub removed_is : (x : LastSegment) → (x.good == 0) ≡ true → (Remove (file_name (Segment x.number)) ∷ SyncNames ∷ []) ≡ all_spelled file_name (repairs x)
removed_is x e = ap (all_spelled file_name) (sym (cond-true _ _ _ e))

pub whole_is : (x : LastSegment) → (x.good == 0) ≡ false → (x.good == x.size) ≡ true → [] ≡ all_spelled file_name (repairs x)
whole_is x e f = ap (all_spelled file_name) (sym (cond-false _ _ _ e ∙ cond-true _ _ _ f))

pub cut_is : (x : LastSegment) → (x.good == 0) ≡ false → (x.good == x.size) ≡ false → (CutTo (file_name (Segment x.number)) x.good ∷ Sync (file_name (Segment x.number)) ∷ []) ≡ all_spelled file_name (repairs x)
cut_is x e f = ap (all_spelled file_name) (sym (cond-false _ _ _ e ∙ cond-false _ _ _ f))
