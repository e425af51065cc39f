-- The value is read in its place, as one of the other type, and what was owned of it is turned.
use mathlib.Core.Path.{◌≡◌, refl, sym, subst}
use mathlib.Core.List.{List, [], ◌∷◌, ◌++◌}
use mir.Syntax.{Fn, Args, dcons, dnil, a_type}
use mir.Val.{Val}
use mir.MapTy.{inst_fn}
use base.Fml.{ftrue, flft}
use base.Logic.{ent}
use prog.Wp.{WpFn}
use denote.Memory.{lone}
use denote.Laws.{Typed}
use lib.Dec.{T as Holds}
use mir.Syntax.{Ty}
use mir.Val.{has_ty, WT}
use Rattle.std.proofs.alloc.Calls.{Goes-blank}
use contract.Monad.{fact}
use contract.Running.{tables}
use contract.BorrowLft.{◌⊑◌}
use types.Kit.{‵, raw, ◌⊛◌, at_ret, ◌$◌, ◌∵◌, !, qed, done, move, keep, split, join, use1, suffices, group}
use types.Run.{enter, of_opd, addr, load, stop, from, first, blocks, exec, returns}
use types.ByLocal.{alloc_all, pass_all, free_all, look_at, get, through, sets, sets_last, env}
use denote.Exit.{no}
use denote.Param.{param, bounded}
use denote.Param.Laws.{param_laws}
use denote.Signature.{plain}
use denote.Steps.{nothing, heard}
use denote.Struct.Loose.{loose_lawful}
use denote.Triple.Walked.{Stays, walk_of, says, stay_dropped, ends_at}
use Rattle.std.proofs.raw_atomic.Walks.{proved_at}
use Rattle.std.proofs.VecSteps.Shapes.{after}
use Rattle.sqlite_store.specs.FileStore.{files}
use Rattle.sqlite_open_files.specs.Pins.{IsPinned}
use Rattle.sqlite_open_files.specs.contracts.read_as as f
use Rattle.sqlite_open_files.proofs.read_as.Statement.{statement}
use Rattle.sqlite_open_files.proofs.read_as.Code as code
use Rattle.sqlite_open_files.proofs.pinned_file.PinnedFile.TheLaws as of_disk
use Rattle.sqlite_store.proofs.store.FileStore.TheLaws as of_store
use Rattle.sqlite.proofs.connection.Connection.TheLaws as of_conn
use Rattle.std.proofs.alloc.Global.TheLaws as of_heap
use Rattle.std.proofs.boxed.Box.TheLaws as of_box
use Rattle.std.proofs.mem.ManuallyDrop.TheLaws as of_kept
use Rattle.std.specs.contracts.alloc.Global as global
use Rattle.std.specs.contracts.impls.GlobalAllocator.TheImpl as heap
use Rattle.sqlite_store.specs.contracts.store.FileStoreStore.TheImpl as as_store
use Rattle.sqlite_open_files.proofs.Turned.{Disk, AsDisk, StoreRow, Conn, Boxed, Kept, KeptRow, kept_turned}

-- the one value of a type that has one
alone : (τ : Ty) (vs : List Val) → Typed (τ ∷ []) vs → (v : Val) × ((vs ≡ v ∷ []) × (Holds (has_ty τ v) × WT v))
alone τ [] t = absurd t
alone τ (v ∷ []) t = (v, (refl, t.0))
alone τ (v ∷ w ∷ vs) t = absurd t.1

pub read_as_spec : {M : Type 1} → statement M
read_as_spec 𝓤 𝓛 𝓜 𝓡 wired K N LK LN g gd h hd met-K met-N =
    let c = f.clauses K N g gd h hd 𝓛 𝓜.mem 𝓡.returns in
    let T = f.ended K N g gd h hd in
    let args : Args = bounded (a_type ∷ a_type ∷ []) (K, (N, tt)) (dcons gd (dcons hd dnil)) in
    let function : Fn = inst_fn args code.function in
    let stayed : Stays T.signature.params T.kept = (stay_dropped (plain (λ _. KeptRow (param 0 K) g)) no, tt) in
    let W = walk_of 𝓛 T stayed c in let 𝓣 = tables 𝓤 𝓛.H 𝓜 𝓡 𝓡.env in
    let ty = lone (KeptRow (param 0 K) g).mir in
    let laws = loose_lawful (Kept (param 0 K) g) (of_kept.the_loose (Boxed (param 0 K) g) (of_box.the_row_laws (Conn (param 0 K) g) global.the_row heap.ghosts
    (of_conn.the_row_laws (StoreRow (param 0 K) g) (as_store.ghosts (Disk (param 0 K) g) (AsDisk (param 0 K) g) as_store.no_dict)
    (of_store.the_row_laws (Disk (param 0 K) g) (AsDisk (param 0 K) g) (of_disk.the_row_laws (param 0 K) g (param_laws 0 K LK)))) of_heap.the_row_laws)) 𝓛 in
    proved_at 𝓛 T stayed c 𝓜 𝓡 (Goes-blank 𝓛 2 (plain (λ _. KeptRow (param 0 K) g)) no (λ κs x w. tt), tt)
    (f.Key.name args) function (code.unfolded 𝓤 𝓛.H 𝓜 𝓡 wired (K, (N, tt)) gd hd)
    (λ y are. let κs = y.0.0 in let qs = y.0.1 in let x = y.0.3.0 in let vs = y.0.4.0 in
    let At : List Val → W.Ghost = λ us. ((κs, qs, y.0.2, y.0.3, (us, tt)), y.1) in
    let found = alone ty vs (laws.typed x vs are.0) in let v = found.0 in let good = found.1.1 in
    subst (λ (us : List Val). ent 𝓤 (W.pre (At us)) (WpFn 𝓤 𝓛.H 𝓣.C 𝓣.Λ function (us ++ []) (W.post (At us)))) (sym found.1.0) (
    let Own = (KeptRow (param 0 K) g).own_val x (v ∷ []) in let Turned = (KeptRow (param 1 N) h).own_val x (v ∷ []) in
    qed 𝓛 (((‵ (flft κs.0 qs.0) ⊛ ‵ (flft κs.1.0 qs.1.0) ⊛ ‵ ftrue) ⊛ ‵ Own ⊛ ‵ ftrue) ∷ raw (fact 𝓤 (κs.0 ⊑ K.lives)) ∷ raw (fact 𝓤 (κs.1.0 ⊑ N.lives))
    ∷ raw (fact 𝓤 (IsPinned h.pinned (files x.value.value.store).0)) ∷ raw (fact 𝓤 (IsPinned h.pinned (files x.value.value.store).1)) ∷ []) ∵
    move ! (3 ∷ []) $ heard ! _ (λ is-log. move ! (3 ∷ []) $ heard ! _ (λ is-db. keep ! (0 ∷ []) $ split ! $ move ! (1 ∷ []) $ split ! $ keep ! (0 ∷ 2 ∷ []) $
    use1 𝓛 (‵ Turned) (kept_turned (param 0 K) (param 1 N) g h 𝓛 x is-log is-db (v ∷ [])) $
    -- [the connection; the tokens]
    enter ! _ _ _ _ _ $ alloc_all ! (λ l. pass_all ! refl (good, tt) $
    sets ! (of_opd ! (get ! refl)) refl good $
    sets ! (addr ! (from ! (stop !))) refl (tt, tt) $
    first ! $ blocks ! $ sets ! (of_opd ! (get ! refl)) refl (tt, tt) $
    sets_last ! (of_opd ! (load ! (through ! refl (stop !)) (look_at ! 2 refl))) refl good $
    exec ! 𝓣.C 𝓣.Λ (env function.locals l) (after 3 function.body) (at_ret _ (W.post (At (v ∷ [])))) $
    sets ! (of_opd ! (get ! refl)) refl good $
    returns ! (look_at ! 0 refl) $ free_all ! refl $
    suffices ! _ (ends_at 𝓛 T stayed c (At (v ∷ [])) v x ((tt, tt), tt) (tt, tt)) $ says ! refl $
    nothing ! $ nothing ! $ join ! $ move ! (2 ∷ 0 ∷ 1 ∷ []) $ group ! 3 $ done !)))))
