-- A `&` to a connection tells its invariant.
use Rattle.sqlite_open_files.proofs.Steps.{List, [], ◌∷◌, refl, proved, ftrue, flft, named, Val, tables, ‵, ◌⊛◌, ◌$◌, ◌∵◌, !, qed, done, move, keep, drop, split, join, fsplit, fpick, feq_i, suffices, group, enter, of_opd, returns, alloc_all, pass_all, free_all, look_at, sets, unhide, RefOf, yes, ShrRef, shr_vals, shr_Tells, plain, nothing, Stays, walk_of, says, stay_dropped, Goes-dropped, ends_at}
use mir.Syntax.{Fn, Args, dcons, dnil, a_type}
use mir.MapTy.{inst_fn}
use types.Kit.{raw}
use contract.Monad.{fact}
use contract.BorrowLft.{◌⊑◌}
use denote.RattleType.{RattleType}
use denote.Param.{param, bounded}
use Rattle.sqlite_open_files.specs.contracts.connected as f
use Rattle.sqlite_open_files.proofs.connected.Statement.{statement}
use Rattle.sqlite_open_files.proofs.connected.Code as code
use Rattle.sqlite_open_files.proofs.Turned.{Disk, Conn}
use Rattle.sqlite_store.specs.FileStore.{view, recovers}
use Rattle.sqlite.specs.Held.{IsConnected}
use Rattle.std.proofs.Common.{subst}
use mir.Val.{vunit}
use types.Run.{unit_lit}
use Rattle.sqlite_pool.specs.Pool as pool

pub connected_spec : {M : Type 1} → statement M
unfolding pool.files
connected_spec 𝓤 𝓛 𝓜 𝓡 wired K LK g gd met =
    let c = f.clauses K g gd 𝓛 𝓜.mem 𝓡.returns in let T = f.ended K g gd in
    let R : RattleType = Conn (param 0 K) g in let D : RattleType = Disk (param 0 K) g in
    let args : Args = bounded (a_type ∷ []) (K, tt) (dcons gd dnil) in let function : Fn = inst_fn args code.function in
    let stayed : Stays T.signature.params T.kept = (stay_dropped (RefOf (0 ∷ []) tt (plain (λ _. R)) (λ _. tt)) yes, tt) in
    let W = walk_of 𝓛 T stayed c in let 𝓣 = tables 𝓤 𝓛.H 𝓜 𝓡 𝓡.env in
    proved 𝓛 T stayed c 𝓜 𝓡 (Goes-dropped 𝓛 2 (RefOf (0 ∷ []) tt (plain (λ _. R)) (λ _. tt)) yes (λ κs x w. refl), tt)
    (f.Key.name args) function (code.unfolded 𝓤 𝓛.H 𝓜 𝓡 wired (K, tt) gd)
    (λ κs. (shr_vals, tt)) (λ κs. (shr_Tells (named 0) κs.0 R, tt)) (λ κs qs bounds a _ are.
    let b = a.0.ref_ptr.0 in let o = a.0.ref_ptr.1 in let vs = shr_vals a.0 in
    let y : W.Ghost = ((κs, qs, bounds, a, (vs, tt)), tt) in
    qed 𝓛 (((‵ (flft κs.0 qs.0) ⊛ ‵ (flft κs.1.0 qs.1.0) ⊛ ‵ ftrue) ⊛ ‵ ((ShrRef (named 0) κs.0 R).own_val a.0 vs) ⊛ ‵ ftrue) ∷ raw
    (fact 𝓤 (κs.1.0 ⊑ K.lives)) ∷ ‵ ftrue ∷ []) ∵
    split ! $ move ! (1 ∷ []) $ split ! $ keep ! (0 ∷ 2 ∷ []) $
    enter ! _ _ _ _ _ $ alloc_all ! (λ l. pass_all ! refl ((tt, tt), tt) $
    -- [the reference; the tokens]
    sets ! (of_opd ! (unit_lit !)) refl (tt, tt) $
    returns ! (look_at ! 0 refl) $ free_all ! refl $
    fsplit ! $ drop ! $ unhide ! $
    fpick ! (λ at. fsplit ! $ keep ! (2 ∷ []) $
    suffices ! _ (ends_at 𝓛 T stayed c y vunit tt (tt, tt) (tt, tt)) $
    says ! (subst (λ h. IsConnected (view h.store) (recovers h.store) h.schema h.saved h.in_transaction) at.1.0 at.1.1.0) $
    feq_i ! (List Val) (vunit ∷ []) (vunit ∷ []) refl $
    nothing ! $ nothing ! $ join ! $ move ! (2 ∷ 0 ∷ 1 ∷ []) $ group ! 3 $ done !)))
