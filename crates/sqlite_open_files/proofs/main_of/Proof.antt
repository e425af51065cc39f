-- A `&` to a connection holds a `&` to the database file, which is stored beneath the log.
use Rattle.sqlite_open_files.proofs.Steps.{◌≡◌, ℕ, List, [], ◌∷◌, refl, ap, proved, ftrue, flft, named, Val, vptr, tables, ‵, ◌⊛◌, at_ret, ◌$◌, ◌∵◌, !, qed, done, move, keep, drop, split, join, fsplit, fjoin, fpick, feq_i, rewrite, suffices, group, enter, of_opd, addr, stop, fld, first, blocks, exec, returns, alloc_all, pass_all, free_all, look_at, get, through, sets, sets_last, env, unhide, hide, RefOf, yes, ShrRef, shr_vals, shr_Tells, plain, nothing, Stays, walk_of, says, stay_dropped, Goes-dropped, ends_at}
use Rattle.std.proofs.Common.{◌+◌, arith}
use mir.Syntax.{Fn, Args, dcons, dnil, a_type}
use mir.MapTy.{inst_fn}
use types.Kit.{raw}
use contract.Monad.{fact}
use contract.BorrowLft.{◌⊑◌}
use denote.RattleType.{RattleType}
use denote.Memory.{shared_of, lone}
use denote.Param.{param, bounded}
use prog.Memory.{size, align, up}
use Rattle.std.proofs.VecSteps.Shapes.{after}
use Rattle.sqlite_open_files.specs.contracts.main_of as f
use Rattle.sqlite_open_files.proofs.main_of.Statement.{statement}
use Rattle.sqlite_open_files.proofs.main_of.Code as code
use Rattle.sqlite_open_files.proofs.Turned.{Disk, Conn}
use Rattle.sqlite_store.specs.FileStore.{files}
use Rattle.sqlite_pool.specs.Pool as pool

pub main_of_spec : {M : Type 1} → statement M
unfolding pool.files
main_of_spec 𝓤 𝓛 𝓜 𝓡 wired K LK g gd met =
    let c = f.clauses K g gd 𝓛 𝓜.mem 𝓡.returns in let T = f.ended K g gd in
    let R : RattleType = Conn (param 0 K) g in let D : RattleType = Disk (param 0 K) g in
    let args : Args = bounded (a_type ∷ []) (K, tt) (dcons gd dnil) in let function : Fn = inst_fn args code.function in
    let stayed : Stays T.signature.params T.kept = (stay_dropped (RefOf (0 ∷ []) tt (plain (λ _. R)) (λ _. tt)) yes, tt) in
    let W = walk_of 𝓛 T stayed c in let 𝓣 = tables 𝓤 𝓛.H 𝓜 𝓡 𝓡.env in
    proved 𝓛 T stayed c 𝓜 𝓡 (Goes-dropped 𝓛 2 (RefOf (0 ∷ []) tt (plain (λ _. R)) (λ _. tt)) yes (λ κs x w. refl), tt)
    (f.Key.name args) function (code.unfolded 𝓤 𝓛.H 𝓜 𝓡 wired (K, tt) gd)
    (λ κs. (shr_vals, tt)) (λ κs. (shr_Tells (named 0) κs.0 R, tt)) (λ κs qs bounds a _ are.
    let b = a.0.ref_ptr.0 in let o = a.0.ref_ptr.1 in let vs = shr_vals a.0 in
    let y : W.Ghost = ((κs, qs, bounds, a, (vs, tt)), tt) in
    qed 𝓛 (((‵ (flft κs.0 qs.0) ⊛ ‵ (flft κs.1.0 qs.1.0) ⊛ ‵ ftrue) ⊛ ‵ ((ShrRef (named 0) κs.0 R).own_val a.0 vs) ⊛ ‵ ftrue) ∷ raw
    (fact 𝓤 (κs.1.0 ⊑ K.lives)) ∷ ‵ ftrue ∷ []) ∵
    split ! $ move ! (1 ∷ []) $ split ! $ keep ! (0 ∷ 2 ∷ []) $
    enter ! _ _ _ _ _ $ alloc_all ! (λ l. pass_all ! refl ((tt, tt), tt) $
    -- [the reference; the tokens]
    first ! $ blocks ! $
    sets ! (addr ! (through ! refl (stop !))) refl (tt, tt) $
    sets ! (of_opd ! (get ! refl)) refl (tt, tt) $
    sets_last ! (addr ! (through ! refl (fld ! refl (stop !)))) refl (tt, tt) $
    exec ! 𝓣.C 𝓣.Λ (env function.locals l) (after 1 function.body) (at_ret _ (W.post y)) $
    sets ! (of_opd ! (get ! refl)) refl (tt, tt) $
    returns ! (look_at ! 0 refl) $ free_all ! refl $
    fsplit ! $ drop ! $ unhide ! $
    fpick ! (λ at. fsplit ! $ keep ! (0 ∷ 2 ∷ []) $
    -- the connection, the store, the pool, its backing, the pager, the log
    fsplit ! $ fsplit ! $ keep ! (0 ∷ 3 ∷ []) $
    fsplit ! $ fsplit ! $ keep ! (0 ∷ 3 ∷ []) $
    fsplit ! $ fsplit ! $ keep ! (0 ∷ 3 ∷ []) $
    fsplit ! $ fsplit ! $ keep ! (0 ∷ 3 ∷ []) $
    fsplit ! $ fsplit ! $ keep ! (0 ∷ 3 ∷ []) $
    fsplit ! $ fsplit ! $ move ! (1 ∷ []) $ fsplit ! $ keep ! (0 ∷ 4 ∷ []) $
    let it = at.0.store.pool.backing.pager.log.db in
    let d = up (align (lone D.mir)) (size (lone D.mir)) in
    let e : o + 0 + 0 + 0 + 0 + 0 + d ≡ o + d = omega arith in
    rewrite ! 0 (λ (m : ℕ). ‵ (shared_of D it b m κs.0)) e refl $
    hide ! $
    suffices ! _ (ends_at 𝓛 T stayed c y (vptr b (o + d)) (record { ref_ptr = (b, o + d); now = it }) (tt, tt) (tt, tt)) $
    says ! (ap (λ s. (files s.store).1) at.1.0) $
    feq_i ! (List Val) (vptr b (o + d) ∷ []) (vptr b (o + d) ∷ []) refl $ fjoin ! $
    nothing ! $ nothing ! $ join ! $ move ! (2 ∷ 0 ∷ 1 ∷ []) $ group ! 3 $ done !)))
