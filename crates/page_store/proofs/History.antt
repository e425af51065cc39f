-- Any list of calls of a store: each live mark has a call that pinned it, and shows the image that was newest then.
use Rattle.std.proofs.Common.{◌≡◌, ℕ, ◌⊎◌, true, List, [], ◌∷◌, ◌++◌, length, set, replicate, Option, Some, None, refl, sym, ap, ◌∙◌, subst, append-nil, append_assoc, arith, inl, inr}
use Rattle.std.specs.Prelude.{is_some, unwrap_or}
use Rattle.std.proofs.lemmas.Bool.{cases_lt, cases_eq, false≢true}
use Rattle.std.proofs.lemmas.List.{get_or-replicate, get_or_past, length-replicate}
use Rattle.dq_base.specs.declared.images.Image.{Image}
use Rattle.page_store.specs.Marks.{no_marks, mark_at, lowered}
use Rattle.page_store.specs.Store.{Store, view, fresh_store, IsLive, image_under, pinned, released, sets_to_move, checkpointed, StillShows, MarksWithin}
use Rattle.page_store.specs.Calls.{Call, Commit, Pin, Release, Checkpoint, after_call, run, LeavesAlone, ShowsImagePinned}
use Rattle.page_store.proofs.LaidSets.{all_both}
use Rattle.page_store.proofs.Shown.{commit_shows, pin_shows_newest, release_shows, checkpoint_shows, mark_at-here, mark_at-else, mark_at-past, mark_at-lowered, live_is, is_live, unlowered, within-committed, within-pinned, within-released, within-moved}

run-append : (start : Store) (xs ys : List Call) → run start (xs ++ ys) ≡ run (run start xs) ys
run-append start [] ys = refl
run-append start (x ∷ xs) ys = run-append (after_call start x) xs ys

-- what holds of a store after calls
record Traced (start : Store) (calls : List Call) : Type 0 where
  within : MarksWithin (run start calls)
  pinned_then : (id : ℕ) → IsLive (run start calls) id → ShowsImagePinned start calls id

-- one call more, which kept the mark
kept : (start : Store) (calls : List Call) (call : Call) (id : ℕ) → LeavesAlone id call → StillShows (run start calls) (after_call (run start calls) call) id → IsLive (run start calls) id → ShowsImagePinned start calls id → ShowsImagePinned start (calls ++ call ∷ []) id
kept start calls call id alone still live was = record {
  before = was.before;
  later = was.later ++ call ∷ [];
  split = ap (λ (cs : List Call). cs ++ call ∷ []) was.split ∙ append_assoc was.before (Pin id ∷ was.later) (call ∷ []);
  stands = all_both (LeavesAlone id) was.later (call ∷ []) was.stands (alone, tt);
  shows = ap (λ (s : Store). image_under s id) (run-append start calls (call ∷ [])) ∙ still.same_image live ∙ was.shows;
}

dead : (mark : Option ℕ) → mark ≡ None → is_some mark ≡ true → ⊥
dead mark e h = false≢true (sym (ap is_some e) ∙ h)

step : (start : Store) (calls : List Call) (call : Call) → Traced start calls → Traced start (calls ++ call ∷ [])
step start calls (Commit pages) was = record {
  within = subst MarksWithin (sym (run-append start calls (Commit pages ∷ []))) (within-committed (run start calls) pages was.within);
  pinned_then = λ id live.
      let before : IsLive (run start calls) id = subst (λ (s : Store). IsLive s id) (run-append start calls (Commit pages ∷ [])) live in
      kept start calls (Commit pages) id tt (commit_shows (run start calls) pages id was.within) before (was.pinned_then id before);
}
step start calls (Pin pin) was = record {
  within = subst MarksWithin (sym (run-append start calls (Pin pin ∷ []))) (within-pinned (run start calls) pin was.within);
  pinned_then = λ id live. pin_case id (cases_eq id pin) (subst (λ (s : Store). IsLive s id) (run-append start calls (Pin pin ∷ [])) live);
}
  where
    pin_case : (id : ℕ) → (id ≡ pin) ⊎ (id ≡ pin → ⊥) → IsLive (pinned (run start calls) pin) id → ShowsImagePinned start (calls ++ Pin pin ∷ []) id
    pin_case id (inr apart) live =
        let same : mark_at (pinned (run start calls) pin).marks id ≡ mark_at (run start calls).marks id = mark_at-else (run start calls).marks pin id (Some (length (run start calls).sets)) apart in
        let before : IsLive (run start calls) id = sym (ap is_some same) ∙ live in
        let still : StillShows (run start calls) (pinned (run start calls) pin) id =
        record { live = λ h. live; same_image = λ h. ap (λ (o : Option ℕ). view (run start calls).base (run start calls).sets (unwrap_or o 0)) same } in
        kept start calls (Pin pin) id (λ e. apart (sym e)) still before (was.pinned_then id before)
    pin_case id (inl same) live =
        let marks : List (Option ℕ) = (run start calls).marks in
        let mark : Option ℕ = Some (length (run start calls).sets) in
        elim (cases_lt id (length marks)) [
          | inl inside ↦
              let here : mark_at (set marks id mark) id ≡ mark = mark_at-here marks id mark inside in
              record {
                before = calls;
                later = [];
                stands = tt;
                split = ap (λ (k : ℕ). calls ++ Pin k ∷ []) (sym same);
                shows =
                    ap (λ (s : Store). image_under s id) (run-append start calls (Pin pin ∷ []))
                    ∙ ap (λ (k : ℕ). image_under (pinned (run start calls) k) id) (sym same)
                    ∙ pin_shows_newest (run start calls) id here;
              }
          | inr past ↦ absurd (dead (mark_at (set marks id mark) id) (mark_at-past marks id mark past) (subst (λ (k : ℕ). IsLive (pinned (run start calls) k) id) (sym same) live))
        ]
step start calls (Release gone) was = record {
  within = subst MarksWithin (sym (run-append start calls (Release gone ∷ []))) (within-released (run start calls) gone was.within);
  pinned_then = λ id live. release_case id (cases_eq id gone) (subst (λ (s : Store). IsLive s id) (run-append start calls (Release gone ∷ [])) live);
}
  where
    release_case : (id : ℕ) → (id ≡ gone) ⊎ (id ≡ gone → ⊥) → IsLive (released (run start calls) gone) id → ShowsImagePinned start (calls ++ Release gone ∷ []) id
    release_case id (inr apart) live =
        let same : mark_at (released (run start calls) gone).marks id ≡ mark_at (run start calls).marks id = mark_at-else (run start calls).marks gone id None apart in
        let before : IsLive (run start calls) id = sym (ap is_some same) ∙ live in
        kept start calls (Release gone) id (λ e. apart (sym e)) (release_shows (run start calls) gone id apart) before (was.pinned_then id before)
    release_case id (inl same) live =
        let marks : List (Option ℕ) = (run start calls).marks in
        let now : IsLive (released (run start calls) id) id = subst (λ (k : ℕ). IsLive (released (run start calls) k) id) (sym same) live in
        elim (cases_lt id (length marks)) [
          | inl inside ↦ absurd (dead (mark_at (set marks id None) id) (mark_at-here marks id None inside) now)
          | inr past ↦ absurd (dead (mark_at (set marks id None) id) (mark_at-past marks id None past) now)
        ]
step start calls Checkpoint was = record {
  within = subst MarksWithin (sym (run-append start calls (Checkpoint ∷ []))) (within-moved (run start calls) (sets_to_move (run start calls)) was.within);
  pinned_then = λ id live.
      let now : IsLive (checkpointed (run start calls)) id = subst (λ (s : Store). IsLive s id) (run-append start calls (Checkpoint ∷ [])) live in
      let n : ℕ = sets_to_move (run start calls) in
      let l = live_is (mark_at (lowered n (run start calls).marks) id) now in
      let u = unlowered n (mark_at (run start calls).marks id) l.0 (sym (mark_at-lowered n (run start calls).marks id) ∙ l.1) in
      let before : IsLive (run start calls) id = is_live (mark_at (run start calls).marks id) u.0 u.1 in
      kept start calls Checkpoint id tt (checkpoint_shows (run start calls) id) before (was.pinned_then id before);
}

all_calls : (start : Store) (done rest : List Call) → Traced start done → Traced start (done ++ rest)
all_calls start done [] was = subst (Traced start) (sym (append-nil done)) was
all_calls start done (call ∷ rest) was = subst (Traced start) (append_assoc done (call ∷ []) rest) (all_calls start (done ++ call ∷ []) rest (step start done call was))

none_at_first : (n id : ℕ) → mark_at (replicate n None) id ≡ None
none_at_first n id = elim (cases_lt id n) [
  | inl inside ↦ get_or-replicate n id None None inside
  | inr past ↦ get_or_past (replicate n None) id None (omega (arith, length-replicate {A = Option ℕ} n None))
]

pub no_mark_at_first : (id : ℕ) → mark_at no_marks id ≡ None
unfolding no_marks
no_mark_at_first id = none_at_first 64 id

fresh : (image : Image) → Traced (fresh_store image) []
fresh image = record {
  within = λ id m e. absurd (let apart : None ≡ Some m = sym (no_mark_at_first id) ∙ e in cc);
  pinned_then = λ id live. absurd (dead (mark_at no_marks id) (no_mark_at_first id) live);
}

pub shows_image_pinned : (image : Image) (calls : List Call) (id : ℕ) → IsLive (run (fresh_store image) calls) id → ShowsImagePinned (fresh_store image) calls id
shows_image_pinned image calls id live = (all_calls (fresh_store image) [] calls (fresh image)).pinned_then id live
