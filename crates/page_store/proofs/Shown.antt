-- What a live mark shows before and after each call of a store.
use Rattle.std.proofs.Common.{◌≡◌, ℕ, ◌+◌, ◌-◌, ◌≤◌, ◌<◌, List, [], ◌∷◌, ◌++◌, length, take, drop, set, Option, Some, None, refl, sym, ap, ◌∙◌, arith, inl, inr}
use Rattle.std.specs.Prelude.{unwrap_or, IsSome, IfSome, IsSomeAnd, is_some}
use Rattle.std.proofs.Math.ListN.{get_or-map}
use Rattle.std.proofs.lemmas.Bool.{cases_lt, cases_eq, false≢true}
use Rattle.std.proofs.lemmas.List.{take-append-le, get_or-set_same, get_or-set_other, set_past, get_or_past, take_all, take-take, drop-take, take-append-drop, length-drop, length_push}
use Rattle.dq_base.specs.declared.images.Image.{Image}
use Rattle.dq_base.specs.declared.pages.NumberedPage.{NumberedPage}
use Rattle.dq_base.specs.Applying.{applied}
use Rattle.page_store.specs.Marks.{mark_at, least_mark, lowered_mark, lowered}
use Rattle.page_store.proofs.MarkTables.{least_mark-none, least_mark-some}
use Rattle.page_store.specs.Store.{Store, after_sets, view, newest_image, IsLive, image_under, committed, pinned, released, sets_to_move, moved, checkpointed, StillShows, MarksWithin}

-- ---- page sets in two parts

pub after_sets-append : (image : Image) (xs ys : List (List NumberedPage)) → after_sets image (xs ++ ys) ≡ after_sets (after_sets image xs) ys
after_sets-append image [] ys = refl
after_sets-append image (x ∷ xs) ys = after_sets-append (applied image x) xs ys

pub take_split : {X : Type 0} (n m : ℕ) (xs : List X) → n ≤ m → take m xs ≡ take n xs ++ take (m - n) (drop n xs)
take_split n m xs le =
    let both : n + (m - n) ≡ m = omega arith in
    sym (ap (λ (k : ℕ). take k xs) both)
    ∙ sym (take-append-drop n (take (n + (m - n)) xs))
    ∙ ap (λ (ys : List _). ys ++ drop n (take (n + (m - n)) xs)) (take-take n (n + (m - n)) xs (omega arith))
    ∙ ap (λ (ys : List _). take n xs ++ ys) (drop-take n (m - n) xs)

-- moving the first sets into the base leaves what a later mark sees
pub view-moved : (base : Image) (sets : List (List NumberedPage)) (n m : ℕ) → n ≤ m → view (view base sets n) (drop n sets) (m - n) ≡ view base sets m
view-moved base sets n m le =
    sym (after_sets-append base (take n sets) (take (m - n) (drop n sets))) ∙ ap (after_sets base) (sym (take_split n m sets le))

-- ---- the newest image

pub newest_committed : (store : Store) (pages : List NumberedPage) → newest_image (committed store pages) ≡ applied (newest_image store) pages
newest_committed store pages = after_sets-append store.base store.sets (pages ∷ [])

pub newest_checkpointed : (store : Store) → newest_image (checkpointed store) ≡ newest_image store
newest_checkpointed store =
    let n : ℕ = sets_to_move store in
    sym (after_sets-append store.base (take n store.sets) (drop n store.sets)) ∙ ap (after_sets store.base) (take-append-drop n store.sets)

-- a share of an image that a commit brought along shows the image after the commit
pub shows_committed : {A : Type 0} (value : A → Image) (was now : Option A) (old new : Image) (pages : List NumberedPage)
    → IfSome was (λ w. value w ≡ old) → IfSome now (λ n. IsSomeAnd was (λ w. value n ≡ applied (value w) pages)) → new ≡ applied old pages → IfSome now (λ n. value n ≡ new)
shows_committed value was None old new pages before along same = tt
shows_committed value None (Some n) old new pages before along same = absurd along
shows_committed value (Some w) (Some n) old new pages before along same = along ∙ ap (λ (image : Image). applied image pages) before ∙ sym same

-- ---- live marks

pub live_is : (mark : Option ℕ) → IsSome mark → (m : ℕ) × (mark ≡ Some m)
live_is None h = absurd (false≢true h)
live_is (Some m) h = (m, refl)

pub is_live : (mark : Option ℕ) (m : ℕ) → mark ≡ Some m → IsSome mark
is_live mark m e = ap is_some e

pub number_under : (mark : Option ℕ) (m : ℕ) → mark ≡ Some m → unwrap_or mark 0 ≡ m
number_under mark m e = ap (λ (o : Option ℕ). unwrap_or o 0) e

pub image_at_mark : (store : Store) (id m : ℕ) → mark_at store.marks id ≡ Some m → image_under store id ≡ view store.base store.sets m
image_at_mark store id m e = ap (view store.base store.sets) (number_under (mark_at store.marks id) m e)

-- ---- a commit

pub commit_shows : (store : Store) (pages : List NumberedPage) (id : ℕ) → MarksWithin store → StillShows store (committed store pages) id
commit_shows store pages id within = record {
  live = λ h. h;
  same_image = λ h.
      let l = live_is (mark_at store.marks id) h in
      let m : ℕ = l.0 in
      image_at_mark (committed store pages) id m l.1
      ∙ ap (after_sets store.base) (take-append-le m store.sets (pages ∷ []) (within id m l.1))
      ∙ sym (image_at_mark store id m l.1);
}

-- ---- a mark set at a place

pub mark_at-here : (table : List (Option ℕ)) (id : ℕ) (mark : Option ℕ) → id < length table → mark_at (set table id mark) id ≡ mark
mark_at-here table id mark inside = get_or-set_same table id mark None inside

pub mark_at-else : (table : List (Option ℕ)) (id other : ℕ) (mark : Option ℕ) → (other ≡ id → ⊥) → mark_at (set table id mark) other ≡ mark_at table other
mark_at-else table id other mark apart = get_or-set_other table id other mark None apart

pub mark_at-past : (table : List (Option ℕ)) (id : ℕ) (mark : Option ℕ) → length table ≤ id → mark_at (set table id mark) id ≡ None
mark_at-past table id mark past = ap (λ (t : List (Option ℕ)). mark_at t id) (set_past table id mark past) ∙ get_or_past table id None past

same_mark : (old new : Store) (id : ℕ) → new.base ≡ old.base → new.sets ≡ old.sets → mark_at new.marks id ≡ mark_at old.marks id → StillShows old new id
same_mark old new id base sets mark = record {
  live = λ h. ap is_some mark ∙ h;
  same_image = λ h i. view (base i) (sets i) (unwrap_or (mark i) 0);
}

pub pin_shows : (store : Store) (id other : ℕ) → mark_at store.marks id ≡ None → StillShows store (pinned store id) other
pin_shows store id other free =
    elim (cases_eq other id) [
      | inl same ↦
          let dead : (h : IsLive store other) → ⊥ = λ h. false≢true (sym (ap is_some (ap (mark_at store.marks) same ∙ free)) ∙ h) in
          record { live = λ h. absurd (dead h); same_image = λ h. absurd (dead h) }
      | inr apart ↦ same_mark store (pinned store id) other refl refl (mark_at-else store.marks id other (Some (length store.sets)) apart)
    ]

pub pin_shows_newest : (store : Store) (id : ℕ) → mark_at (pinned store id).marks id ≡ Some (length store.sets) → image_under (pinned store id) id ≡ newest_image store
pin_shows_newest store id e =
    image_at_mark (pinned store id) id (length store.sets) e ∙ ap (after_sets store.base) (take_all (length store.sets) store.sets (omega arith))

pub release_shows : (store : Store) (id other : ℕ) → (other ≡ id → ⊥) → StillShows store (released store id) other
release_shows store id other apart = same_mark store (released store id) other refl refl (mark_at-else store.marks id other None apart)

-- ---- a checkpoint

pub mark_at-lowered : (by : ℕ) (table : List (Option ℕ)) (id : ℕ) → mark_at (lowered by table) id ≡ lowered_mark by (mark_at table id)
unfolding lowered
mark_at-lowered by table id = get_or-map (lowered_mark by) table id None

pub unlowered : (by : ℕ) (mark : Option ℕ) (m : ℕ) → lowered_mark by mark ≡ Some m → (n : ℕ) × (mark ≡ Some n) × (m ≡ n - by)
unlowered by None m e = absurd cc
unlowered by (Some n) m e = (n, refl, sym (number_under (Some (n - by)) m e))

-- no live mark is below the number of sets that move
pub to_move-le : (store : Store) (id m : ℕ) → mark_at store.marks id ≡ Some m → sets_to_move store ≤ m
to_move-le store id m e = least_case (least_mark store.marks) refl
  where
    least_case : (least : Option ℕ) → least_mark store.marks ≡ least → unwrap_or (least_mark store.marks) (length store.sets) ≤ m
    least_case None is = absurd (let none : mark_at store.marks id ≡ None = least_mark-none store.marks is id in let apart : Some m ≡ None = sym e ∙ none in cc)
    least_case (Some least) is =
        let le : least ≤ m = (least_mark-some store.marks least is).none_below id m e in
        let at : unwrap_or (least_mark store.marks) (length store.sets) ≡ least = ap (λ (o : Option ℕ). unwrap_or o (length store.sets)) is in
        omega arith

pub moved_shows : (store : Store) (n id : ℕ) → ((m : ℕ) → mark_at store.marks id ≡ Some m → n ≤ m) → StillShows store (moved n store) id
moved_shows store n id le = record {
  live = λ h.
      let l = live_is (mark_at store.marks id) h in
      is_live (mark_at (lowered n store.marks) id) (l.0 - n) (mark_at-lowered n store.marks id ∙ ap (lowered_mark n) l.1);
  same_image = λ h.
      let l = live_is (mark_at store.marks id) h in
      let m : ℕ = l.0 in
      image_at_mark (moved n store) id (m - n) (mark_at-lowered n store.marks id ∙ ap (lowered_mark n) l.1)
      ∙ view-moved store.base store.sets n m (le m l.1)
      ∙ sym (image_at_mark store id m l.1);
}

pub checkpoint_shows : (store : Store) (id : ℕ) → StillShows store (checkpointed store) id
checkpoint_shows store id = moved_shows store (sets_to_move store) id (to_move-le store id)

-- ---- marks stay within the sets

pub within-committed : (store : Store) (pages : List NumberedPage) → MarksWithin store → MarksWithin (committed store pages)
within-committed store pages within id m e =
    let le : m ≤ length store.sets = within id m e in
    omega (arith, length_push store.sets pages)

pub within-set : (store : Store) (id : ℕ) (mark : Option ℕ) → ((m : ℕ) → mark ≡ Some m → m ≤ length store.sets) → MarksWithin store → MarksWithin (record store { marks = set store.marks id mark })
within-set store id mark fits within other m e =
    elim (cases_eq other id) [
      | inr apart ↦ within other m (sym (mark_at-else store.marks id other mark apart) ∙ e)
      | inl same ↦
          let here : mark_at (set store.marks id mark) id ≡ Some m = ap (mark_at (set store.marks id mark)) (sym same) ∙ e in
          elim (cases_lt id (length store.marks)) [
            | inl inside ↦ fits m (sym (mark_at-here store.marks id mark inside) ∙ here)
            | inr past ↦ absurd (let apart : None ≡ Some m = sym (mark_at-past store.marks id mark past) ∙ here in cc)
          ]
    ]

pub within-pinned : (store : Store) (id : ℕ) → MarksWithin store → MarksWithin (pinned store id)
within-pinned store id within =
    within-set store id (Some (length store.sets)) (λ m e. let at : length store.sets ≡ m = number_under (Some (length store.sets)) m e in omega arith) within

pub within-released : (store : Store) (id : ℕ) → MarksWithin store → MarksWithin (released store id)
within-released store id within = within-set store id None (λ m e. absurd cc) within

pub within-moved : (store : Store) (n : ℕ) → MarksWithin store → MarksWithin (moved n store)
within-moved store n within id m e =
    let u = unlowered n (mark_at store.marks id) m (sym (mark_at-lowered n store.marks id) ∙ e) in
    let le : u.0 ≤ length store.sets = within id u.0 u.1 in
    let at : m ≡ u.0 - n = u.2 in
    omega (arith, length-drop n store.sets)
