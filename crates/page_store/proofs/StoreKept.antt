-- What is true of the fields of a store, kept by each call; and the store that they are seen as, after each call.
use Rattle.std.proofs.Common.{◌≡◌, ℕ, zero, suc, ◌+◌, ◌-◌, ◌≤◌, List, [], ◌∷◌, ◌++◌, length, map, take, drop, set, Option, Some, None, refl, sym, ap, ◌∙◌, subst, append-nil, arith, inl, inr}
use Rattle.std.specs.Prelude.{IsSome, unwrap_or, sum_by, Result, Ok, Err, IfOk, OnErr}
use Rattle.std.specs.List.{AllByRecursion, flat_map}
use Rattle.std.proofs.lemmas.Grind.{flat_map-append}
use Rattle.std.proofs.lemmas.Bool.{cases_lt, cases_eq}
use Rattle.std.proofs.lemmas.List.{take_all, take-append-drop, map-set, length-append, length_push, length-drop, get_or_append_left, get_or-append_right, get_or-drop, get_or-take, get_or_past, length-take, length-take-le, get_or-replicate, length-replicate}
use Rattle.dq_base.specs.declared.images.Image.{Image}
use Rattle.dq_base.specs.declared.pages.NumberedPage.{NumberedPage}
use Rattle.dq_base.specs.declared.sizes.Lengths.{Lengths}
use Rattle.page_store.specs.Marks.{no_marks, mark_at, Pinned, with_mark, without_mark, least_mark, lowered}
use Rattle.page_store.proofs.MarkTables.{least_mark-none, least_mark-some}
use Rattle.dq_base.specs.Applying.{lengths_in}
use Rattle.page_store.specs.Store.{Store, after_sets, view, fresh_store, newest, newest_image, IsLive, image_under, committed, pinned, released, sets_to_move, moved, checkpointed, pages_to_move, StillShows, MarksWithin}
use Rattle.page_store.specs.Sets.{sets_of, open_after, lengths_of_set, seen, store_of}
use Rattle.page_store.specs.Laying.{length_of, length_at, no_lengths, Room}
use Rattle.page_store.specs.Log.{Log, IsSized, laid_image}
use Rattle.page_store.specs.Holding.{IsSoundSet, IsEnd, Holds}
use Rattle.page_store.proofs.Shown.{number_under, is_live, pin_shows, image_at_mark, mark_at-else, mark_at-here, mark_at-past, mark_at-lowered, unlowered}
use Rattle.page_store.proofs.SetLists.{sets_of-append, closed-append, cut_sets, first_sets, later_sets, count_sets, end_closed, end_after, end_whole, end_longer, fewer_sets, pages_of_sets, lengths_of_sets}
use Rattle.page_store.proofs.SoundSets.{one_set, one_set_closed}
use Rattle.page_store.proofs.LaidSets.{laid_is, later_lengths, all_second, all_both}
use Rattle.page_store.proofs.MarksSeen.{mark_at-seen, least_mark-seen, seen_longer, seen_shorter}

-- ---- marks of a store

pub same_lengths : (mc sc : ℕ) (pages : List NumberedPage) (lengths : List Lengths) (newest : ℕ) (marks : List (Option ℕ)) → Holds mc sc pages lengths newest marks → length lengths ≡ length pages
same_lengths mc sc pages lengths newest marks holds = ap length holds.set_lengths ∙ lengths_of_sets pages holds.closed

live_before : (pages : List NumberedPage) (mark : Option ℕ) → IsSome (seen pages mark) → IsSome mark
live_before pages None h = h
live_before pages (Some count) h = refl

pub live_under : (pages : List NumberedPage) (marks : List (Option ℕ)) (id : ℕ) → IsSome (mark_at (map (seen pages) marks) id) → IsSome (mark_at marks id)
live_under pages marks id h = live_before pages (mark_at marks id) (subst (λ (o : Option ℕ). IsSome o) (mark_at-seen pages marks id) h)

seen_within : (pages : List NumberedPage) (mark : Option ℕ) (m : ℕ) → ((count : ℕ) → mark ≡ Some count → count ≤ length pages) → seen pages mark ≡ Some m → m ≤ length (sets_of pages)
seen_within pages None m within e = absurd cc
seen_within pages (Some count) m within e =
    let at : length (sets_of (take count pages)) ≡ m = number_under (Some (length (sets_of (take count pages)))) m e in
    let le : length (sets_of (take count pages)) ≤ length (sets_of (take (length pages) pages)) = fewer_sets pages count (length pages) (within count refl) in
    let all : length (sets_of (take (length pages) pages)) ≡ length (sets_of pages) = ap (λ (ps : List NumberedPage). length (sets_of ps)) (take_all (length pages) pages (omega arith)) in
    omega arith

pub marks_within : (base : Image) (mc sc : ℕ) (pages : List NumberedPage) (lengths : List Lengths) (newest : ℕ) (marks : List (Option ℕ)) → Holds mc sc pages lengths newest marks → MarksWithin (store_of base pages newest marks)
marks_within base mc sc pages lengths newest marks holds id m e =
    seen_within pages (mark_at marks id) m (λ count is. (holds.ends id count is).within) (sym (mark_at-seen pages marks id) ∙ e)

-- ---- what a mark shows

pub shown_is : (base : Image) (mc sc : ℕ) (log : Log) (newest : ℕ) (marks : List (Option ℕ)) (id count : ℕ) → Holds mc sc log.pages log.lengths newest marks → mark_at marks id ≡ Some count
    → laid_image log count base.main base.side ≡ image_under (store_of base log.pages newest marks) id
shown_is base mc sc log newest marks id count holds e =
    laid_is base log count (holds.ends id count e) holds.sound holds.sized holds.set_lengths
    ∙ sym (image_at_mark (store_of base log.pages newest marks) id (length (sets_of (take count log.pages))) (mark_at-seen log.pages marks id ∙ ap (seen log.pages) e))

pub newest_is : (base : Image) (mc sc : ℕ) (log : Log) (newest : ℕ) (marks : List (Option ℕ)) → Holds mc sc log.pages log.lengths newest marks
    → laid_image log (length log.pages) base.main base.side ≡ newest_image (store_of base log.pages newest marks)
newest_is base mc sc log newest marks holds =
    let whole : take (length log.pages) log.pages ≡ log.pages = take_all (length log.pages) log.pages (omega arith) in
    laid_is base log (length log.pages) (end_whole log.pages holds.closed) holds.sound holds.sized holds.set_lengths
    ∙ ap (λ (ps : List NumberedPage). view base (sets_of log.pages) (length (sets_of ps))) whole
    ∙ ap (after_sets base) (take_all (length (sets_of log.pages)) (sets_of log.pages) (omega arith))

-- ---- a new store

none_of_fresh : (id : ℕ) → mark_at no_marks id ≡ None
unfolding no_marks
none_of_fresh id = elim (cases_lt id 64) [
  | inl inside ↦ get_or-replicate 64 id None None inside
  | inr past ↦ get_or_past no_marks id None (omega (arith, length-replicate {A = Option ℕ} 64 None))
]

pub holds_fresh : (mc sc : ℕ) → Holds mc sc [] [] 0 no_marks
unfolding sets_of
holds_fresh mc sc = record {
  sound = tt;
  sized = tt;
  closed = refl;
  set_lengths = refl;
  counted = omega arith;
  ends = λ id count e. absurd (let apart : None ≡ Some count = sym (none_of_fresh id) ∙ e in cc);
  main_room = λ i lt. absurd (omega arith);
  side_room = λ i lt. absurd (omega arith);
}

pub fresh_is : (image : Image) → store_of image [] 0 no_marks ≡ fresh_store image
unfolding sets_of no_marks
fresh_is image = refl

-- ---- a commit

room_longer : (parity : ℕ) (xs ys : List Lengths) (before now : ℕ) → Room parity xs before → before ≤ now → Room parity ys now → Room parity (xs ++ ys) now
room_longer parity xs ys before now old le more i lt = elim (cases_lt i (length xs)) [
  | inl inside ↦
      let was : length_at parity xs i ≤ before = old i inside in
      let same : length_at parity (xs ++ ys) i ≡ length_at parity xs i = ap (length_of parity) (get_or_append_left xs ys no_lengths i inside) in
      omega arith
  | inr past ↦
      let is : length_at parity ys (i - length xs) ≤ now = more (i - length xs) (omega (arith, length-append xs ys)) in
      let same : length_at parity (xs ++ ys) i ≡ length_at parity ys (i - length xs) = ap (length_of parity) (get_or-append_right xs ys (length xs) i no_lengths refl past) in
      omega arith
]

room_alike : (parity : ℕ) (ps : List NumberedPage) (l : Lengths) (now : ℕ) → length_of parity l ≤ now → Room parity (map (λ p. l) ps) now
room_alike parity [] l now le i lt = absurd (omega arith)
room_alike parity (p ∷ ps) l now le zero lt = le
room_alike parity (p ∷ ps) l now le (suc i) lt = room_alike parity ps l now le i (omega arith)

pub sets_after_commit : (pages set : List NumberedPage) → open_after [] pages ≡ [] → IsSoundSet set → sets_of (pages ++ set) ≡ sets_of pages ++ set ∷ []
sets_after_commit pages set closed sound = sets_of-append pages set closed ∙ ap (λ (ss : List (List NumberedPage)). sets_of pages ++ ss) (one_set set sound)

pub holds_commit : (mc sc mc' sc' : ℕ) (pages set : List NumberedPage) (lengths : List Lengths) (l : Lengths) (newest : ℕ) (marks : List (Option ℕ)) → Holds mc sc pages lengths newest marks → IsSoundSet set → AllByRecursion IsSized (pages ++ set) → l ≡ lengths_in set
    → mc ≤ mc' → sc ≤ sc' → l.main ≤ mc' → l.side ≤ sc' → Holds mc' sc' (pages ++ set) (lengths ++ map (λ p. l) set) (newest + 1) marks
holds_commit mc sc mc' sc' pages set lengths l newest marks holds sound sized is main_more side_more main_fits side_fits =
    let sets : sets_of (pages ++ set) ≡ sets_of pages ++ set ∷ [] = sets_after_commit pages set holds.closed sound in
    record {
      sound = subst (AllByRecursion IsSoundSet) (sym sets) (all_both IsSoundSet (sets_of pages) (set ∷ []) holds.sound (sound, tt));
      sized = sized;
      closed = closed-append pages set holds.closed ∙ one_set_closed set sound;
      set_lengths =
          ap (λ (ls : List Lengths). ls ++ map (λ p. l) set) holds.set_lengths
          ∙ ap (λ (k : Lengths). flat_map lengths_of_set (sets_of pages) ++ map (λ p. k) set) is
          ∙ ap (λ (ls : List Lengths). flat_map lengths_of_set (sets_of pages) ++ ls) (sym (append-nil (lengths_of_set set)))
          ∙ sym (flat_map-append lengths_of_set (sets_of pages) (set ∷ []))
          ∙ ap (flat_map lengths_of_set) (sym sets);
      counted = let c : length (sets_of pages) ≤ newest = holds.counted in let n : length (sets_of (pages ++ set)) ≡ length (sets_of pages) + 1 = ap length sets ∙ length_push (sets_of pages) set in omega arith;
      ends = λ id count e. end_longer pages set count (holds.ends id count e);
      main_room = room_longer 0 lengths (map (λ p. l) set) mc mc' holds.main_room main_more (room_alike 0 set l mc' main_fits);
      side_room = room_longer 1 lengths (map (λ p. l) set) sc sc' holds.side_room side_more (room_alike 1 set l sc' side_fits);
    }

pub commit_is : (base : Image) (mc sc : ℕ) (pages set : List NumberedPage) (lengths : List Lengths) (newest : ℕ) (marks : List (Option ℕ)) → Holds mc sc pages lengths newest marks → IsSoundSet set
    → store_of base (pages ++ set) (newest + 1) marks ≡ committed (store_of base pages newest marks) set
commit_is base mc sc pages set lengths newest marks holds sound =
    let sets : sets_of (pages ++ set) ≡ sets_of pages ++ set ∷ [] = sets_after_commit pages set holds.closed sound in
    let n : length (sets_of (pages ++ set)) ≡ length (sets_of pages) + 1 = ap length sets ∙ length_push (sets_of pages) set in
    let c : length (sets_of pages) ≤ newest = holds.counted in
    let count : newest + 1 - length (sets_of (pages ++ set)) ≡ newest - length (sets_of pages) = omega arith in
    let same = seen_longer pages set marks holds.ends in
    λ i. record { base = base; sets = sets i; in_base = count i; marks = same i }

pub newest_count : (base : Image) (mc sc : ℕ) (pages : List NumberedPage) (lengths : List Lengths) (n : ℕ) (marks : List (Option ℕ)) → Holds mc sc pages lengths n marks → n ≡ newest (store_of base pages n marks)
newest_count base mc sc pages lengths n marks holds = let c : length (sets_of pages) ≤ n = holds.counted in omega arith

pub next_newest : (base : Image) (mc sc : ℕ) (pages set : List NumberedPage) (lengths : List Lengths) (n : ℕ) (marks : List (Option ℕ)) → Holds mc sc pages lengths n marks → n + 1 ≡ newest (committed (store_of base pages n marks) set)
next_newest base mc sc pages set lengths n marks holds = let c : length (sets_of pages) ≤ n = holds.counted in omega (arith, length_push (sets_of pages) set)

-- ---- more room alone

pub holds_room : (mc sc mc' sc' : ℕ) (pages : List NumberedPage) (lengths : List Lengths) (newest : ℕ) (marks : List (Option ℕ)) → Holds mc sc pages lengths newest marks → mc ≤ mc' → sc ≤ sc' → Holds mc' sc' pages lengths newest marks
holds_room mc sc mc' sc' pages lengths newest marks holds main_more side_more = record {
  sound = holds.sound;
  sized = holds.sized;
  closed = holds.closed;
  set_lengths = holds.set_lengths;
  counted = holds.counted;
  ends = holds.ends;
  main_room = λ i lt. let h : length_at 0 lengths i ≤ mc = holds.main_room i lt in omega arith;
  side_room = λ i lt. let h : length_at 1 lengths i ≤ sc = holds.side_room i lt in omega arith;
}

-- ---- a mark set at a place

pub holds_mark : (mc sc : ℕ) (pages : List NumberedPage) (lengths : List Lengths) (newest : ℕ) (marks : List (Option ℕ)) (id : ℕ) (mark : Option ℕ) → Holds mc sc pages lengths newest marks → ((count : ℕ) → mark ≡ Some count → IsEnd pages count)
    → Holds mc sc pages lengths newest (set marks id mark)
holds_mark mc sc pages lengths newest marks id mark holds end = record {
  sound = holds.sound;
  sized = holds.sized;
  closed = holds.closed;
  set_lengths = holds.set_lengths;
  counted = holds.counted;
  ends = λ other count e. elim (cases_eq other id) [
    | inr apart ↦ holds.ends other count (sym (mark_at-else marks id other mark apart) ∙ e)
    | inl same ↦
        let here : mark_at (set marks id mark) id ≡ Some count = ap (mark_at (set marks id mark)) (sym same) ∙ e in
        elim (cases_lt id (length marks)) [
          | inl inside ↦ end count (sym (mark_at-here marks id mark inside) ∙ here)
          | inr past ↦ absurd (let apart : None ≡ Some count = sym (mark_at-past marks id mark past) ∙ here in cc)
        ]
  ];
  main_room = holds.main_room;
  side_room = holds.side_room;
}

pub holds_release : (mc sc : ℕ) (pages : List NumberedPage) (lengths : List Lengths) (newest : ℕ) (marks : List (Option ℕ)) (id : ℕ) → Holds mc sc pages lengths newest marks → Holds mc sc pages lengths newest (without_mark marks id)
holds_release mc sc pages lengths newest marks id holds = holds_mark mc sc pages lengths newest marks id None holds (λ count e. absurd cc)

pub release_is : (base : Image) (pages : List NumberedPage) (newest : ℕ) (marks : List (Option ℕ)) (id : ℕ) → store_of base pages newest (without_mark marks id) ≡ released (store_of base pages newest marks) id
release_is base pages newest marks id = ap (λ (ms : List (Option ℕ)). record (store_of base pages newest marks) { marks = ms }) (map-set (seen pages) marks id None)

pub holds_pin : (mc sc : ℕ) (pages : List NumberedPage) (lengths : List Lengths) (newest : ℕ) (marks : List (Option ℕ)) (id count : ℕ) → count ≡ length pages → Holds mc sc pages lengths newest marks → Holds mc sc pages lengths newest (with_mark marks id count)
holds_pin mc sc pages lengths newest marks id count whole holds =
    holds_mark mc sc pages lengths newest marks id (Some count) holds
    (λ other e. subst (IsEnd pages) (sym whole ∙ number_under (Some count) other e) (end_whole pages holds.closed))

pub pin_is : (base : Image) (pages : List NumberedPage) (newest : ℕ) (marks : List (Option ℕ)) (id count : ℕ) → count ≡ length pages → store_of base pages newest (with_mark marks id count) ≡ pinned (store_of base pages newest marks) id
pin_is base pages newest marks id count whole =
    let all : take count pages ≡ pages = take_all count pages (omega arith) in
    let mark : seen pages (Some count) ≡ Some (length (sets_of pages)) = ap (λ (ps : List NumberedPage). Some (length (sets_of ps))) all in
    ap (λ (ms : List (Option ℕ)). record (store_of base pages newest marks) { marks = ms }) (map-set (seen pages) marks id (Some count) ∙ ap (set (map (seen pages) marks) id) mark)

-- ---- a checkpoint

pub end_of_least : (mc sc : ℕ) (pages : List NumberedPage) (lengths : List Lengths) (newest : ℕ) (marks : List (Option ℕ)) (least : Option ℕ) → Holds mc sc pages lengths newest marks → least_mark marks ≡ least → IsEnd pages (unwrap_or least (length pages))
end_of_least mc sc pages lengths newest marks None holds e = end_whole pages holds.closed
end_of_least mc sc pages lengths newest marks (Some count) holds e = let live = (least_mark-some marks count e).is_live in holds.ends live.0 count live.1

pub least_below : (pages : List NumberedPage) (marks : List (Option ℕ)) (least : Option ℕ) → least_mark marks ≡ least → (id later : ℕ) → mark_at marks id ≡ Some later → unwrap_or least (length pages) ≤ later
least_below pages marks None e id later is = absurd (let apart : None ≡ Some later = sym (least_mark-none marks e id) ∙ is in cc)
least_below pages marks (Some count) e id later is = (least_mark-some marks count e).none_below id later is

to_move_of : (pages : List NumberedPage) (least : Option ℕ) → unwrap_or (seen pages least) (length (sets_of pages)) ≡ length (sets_of (take (unwrap_or least (length pages)) pages))
to_move_of pages None = ap (λ (ps : List NumberedPage). length (sets_of ps)) (sym (take_all (length pages) pages (omega arith)))
to_move_of pages (Some count) = refl

pub to_move_is : (base : Image) (pages : List NumberedPage) (newest : ℕ) (marks : List (Option ℕ)) (least : Option ℕ) → least_mark marks ≡ least → sets_to_move (store_of base pages newest marks) ≡ length (sets_of (take (unwrap_or least (length pages)) pages))
to_move_is base pages newest marks least e =
    ap (λ (o : Option ℕ). unwrap_or o (length (sets_of pages))) (least_mark-seen pages marks ∙ ap (seen pages) e) ∙ to_move_of pages least

room_later : (parity count : ℕ) (lengths : List Lengths) (before now : ℕ) → Room parity lengths before → before ≤ now → Room parity (drop count lengths) now
room_later parity count lengths before now room le i lt =
    let h : length_at parity lengths (count + i) ≤ before = room (count + i) (omega (arith, length-drop count lengths)) in
    let same : length_at parity (drop count lengths) i ≡ length_at parity lengths (count + i) = ap (length_of parity) (get_or-drop count lengths i no_lengths) in
    omega arith

pub room_first : (parity count : ℕ) (lengths : List Lengths) (capacity : ℕ) → Room parity lengths capacity → Room parity (take count lengths) capacity
room_first parity count lengths capacity room i lt =
    let len = length-take count lengths in
    let h : length_at parity lengths i ≤ capacity = room i (omega arith) in
    let same : length_at parity (take count lengths) i ≡ length_at parity lengths i = ap (length_of parity) (get_or-take count lengths i no_lengths (omega arith)) in
    omega arith

pub holds_checkpoint : (mc sc mc' sc' : ℕ) (pages : List NumberedPage) (lengths : List Lengths) (newest : ℕ) (marks : List (Option ℕ)) (count : ℕ) → Holds mc sc pages lengths newest marks → count ≡ unwrap_or (least_mark marks) (length pages) → mc ≤ mc' → sc ≤ sc'
    → Holds mc' sc' (drop count pages) (drop count lengths) newest (lowered count marks)
holds_checkpoint mc sc mc' sc' pages lengths newest marks count holds at main_more side_more =
    let end : IsEnd pages count = subst (IsEnd pages) (sym at) (end_of_least mc sc pages lengths newest marks (least_mark marks) holds refl) in
    record {
      sound = all_second IsSoundSet (sets_of (take count pages)) (sets_of (drop count pages)) (subst (AllByRecursion IsSoundSet) (cut_sets pages count end) holds.sound);
      sized = all_second IsSized (take count pages) (drop count pages) (subst (AllByRecursion IsSized) (sym (take-append-drop count pages)) holds.sized);
      closed = end_closed pages count end holds.closed;
      set_lengths = later_lengths pages lengths count end holds.set_lengths;
      counted = let c : length (sets_of pages) ≤ newest = holds.counted in let both = count_sets pages count end in omega arith;
      ends = λ id later e.
          let u = unlowered count (mark_at marks id) later (sym (mark_at-lowered count marks id) ∙ e) in
          let le : unwrap_or (least_mark marks) (length pages) ≤ u.0 = least_below pages marks (least_mark marks) refl id u.0 u.1 in
          subst (IsEnd (drop count pages)) (sym u.2) (end_after pages count u.0 end (holds.ends id u.0 u.1) (omega arith));
      main_room = room_later 0 count lengths mc mc' holds.main_room main_more;
      side_room = room_later 1 count lengths sc sc' holds.side_room side_more;
    }

pub checkpoint_is : (base : Image) (mc sc : ℕ) (log : Log) (newest : ℕ) (marks : List (Option ℕ)) (count : ℕ) → Holds mc sc log.pages log.lengths newest marks → count ≡ unwrap_or (least_mark marks) (length log.pages)
    → store_of (laid_image log count base.main base.side) (drop count log.pages) newest (lowered count marks) ≡ checkpointed (store_of base log.pages newest marks)
checkpoint_is base mc sc log newest marks count holds at =
    let pages : List NumberedPage = log.pages in
    let end : IsEnd pages count = subst (IsEnd pages) (sym at) (end_of_least mc sc pages log.lengths newest marks (least_mark marks) holds refl) in
    let n : ℕ = length (sets_of (take count pages)) in
    let to_move : sets_to_move (store_of base pages newest marks) ≡ n = to_move_is base pages newest marks (least_mark marks) refl ∙ ap (λ (k : ℕ). length (sets_of (take k pages))) (sym at) in
    let image = laid_is base log count end holds.sound holds.sized holds.set_lengths in
    let sets = later_sets pages count end in
    let c : length (sets_of pages) ≤ newest = holds.counted in
    let both : length (sets_of pages) ≡ n + length (sets_of (drop count pages)) = count_sets pages count end in
    let counted : newest - length (sets_of (drop count pages)) ≡ newest - length (sets_of pages) + n = omega arith in
    let lower = seen_shorter pages count marks end (λ id later is. let le : unwrap_or (least_mark marks) (length pages) ≤ later = least_below pages marks (least_mark marks) refl id later is in omega arith) in
    let after : store_of (laid_image log count base.main base.side) (drop count pages) newest (lowered count marks) ≡ moved n (store_of base pages newest marks) =
    λ i. record { base = image i; sets = sym sets i; in_base = counted i; marks = lower i } in
    after ∙ ap (λ (k : ℕ). moved k (store_of base pages newest marks)) (sym to_move)

pub moved_count : (base : Image) (mc sc : ℕ) (pages : List NumberedPage) (lengths : List Lengths) (newest : ℕ) (marks : List (Option ℕ)) (count : ℕ) → Holds mc sc pages lengths newest marks → count ≡ unwrap_or (least_mark marks) (length pages)
    → count ≡ pages_to_move (store_of base pages newest marks)
moved_count base mc sc pages lengths newest marks count holds at =
    let end : IsEnd pages count = subst (IsEnd pages) (sym at) (end_of_least mc sc pages lengths newest marks (least_mark marks) holds refl) in
    let n : ℕ = length (sets_of (take count pages)) in
    let to_move : sets_to_move (store_of base pages newest marks) ≡ n = to_move_is base pages newest marks (least_mark marks) refl ∙ ap (λ (k : ℕ). length (sets_of (take k pages))) (sym at) in
    sym (
    ap (λ (k : ℕ). sum_by length (take k (sets_of pages))) to_move
    ∙ ap (sum_by length) (first_sets pages count end)
    ∙ pages_of_sets (take count pages) end.closed
    ∙ length-take-le count pages end.within
    )

-- ---- what pinning answers

pub pinned_holds : {E : Type 0} (r : Result ℕ E) (mc sc : ℕ) (pages : List NumberedPage) (lengths : List Lengths) (newest : ℕ) (marks now : List (Option ℕ)) (count : ℕ) → count ≡ length pages → IfOk r (λ id. Pinned marks now id count) → OnErr r (now ≡ marks)
    → Holds mc sc pages lengths newest marks → Holds mc sc pages lengths newest now
pinned_holds (Ok id) mc sc pages lengths newest marks now count whole made kept holds = subst (λ (ms : List (Option ℕ)). Holds mc sc pages lengths newest ms) (sym made.table) (holds_pin mc sc pages lengths newest marks id count whole holds)
pinned_holds (Err e) mc sc pages lengths newest marks now count whole made kept holds = subst (λ (ms : List (Option ℕ)). Holds mc sc pages lengths newest ms) (sym kept) holds

pub pinned_is : {E : Type 0} (r : Result ℕ E) (base : Image) (pages : List NumberedPage) (newest : ℕ) (marks now : List (Option ℕ)) (count : ℕ) → count ≡ length pages → IfOk r (λ id. Pinned marks now id count)
    → IfOk r (λ id. store_of base pages newest now ≡ pinned (store_of base pages newest marks) id)
pinned_is (Ok id) base pages newest marks now count whole made = ap (store_of base pages newest) made.table ∙ pin_is base pages newest marks id count whole
pinned_is (Err e) base pages newest marks now count whole made = tt

pub pinned_shows : {E : Type 0} (r : Result ℕ E) (base : Image) (pages : List NumberedPage) (newest : ℕ) (marks now : List (Option ℕ)) (count other : ℕ) → count ≡ length pages → IfOk r (λ id. Pinned marks now id count) → OnErr r (now ≡ marks)
    → StillShows (store_of base pages newest marks) (store_of base pages newest now) other
pinned_shows (Ok id) base pages newest marks now count other whole made kept =
    subst (λ (s : Store). StillShows (store_of base pages newest marks) s other) (sym (ap (store_of base pages newest) made.table ∙ pin_is base pages newest marks id count whole))
    (pin_shows (store_of base pages newest marks) id other (mark_at-seen pages marks id ∙ ap (seen pages) made.was_free))
pinned_shows (Err e) base pages newest marks now count other whole made kept =
    subst (λ (ms : List (Option ℕ)). StillShows (store_of base pages newest marks) (store_of base pages newest ms) other) (sym kept) (record { live = λ h. h; same_image = λ h. refl })

-- the pinned mark is live and shows the newest image
pub pinned_shows_newest : {E : Type 0} (r : Result ℕ E) (base : Image) (pages : List NumberedPage) (newest : ℕ) (marks now : List (Option ℕ)) (count : ℕ) → count ≡ length pages → IfOk r (λ id. Pinned marks now id count)
    → IfOk r (λ id. IsLive (store_of base pages newest now) id × (image_under (store_of base pages newest now) id ≡ newest_image (store_of base pages newest marks)))
pinned_shows_newest (Ok id) base pages newest marks now count whole made =
    let all : take count pages ≡ pages = take_all count pages (omega arith) in
    let mark : mark_at (map (seen pages) now) id ≡ Some (length (sets_of pages)) =
    mark_at-seen pages now id ∙ ap (seen pages) made.is_live ∙ ap (λ (ps : List NumberedPage). Some (length (sets_of ps))) all in (
      is_live (mark_at (map (seen pages) now) id) (length (sets_of pages)) mark,
      image_at_mark (store_of base pages newest now) id (length (sets_of pages)) mark ∙ ap (after_sets base) (take_all (length (sets_of pages)) (sets_of pages) (omega arith)),
    )
pinned_shows_newest (Err e) base pages newest marks now count whole made = tt
