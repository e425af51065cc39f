-- The commands of a split set do what the whole set does.
use Rattle.std.proofs.Common.{◌≡◌, ℕ, zero, suc, Bool, true, false, cond, List, [], ◌∷◌, ◌++◌, take, drop, fold, Some, None, refl, ap, ◌∙◌, append_assoc}
use Rattle.std.specs.List.{AllByRecursion}
use Rattle.std.proofs.lemmas.Bool.{eq-eqb}
use Rattle.std.proofs.lemmas.List.{take-append-drop}
use Rattle.dq_base.specs.declared.pages.NumberedPage.{NumberedPage}
use Rattle.dq_base.specs.declared.pages.PageSet.{PageSet}
use Rattle.log_commands.specs.Splitting.{split_from, before_last, split}
use Rattle.database_state.specs.Files.{Content, new_content, pending_of, image_after, frames, changed, act, applied_set, NonePending}
use Rattle.database_state.proofs.Named.{at_name_twice, at_name_alike}

pub frames_keep : (tx : ℕ) (commit : Bool) (pages : List NumberedPage) (c : Content) → (frames tx commit pages c).name ≡ c.name
unfolding frames
frames_keep tx true pages c = refl
frames_keep tx false pages c = refl

-- pages that wait, and then a commit of more
frames_join : (tx : ℕ) (first second : List NumberedPage) (c : Content) → frames tx true second (frames tx false first c) ≡ frames tx true (first ++ second) c
unfolding frames
frames_join tx first second c =
    let all : pending_of tx (Some (record { tx = tx; pages = pending_of tx c.pending ++ first })) ≡ pending_of tx c.pending ++ first =
    ap (λ (b : Bool). cond b (pending_of tx c.pending ++ first) []) (eq-eqb tx tx refl) in
    ap (λ (ps : List NumberedPage). frames_of ps) (ap (λ (ps : List NumberedPage). ps ++ second) all ∙ append_assoc (pending_of tx c.pending) first second)
  where
    frames_of : List NumberedPage → Content
    frames_of ps = record { name = c.name; image = image_after c.image ps; pending = None }

split_does : (more : ℕ) (name : List ℕ) (tx : ℕ) (pages : List NumberedPage) (contents : List Content) → fold act contents (split_from more name tx pages) ≡ changed name (frames tx true pages) contents
unfolding split_from act
split_does zero name tx pages contents = refl
split_does (suc more) name tx pages contents =
    split_does more name tx (drop 64 pages) (changed name (frames tx false (take 64 pages)) contents)
    ∙ at_name_twice (λ (c : Content). c.name) (new_content name) name (frames tx false (take 64 pages)) (frames tx true (drop 64 pages)) refl (frames_keep tx false (take 64 pages)) contents
    ∙ ap (λ (f : Content → Content). changed name f contents) (λ i c. (frames_join tx (take 64 pages) (drop 64 pages) c ∙ ap (λ (ps : List NumberedPage). frames tx true ps c) (take-append-drop 64 pages)) i)

pub split_is_whole : (name : List ℕ) (set : PageSet) (contents : List Content) → fold act contents (split name set) ≡ changed name (frames set.tx true set.pages) contents
split_is_whole name set contents = split_does (before_last set.pages) name set.tx set.pages contents

-- a set of which nothing is pending
whole_is_set : (name : List ℕ) (set : PageSet) (c : Content) → pending_of set.tx c.pending ≡ [] → frames set.tx true set.pages c ≡ applied_set set c
unfolding frames
whole_is_set name set c none = ap (λ (ps : List NumberedPage). record { name = c.name; image = image_after c.image (ps ++ set.pages); pending = None }) none

pub split_is_set : (name : List ℕ) (set : PageSet) (contents : List Content) → NonePending name set.tx contents → fold act contents (split name set) ≡ changed name (applied_set set) contents
split_is_set name set contents none =
    split_is_whole name set contents
    ∙ at_name_alike (λ (c : Content). c.name) (new_content name) name (frames set.tx true set.pages) (applied_set set) (whole_is_set name set (new_content name) refl) contents (alike contents none)
  where
    alike : (cs : List Content) → NonePending name set.tx cs → AllByRecursion (λ c. c.name ≡ name → frames set.tx true set.pages c ≡ applied_set set c) cs
    alike [] none = tt
    alike (c ∷ cs) none = (λ is. whole_is_set name set c (none.0 is), alike cs none.1)
