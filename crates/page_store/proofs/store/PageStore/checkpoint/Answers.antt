use Rattle.std.proofs.Common.{◌≡◌, ℕ, List, Option, length, sym, ap, ◌∙◌, subst, refl}
use Rattle.std.specs.Prelude.{vec_capacity, unwrap_or, IfSome}
use Rattle.std.specs.Arc.{arc_value}
use Rattle.dq_base.specs.declared.images.Image.{Image}
use Rattle.page_store.specs.Marks.{least_mark, lowered}
use Rattle.page_store.specs.Store.{Store, newest_image, checkpointed, pages_to_move, StillShows}
use Rattle.page_store.specs.Sets.{store_of}
use Rattle.page_store.specs.Log.{Log}
use Rattle.page_store.specs.Holding.{IsEnd, Holds}
use Rattle.page_store.proofs.Shown.{newest_checkpointed, checkpoint_shows}
use Rattle.page_store.proofs.StoreKept.{end_of_least, holds_checkpoint, checkpoint_is, moved_count}
use Rattle.page_store.proofs.store.PageStore.checkpoint.Goals as goal

pub lay-requires-clause-within : goal.lay-requires-clause-within
lay-requires-clause-within c =
    let a = c.self.inside in
    let at : c.frames_to_move-count.result ≡ unwrap_or (least_mark a.marks) (length a.log.pages) = c.frames_to_move-count.ensures ∙ ap (unwrap_or (least_mark a.marks)) c.len.ensures.value in
    (subst (IsEnd a.log.pages) (sym at) (end_of_least (vec_capacity a.main) (vec_capacity a.side) a.log.pages a.log.lengths a.newest a.marks (least_mark a.marks) c.self.invariant.0 refl)).within

pub lay-requires-2-clause-within : goal.lay-requires-2-clause-within
lay-requires-2-clause-within c =
    let a = c.self.inside in
    let at : c.frames_to_move-count.result ≡ unwrap_or (least_mark a.marks) (length a.log.pages) = c.frames_to_move-count.ensures ∙ ap (unwrap_or (least_mark a.marks)) c.len.ensures.value in
    (subst (IsEnd a.log.pages) (sym at) (end_of_least (vec_capacity a.main) (vec_capacity a.side) a.log.pages a.log.lengths a.newest a.marks (least_mark a.marks) c.self.invariant.0 refl)).within

pub invariant_of-self : goal.invariant_of-self
invariant_of-self c =
    let a = c.self.inside in
    let base : Image = record { main = a.main.items; side = a.side.items } in
    let count : ℕ = c.frames_to_move-count.result in
    let main : ℕ = vec_capacity c.lay.new.file in
    let side : ℕ = vec_capacity c.lay-2.new.file in
    let at : count ≡ unwrap_or (least_mark a.marks) (length a.log.pages) = c.frames_to_move-count.ensures ∙ ap (unwrap_or (least_mark a.marks)) c.len.ensures.value in
    let kept = holds_checkpoint (vec_capacity a.main) (vec_capacity a.side) main side a.log.pages a.log.lengths a.newest a.marks count c.self.invariant.0 at c.lay.ensures.capacity c.lay-2.ensures.capacity in
    let done =
    (λ i. store_of (record { main = c.lay.ensures.items i; side = c.lay-2.ensures.items i }) (c.drop_first.ensures i).pages a.newest (c.lower.ensures i))
    ∙ checkpoint_is base (vec_capacity a.main) (vec_capacity a.side) a.log a.newest a.marks count c.self.invariant.0 at in
    let same : newest_image (store_of (record { main = c.lay.new.file.items; side = c.lay-2.new.file.items }) c.drop_first.new.self.pages a.newest c.lower.new.self) ≡ newest_image (store_of base a.log.pages a.newest a.marks) =
    ap newest_image done ∙ newest_checkpointed (store_of base a.log.pages a.newest a.marks) in (
      subst (λ (ms : List (Option ℕ)). Holds main side c.drop_first.new.self.pages c.drop_first.new.self.lengths a.newest ms) (sym c.lower.ensures)
          (subst (λ (l : Log). Holds main side l.pages l.lengths a.newest (lowered count a.marks)) (sym c.drop_first.ensures) kept),
      subst (λ (image : Image). IfSome a.whole (λ shared. arc_value shared ≡ image)) (sym same) c.self.invariant.1,
    )

pub returns-clause-done : goal.returns-clause-done
returns-clause-done c =
    let a = c.self.inside in
    let base : Image = record { main = a.main.items; side = a.side.items } in
    let count : ℕ = c.frames_to_move-count.result in
    let at : count ≡ unwrap_or (least_mark a.marks) (length a.log.pages) = c.frames_to_move-count.ensures ∙ ap (unwrap_or (least_mark a.marks)) c.len.ensures.value in
    (λ i. store_of (record { main = c.lay.ensures.items i; side = c.lay-2.ensures.items i }) (c.drop_first.ensures i).pages a.newest (c.lower.ensures i))
    ∙ checkpoint_is base (vec_capacity a.main) (vec_capacity a.side) a.log a.newest a.marks count c.self.invariant.0 at
    ∙ ap checkpointed c.self.view_is

pub returns-clause-moved : goal.returns-clause-moved
returns-clause-moved c =
    let a = c.self.inside in
    let base : Image = record { main = a.main.items; side = a.side.items } in
    let count : ℕ = c.frames_to_move-count.result in
    let at : count ≡ unwrap_or (least_mark a.marks) (length a.log.pages) = c.frames_to_move-count.ensures ∙ ap (unwrap_or (least_mark a.marks)) c.len.ensures.value in
    moved_count base (vec_capacity a.main) (vec_capacity a.side) a.log.pages a.log.lengths a.newest a.marks count c.self.invariant.0 at ∙ ap pages_to_move c.self.view_is

pub returns-clause-shown : goal.returns-clause-shown
returns-clause-shown c id =
    let a = c.self.inside in
    let base : Image = record { main = a.main.items; side = a.side.items } in
    let count : ℕ = c.frames_to_move-count.result in
    let at : count ≡ unwrap_or (least_mark a.marks) (length a.log.pages) = c.frames_to_move-count.ensures ∙ ap (unwrap_or (least_mark a.marks)) c.len.ensures.value in
    let done : store_of (record { main = c.lay.new.file.items; side = c.lay-2.new.file.items }) c.drop_first.new.self.pages a.newest c.lower.new.self ≡ checkpointed c.args.self.now =
    (λ i. store_of (record { main = c.lay.ensures.items i; side = c.lay-2.ensures.items i }) (c.drop_first.ensures i).pages a.newest (c.lower.ensures i))
    ∙ checkpoint_is base (vec_capacity a.main) (vec_capacity a.side) a.log a.newest a.marks count c.self.invariant.0 at
    ∙ ap checkpointed c.self.view_is in
    subst (λ (s : Store). StillShows c.args.self.now s id) (sym done) (checkpoint_shows c.args.self.now id)
