use Rattle.std.proofs.Common.{◌≡◌, ℕ, ap, ◌∙◌, subst}
use Rattle.std.specs.Prelude.{vec_capacity, IfOk}
use Rattle.dq_base.specs.declared.images.Image.{Image}
use Rattle.page_store.specs.Store.{Store, image_under}
use Rattle.page_store.specs.Log.{laid_image}
use Rattle.page_store.proofs.StoreKept.{shown_is}
use Rattle.page_store.proofs.store.PageStore.image_at.Goals as goal

pub returns : goal.returns
returns c =
    let a = c.self.inside in
    let base : Image = record { main = a.main.items; side = a.side.items } in
    let count : ℕ = c.at-count.result in
    let slices : laid_image a.log count c.as_slice-main.result.now c.as_slice-side.result.now ≡ laid_image a.log count a.main.items a.side.items =
    λ i. laid_image a.log count (c.as_slice-main.ensures.value i) (c.as_slice-side.ensures.value i) in
    let shown : laid_image a.log count c.as_slice-main.result.now c.as_slice-side.result.now ≡ image_under c.args.self.now c.args.id.now =
    slices ∙ shown_is base (vec_capacity a.main) (vec_capacity a.side) a.log a.newest a.marks c.args.id.now count c.self.invariant.0 c.at-count.ensures ∙ ap (λ (s : Store). image_under s c.args.id.now) c.self.view_is in
    subst (λ (im : Image). IfOk c.image_under.result (λ image. image ≡ im)) shown c.image_under.ensures
