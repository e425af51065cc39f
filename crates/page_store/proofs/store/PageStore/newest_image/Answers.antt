use Rattle.std.proofs.Common.{◌≡◌, length, ap, ◌∙◌, subst}
use Rattle.std.specs.Prelude.{vec_capacity, IfOk}
use Rattle.dq_base.specs.declared.images.Image.{Image}
use Rattle.page_store.specs.Store.{newest_image}
use Rattle.page_store.specs.Log.{laid_image}
use Rattle.page_store.proofs.StoreKept.{newest_is}
use Rattle.page_store.proofs.store.PageStore.newest_image.Goals as goal

pub returns : goal.returns
returns c =
    let a = c.self.inside in
    let base : Image = record { main = a.main.items; side = a.side.items } in
    let parts : laid_image a.log c.len-count.result c.as_slice-main.result.now c.as_slice-side.result.now ≡ laid_image a.log (length a.log.pages) a.main.items a.side.items =
    λ i. laid_image a.log (c.len-count.ensures.value i) (c.as_slice-main.ensures.value i) (c.as_slice-side.ensures.value i) in
    let shown : laid_image a.log c.len-count.result c.as_slice-main.result.now c.as_slice-side.result.now ≡ newest_image c.args.self.now =
    parts ∙ newest_is base (vec_capacity a.main) (vec_capacity a.side) a.log a.newest a.marks c.self.invariant.0 ∙ ap newest_image c.self.view_is in
    subst (λ (im : Image). IfOk c.image_under.result (λ image. image ≡ im)) shown c.image_under.ensures
