use Rattle.std.proofs.Common.{ℕ, List, [], Option, sym, ◌∙◌, subst}
use Rattle.std.specs.Prelude.{vec_capacity}
use Rattle.page_store.specs.Log.{Log}
use Rattle.page_store.specs.Sets.{store_of}
use Rattle.page_store.specs.Holding.{Holds}
use Rattle.page_store.proofs.StoreKept.{holds_fresh, fresh_is}
use Rattle.page_store.proofs.store.PageStore.from_image.Goals as goal

pub invariant_of-result : goal.invariant_of-result
invariant_of-result c =
    let main : ℕ = vec_capacity c.into_vec.result in
    let side : ℕ = vec_capacity c.into_vec-2.result in (
      subst (λ (l : Log). Holds main side l.pages l.lengths 0 c.new-2.result) (sym c.new.ensures)
          (subst (λ (ms : List (Option ℕ)). Holds main side [] [] 0 ms) (sym c.new-2.ensures) (holds_fresh main side)),
      tt,
    )

pub returns : goal.returns
returns c =
    (λ i. store_of (record { main = c.into_vec.ensures i; side = c.into_vec-2.ensures i }) (c.new.ensures i).pages 0 (c.new-2.ensures i)) ∙ fresh_is c.args.image
