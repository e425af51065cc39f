use Rattle.std.proofs.Common.{◌≡◌, subst}
use Rattle.std.specs.Prelude.{vec_capacity, IfOk}
use Rattle.dq_base.specs.declared.images.Image.{Image}
use Rattle.page_store.specs.Store.{Store, pinned, StillShows}
use Rattle.page_store.specs.Sets.{store_of}
use Rattle.page_store.proofs.StoreKept.{pinned_holds, pinned_is, pinned_shows}
use Rattle.page_store.proofs.store.PageStore.pin.Goals as goal

pub invariant_of-self : goal.invariant_of-self
invariant_of-self c =
    let a = c.self.inside in
    (pinned_holds c.pin.result (vec_capacity a.main) (vec_capacity a.side) a.log.pages a.log.lengths a.newest a.marks c.pin.new.self c.len-count.result c.len-count.ensures.value c.pin.ensures.pinned c.pin.ensures.kept c.self.invariant.0, c.self.invariant.1)

pub returns-clause-done : goal.returns-clause-done
returns-clause-done c =
    let a = c.self.inside in
    let base : Image = record { main = a.main.items; side = a.side.items } in
    subst (λ (s : Store). IfOk c.pin.result (λ id. store_of base a.log.pages a.newest c.pin.new.self ≡ pinned s id)) c.self.view_is
    (pinned_is c.pin.result base a.log.pages a.newest a.marks c.pin.new.self c.len-count.result c.len-count.ensures.value c.pin.ensures.pinned)

pub returns-clause-shown : goal.returns-clause-shown
returns-clause-shown c other =
    let a = c.self.inside in
    let base : Image = record { main = a.main.items; side = a.side.items } in
    subst (λ (s : Store). StillShows s (store_of base a.log.pages a.newest c.pin.new.self) other) c.self.view_is
    (pinned_shows c.pin.result base a.log.pages a.newest a.marks c.pin.new.self c.len-count.result other c.len-count.ensures.value c.pin.ensures.pinned c.pin.ensures.kept)
