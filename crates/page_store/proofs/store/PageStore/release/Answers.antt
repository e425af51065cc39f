use Rattle.std.proofs.Common.{◌≡◌, ℕ, List, Option, sym, ap, ◌∙◌, subst}
use Rattle.std.specs.Prelude.{vec_capacity}
use Rattle.dq_base.specs.declared.images.Image.{Image}
use Rattle.page_store.specs.Store.{Store, released, StillShows}
use Rattle.page_store.specs.Sets.{store_of}
use Rattle.page_store.specs.Holding.{Holds}
use Rattle.page_store.proofs.Shown.{release_shows}
use Rattle.page_store.proofs.StoreKept.{holds_release, release_is}
use Rattle.page_store.proofs.store.PageStore.release.Goals as goal

pub invariant_of-self : goal.invariant_of-self
invariant_of-self c =
    let a = c.self.inside in (
      subst (λ (ms : List (Option ℕ)). Holds (vec_capacity a.main) (vec_capacity a.side) a.log.pages a.log.lengths a.newest ms) (sym c.release.ensures)
          (holds_release (vec_capacity a.main) (vec_capacity a.side) a.log.pages a.log.lengths a.newest a.marks c.args.id c.self.invariant.0),
      c.self.invariant.1,
    )

pub returns-clause-done : goal.returns-clause-done
returns-clause-done c =
    let a = c.self.inside in
    let base : Image = record { main = a.main.items; side = a.side.items } in
    ap (store_of base a.log.pages a.newest) c.release.ensures ∙ release_is base a.log.pages a.newest a.marks c.args.id ∙ ap (λ (s : Store). released s c.args.id) c.self.view_is

pub returns-clause-shown : goal.returns-clause-shown
returns-clause-shown c other apart =
    let a = c.self.inside in
    let base : Image = record { main = a.main.items; side = a.side.items } in
    let done : store_of base a.log.pages a.newest c.release.new.self ≡ released c.args.self.now c.args.id =
    ap (store_of base a.log.pages a.newest) c.release.ensures ∙ release_is base a.log.pages a.newest a.marks c.args.id ∙ ap (λ (s : Store). released s c.args.id) c.self.view_is in
    subst (λ (s : Store). StillShows c.args.self.now s other) (sym done) (release_shows c.args.self.now c.args.id other apart)
