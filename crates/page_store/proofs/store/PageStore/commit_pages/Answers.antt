use Rattle.std.proofs.Common.{◌≡◌, ℕ, ◌+◌, List, [], ◌∷◌, ◌++◌, Some, map, sym, ap, ◌∙◌, subst, arith}
use Rattle.std.specs.Prelude.{vec_capacity, IfSome}
use Rattle.std.specs.Arc.{arc_value}
use Rattle.std.specs.List.{AllByRecursion}
use Rattle.std.proofs.lemmas.Result.{err_from_is_err_and}
use Rattle.dq_base.specs.declared.images.Image.{Image}
use Rattle.dq_base.specs.declared.pages.NumberedPage.{NumberedPage}
use Rattle.dq_base.specs.Applying.{page_fault}
use Rattle.dq_base.proofs.PageFaults.{page_fault-refuses}
use Rattle.page_store.specs.Store.{Store, newest, newest_image, committed, StillShows, MarksWithin}
use Rattle.page_store.specs.Sets.{store_of}
use Rattle.page_store.specs.Log.{Log, IsSized}
use Rattle.page_store.specs.Holding.{Holds}
use Rattle.page_store.proofs.Shown.{commit_shows, newest_committed, shows_committed}
use Rattle.page_store.proofs.StoreKept.{marks_within, holds_commit, commit_is, next_newest}
use Rattle.page_store.proofs.store.PageStore.commit_pages.Goals as goal

pub returns-in_err-lengths-clause-refused : goal.returns-in_err-lengths-clause-refused
returns-in_err-lengths-clause-refused c =
    let p = err_from_is_err_and c.from_residual.result c.from_residual.ensures.1 in
    let found : page_fault c.args.pages.now ≡ Some c.in_err-lengths.field-0.0 = c.in_err-lengths.ensures in
    rw (p.1, p.2) (page_fault-refuses c.args.pages.now c.in_err-lengths.field-0.0 found)

pub invariant_of-self-2 : goal.invariant_of-self-2
invariant_of-self-2 c =
    let a = c.self.inside in
    let set : List NumberedPage = c.args.pages.now in
    let main : ℕ = vec_capacity c.make_room.new.file in
    let side : ℕ = vec_capacity c.make_room-2.new.file in
    let done = c.in_ok-append.ensures.done in
    let next : a.newest + 1 ≡ c.in-Some.newest = omega (arith, c.in-Some.ensures) in
    let sized : AllByRecursion IsSized (a.log.pages ++ set) = subst (λ (l : Log). AllByRecursion IsSized l.pages) done c.len-frames.ensures.sized in
    let kept = holds_commit (vec_capacity a.main) (vec_capacity a.side) main side a.log.pages set a.log.lengths c.in_ok-lengths.lengths a.newest a.marks c.self.invariant.0 c.in_ok-lengths.ensures.0 sized c.in_ok-lengths.ensures.1
    c.make_room.ensures.capacity c.make_room-2.ensures.capacity c.in_ok-make_room.ensures.room c.in_ok-make_room-2.ensures.room in
    let base : Image = record { main = a.main.items; side = a.side.items } in
    let grown : store_of (record { main = c.make_room.new.file.items; side = c.make_room-2.new.file.items }) c.append.new.self.pages c.in-Some.newest a.marks ≡ committed (store_of base a.log.pages a.newest a.marks) set =
    (λ i. store_of (record { main = c.make_room.ensures.kept i; side = c.make_room-2.ensures.kept i }) (c.in_ok-append.ensures.done i).pages (sym next i) a.marks)
    ∙ commit_is base (vec_capacity a.main) (vec_capacity a.side) a.log.pages set a.log.lengths a.newest a.marks c.self.invariant.0 c.in_ok-lengths.ensures.0 in
    let image = ap newest_image grown ∙ newest_committed (store_of base a.log.pages a.newest a.marks) set in (
      subst (λ (l : Log). Holds main side l.pages l.lengths c.in-Some.newest a.marks) (sym done) (subst (λ (n : ℕ). Holds main side (a.log.pages ++ set) (a.log.lengths ++ map (λ (p : NumberedPage). c.in_ok-lengths.lengths) set) n a.marks) next kept),
      shows_committed arc_value c.take-whole.result c.brought_along.result _ _ set (subst (λ o. IfSome o (λ shared. arc_value shared ≡ newest_image (store_of base a.log.pages a.newest a.marks))) (sym c.take-whole.ensures.value) c.self.invariant.1) c.brought_along.ensures image,
    )

pub returns-clause-done : goal.returns-clause-done
returns-clause-done c =
    let a = c.self.inside in
    let set : List NumberedPage = c.args.pages.now in
    let base : Image = record { main = a.main.items; side = a.side.items } in
    let next : c.in-Some.newest ≡ a.newest + 1 = omega (arith, c.in-Some.ensures) in
    (λ i. store_of (record { main = c.make_room.ensures.kept i; side = c.make_room-2.ensures.kept i }) (c.in_ok-append.ensures.done i).pages (next i) a.marks)
    ∙ commit_is base (vec_capacity a.main) (vec_capacity a.side) a.log.pages set a.log.lengths a.newest a.marks c.self.invariant.0 c.in_ok-lengths.ensures.0
    ∙ ap (λ (s : Store). committed s set) c.self.view_is

-- what holds of all items holds of the later ones
later_all : (P : NumberedPage → Type 0) (xs ys : List NumberedPage) → AllByRecursion P (xs ++ ys) → AllByRecursion P ys
later_all P [] ys all = all
later_all P (x ∷ xs) ys all = later_all P xs ys all.1

pub returns-clause-sized : goal.returns-clause-sized
returns-clause-sized c =
    let a = c.self.inside in
    later_all IsSized a.log.pages c.args.pages.now (subst (λ (l : Log). AllByRecursion IsSized l.pages) c.in_ok-append.ensures.done c.len-frames.ensures.sized)

pub returns-clause-newest : goal.returns-clause-newest
returns-clause-newest c =
    let a = c.self.inside in
    let set : List NumberedPage = c.args.pages.now in
    let base : Image = record { main = a.main.items; side = a.side.items } in
    let next : c.in-Some.newest ≡ a.newest + 1 = omega (arith, c.in-Some.ensures) in
    let done : store_of (record { main = c.make_room.new.file.items; side = c.make_room-2.new.file.items }) c.append.new.self.pages c.in-Some.newest a.marks ≡ committed (store_of base a.log.pages a.newest a.marks) set =
    (λ i. store_of (record { main = c.make_room.ensures.kept i; side = c.make_room-2.ensures.kept i }) (c.in_ok-append.ensures.done i).pages (next i) a.marks)
    ∙ commit_is base (vec_capacity a.main) (vec_capacity a.side) a.log.pages set a.log.lengths a.newest a.marks c.self.invariant.0 c.in_ok-lengths.ensures.0 in
    next ∙ next_newest base (vec_capacity a.main) (vec_capacity a.side) a.log.pages set a.log.lengths a.newest a.marks c.self.invariant.0 ∙ ap newest (sym done)

pub returns-clause-shown : goal.returns-clause-shown
returns-clause-shown c id =
    let a = c.self.inside in
    let set : List NumberedPage = c.args.pages.now in
    let base : Image = record { main = a.main.items; side = a.side.items } in
    let next : c.in-Some.newest ≡ a.newest + 1 = omega (arith, c.in-Some.ensures) in
    let done : store_of (record { main = c.make_room.new.file.items; side = c.make_room-2.new.file.items }) c.append.new.self.pages c.in-Some.newest a.marks ≡ committed c.args.self.now set =
    (λ i. store_of (record { main = c.make_room.ensures.kept i; side = c.make_room-2.ensures.kept i }) (c.in_ok-append.ensures.done i).pages (next i) a.marks)
    ∙ commit_is base (vec_capacity a.main) (vec_capacity a.side) a.log.pages set a.log.lengths a.newest a.marks c.self.invariant.0 c.in_ok-lengths.ensures.0
    ∙ ap (λ (s : Store). committed s set) c.self.view_is in
    let within : MarksWithin c.args.self.now =
    subst MarksWithin c.self.view_is (marks_within base (vec_capacity a.main) (vec_capacity a.side) a.log.pages a.log.lengths a.newest a.marks c.self.invariant.0) in
    subst (λ (s : Store). StillShows c.args.self.now s id) (sym done) (commit_shows c.args.self.now set id within)
