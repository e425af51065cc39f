use Rattle.std.proofs.Common.{◌≡◌, ◌<◌, Some, None, subst, ap, sym, ◌∙◌}
use Rattle.std.specs.Prelude.{is_none, slice_set}
use Rattle.std.specs.List.{position}
use Rattle.page_store.specs.Marks.{Pinned, live_count}
use Rattle.page_store.proofs.MarkTables.{pinned_at, room_at, none_free}
use Rattle.page_store.proofs.marks.Marks.pin.Goals as goal

pub returns-in_default-clause-all_live : goal.returns-in_default-clause-all_live
returns-in_default-clause-all_live c =
    let none : position is_none c.args.self.now ≡ None = ap (position is_none) (sym c.places.ensures.value) ∙ sym c.in_default.ensures in
    none_free c.args.self.now none ∙ c.places.ensures.size

pub returns-clause-pinned : goal.returns-clause-pinned
returns-clause-pinned c =
    let table = c.self.inside.table in
    let place = c.in-Some.place in
    let found : position is_none table ≡ Some place = ap (position is_none) (c.self.view_is ∙ sym c.places.ensures.value) ∙ sym c.in-Some.ensures in
    subst (λ t. Pinned t (slice_set table place (Some c.args.mark)) place c.args.mark) c.self.view_is (pinned_at table place c.args.mark found)

pub returns-clause-room : goal.returns-clause-room
returns-clause-room c =
    let found : position is_none c.args.self.now ≡ Some c.in-Some.place = ap (position is_none) (sym c.places.ensures.value) ∙ sym c.in-Some.ensures in
    subst (λ n. live_count c.args.self.now < n) c.places.ensures.size (room_at c.args.self.now c.in-Some.place found)
