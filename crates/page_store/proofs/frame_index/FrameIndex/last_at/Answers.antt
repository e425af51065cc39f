use Rattle.std.proofs.Common.{◌≡◌, ◌+◌, ◌-◌, min, length, subst, ap, ◌∙◌}
use Rattle.page_store.specs.Frames.{IsLastAt, NoneAt}
use Rattle.page_store.specs.Places.{NoPlace, IsLastPlace}
use Rattle.page_store.proofs.PlacesKept.{last_frame, no_frame}
use Rattle.page_store.proofs.frame_index.FrameIndex.last_at.Goals as goal

pub returns-in-Some : goal.returns-in-Some
returns-in-Some c =
    let numbers = c.self.inside.numbers in
    let first = c.self.inside.dropped in
    let places = c.self.inside.places in
    let end : c.min.result ≡ min c.args.mark (length numbers.items) = c.min.ensures ∙ ap (min c.args.mark) (c.len.ensures ∙ numbers.ok.0) in
    let last = subst (λ n. IsLastPlace places c.args.number (first + n) c.in-Some.place) end c.in-Some.ensures in
    subst (λ xs. IsLastAt xs c.args.number c.args.mark (c.in-Some.place - first + 1)) c.self.view_is (last_frame numbers.items first places c.args.number c.args.mark c.in-Some.place c.self.invariant last)

pub returns-in-None : goal.returns-in-None
returns-in-None c =
    let numbers = c.self.inside.numbers in
    let first = c.self.inside.dropped in
    let places = c.self.inside.places in
    let end : c.min.result ≡ min c.args.mark (length numbers.items) = c.min.ensures ∙ ap (min c.args.mark) (c.len.ensures ∙ numbers.ok.0) in
    let none = subst (λ n. NoPlace places c.args.number (first + n)) end c.in-None.ensures in
    subst (λ xs. NoneAt xs c.args.number c.args.mark) c.self.view_is (no_frame numbers.items first places c.args.number c.args.mark c.self.invariant none)
