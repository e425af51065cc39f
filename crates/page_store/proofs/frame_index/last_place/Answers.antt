use Rattle.page_store.proofs.PairOrder.{below_place}
use Rattle.page_store.proofs.PlacesKept.{IsGreatest, greatest_here, greatest_elsewhere}
use Rattle.page_store.proofs.frame_index.last_place.Goals as goal

pub returns-then-found-number : goal.returns-then-found-number
returns-then-found-number c =
    let k = c.in-Some.field-0.now in
    let in_range = c.range.ensures.in_range tt in
    let lies = in_range.3 _ _ c.in-Some.ensures.steps in
    let greatest : IsGreatest c.args.places.now c.args.number c.args.end k =
    record { below = lies.0.1; has = lies.1; greatest = λ q below has. in_range.4 _ _ c.in-Some.ensures.steps q (tt, below) has } in
    greatest_here c.args.places.now c.args.number c.args.end k greatest c.if-found-number.true

pub returns-else-found-number : goal.returns-else-found-number
returns-else-found-number c =
    let k = c.in-Some.field-0.now in
    let in_range = c.range.ensures.in_range tt in
    let lies = in_range.3 _ _ c.in-Some.ensures.steps in
    let greatest : IsGreatest c.args.places.now c.args.number c.args.end k =
    record { below = lies.0.1; has = lies.1; greatest = λ q below has. in_range.4 _ _ c.in-Some.ensures.steps q (tt, below) has } in
    greatest_elsewhere c.args.places.now c.args.number c.args.end k greatest c.if-found-number.false

pub returns-in_default : goal.returns-in_default
returns-in_default c place before = (c.range.ensures.in_range tt).5 c.in_default.ensures.steps.0 (c.args.number, place) (tt, below_place c.args.number place c.args.end before)
