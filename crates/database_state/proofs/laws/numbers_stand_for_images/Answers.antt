use Rattle.std.proofs.Common.{length}
use Rattle.database_state.proofs.ImageNumbers.{numbers_after_act, numbers_after_pin, numbers_after_release, pin_stays, release_stays, one_at_place, place_below}
use Rattle.database_state.proofs.laws.numbers_stand_for_images.Goals as goal

pub returns : goal.returns
returns c = record {
  act = numbers_after_act;
  pin = λ databases name mark. (numbers_after_pin databases name mark, pin_stays databases name mark);
  release = λ databases pin. (numbers_after_release databases pin, release_stays databases pin);
  apart = λ databases a b machine at other same. one_at_place databases a b machine.apart at other same;
  below = λ databases a machine at. place_below (length databases) databases a machine.below at;
}
