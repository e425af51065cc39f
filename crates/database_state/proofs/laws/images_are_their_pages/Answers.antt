use Rattle.database_state.proofs.ImagePages.{all_counted, all_own}
use Rattle.database_state.proofs.RestoredLaws.{image_sound, image_again}
use Rattle.database_state.proofs.laws.images_are_their_pages.Goals as goal

pub returns : goal.returns
returns c = record {
  count = λ image. all_counted image;
  each = λ image. all_own image;
  sound = λ image short. image_sound image short;
  whole = λ image short. image_again image short;
}
