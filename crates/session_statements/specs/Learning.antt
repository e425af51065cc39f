-- What an engine knows after statements ran over an image.
use Rattle.std.specs.Prelude.{◌≡◌, ℕ, Contains, List, Option, Some}
use Rattle.dq_base.specs.declared.images.Image.{Image}
use Rattle.dq_base.specs.declared.image_number.ImageNumber.{ImageNumber}
use Rattle.dq_base.specs.declared.image_number.ImageNumber.TheVariants.{Working}
use Rattle.dq_base.specs.Applying.{applied}
use Rattle.sql_engine.specs.Known.{Known}
use Rattle.session_statements.specs.declared.ending.Ending.{Ending}
use Rattle.session_statements.specs.declared.ending.Ending.TheVariants as endings
use Rattle.session_statements.specs.Running.{change_in}

-- the image that statements left, by how running them ended; if they left none, the image that they ran over
abbrev pub left_by : Image → Ending → Image
left_by image (endings.Ended ran) = applied image (change_in ran).pages
left_by image (endings.TooLarge answer) = applied image answer.after.pages
left_by image (endings.Stopped fault) = image

-- What is known was known before, or is the image that statements ran over by its number, if it has one, or the image that they
-- left by the number that was drawn for it.
pub data IsLearnt (before : List Known) (number : Option ImageNumber) (image : Image) (after : ℕ) (left : Image) (known : Known) : Type 0 where
  was : Contains before known → IsLearnt before number image after left known
  handed : number ≡ Some known.number → known.image ≡ image → IsLearnt before number image after left known
  made : known ≡ record { number = Working after; image = left } → IsLearnt before number image after left known
