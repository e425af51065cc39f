-- What an engine learns of images.
use Rattle.std.specs.Prelude.{◌≡◌, ℕ, ◌<◌, ◌≤◌, List}
use Rattle.std.specs.List.{All}
use Rattle.dq_base.specs.declared.images.Image.{Image}
use Rattle.dq_base.specs.declared.image_number.ImageNumber.{ImageNumber}
use Rattle.dq_base.specs.declared.image_number.ImageNumber.TheVariants.{Newest, Working}
use Rattle.sql_engine.specs.Known.{Known}

-- this image has a number of a commit so far, and is the newest one if it has the number of the last; or that of a working image so far
abbrev pub IsNumbered : Image → ℕ → ℕ → Image → ImageNumber → Type 0
IsNumbered newest commits works image (Newest place count) = (count ≤ commits) × (count ≡ commits → image ≡ newest)
IsNumbered newest commits works image (Working number) = number < works

abbrev pub IsTold : Image → ℕ → ℕ → Known → Type 0
IsTold newest commits works known = IsNumbered newest commits works known.image known.number

abbrev pub AreTold : Image → ℕ → ℕ → List Known → Type 0
AreTold newest commits works known = All (IsTold newest commits works) known
