-- What holds of all that an engine knows.
use Rattle.std.proofs.Common.{◌≡◌, List, get_or, All, Contains, Result, Ok, sym, subst}
use Rattle.std.proofs.lemmas.List.{get_or_default}
use Rattle.dq_base.specs.declared.images.Image.{Image}
use Rattle.dq_base.specs.declared.image_number.ImageNumber.TheVariants.{Working}
use Rattle.dq_base.specs.Applying.{applied}
use Rattle.sql_engine.specs.declared.answer.StatementResult.{StatementResult}
use Rattle.sql_engine.specs.declared.fault.EngineFault.{EngineFault}
use Rattle.sql_engine.specs.declared.image_numbers.ImageNumbers.{ImageNumbers}
use Rattle.sql_engine.specs.Known.{Known, MayKnow, was, handed, left}

-- each item of a list is in it
pub all_contained : {X : Type 0} (xs : List X) → All (Contains xs) xs
all_contained xs k d lt = (k, lt, get_or_default xs k (get_or xs k d) d lt)

-- what holds of all items of a list holds of one that is in it
pub of_contained : {X : Type 0} (P : X → Type 0) (xs : List X) (x : X) → All P xs → Contains xs x → P x
of_contained P xs x all c = subst P c.2 (all c.0 x c.1)

-- what is known is known still
pub still_known : (image : Image) (numbers : ImageNumbers) (result : Result StatementResult EngineFault) (known : List Known) → All (MayKnow image numbers result known) known
still_known image numbers result known k d lt = was (all_contained known k d lt)

module _ (P : Known → Type 0) (image : Image) (numbers : ImageNumbers) (result : Result StatementResult EngineFault) (before : List Known)
    (held : All P before) (is_handed : P (record { number = numbers.before; image = image }))
    (is_left : (ran : StatementResult) → result ≡ Ok ran → P (record { number = Working numbers.after; image = applied image ran.after.pages })) where
  one_known : (known : Known) → MayKnow image numbers result before known → P known
  one_known known (was c) = of_contained P before known held c
  one_known known (handed e) = subst P (sym e) is_handed
  one_known known (left ran o e) = subst P (sym e) (is_left ran o)

  -- what holds of all that an engine knew before a run, of the image handed in by its number, and of the image after by its own,
  -- holds of all that it knows after it
  pub known_after : (now : List Known) → All (MayKnow image numbers result before) now → All P now
  known_after now may k d lt = one_known (get_or now k d) (may k d lt)
