-- How long values of a type may be kept.
use Rattle.std.specs.Prelude.{[]}
use contract.BorrowLft.{◌⊑◌}
use denote.RattleType.{RattleType}

-- values of this type borrow nothing that ends
abbrev pub IsLasting : RattleType → Type 0
IsLasting T = [] ⊑ T.lives
