-- What an engine answered, one list of answers after another.
use Rattle.std.proofs.Common.{List, [], ◌∷◌, ◌++◌, Option, refl, sym, subst}
use Rattle.sql_engine.specs.Meanings.{Told}
use Rattle.session_spec.specs.Engines.{Answer}
use Rattle.session_statements.specs.Running.{TellsAll}

pub tells_none : (told : Option Told) → TellsAll [] told told
unfolding TellsAll
tells_none told = refl

pub tells_join : (xs ys : List Answer) (before mid now : Option Told) → TellsAll xs before mid → TellsAll ys mid now → TellsAll (xs ++ ys) before now
unfolding TellsAll
tells_join [] ys before mid now a b = subst (λ (t : Option Told). TellsAll ys t now) (sym a) b
tells_join (x ∷ xs) ys before mid now a b = (a.0, a.1, tells_join xs ys a.0 mid now a.2 b)
