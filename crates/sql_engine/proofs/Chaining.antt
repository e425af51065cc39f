-- Statements that run one after another, joined and cut in two.
use Rattle.std.proofs.Common.{List, [], ◌∷◌, refl, sym, ap, subst}
use Rattle.dq_base.specs.declared.images.Image.{Image}
use Rattle.sql_engine.specs.Replies.{Statement, Reply}
use Rattle.sql_engine.specs.Meanings.{Meaning}
use Rattle.sql_engine.specs.Runs.{RanAll, Halves, Chains, Splits}

pub chains : (m : Meaning) → Chains m
chains m before middle after [] ts [] us same rest = subst (λ (i : Image). RanAll m i ts after us) (sym same) rest
chains m before middle after [] ts (r ∷ rs) us ran rest = absurd ran
chains m before middle after (s ∷ ss) ts [] us ran rest = absurd ran
chains m before middle after (s ∷ ss) ts (r ∷ rs) us ran rest = (ran.0, (ran.1.0, chains m ran.0 middle after ss ts rs us ran.1.1 rest))

-- one more statement in front
further : (m : Meaning) (before next after : Image) (s : Statement) (ss ts : List Statement) (r : Reply) (rs : List Reply) → m.runs before s next r → Halves m next after ss ts rs → Halves m before after (s ∷ ss) ts (r ∷ rs)
further m before next after s ss ts r rs runs h =
    record {
      middle = h.middle;
      first = r ∷ h.first;
      rest = h.rest;
      parts = ap (λ (xs : List Reply). r ∷ xs) h.parts;
      front = (next, (runs, h.front));
      back = h.back;
    }

pub splits : (m : Meaning) → Splits m
splits m before after [] ts replies ran = record { middle = before; first = []; rest = replies; parts = refl; front = refl; back = ran }
splits m before after (s ∷ ss) ts [] ran = absurd ran
splits m before after (s ∷ ss) ts (r ∷ rs) ran = further m before ran.0 after s ss ts r rs ran.1.0 (splits m ran.0 after ss ts rs ran.1.1)
