use Rattle.sqlite_engine.proofs.kept.Kept.looks_only.Goals as goal

pub returns-then-is_yes-clause-looks : goal.returns-then-is_yes-clause-looks
returns-then-is_yes-clause-looks c is = ∣ rw c.deref.ensures at (c.looks_only-looks.ensures.looks is) ∣₁

pub returns-else-is_yes-clause-looks : goal.returns-else-is_yes-clause-looks
returns-else-is_yes-clause-looks c is = ∣ rw c.deref.ensures at (c.looks_only-looks.ensures.looks is) ∣₁

pub noting-requires : goal.noting-requires
noting-requires c = record {
  only = rw c.deref.ensures at (c.looks_only-looks.ensures.looks (c.is_yes.ensures c.if-is_yes.true));
  shows = c.requires.columns;
  some = c.requires.some;
}

pub returns-then-is_yes-clause-returns : goal.returns-then-is_yes-clause-returns
returns-then-is_yes-clause-returns c is = rw c.deref.ensures at (c.looks_only-looks.ensures.returns is)

pub returns-else-is_yes-clause-returns : goal.returns-else-is_yes-clause-returns
returns-else-is_yes-clause-returns c is = rw c.deref.ensures at (c.looks_only-looks.ensures.returns is)
