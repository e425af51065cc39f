-- Statements that run one after another.
use Rattle.std.specs.Prelude.{ℕ, ◌≡◌, List, [], ◌∷◌, ◌++◌}
use Rattle.dq_base.specs.declared.images.Image.{Image}
use Rattle.dq_base.specs.Applying.{applied}
use Rattle.sql_engine.specs.declared.answer.StatementResult.{StatementResult}
use Rattle.sql_engine.specs.Replies.{Statement, Reply}
use Rattle.sql_engine.specs.Meanings.{Meaning, Answers}

-- the statements lead from the image before to the image after, each on the image that the one before it left, with these
-- replies
abbrev pub RanAll : Meaning → Image → List Statement → Image → List Reply → Type 0
RanAll m before [] after [] = before ≡ after
RanAll m before (s ∷ ss) after (r ∷ rs) = (next : Image) × (m.runs before s next r × RanAll m next ss after rs)
RanAll m before ss after rs = ⊥

-- Statements that ran one after another are cut in two: the first of them led to some image, and the others from it.
pub record Halves (m : Meaning) (before after : Image) (ss ts : List Statement) (replies : List Reply) : Type 0 where
  pub middle : Image
  pub first : List Reply
  pub rest : List Reply
  pub parts : replies ≡ first ++ rest
  pub front : RanAll m before ss middle first
  pub back : RanAll m middle ts after rest

-- Statements that ran up to an image, and others that ran from it, ran one after the other.
abbrev pub Chains : Meaning → Type 0
Chains m = (before middle after : Image) (ss ts : List Statement) (rs us : List Reply) → RanAll m before ss middle rs → RanAll m middle ts after us → RanAll m before (ss ++ ts) after (rs ++ us)

-- wherever statements that ran are cut, both parts ran
abbrev pub Splits : Meaning → Type 0
Splits m = (before after : Image) (ss ts : List Statement) (replies : List Reply) → RanAll m before (ss ++ ts) after replies → Halves m before after ss ts replies

-- the pages of an answer, applied to the image, make the image that the statement leaves
abbrev pub LeadsOn : Meaning → Type 0
LeadsOn m = (image : Image) (s : Statement) (tx : ℕ) (ran : StatementResult) (a : Answers m image s tx ran) → applied image ran.after.pages ≡ a.after
