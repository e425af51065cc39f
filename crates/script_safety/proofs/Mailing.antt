-- Messages that are among peer messages stay so, and join.
use Rattle.std.proofs.Common.{◌≡◌, ◌⊎◌, inl, inr, ⊎_elim, ℕ, zero, suc, List, [], ◌∷◌, ◌++◌, ap, ◌∙◌}
use Rattle.std.specs.Prelude.{Some, slice_get}
use Rattle.raft_messages.specs.declared.message.RaftMessage.{RaftMessage}
use Rattle.node_spec.specs.Steps.{Letter}
use Rattle.node_core.specs.Account.{letter_of}
use Rattle.node_meets_spec.specs.Steps.{AreAmong}
use Rattle.node_meets_spec.proofs.Stepping.{get_front}

get_back : (xs ys : List Letter) (j : ℕ) (l : Letter) → slice_get ys j ≡ Some l → (i : ℕ) × (slice_get (xs ++ ys) i ≡ Some l)
get_back [] ys j l e = (j, e)
get_back (x ∷ xs) ys j l e = let r = get_back xs ys j l e in (suc r.0, r.1)

get_parts : (xs ys : List RaftMessage) (k : ℕ) (m : RaftMessage) → slice_get (xs ++ ys) k ≡ Some m → (slice_get xs k ≡ Some m) ⊎ ((j : ℕ) × (slice_get ys j ≡ Some m))
get_parts [] ys k m e = inr (k, e)
get_parts (x ∷ xs) ys zero m e = inl e
get_parts (x ∷ xs) ys (suc k) m e = get_parts xs ys k m e

pub among_none : (letters : List Letter) → AreAmong [] letters
among_none letters k m e = absurd (no k e)
  where
    no : (k : ℕ) → slice_get [] k ≡ Some m → ⊥
    no k e = cc

pub among_join : (xs ys : List RaftMessage) (letters more all : List Letter) → all ≡ letters ++ more → AreAmong xs letters → AreAmong ys more → AreAmong (xs ++ ys) all
among_join xs ys letters more all is a b k m e =
    ⊎_elim
    (λ (f : slice_get xs k ≡ Some m). let r = a k m f in (r.0, ap (λ (l : List Letter). slice_get l r.0) is ∙ get_front letters more r.0 (letter_of m) r.1))
    (λ (f : (j : ℕ) × (slice_get ys j ≡ Some m)).
    let r = b f.0 m f.1 in
    let g = get_back letters more r.0 (letter_of m) r.1 in
    (g.0, ap (λ (l : List Letter). slice_get l g.0) is ∙ g.1))
    (get_parts xs ys k m e)
