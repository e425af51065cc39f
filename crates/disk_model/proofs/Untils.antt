-- Runs of calls, one after another.
use Rattle.std.proofs.Common.{◌⊎◌, inl, inr, List, [], ◌∷◌, ◌++◌, refl, ◌∙◌}
use Rattle.disk_model.specs.Disk.{Disk}
use Rattle.disk_model.specs.Calls.{Call, Done, Until}
use Rattle.disk_model.proofs.Elsewhere.{Elsewhere}

-- the moment falls among the first calls, or after them
pub until_append : {N : Type 0} (cs ds : List (Call N)) (d e : Disk N) → Until (cs ++ ds) d e → Until cs d e ⊎ ((m : Disk N) × (Done cs d m × Until ds m e))
until_append {N} [] ds d e u = inr (d, (refl, u))
until_append {N} (c ∷ cs) ds d e (inl q) = inl (inl q)
until_append {N} (c ∷ cs) ds d e (inr (inl broke)) = inl (inr (inl broke))
until_append {N} (c ∷ cs) ds d e (inr (inr (m, (did, u)))) = elim (until_append cs ds m e u) [
  | inl v ↦ inl (inr (inr (m, (did, v))))
  | inr (p, (v, w)) ↦ inr (p, ((m, (did, v)), w))
]

pub done_append : {N : Type 0} (cs ds : List (Call N)) (d e : Disk N) → Done (cs ++ ds) d e → (m : Disk N) × (Done cs d m × Done ds m e)
done_append {N} [] ds d e u = (d, (refl, u))
done_append {N} (c ∷ cs) ds d e (m, (did, u)) = let z = done_append cs ds m e u in (z.0, ((m, (did, z.1.0)), z.1.1))

pub else_trans : {N : Type 0} (n : N) (d m e : Disk N) → Elsewhere n d m → Elsewhere n m e → Elsewhere n d e
else_trans n d m e so o = record {
  read = λ k a. o.read k a ∙ so.read k a;
  left = λ k a was x l. so.left k a was x (o.left k a (so.seen k a was) x l);
  seen = λ k a was. o.seen k a (so.seen k a was);
  rest = λ k a r. o.rest k a (so.rest k a r);
}
