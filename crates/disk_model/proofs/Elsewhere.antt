-- What calls on one file leave of the others.
use Rattle.std.proofs.Common.{◌≡◌, refl, sym, ◌∙◌, subst}
use Rattle.disk_model.specs.Disk.{Found, Held, Disk, LeavesFile}
use Rattle.disk_model.specs.Calls.{Others, NamesSynced, after_names}
use Rattle.disk_model.specs.Rest.{Rest}
use Rattle.disk_model.proofs.Rests.{names_shrink, names_left, names_rest}

pub record Elsewhere {N : Type 0} (n : N) (d e : Disk N) : Type 0 where
  pub read : (m : N) → (m ≡ n → ⊥) → e.read m ≡ d.read m
  pub left : (m : N) → (m ≡ n → ⊥) → LeavesFile (d.held m) (d.read m) → (x : Found) → LeavesFile (e.held m) x → LeavesFile (d.held m) x
  pub seen : (m : N) → (m ≡ n → ⊥) → LeavesFile (d.held m) (d.read m) → LeavesFile (e.held m) (e.read m)
  pub rest : (m : N) → (m ≡ n → ⊥) → Rest (d.held m) (d.read m) → Rest (e.held m) (e.read m)

pub else_same : {N : Type 0} (n : N) (d : Disk N) → Elsewhere n d d
else_same n d = record { read = λ m a. refl; left = λ m a was x l. l; seen = λ m a was. was; rest = λ m a r. r }

pub else_on : {N : Type 0} (n : N) (d m e : Disk N) → Elsewhere n d m → Others n m e → Elsewhere n d e
else_on n d m e so o = record {
  read = λ k a. o.read k a ∙ so.read k a;
  left = λ k a was x l. so.left k a was x (subst (λ (h : Held). LeavesFile h x) (o.held k a) l);
  seen = λ k a was. subst (λ (h : Held). LeavesFile h (e.read k)) (sym (o.held k a)) (subst (λ (f : Found). LeavesFile (m.held k) f) (sym (o.read k a)) (so.seen k a was));
  rest = λ k a r. subst (λ (h : Held). Rest h (e.read k)) (sym (o.held k a)) (subst (λ (f : Found). Rest (m.held k) f) (sym (o.read k a)) (so.rest k a r));
}

pub else_names : {N : Type 0} (n : N) (d m e : Disk N) → Elsewhere n d m → NamesSynced m e → Elsewhere n d e
else_names n d m e so o = record {
  read = λ k a. o.read k ∙ so.read k a;
  left = λ k a was x l. so.left k a was x (names_shrink (m.held k) (m.read k) x (so.seen k a was) (subst (λ (h : Held). LeavesFile h x) (o.held k) l));
  seen = λ k a was. subst (λ (h : Held). LeavesFile h (e.read k)) (sym (o.held k)) (subst (λ (f : Found). LeavesFile (after_names (m.read k) (m.held k)) f) (sym (o.read k)) (names_left (m.held k) (m.read k) (so.seen k a was)));
  rest = λ k a r. subst (λ (h : Held). Rest h (e.read k)) (sym (o.held k)) (subst (λ (f : Found). Rest (after_names (m.read k) (m.held k)) f) (sym (o.read k)) (names_rest (m.held k) (m.read k) (so.rest k a r)));
}
