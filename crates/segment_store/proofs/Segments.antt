-- A segment is begun: its word, and then a batch.
use Rattle.std.proofs.Common.{◌≡◌, inl, inr, ℕ, ◌≤◌, Bool, true, false, cond, List, [], ◌∷◌, ◌++◌, length, Result, Ok, Err, sym, ap, ◌∙◌, subst, arith}
use Rattle.disk_model.specs.Disk.{Disk, Found, Absent, Sure, Gone}
use Rattle.disk_model.specs.Calls.{Call, Done, Until, MayWrite}
use Rattle.disk_model.specs.Trait.{Text, Known, Ran}
use Rattle.disk_model.specs.Writing.{replace_calls}
use Rattle.disk_model.specs.declared.faults.DiskFault.{DiskFault}
use Rattle.disk_model.proofs.Rewrites.{whole_call}
use Rattle.disk_model.proofs.Runs.{known_ran, known_map}
use Rattle.segment_store.specs.Grow.{IsFree}

pub not_gone : (b : Bool) → cond b Sure Absent ≡ Gone → ⊥
not_gone true e = absurd cc
not_gone false e = absurd cc

pub done_both : (cs ds : List (Call Text)) (d m e : Disk Text) → Done cs d m → Done ds m e → Done (cs ++ ds) d e
done_both [] ds d m e q done = subst (λ (x : Disk Text). Done ds x e) q done
done_both (c ∷ cs) ds d m e (p, (did, rest)) done = (p, (did, done_both cs ds p m e rest done))

pub until_both : (cs ds : List (Call Text)) (d m e : Disk Text) → Done cs d m → Until ds m e → Until (cs ++ ds) d e
until_both [] ds d m e q u = subst (λ (x : Disk Text). Until ds x e) q u
until_both (c ∷ cs) ds d m e (p, (did, rest)) u = inr (inr (p, (did, until_both cs ds p m e rest u)))

until_none : (ds : List (Call Text)) (d e : Disk Text) → e ≡ d → Until ds d e
until_none [] d e q = q
until_none (c ∷ ds) d e q = inl q

pub until_front : (cs ds : List (Call Text)) (d e : Disk Text) → Until cs d e → Until (cs ++ ds) d e
until_front [] ds d e q = until_none ds d e q
until_front (c ∷ cs) ds d e (inl q) = inl q
until_front (c ∷ cs) ds d e (inr (inl broke)) = inr (inl broke)
until_front (c ∷ cs) ds d e (inr (inr (m, (did, u)))) = inr (inr (m, (did, until_front cs ds m e u)))

-- one list of calls after another
pub ran_both : (cs ds : List (Call Text)) (old mid new : Disk Text → Type 0) (x : Unit {0}) (result : Result Unit DiskFault) → Ran cs old mid (Ok x) → Ran ds mid new result → Ran (cs ++ ds) old new result
ran_both cs ds old mid new x (Ok y) first second = record { each = λ d z. let a = first.each d z in let b = second.each a.0 a.1.0 in (b.0, (b.1.0, (done_both cs ds d a.0 b.0 a.1.1.0 b.1.1.0, tt))) }
ran_both cs ds old mid new x (Err y) first second = record { each = λ d z. let a = first.each d z in let b = second.each a.0 a.1.0 in (b.0, (b.1.0, (tt, until_both cs ds d a.0 b.0 a.1.1.0 b.1.1.1))) }

pub ran_front : (cs ds : List (Call Text)) (old new : Disk Text → Type 0) (x y : DiskFault) → Ran {T = Unit {0}} cs old new (Err x) → Ran {T = Unit {0}} (cs ++ ds) old new (Err y)
ran_front cs ds old new x y first = record { each = λ d z. let a = first.each d z in (a.0, (a.1.0, (tt, until_front cs ds d a.0 a.1.1.1))) }

-- the batch may be written after the word
word_stands : (n : Text) (word : List ℕ) (d e : Disk Text) → IsFree n d → Done (replace_calls n word false) d e → MayWrite n (length word) e
word_stands n word d e free done =
    let empty : (d.read n).bytes ≡ [] = free.rest.empty free.not_there in
    let fits : length (d.read n).bytes ≤ length word = subst (λ (c : List ℕ). length c ≤ length word) (sym empty) (omega arith) in
    let z = whole_call n word d fits free.rest e (subst (λ (b : Bool). Done (replace_calls n word b) d e) (sym free.not_there) done) in
    let is : (e.read n).bytes ≡ word = ap (λ (x : Found). x.bytes) z.read in
    record { within = subst (λ (c : List ℕ). length word ≤ length c) (sym is) (omega arith); no_removal = λ q. not_gone _ (sym z.rest.standing ∙ q) }

pub free_write : (n : Text) (tells : Bool) (states : Disk Text → Type 0) → Known tells states (IsFree n) → Known tells states (MayWrite n 0)
free_write n tells states known = known_map tells states (IsFree n) (MayWrite n 0) known (λ d free. record { within = omega arith; no_removal = λ q. not_gone _ (sym free.rest.standing ∙ q) })

pub behind_word : (n : Text) (word : List ℕ) (tells : Bool) (old mid : Disk Text → Type 0) (x : Unit {0}) → Known tells old (IsFree n) → Ran (replace_calls n word false) old mid (Ok x) → Known tells mid (MayWrite n (length word))
behind_word n word tells old mid x known ran = known_ran (replace_calls n word false) old mid (Ok x) tells (IsFree n) (MayWrite n (length word)) known ran (λ d e free z. word_stands n word d e free z.0)
