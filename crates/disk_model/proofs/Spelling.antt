-- Calls on encoded names are calls on what they encode, if no two names are encoded alike.
use Rattle.std.proofs.Common.{◌≡◌, inl, inr, List, [], ◌∷◌, ap}
use Rattle.disk_model.specs.Disk.{Files, Disk, Leaves}
use Rattle.disk_model.specs.Calls.{Call, WriteAt, CutTo, Sync, Remove, SyncNames, Others, Does, Fails, Done, Until}
use Rattle.disk_model.specs.Spelled.{files_under, under, spelled, all_spelled}

module _ {N M : Type 0} (spell : N → M) (alike : (m n : N) → spell m ≡ spell n → m ≡ n) where
  others_under : (n : N) (d e : Disk M) → Others (spell n) d e → Others n (under spell d) (under spell e)
  others_under n d e o = record { read = λ m a. o.read (spell m) (λ q. a (alike m n q)); held = λ m a. o.held (spell m) (λ q. a (alike m n q)) }

  pub does_under : (c : Call N) (d e : Disk M) → Does (spelled spell c) d e → Does c (under spell d) (under spell e)
  does_under (WriteAt n at bytes) d e t = record { others = others_under n d e t.others; held = t.held; read = t.read }
  does_under (CutTo n k) d e t = record { others = others_under n d e t.others; held = t.held; read = t.read }
  does_under (Sync n) d e t = record { others = others_under n d e t.others; held = t.held; read = t.read }
  does_under (Remove n) d e t = record { others = others_under n d e t.others; held = t.held; read = t.read }
  does_under SyncNames d e t = record { read = λ m. t.read (spell m); held = λ m. t.held (spell m) }

  pub fails_under : (c : Call N) (d e : Disk M) → Fails (spelled spell c) d e → Fails c (under spell d) (under spell e)
  fails_under (WriteAt n at bytes) d e t = record { others = others_under n d e t.others; held = t.held; part = t.part }
  fails_under (CutTo n k) d e t = record { others = others_under n d e t.others; held = t.held; part = t.part }
  fails_under (Sync n) d e t = ap (under spell) t
  fails_under (Remove n) d e t = record { others = others_under n d e t.others; held = t.held; part = t.part }
  fails_under SyncNames d e t = ap (under spell) t

  pub done_under : (cs : List (Call N)) (d e : Disk M) → Done (all_spelled spell cs) d e → Done cs (under spell d) (under spell e)
  done_under [] d e q = ap (under spell) q
  done_under (c ∷ cs) d e (m, (did, rest)) = (under spell m, (does_under c d m did, done_under cs m e rest))

  pub until_under : (cs : List (Call N)) (d e : Disk M) → Until (all_spelled spell cs) d e → Until cs (under spell d) (under spell e)
  until_under [] d e q = ap (under spell) q
  until_under (c ∷ cs) d e (inl q) = inl (ap (under spell) q)
  until_under (c ∷ cs) d e (inr (inl broke)) = inr (inl (fails_under c d e broke))
  until_under (c ∷ cs) d e (inr (inr (m, (did, rest)))) = inr (inr (under spell m, (does_under c d m did, until_under cs m e rest)))

  pub leaves_under : (d : Disk M) (g : Files M) → Leaves d g → Leaves (under spell d) (files_under spell g)
  leaves_under d g left = record { each = λ n. left.each (spell n) }
