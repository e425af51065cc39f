-- What an engine that keeps its answers tells after a run.
use Rattle.std.proofs.Common.{◌≡◌, Bool, true, false, List, [], ◌∷◌, ◌++◌, map, Result, Ok, Err, Some, refl, ap, ◌∙◌}
use Rattle.std.proofs.lemmas.List.{map-append}
use Rattle.sql_engine.specs.declared.answer.StatementResult.{StatementResult}
use Rattle.sql_engine.specs.declared.fault.EngineFault.{EngineFault}
use Rattle.sql_engine.specs.declared.fault.EngineFault.TheVariants.{NoMemory}
use Rattle.sql_engine.specs.Meanings.{Tells, added, lost}
use Rattle.engine_recording.specs.declared.recorded_item.RecordedItem.{RecordedItem}
use Rattle.engine_recording.specs.Noting.{note_of, answer_of, told_by}

-- an item keeps its answer
answer_back : (answer : Result StatementResult EngineFault) → answer_of (note_of answer) ≡ answer
answer_back (Ok ran) = refl
answer_back (Err fault) = refl

-- an answer is kept after the others
pub told_more : (answer : Result StatementResult EngineFault) (before now : List RecordedItem) (was is : Bool) → was ≡ false → is ≡ false
    → now ≡ before ++ note_of answer ∷ [] → Tells answer (Some (told_by before was)) (Some (told_by now is))
told_more answer before now was is w i e =
    let told : map answer_of now ≡ map answer_of before ++ answer ∷ [] =
    ap (λ (ns : List RecordedItem). map answer_of ns) e ∙ map-append answer_of before (note_of answer ∷ [])
    ∙ ap (λ (a : Result StatementResult EngineFault). map answer_of before ++ a ∷ []) (answer_back answer) in
    rw (w, i, told) (added (map answer_of before))

-- an answer is lost, and that is answered
pub told_lost : (before now : List RecordedItem) (was is : Bool) → now ≡ before → is ≡ true
    → Tells (Err NoMemory) (Some (told_by before was)) (Some (told_by now is))
told_lost before now was is same i = rw (same, i) (lost (map answer_of before) was refl)
