-- Entries that are applied and leadership that is lost, over what code holds.
use Rattle.std.proofs.Common.{◌≡◌, ℕ, ◌<◌, arith, List, [], ◌++◌, Result, Ok, Err, OnOk, sym, ap, subst, ◌∙◌}
use Rattle.std.specs.List.{AllByRecursion}
use Rattle.std.specs.Ordering.{nat_cmp}
use Rattle.std.specs.BTreeMap.{get}
use Rattle.wire_msgs.specs.declared.response.Response.{Response}
use Rattle.wire_msgs.specs.Responses.{IsWritable}
use Rattle.database_state.specs.declared.database.Database.{Database}
use Rattle.database_state.specs.Pins.{Pinning}
use Rattle.session_spec.specs.Events.{on_applied, on_lost, told_applied, told_lost}
use Rattle.session_table.specs.Sweeping.{all_told}
use Rattle.session_table.specs.Marks.{AreMarks}
use Rattle.session_gateway.specs.Seen.{seen, PinsOf}
use Rattle.client_sessions.specs.declared.clients.Clients.{Clients as Held}
use Rattle.client_sessions.specs.Clients.{freed}
use Rattle.client_sessions.specs.Calls.{told_conns}
use Rattle.client_sessions.specs.Seen.{clients_of, AreValidOver, HasNoMarks}
use Rattle.client_sessions.proofs.Soundness.{applied_sound, lost_sound}
use Rattle.client_sessions.proofs.Standing.{alike, sound_as}
use Rattle.client_sessions.proofs.Telling.{applied_sent, lost_sent}

-- what is reported can be sent
pub applied_can : (held : Held) (databases : List Database) (index : ℕ) (told : List (ℕ × Response)) → AreValidOver held databases → told ≡ all_told (told_applied index (seen held.gateway databases))
    → AllByRecursion (λ (t : ℕ × Response). IsWritable t.1) told
unfolding clients_of
applied_can held databases index told stand is = subst (AllByRecursion (λ (t : ℕ × Response). IsWritable t.1)) (sym is) (applied_sent (clients_of held databases) index stand.sound)

pub lost_can : (held : Held) (databases : List Database) (told : List (ℕ × Response)) → AreValidOver held databases → told ≡ all_told (told_lost (seen held.gateway databases))
    → AllByRecursion (λ (t : ℕ × Response). IsWritable t.1) told
unfolding clients_of
lost_can held databases told stand is = subst (AllByRecursion (λ (t : ℕ × Response). IsWritable t.1)) (sym is) (lost_sent (clients_of held databases))

-- sessions were freed, and their connections got turns
pub applied_held : (old new : Held) (before after : List Database) (index : ℕ) (told : List (ℕ × Response)) → seen new.gateway after ≡ on_applied index (seen old.gateway before)
    → told ≡ all_told (told_applied index (seen old.gateway before)) → ((q : ℕ) → get nat_cmp new.connections q ≡ get nat_cmp old.connections q) → new.turns.items ≡ old.turns.items ++ told_conns told
    → clients_of new after ≡ freed (clients_of old before) (on_applied index (clients_of old before).sessions) (told_conns (all_told (told_applied index (clients_of old before).sessions)))
unfolding clients_of
applied_held old new before after index told is same streams turns = alike _ _ is streams (turns ∙ ap (λ (t : List (ℕ × Response)). old.turns.items ++ told_conns t) same)

pub lost_held : (old new : Held) (before after : List Database) (told : List (ℕ × Response)) → seen new.gateway after ≡ on_lost (seen old.gateway before)
    → told ≡ all_told (told_lost (seen old.gateway before)) → ((q : ℕ) → get nat_cmp new.connections q ≡ get nat_cmp old.connections q) → new.turns.items ≡ old.turns.items ++ told_conns told
    → clients_of new after ≡ freed (clients_of old before) (on_lost (clients_of old before).sessions) (told_conns (all_told (told_lost (clients_of old before).sessions)))
unfolding clients_of
lost_held old new before after told is same streams turns = alike _ _ is streams (turns ∙ ap (λ (t : List (ℕ × Response)). old.turns.items ++ told_conns t) same)

pub applied_told : (held : Held) (databases : List Database) (index : ℕ) (told : List (ℕ × Response)) → told ≡ all_told (told_applied index (seen held.gateway databases))
    → told ≡ all_told (told_applied index (clients_of held databases).sessions)
unfolding clients_of
applied_told held databases index told is = is

pub lost_told : (held : Held) (databases : List Database) (told : List (ℕ × Response)) → told ≡ all_told (told_lost (seen held.gateway databases)) → told ≡ all_told (told_lost (clients_of held databases).sessions)
unfolding clients_of
lost_told held databases told is = is

pub on_ok : {A E : Type 0} (r : Result A E) (P : Type 0) → P → OnOk r P
on_ok (Ok x) P p = p
on_ok (Err e) P p = tt

pub applied_stand : (old new : Held) (before after : List Database) (index : ℕ) → seen new.gateway after ≡ on_applied index (seen old.gateway before) → ((q : ℕ) → get nat_cmp new.connections q ≡ get nat_cmp old.connections q)
    → PinsOf new.gateway after → AreValidOver old before → AreValidOver new after
unfolding clients_of
applied_stand old new before after index is streams pins stand = record {
  pins = pins;
  sound = sound_as (clients_of new after) (freed (clients_of old before) (on_applied index (seen old.gateway before)) []) is streams (applied_sound (clients_of old before) index [] stand.sound);
}

pub lost_stand : (old new : Held) (before after : List Database) → seen new.gateway after ≡ on_lost (seen old.gateway before) → ((q : ℕ) → get nat_cmp new.connections q ≡ get nat_cmp old.connections q)
    → PinsOf new.gateway after → AreValidOver old before → AreValidOver new after
unfolding clients_of
lost_stand old new before after is streams pins stand = record {
  pins = pins;
  sound = sound_as (clients_of new after) (freed (clients_of old before) (on_lost (seen old.gateway before)) []) is streams (lost_sound (clients_of old before) [] stand.sound);
}

-- nothing has changed but perhaps turns
pub failed_stand : (old new : Held) (before after : List Database) → seen new.gateway after ≡ seen old.gateway before → ((q : ℕ) → get nat_cmp new.connections q ≡ get nat_cmp old.connections q)
    → PinsOf new.gateway after → AreValidOver old before → AreValidOver new after
unfolding clients_of
failed_stand old new before after is streams pins stand = record {
  pins = pins;
  sound = sound_as (clients_of new after) (clients_of old before) is streams stand.sound;
}

-- no mark is live where the sessions have none
pub unmarked : (pins : List Pinning) (databases : List Database) → pins ≡ [] → AreMarks pins databases → HasNoMarks databases
unmarked pins databases none marks = λ pin live.
    let empty : AreMarks [] databases = subst (λ (ps : List Pinning). AreMarks ps databases) none marks in
    let found = empty.only pin live in
    let lt : found.0 < 0 = found.1 in
    absurd (omega (arith, lt))
