-- Statements that were sent before the last one.
use Rattle.std.proofs.Common.{◌≡◌, ℕ, Bool, true, false, List, [], ◌∷◌, refl, sym, subst, ◌∙◌, true≢false}
use Rattle.std.specs.Prelude.{◌||◌, if◌then◌else◌}
use Rattle.client.specs.declared.events.ClientEvent.{ClientEvent}
use Rattle.client.specs.declared.events.ClientAction.{ClientAction}
use Rattle.client.specs.declared.events.ClientAction.TheVariants.{Dial, Send, Wait, Done}
use Rattle.client.specs.Laws.{Turn, Wanted, is_open, Phase, Free, Stated, Over, with_body, phase_after, tries_after, Obeys, AllObey, sends_statement, any_statement, IsFirst, FirstElsewhere, AreElsewhere}

module _ (w : Wanted) where
  -- after its end a client sends nothing
  silent : (turns : List Turn) (t : ℕ) → AllObey w t Over turns → any_statement turns ≡ false
  unfolding AllObey
  silent [] t h = refl
  silent (turn ∷ turns) t h = by turn.does turn.event h.0 h.1 (λ k rest. silent turns k rest)
    where
      by : (does : ClientAction) (event : ClientEvent) → Obeys w t Over event does → AllObey w (tries_after t Over event does) (phase_after Over event does) turns
          → ((k : ℕ) → AllObey w k Over turns → any_statement turns ≡ false)
          → (sends_statement does || any_statement turns) ≡ false
      by Wait event o rest ih = ih t rest
      by (Dial address) event o rest ih = absurd o
      by (Send bytes) event o rest ih = absurd o
      by (Done end) event o rest ih = absurd o

  elsewhere : (turns : List Turn) (t : ℕ) (bodies : List (List ℕ)) → AllObey w t (Stated bodies) turns → any_statement turns ≡ true → FirstElsewhere turns
  unfolding AllObey FirstElsewhere
  elsewhere [] t bodies h any = absurd (true≢false (sym any))
  elsewhere (turn ∷ turns) t bodies h any = by turn.does turn.event h.0 h.1 any (λ k bs rest a. elsewhere turns k bs rest a)
    where
      by : (does : ClientAction) (event : ClientEvent) → Obeys w t (Stated bodies) event does
          → AllObey w (tries_after t (Stated bodies) event does) (phase_after (Stated bodies) event does) turns
          → (sends_statement does || any_statement turns) ≡ true
          → ((k : ℕ) (bs : List (List ℕ)) → AllObey w k (Stated bs) turns → any_statement turns ≡ true → FirstElsewhere turns)
          → IsFirst does event (FirstElsewhere turns)
      by Wait event o rest a ih = ih t (with_body bodies event) rest a
      by (Dial address) event o rest a ih = o.0
      by (Send bytes) event o rest a ih = absurd o
      by (Done end) event o rest a ih = absurd (true≢false (sym a ∙ silent turns t rest))

  pub all_elsewhere : (turns : List Turn) (t : ℕ) (phase : Phase) → AllObey w t phase turns → AreElsewhere turns
  unfolding AllObey AreElsewhere
  all_elsewhere [] t phase h = tt
  all_elsewhere (turn ∷ turns) t phase h = (by turn.does turn.event h.1, all_elsewhere turns (tries_after t phase turn.event turn.does) (phase_after phase turn.event turn.does) h.1)
    where
      by : (does : ClientAction) (event : ClientEvent) → AllObey w (tries_after t phase event does) (phase_after phase event does) turns
          → sends_statement does ≡ true → any_statement turns ≡ true → FirstElsewhere turns
      by Wait event rest s a = absurd (true≢false (sym s))
      by (Dial address) event rest s a = absurd (true≢false (sym s))
      by (Done end) event rest s a = absurd (true≢false (sym s))
      by (Send bytes) event rest s a =
          elsewhere turns t [] (subst (λ (b : Bool). AllObey w t (if b then Stated [] else Free (is_open bytes)) turns) s rest) a
