-- What a call does to the counts of a dialer that reports no call.
use Rattle.std.proofs.Common.{◌≡◌, ◌+◌, ◌≤◌, ℕ, List, length, Ok, Err, ap, ◌∙◌, arith}
use Rattle.dq_base.specs.declared.faults.Failed.{Failed}
use Rattle.dq_base.specs.Faults.{one_more, last_count}
use Rattle.client.specs.Net.{Dials, Writes, Reads}
use Rattle.serve_sockets.specs.Untold.{Counts, net_of}

-- one more call that failed, and one more dial
abbrev pub failed_once : Counts → Counts
failed_once old = record old { faults = one_more old.faults }

abbrev pub missed_once : Counts → Counts
missed_once old = record old { faults = one_more old.faults; undialled = one_more old.undialled }

pub linked : (old new : Counts) (address : List ℕ) → new ≡ record old { dialled = old.dialled + 1 } → new.dialled ≤ last_count → Dials (net_of old) (net_of new) address (Ok tt)
linked old new address e fits =
    let same : new.faults ≡ old.faults = ap (λ (c : Counts). c.faults) e in
    record {
      cause = record { never_falls = omega arith; failed = tt };
      counts = (ap (λ (c : Counts). c.dialled) e, ap (λ (c : Counts). c.undialled) e);
      bound = fits;
      told = tt;
    }

pub missed : (old mid new : Counts) (address : List ℕ) (f : Failed) → mid ≡ old → mid.dialled ≤ last_count → new ≡ missed_once mid → mid.faults ≤ new.faults
    → Dials (net_of old) (net_of new) address (Err f)
missed old mid new address f stays fits e up =
    let was : mid.faults ≡ old.faults = ap (λ (c : Counts). c.faults) stays in
    let now : new.faults ≡ one_more mid.faults = ap (λ (c : Counts). c.faults) e in
    let dialled : new.dialled ≡ mid.dialled = ap (λ (c : Counts). c.dialled) e in
    let more : one_more mid.faults ≡ one_more old.faults = ap one_more was in
    record {
      cause = record { never_falls = omega arith; failed = omega arith };
      counts = (dialled ∙ ap (λ (c : Counts). c.dialled) stays, ap (λ (c : Counts). c.undialled) e ∙ ap (λ (c : Counts). one_more c.undialled) stays);
      bound = omega arith;
      told = tt;
    }

pub written : (old new : Counts) (bytes : List ℕ) → new ≡ old → Writes (net_of old) (net_of new) bytes (Ok tt)
written old new bytes e =
    let same : new.faults ≡ old.faults = ap (λ (c : Counts). c.faults) e in
    record {
      cause = record { never_falls = omega arith; failed = tt };
      counts = record { dialled = ap (λ (c : Counts). c.dialled) e; undialled = ap (λ (c : Counts). c.undialled) e };
      told = tt;
    }

pub unwritten : (old mid new : Counts) (bytes : List ℕ) (f : Failed) → mid ≡ old → new ≡ failed_once mid → mid.faults ≤ new.faults → Writes (net_of old) (net_of new) bytes (Err f)
unwritten old mid new bytes f stays e up =
    let was : mid.faults ≡ old.faults = ap (λ (c : Counts). c.faults) stays in
    let now : new.faults ≡ one_more mid.faults = ap (λ (c : Counts). c.faults) e in
    let more : one_more mid.faults ≡ one_more old.faults = ap one_more was in
    record {
      cause = record { never_falls = omega arith; failed = omega arith };
      counts = record { dialled = ap (λ (c : Counts). c.dialled) e ∙ ap (λ (c : Counts). c.dialled) stays; undialled = ap (λ (c : Counts). c.undialled) e ∙ ap (λ (c : Counts). c.undialled) stays };
      told = tt;
    }

pub moved : (old new : Counts) (buffer : List ℕ) (count : ℕ) → new ≡ old → count ≤ length buffer → Reads (net_of old) (net_of new) buffer (Ok count)
moved old new buffer count e fits =
    let same : new.faults ≡ old.faults = ap (λ (c : Counts). c.faults) e in
    record {
      cause = record { never_falls = omega arith; failed = tt };
      counts = record { dialled = ap (λ (c : Counts). c.dialled) e; undialled = ap (λ (c : Counts). c.undialled) e };
      fits = fits;
      told = tt;
    }

pub unmoved : (old mid new : Counts) (buffer : List ℕ) (f : Failed) → mid ≡ old → new ≡ failed_once mid → mid.faults ≤ new.faults → Reads (net_of old) (net_of new) buffer (Err f)
unmoved old mid new buffer f stays e up =
    let done = unwritten old mid new buffer f stays e up in
    record { cause = record { never_falls = done.cause.never_falls; failed = done.cause.failed }; counts = done.counts; fits = tt; told = tt }
