-- What a host is asked for, one listener after the other.
use Rattle.std.proofs.Common.{◌≡◌, ℕ, ◌+◌, ◌<◌, ◌≤◌, List, [], ◌∷◌, ◌++◌, Option, Some, None, Result, Err, inl, inr, option_map, refl, sym, ap, ◌∙◌, append_assoc, append-nil, arith, add-one}
use Rattle.std.specs.Prelude.{◌⊎◌}
use Rattle.io_edge.specs.Outside.{Rose}
use Rattle.listen_edge.specs.Listening.{Asks, HostShown}
use Rattle.listen_edge.specs.declared.host.HostError.{HostError}
use Rattle.listen_edge.specs.declared.host.HostError.TheVariants.{Failed, NoMemory}
use Rattle.listen_workers.specs.Listeners.{AskedFor, OpensHow, workers_of}

nothing : (asked : Option (List (ℕ × ℕ))) → asked ≡ option_map (λ pairs. pairs ++ []) asked
nothing None = refl
nothing (Some pairs) = ap Some (sym (append-nil pairs))

pub asked_none : (h : HostShown) (port : ℕ) → AskedFor h h port 0
asked_none h port = nothing h.asked

behind : (asked : Option (List (ℕ × ℕ))) (xs : List (ℕ × ℕ)) (x : ℕ × ℕ) → option_map (λ pairs. pairs ++ x ∷ []) (option_map (λ pairs. pairs ++ xs) asked) ≡ option_map (λ pairs. pairs ++ (xs ++ x ∷ [])) asked
behind None xs x = refl
behind (Some pairs) xs x = ap Some (append_assoc pairs xs (x ∷ []))

pub asked_more : (h h1 h2 : HostShown) (port n : ℕ) → AskedFor h h1 port n → Asks h1 h2 port n → AskedFor h h2 port (n + 1)
asked_more h h1 h2 port n before asks =
    asks
    ∙ (ap (option_map (λ (pairs : List (ℕ × ℕ)). pairs ++ (port, n) ∷ [])) before
    ∙ (behind h.asked (workers_of port n) (port, n) ∙ ap (λ (m : ℕ). option_map (λ (pairs : List (ℕ × ℕ)). pairs ++ workers_of port m) h.asked) (sym (add-one n))))

-- the host made no listener for worker n
module _ (h h1 h2 : HostShown) (port n workers : ℕ) (before : AskedFor h h1 port n) (few : n < workers) (later : h.faults ≤ h1.faults) where
  wanting : (Asks h1 h2 port n) ⊎ (h2.asked ≡ h1.asked) → (m : ℕ) × (m ≤ workers) × AskedFor h h2 port m
  wanting (inl asks) = (n + 1, omega (arith, few), asked_more h h1 h2 port n before asks)
  wanting (inr same) = (n, omega (arith, few), same ∙ before)

  pub not_opened : (K L : Type 0) (r : Result K HostError) (e : HostError) → r ≡ Err e → (r ≡ Err Failed → Asks h1 h2 port n) → (r ≡ Err NoMemory → (Asks h1 h2 port n) ⊎ (h2.asked ≡ h1.asked))
      → (r ≡ Err Failed → Rose h1.faults h2.faults) → OpensHow {L = L} port workers h h2 (Err e)
  not_opened K L r Failed is vain short rose = ((n, few, asked_more h h1 h2 port n before (vain is)), (let up = rose is in omega (arith, later, up)))
  not_opened K L r NoMemory is vain short rose = wanting (short is)
