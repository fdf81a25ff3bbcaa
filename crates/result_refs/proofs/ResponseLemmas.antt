-- Responses by call id.
use Rattle.std.proofs.Common.{◌≡◌, ℕ, List, [], ◌∷◌, Bool, true, false, refl}
use Rattle.std.specs.List.{find}
use Rattle.std.specs.Str.{bytes_eq}
use Rattle.spec_batch.specs.References.{response_with_id}
use Rattle.spec_batch.specs.declared.method_response.MethodResponse.{MethodResponse}

found_at : (id : List ℕ) (r : MethodResponse) (rs : List MethodResponse) → find (λ s. bytes_eq s.call_id id) rs ≡ response_with_id id rs → (same : Bool) → bytes_eq r.call_id id ≡ same → find (λ s. bytes_eq s.call_id id) (r ∷ rs) ≡ response_with_id id (r ∷ rs)
found_at id r rs h true e = rw e refl
found_at id r rs h false e = rw e h

pub found_by_id : (id : List ℕ) (rs : List MethodResponse) → find (λ r. bytes_eq r.call_id id) rs ≡ response_with_id id rs
found_by_id id [] = refl
found_by_id id (r ∷ rs) = found_at id r rs (found_by_id id rs) (bytes_eq r.call_id id) refl
