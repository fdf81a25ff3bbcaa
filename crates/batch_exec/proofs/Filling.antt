-- How many bytes the responses so far have.
use Rattle.std.proofs.Common.{◌≡◌, ℕ, ◌+◌, List, [], ◌∷◌, ◌++◌, length, arith}
use Rattle.std.proofs.lemmas.List.Sums.{sum_by_push}
use Rattle.json_edge.specs.Lengths.{saturated}
use Rattle.spec_batch.specs.Meaning.{size_of_responses}
use Rattle.spec_batch.specs.declared.method_response.MethodResponse.{MethodResponse}
use Rattle.spec_json.specs.Json.{text_of}
use Rattle.spec_json.specs.TreeData.{data_of}

-- with one response more
pub fuller : (size : ℕ) (responses : List MethodResponse) → size ≡ saturated (size_of_responses responses)
    → (response : MethodResponse) (more all : ℕ) → more ≡ saturated (length (text_of (data_of response.arguments))) → all ≡ saturated (size + more)
    → all ≡ saturated (size_of_responses (responses ++ response ∷ []))
fuller size responses is response more all one sum = omega (arith, is, one, sum, sum_by_push (λ (r : MethodResponse). length (text_of (data_of r.arguments))) responses response)
