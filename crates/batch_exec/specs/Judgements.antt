-- What an invocation was found to mean, as a definition sees it.
use Rattle.std.specs.Prelude.{ℕ, ◌<◌, List}
use Rattle.spec_batch.specs.Meaning.{Meaning, refuses, echoes, calls}
use Rattle.batch_exec.specs.declared.meaning.Judgement.{Judgement}
use Rattle.batch_exec.specs.declared.meaning.Judgement.TheVariants.{Refused, Echo, Call}

abbrev pub meaning_in : Judgement → Meaning
meaning_in (Refused e) = refuses e
meaning_in (Echo arguments) = echoes arguments
meaning_in (Call account call) = calls account call

-- the created ids, which a call has with it, and which otherwise stay where they were
abbrev pub created_with : Judgement → List (List ℕ × List ℕ) → List (List ℕ × List ℕ)
created_with (Refused e) created = created
created_with (Echo arguments) created = created
created_with (Call account call) created = call.created

-- a call is on one of so many accounts
abbrev pub account_is_below : ℕ → Judgement → Type 0
account_is_below accounts (Refused e) = Unit {0}
account_is_below accounts (Echo arguments) = Unit {0}
account_is_below accounts (Call account call) = account < accounts
