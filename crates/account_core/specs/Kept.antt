-- What comes of a set whose entries are kept before the account has them.
use Rattle.std.specs.Prelude.{◌≡◌, ◌⊎◌, ℕ, List, [], ◌++◌, Option}
use Rattle.cal_model.specs.Answer.{entries_from, set_added, set_answer}
use Rattle.spec_books.specs.Acting.{Came, IsUnkept}
use Rattle.spec_calls.specs.declared.call.Reply.{Reply}
use Rattle.spec_calls.specs.declared.call.SetArguments.{SetArguments}
use Rattle.spec_history.specs.Base.{Base}
use Rattle.spec_history.specs.declared.entry.Change.{Change}
use Rattle.spec_history.specs.declared.entry.Entry.{Entry}
use Rattle.spec_history.specs.declared.stamp.Stamp.{Stamp}

-- what comes of a set in a request that created these (RFC 8620 section 5.3)
abbrev pub SetCame : Option (List Entry → Reply) → List (List ℕ × List ℕ) → Base → List Entry → SetArguments → Stamp → Reply → List Entry → Type 0
SetCame unkept created = Came (λ b h q moment. set_answer b h moment created q) (λ b h q stamp. entries_from stamp 0 (set_added b h stamp.moment created q)) unkept

-- the staged changes became entries, and the reply is this one; or they could not be kept, the reply tells so, and nothing came
abbrev pub StagedCame : Option (List Entry → Reply) → List Entry → List Change → Stamp → Reply → Reply → List Entry → Type 0
StagedCame unkept h cs stamp reply r h' =
    (came : List Entry) × (((r ≡ reply) × (came ≡ entries_from stamp 0 cs)) ⊎ (IsUnkept unkept h r × (came ≡ []))) × (h' ≡ h ++ came)
