-- A book of amounts, whose replies are their sum.
use Rattle.std.specs.Prelude.{ℕ, ◌+◌, ◌==◌, ◌||◌, Bool, true, false, refl, List, [], ◌∷◌, length, min, None, if◌then◌else◌}
use Rattle.spec_history.specs.Signed.{AreSigned}
use Rattle.spec_history.specs.declared.entry.Entry.{Entry}
use Rattle.spec_history.specs.declared.entry.Kind.TheVariants.{Calendar}
use Rattle.spec_history.specs.declared.stamp.Stamp.{Stamp}

abbrev pub sum_of_ids : List Entry → ℕ
sum_of_ids [] = 0
sum_of_ids (e ∷ es) = e.change.id + sum_of_ids es

abbrev pub amount_entry : ℕ → Stamp → Entry
amount_entry amount s = record { author = s.author; turn = s.turn; part = 0; moment = s.moment; change = record { kind = Calendar; id = amount; object = None } }

-- 2 ^ 40
abbrev pub most_entries : ℕ
most_entries = 1099511627776

-- what an amount counts: above 1000 as 1000, and nothing in a full book
abbrev pub amount_counted : List Entry → ℕ → ℕ
amount_counted h n = if length h == most_entries then 0 else min n 1000

-- neither 0 nor a full book adds an entry
abbrev pub amount_added : List Entry → ℕ → Stamp → List Entry
amount_added h n s = if (min n 1000 == 0) || (length h == most_entries) then [] else amount_entry (min n 1000) s ∷ []

signed_unless : (b : Bool) (n : ℕ) (s : Stamp) → AreSigned s.author s.turn (if b then [] else (amount_entry n s ∷ []))
signed_unless true n s = tt
signed_unless false n s = (refl, refl, tt)

pub amount_added_signed : (h : List Entry) (n : ℕ) (s : Stamp) → AreSigned s.author s.turn (amount_added h n s)
amount_added_signed h n s = signed_unless ((min n 1000 == 0) || (length h == most_entries)) (min n 1000) s
