-- What calls for changes since a state have in common (RFC 8620 sections 5.2 and 5.6).
use Rattle.std.specs.Prelude.{ℕ, ℤ, pos, List, ◌&&◌, Bool, true, false, Option, Some, None, int_le, map}
use Rattle.std.specs.Option.{option_map_or}
use Rattle.spec_core.specs.declared.numbers.TheConstants.{MAX_UNSIGNED_INT}
use Rattle.spec_history.specs.ObjectId.{id_text}
use Rattle.spec_sizes.specs.Sizes.{is_answered_from}
use Rattle.spec_history.specs.declared.entry.Change.{Change}
use Rattle.spec_history.specs.declared.entry.Kind.{Kind}
use Rattle.spec_json.specs.Data.{Data, items_of, list, text}
use Rattle.time_text.specs.State.{number_named}

-- a maximum is an UnsignedInt above 0 (RFC 8620 section 1.3)
abbrev pub is_maximum : Option ℤ → Bool
is_maximum None = true
is_maximum (Some n) = int_le (pos 1) n && int_le n (pos MAX_UNSIGNED_INT)

-- changes are told from the state that this text names in an account of this generation
abbrev pub is_known_state : ℕ → Kind → List Change → List ℕ → Bool
is_known_state generation kind cs since = option_map_or (λ k. is_answered_from kind cs k) (number_named generation since) false

abbrev pub id_list : Kind → List ℕ → Data
id_list kind ids = list (items_of (map (λ id. text (id_text kind id)) ids))
