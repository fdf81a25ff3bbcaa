-- Participants of an event (RFC 8984 section 4.4.6): what may stand in an object, and what it means.
use Rattle.std.specs.Prelude.{ℕ, List, [], ◌∷◌, ◌++◌, ◌&&◌, ◌||◌, ◌==◌, Bool, true, false, Option, codes, length, map, nat_le, unwrap_or}
use Rattle.std.specs.List.{list_all, list_any}
use Rattle.std.specs.Option.{option_map_or}
use Rattle.std.specs.Str.{bytes_eq}
use Rattle.spec_core.specs.Id.{is_id}
use Rattle.spec_events.specs.Values.{is_object_that, is_one_of, is_true}
use Rattle.spec_events.specs.declared.limits.TheConstants.{MAX_PARTICIPANTS}
use Rattle.spec_json.specs.Data.{Data, Pair}
use Rattle.spec_json.specs.Parts.{as_text, members_in, object_at, some_of, text_at}
use Rattle.property_table.specs.Table.{Table, failing_of, optional, required}
use Rattle.property_table.specs.Values.{is_text}

-- the roles: at least one, each true
abbrev pub are_roles : List Pair → Bool
are_roles ps = nat_le 1 (length ps) && list_all (λ p. is_true p.1) ps

abbrev pub are_texts : List Pair → Bool
are_texts ps = list_all (λ p. is_text p.1) ps

abbrev pub is_participation_status : Data → Bool
is_participation_status d =
    is_one_of (codes "needs-action" ∷ codes "accepted" ∷ codes "declined" ∷ codes "tentative" ∷ codes "delegated" ∷ []) d

-- A participant has these properties, and any others with any values.
unfoldable pub participant_table : Table
participant_table = record {
  rows =
      (codes "@type", optional (is_one_of (codes "Participant" ∷ [])))
      ∷ (codes "roles", required (is_object_that are_roles))
      ∷ (codes "name", optional is_text)
      ∷ (codes "email", optional is_text)
      ∷ (codes "sendTo", optional (is_object_that are_texts))
      ∷ (codes "participationStatus", optional is_participation_status)
      ∷ [];
  other = λ name. optional (λ d. true);
}

-- no property is bad; what is no object lacks the roles
abbrev pub is_participant : Data → Bool
is_participant d = length (failing_of participant_table d) == 0

-- a participant under its Id
abbrev pub is_participant_member : Pair → Bool
is_participant_member p = is_id p.0 && is_participant p.1

-- the participants of an event
abbrev pub are_participants : List Pair → Bool
are_participants ps = nat_le (length ps) MAX_PARTICIPANTS && list_all is_participant_member ps

-- what one looks for in a participant
pub record ParticipantProperties : Type 0 where
  pub name : Option (List ℕ)
  pub email : Option (List ℕ)
  pub send_to : List (List ℕ)
  pub status : List ℕ

-- the texts among the values of some members
abbrev pub texts_among : List Pair → List (List ℕ)
texts_among [] = []
texts_among (p ∷ ps) = some_of (as_text p.1) ++ texts_among ps

-- what an object that is a participant means
abbrev pub participant_in : Data → ParticipantProperties
participant_in d = record {
  name = text_at (codes "name") d;
  email = text_at (codes "email") d;
  send_to = texts_among (unwrap_or (object_at (codes "sendTo") d) []);
  status = unwrap_or (text_at (codes "participationStatus") d) (codes "needs-action");
}

-- all participants that an object holds, in byte order of their Ids
abbrev pub people_in : Data → List ParticipantProperties
people_in d = map (λ p. participant_in p.1) (members_in d)

-- Participants whom one looks for: by a test of texts, or by a status.

-- a text of the participant passes: its name, its email or one of the texts of `sendTo`
abbrev pub has_text : (List ℕ → Bool) → ParticipantProperties → Bool
has_text finds p = option_map_or finds p.name false || (option_map_or finds p.email false || list_any finds p.send_to)

-- the participant has such a text, where one is looked for, and the status, where one is
abbrev pub meets : Option (List ℕ → Bool) → Option (List ℕ) → ParticipantProperties → Bool
meets finds status p = option_map_or (λ f. has_text f p) finds true && option_map_or (bytes_eq p.status) status true

-- one and the same participant meets both
abbrev pub any_meets : Option (List ℕ → Bool) → Option (List ℕ) → List ParticipantProperties → Bool
any_meets finds status people = list_any (meets finds status) people
