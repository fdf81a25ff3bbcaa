-- Where an override is refused, an event may not have all.
use Rattle.std.proofs.Common.{◌≡◌, ℕ, List, [], ◌∷◌, Option, Some, None, is_some, option_and_then, option_map, if◌then◌else◌, refl}
use Rattle.spec_json.specs.Data.{Data, Pair}
use Rattle.spec_json.specs.Parts.{all_some, members_in}
use Rattle.spec_recurrence.specs.Overrides.{exception_in, exceptions_in, first_refused, overrides_in, refused_in, single}
use Rattle.spec_series.specs.declared.exception.Exception.{Exception}
use Rattle.spec_site.specs.TimeZones.{ZoneText}

refused_here : (o : Option Exception) (rest : Option (List Exception)) (key k : List ℕ) (later : Option (List ℕ))
    → (if is_some o then later else Some k) ≡ Some key → (later ≡ Some key → rest ≡ None) → option_and_then (λ y. option_map (λ ys. y ∷ ys) rest) o ≡ None
refused_here None rest key k later h next = refl
refused_here (Some x) rest key k later h next = rw (next h) refl

refused_among : (zones : List ZoneText) (alone ps : List Pair) (key : List ℕ) → first_refused zones alone ps ≡ Some key → all_some (exception_in zones alone) ps ≡ None
refused_among zones alone [] key h = cc
refused_among zones alone (p ∷ ps) key h =
    refused_here (exception_in zones alone p) (all_some (exception_in zones alone) ps) key p.0 (first_refused zones alone ps) h (refused_among zones alone ps key)

refused_in_all : (zones : List ZoneText) (alone : List Pair) (o : Option (List Pair)) (key : List ℕ)
    → option_and_then (first_refused zones alone) o ≡ Some key → option_and_then (all_some (exception_in zones alone)) o ≡ None
refused_in_all zones alone None key h = refl
refused_in_all zones alone (Some ps) key h = refused_among zones alone ps key h

pub refused_are_none : (zones : List ZoneText) (d : Data) (key : List ℕ) → refused_in zones d ≡ Some key → exceptions_in zones d ≡ None
refused_are_none zones d key h = refused_in_all zones (single (members_in d)) (overrides_in d) key h
