-- What an account has of the entries that came to it since a time.
use Rattle.std.specs.Prelude.{◌≡◌, ◌≤◌, ℕ, List, Option, Some, None, drop, length, take, ⊤}
use Rattle.account_core.specs.declared.trail.Trail.{Trail}
use Rattle.cal_model.specs.Sound.{first_unsound}
use Rattle.spec_history.specs.History.{changes_of}
use Rattle.spec_history.specs.declared.entry.Entry.{Entry}
use Rattle.spec_site.specs.TimeZones.{ZoneText}

-- the entries from a place on are sound behind those before it
abbrev pub AreSoundFrom : List ZoneText → ℕ → List Entry → Type 0
AreSoundFrom zones place h = first_unsound zones (changes_of (take place h)) (changes_of (drop place h)) ≡ None

-- from a place on, where there is one, these are the entries, which are sound
abbrev pub AreFrom : List ZoneText → Option ℕ → List Entry → List Entry → Type 0
AreFrom zones None es h = ⊤
AreFrom zones (Some first) es h = (first ≤ length h) × (drop first h ≡ es) × AreSoundFrom zones first h

-- a trail has copies of the entries from its place on
abbrev pub HasCopies : List ZoneText → Trail → List Entry → Type 0
HasCopies zones t h = AreFrom zones t.first t.entries.items h
