-- The first zone of a name in a list.
use Rattle.std.proofs.Common.{◌≡◌, ◌∙◌, ℕ, ◌+◌, ◌≤◌, true, false, List, [], ◌∷◌, length, drop, take, take_all, get_or, slice_get, ◌||◌, Some, None, refl, sym, ap, zero, suc}
use Rattle.std.specs.List.{list_any}
use Rattle.std.proofs.lemmas.List.Folds.{list_any_more}
use Rattle.std.specs.Str.{bytes_eq}
use Rattle.std.proofs.lemmas.List.{drop_all, drop_more}
use Rattle.std.proofs.lemmas.Option.{slice_get_within, get_or_from_slice_get}
use Rattle.std.proofs.lemmas.Bool.{or_right}
use Rattle.jiff_tz.specs.PosixReader.{read_whole}
use Rattle.jiff_tz.specs.PosixText.{TzText}
use Rattle.spec_site.specs.TimeZones.{ZoneText}
use Rattle.spec_windows.specs.ZoneRules.{listed_rule}

drop_at : (zs : List ZoneText) (k : ℕ) (z : ZoneText) → slice_get zs k ≡ Some z → drop k zs ≡ z ∷ drop (k + 1) zs
drop_at zs k z h = drop_more zs k z (slice_get_within zs k z h) ∙ ap (λ x. x ∷ drop (k + 1) zs) (get_or_from_slice_get zs k z z h)

here : (z : ZoneText) (zs : List ZoneText) (name : List ℕ) → bytes_eq z.0 name ≡ true → listed_rule (z ∷ zs) name ≡ read_whole z.1
unfolding listed_rule
here z zs name h = rw h refl

later : (z : ZoneText) (zs : List ZoneText) (name : List ℕ) → bytes_eq z.0 name ≡ false → listed_rule (z ∷ zs) name ≡ listed_rule zs name
unfolding listed_rule
later z zs name h = rw h refl

ended : (name : List ℕ) → listed_rule [] name ≡ None
unfolding listed_rule
ended name = refl

pub listed_here : (zs : List ZoneText) (k : ℕ) (z : ZoneText) (name : List ℕ) (tz : TzText) → slice_get zs k ≡ Some z → bytes_eq z.0 name ≡ true → read_whole z.1 ≡ Some tz
    → listed_rule (drop k zs) name ≡ listed_rule zs name → Some tz ≡ listed_rule zs name
listed_here zs k z name tz at h r old =
    sym (here z (drop (k + 1) zs) name h ∙ r) ∙ ap (λ xs. listed_rule xs name) (sym (drop_at zs k z at)) ∙ old

pub listed_later : (zs : List ZoneText) (k : ℕ) (z : ZoneText) (name : List ℕ) → slice_get zs k ≡ Some z → bytes_eq z.0 name ≡ false
    → listed_rule (drop k zs) name ≡ listed_rule zs name → listed_rule (drop (k + 1) zs) name ≡ listed_rule zs name
listed_later zs k z name at h old =
    sym (later z (drop (k + 1) zs) name h) ∙ ap (λ xs. listed_rule xs name) (sym (drop_at zs k z at)) ∙ old

pub listed_none : (zs : List ZoneText) (k : ℕ) (name : List ℕ) → length zs ≤ k → listed_rule (drop k zs) name ≡ listed_rule zs name → None ≡ listed_rule zs name
listed_none zs k name le old = sym (ap (λ xs. listed_rule xs name) (drop_all k zs le) ∙ ended name) ∙ old

-- whether a zone of the name is listed
pub some_named : (zs : List ZoneText) (k : ℕ) (z : ZoneText) (name : List ℕ) → slice_get zs k ≡ Some z → bytes_eq z.0 name ≡ true → list_any (λ y. bytes_eq y.0 name) zs ≡ true
some_named [] k z name at h = cc
some_named (y ∷ ys) zero z name at h = let same : y ≡ z = cc in rw (same, h) refl
some_named (y ∷ ys) (suc k) z name at h = or_right (bytes_eq y.0 name) _ (some_named ys k z name at h)

pub none_more : (zs : List ZoneText) (k : ℕ) (z : ZoneText) (name : List ℕ) → slice_get zs k ≡ Some z → bytes_eq z.0 name ≡ false
    → list_any (λ y. bytes_eq y.0 name) (take k zs) ≡ false → list_any (λ y. bytes_eq y.0 name) (take (k + 1) zs) ≡ false
none_more zs k z name at h old =
    list_any_more (λ y. bytes_eq y.0 name) zs k z (slice_get_within zs k z at)
    ∙ ap (λ b. b || bytes_eq (get_or zs k z).0 name) old ∙ ap (λ y. bytes_eq y.0 name) (get_or_from_slice_get zs k z z at) ∙ h

pub none_named : (zs : List ZoneText) (k : ℕ) (name : List ℕ) → length zs ≤ k → list_any (λ y. bytes_eq y.0 name) (take k zs) ≡ false → list_any (λ y. bytes_eq y.0 name) zs ≡ false
none_named zs k name le old = rw (take_all k zs le) at old
