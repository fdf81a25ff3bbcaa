-- Instants that are kept.
use Rattle.std.proofs.Common.{◌≡◌, ◌∙◌, ℕ, ◌<◌, List, [], ◌∷◌, Bool, true, false, Option, Some, None, length, get_or, refl, ap, arith, ℤ, ◌++◌, if◌then◌else◌}
use Rattle.std.specs.Prelude.{option_and_then}
use Rattle.std.specs.Option.{option_map_or}
use Rattle.std.specs.Ordering.{int_eq}
use Rattle.std.proofs.lemmas.Bool.Decides.{Decides-int_eq}
use Rattle.std.proofs.lemmas.List.Recursion.{and_at, and_push}
use Rattle.jiff_core.proofs.SignedLemmas.{signed_arith}
use Rattle.jiff_core.specs.Calendar.{IsWithin}
use Rattle.jiff_tz.specs.declared.posix.TimeZone.{TimeZone}
use Rattle.jiff_tz.specs.PosixText.{TzText, tz_view}
use Rattle.spec_time.specs.LocalTimes.{local_in}
use Rattle.spec_windows.specs.Clocks.{instant_in}
use Rattle.occurrence_windows.proofs.Series.{rule_instants}
use Rattle.query_filter.specs.TimesRead.{are_times, is_time}
use Rattle.query_filter.specs.declared.clock.TimeRead.{TimeRead}
use Rattle.rule_expand.proofs.Sets.{both_and}

some_eq : (x : ℤ) (o : Option ℤ) → option_map_or (int_eq x) o false ≡ true → Some x ≡ o
some_eq x None h = cc
some_eq x (Some y) h = ap (λ z. Some z) ((Decides-int_eq x y).0 h)

pub time_is : (rule : TzText) (ts : List TimeRead) (i : ℕ) (t : TimeRead) (text : List ℕ) → are_times rule ts ≡ true → i < length ts → t ≡ get_or ts i t → t.text ≡ text
    → Some t.instant ≡ option_and_then (instant_in rule) (local_in text)
time_is rule ts i t text h lt e same =
    let here : is_time rule t ≡ true = ap (is_time rule) e ∙ and_at (are_times rule) (is_time rule) refl (λ x xs. refl) ts i t lt h in
    some_eq t.instant _ here ∙ ap (λ s. option_and_then (instant_in rule) (local_in s)) same

near_by : (tz : TimeZone) (o : Option ℤ) (t : ℤ) → option_and_then (instant_in (tz_view tz)) o ≡ Some t → IsWithin 300000000000 t
near_by tz None t h = cc
near_by tz (Some w) t h = let x = (rule_instants tz).showing w t h in let y = (rule_instants tz).near w t h in omega (arith, signed_arith, x, y)

pub named_near : (tz : TimeZone) (text : List ℕ) (t : ℤ) → option_and_then (instant_in (tz_view tz)) (local_in text) ≡ Some t → IsWithin 300000000000 t
named_near tz text t h = near_by tz (local_in text) t h

-- whether or not there was memory for one more
pub times_pushed : (rule : TzText) (ts : List TimeRead) (t : TimeRead) (b : Bool) → are_times rule ts ≡ true → option_and_then (instant_in rule) (local_in t.text) ≡ Some t.instant → are_times rule (if b then ts ++ t ∷ [] else ts) ≡ true
times_pushed rule ts t true h e =
    let here : is_time rule t ≡ true = ap (λ o. option_map_or (int_eq t.instant) o false) e ∙ (Decides-int_eq t.instant t.instant).1 refl in
    and_push (are_times rule) (is_time rule) refl (λ x xs. refl) ts t ∙ both_and _ _ h here
times_pushed rule ts t false h e = h
