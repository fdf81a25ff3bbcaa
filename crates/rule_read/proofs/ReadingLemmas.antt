-- What a rule was read of.
use Rattle.std.proofs.Common.{◌≡◌, ◌&&◌, ℕ, ℤ, Bool, true, false, List, Option, Some, None, option_and_then, if◌then◌else◌, refl, ap, subst}
use Rattle.std.proofs.lemmas.Option.{none-some, same_Some}
use Rattle.spec_json.specs.Data.{Data}
use Rattle.spec_series.specs.RuleObjects.{Readings, RuleParts, filled, fits_frequency, is_rule_object, is_settled, parts_read, readings_of, rule_in, rule_with, settled_rule}
use Rattle.spec_series.specs.declared.by_part.End.{End}
use Rattle.spec_series.specs.declared.by_part.Freq.{Freq}
use Rattle.spec_series.specs.declared.by_part.NDay.{NDay}
use Rattle.spec_series.specs.declared.by_part.Skip.{Skip}

-- each member says what the parts have
pub record AreReadings (r : Readings) (p : RuleParts) : Type 0 where
  pub frequency : r.frequency ≡ Some p.frequency
  pub interval : r.interval ≡ Some p.interval
  pub week_start : r.week_start ≡ Some p.week_start
  pub end : r.end ≡ Some p.end
  pub by_day : r.by_day ≡ Some p.by_day
  pub by_month_day : r.by_month_day ≡ Some p.by_month_day
  pub by_month : r.by_month ≡ Some p.by_month
  pub by_year_day : r.by_year_day ≡ Some p.by_year_day
  pub by_set : r.by_set ≡ Some p.by_set
  pub skip : r.skip ≡ Some p.skip

abbrev readings : Option Freq → Option ℕ → Option ℕ → Option End → Option Skip → Option (List NDay) → Option (List ℤ) → Option (List ℤ) → Option (List ℤ) → Option (List ℤ) → Readings
readings f i w e sk ds md m yd bs = record { frequency = f; interval = i; week_start = w; end = e; skip = sk; by_day = ds; by_month_day = md; by_month = m; by_year_day = yd; by_set = bs }

module _ (p : RuleParts) where
  by_members : (f : Option Freq) (i w : Option ℕ) (e : Option End) (sk : Option Skip) (ds : Option (List NDay)) (md m yd bs : Option (List ℤ))
      → parts_read (readings f i w e sk ds md m yd bs) ≡ Some p → AreReadings (readings f i w e sk ds md m yd bs) p
  unfolding parts_read
  by_members None i w e sk ds md m yd bs h = absurd (none-some p h)
  by_members (Some f) None w e sk ds md m yd bs h = absurd (none-some p h)
  by_members (Some f) (Some i) None e sk ds md m yd bs h = absurd (none-some p h)
  by_members (Some f) (Some i) (Some w) None sk ds md m yd bs h = absurd (none-some p h)
  by_members (Some f) (Some i) (Some w) (Some e) None ds md m yd bs h = absurd (none-some p h)
  by_members (Some f) (Some i) (Some w) (Some e) (Some sk) None md m yd bs h = absurd (none-some p h)
  by_members (Some f) (Some i) (Some w) (Some e) (Some sk) (Some ds) None m yd bs h = absurd (none-some p h)
  by_members (Some f) (Some i) (Some w) (Some e) (Some sk) (Some ds) (Some md) None yd bs h = absurd (none-some p h)
  by_members (Some f) (Some i) (Some w) (Some e) (Some sk) (Some ds) (Some md) (Some m) None bs h = absurd (none-some p h)
  by_members (Some f) (Some i) (Some w) (Some e) (Some sk) (Some ds) (Some md) (Some m) (Some yd) None h = absurd (none-some p h)
  by_members (Some f) (Some i) (Some w) (Some e) (Some sk) (Some ds) (Some md) (Some m) (Some yd) (Some bs) h =
      let same = same_Some (rule_with f i w e sk ds md m yd bs) p h in
      record {
        frequency = ap (λ (x : RuleParts). Some x.frequency) same;
        interval = ap (λ (x : RuleParts). Some x.interval) same;
        week_start = ap (λ (x : RuleParts). Some x.week_start) same;
        end = ap (λ (x : RuleParts). Some x.end) same;
        by_day = ap (λ (x : RuleParts). Some x.by_day) same;
        by_month_day = ap (λ (x : RuleParts). Some x.by_month_day) same;
        by_month = ap (λ (x : RuleParts). Some x.by_month) same;
        by_year_day = ap (λ (x : RuleParts). Some x.by_year_day) same;
        by_set = ap (λ (x : RuleParts). Some x.by_set) same;
        skip = ap (λ (x : RuleParts). Some x.skip) same;
      }

  are_readings : (r : Readings) → parts_read r ≡ Some p → AreReadings r p
  are_readings r h = by_members r.frequency r.interval r.week_start r.end r.skip r.by_day r.by_month_day r.by_month r.by_year_day r.by_set h

-- these parts are read of an object, and with the implied ones they make up its rule
pub record IsMadeOf (n : ℤ) (d : Data) (q p : RuleParts) : Type 0 where
  pub read : AreReadings (readings_of d) q
  pub filled : filled n q ≡ p
  pub fits : fits_frequency p ≡ true

settled_by : (q p : RuleParts) (still fits : Bool) → fits_frequency q ≡ fits → (if still && fits then Some q else None) ≡ Some p → (q ≡ p) × (fits_frequency p ≡ true)
settled_by q p true true e h = let same = same_Some q p h in (same, subst (λ x. fits_frequency x ≡ true) same e)
settled_by q p true false e h = absurd (none-some p h)
settled_by q p false fits e h = absurd (none-some p h)

made_by : (n : ℤ) (d : Data) (p : RuleParts) (b : Bool) (o : Option RuleParts) → parts_read (readings_of d) ≡ o
    → (if b then option_and_then (settled_rule n) o else None) ≡ Some p → (q : RuleParts) × IsMadeOf n d q p
made_by n d p true None e h = absurd (none-some p h)
made_by n d p true (Some q) e h =
    let made = settled_by (filled n q) p (is_settled q) (fits_frequency (filled n q)) refl h in
    (q, record { read = are_readings q (readings_of d) e; filled = made.0; fits = made.1 })
made_by n d p false o e h = absurd (none-some p h)

pub made : (n : ℤ) (d : Data) (p : RuleParts) → rule_in n d ≡ Some p → (q : RuleParts) × IsMadeOf n d q p
unfolding rule_in
made n d p h = made_by n d p (is_rule_object d) (parts_read (readings_of d)) refl h
