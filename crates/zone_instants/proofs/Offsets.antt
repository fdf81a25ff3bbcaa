-- The offsets that a rule's text can give.
use Rattle.std.proofs.Common.{◌≡◌, ℕ, ℤ, pos, ◌+◌, ◌*◌, ◌≤◌, ◌+ℤ◌, ◌-ℤ◌, not, Bool, true, false, nat_le, Option, Some, None, List, if◌then◌else◌, refl, ap, subst, arith, length}
use Rattle.std.specs.Prelude.{option_and_then, ◌==◌}
use Rattle.std.proofs.lemmas.Option.{same_Some}
use Rattle.std.proofs.lemmas.Bool.{leb-true}
use Rattle.jiff_core.proofs.SignedLemmas.{signed_arith}
use Rattle.jiff_core.specs.Calendar.{IsWithin}
use Rattle.jiff_tz.specs.PosixText.{TzText, DstText}
use Rattle.jiff_tz.specs.PosixReader.{Read, at_most, begins, begins_name, signed_by, read_byte, read_sign, read_up_to_two, read_exactly_two, read_sixty, read_after_minute, read_minutes, read_offset, read_abbreviation, read_day_time, read_dst, read_tz, read_whole, tz_text}
use Rattle.zone_instants.proofs.Bounds.{HasNearOffsets, instant_near}
use Rattle.spec_windows.specs.Clocks.{instant_in}
use Rattle.spec_json.proofs.Booleans.{by_bool}

after : {A B : Type 0} (o : Option A) (f : A → Option B) (y : B) → option_and_then f o ≡ Some y → (x : A) × ((o ≡ Some x) × (f x ≡ Some y))
after None f y h = cc
after (Some x) f y h = (x, (refl, h))

if_some : {A : Type 0} (b : Bool) (x y : A) → (if b then Some x else None) ≡ Some y → (b ≡ true) × (x ≡ y)
if_some true x y h = (refl, same_Some x y h)
if_some false x y h = cc

most : (n : ℕ) (r : Read ℕ) (p : ℕ × List ℕ) → at_most n r ≡ Some p → p.0 ≤ n
most n r p h =
    let x = after r (λ q. if nat_le q.0 n then Some q else None) p h in
    let y = if_some (nat_le x.0.0 n) x.0 p x.1.1 in
    let e = ap (λ (q : ℕ × List ℕ). q.0) y.1 in
    let le = leb-true x.0.0 n y.0 in
    omega (arith, le, e)

sixty : (text : List ℕ) (p : ℕ × List ℕ) → read_sixty text ≡ Some p → p.0 ≤ 59
unfolding read_sixty
sixty text p h = let x = after (read_byte 58 text) (λ rest. at_most 59 (read_exactly_two rest)) p h in most 59 (read_exactly_two x.0) p x.1.1

after_minute : (m p : ℕ × List ℕ) → m.0 ≤ 59 → read_after_minute m ≡ Some p → p.0 ≤ 3599
after_minute m p le h = by_bool (begins 58 m.1)
    (λ t. let k = rw t at h in
    let x = after (read_sixty m.1) (λ s. Some (m.0 * 60 + s.0, s.1)) p k in
    let s = sixty m.1 x.0 x.1.0 in
    let e = ap (λ (q : ℕ × List ℕ). q.0) (same_Some (m.0 * 60 + x.0.0, x.0.1) p x.1.1) in
    omega (arith, s, e, le))
    (λ f. let k = rw f at h in
    let e = ap (λ (q : ℕ × List ℕ). q.0) (same_Some (m.0 * 60, m.1) p k) in
    omega (arith, e, le))

minutes : (text : List ℕ) (p : ℕ × List ℕ) → read_minutes text ≡ Some p → p.0 ≤ 3599
unfolding read_minutes
minutes text p h = by_bool (begins 58 text)
    (λ t. let k = rw t at h in
    let x = after (read_sixty text) read_after_minute p k in
    after_minute x.0 p (sixty text x.0 x.1.0) x.1.1)
    (λ f. let k = rw f at h in
    let e = ap (λ (q : ℕ × List ℕ). q.0) (same_Some (0, text) p k) in
    omega (arith, e))

signed_near : (b : Bool) (n k : ℕ) → n ≤ k → IsWithin k (signed_by b n)
signed_near true n k h = omega (arith, signed_arith, h)
signed_near false n k h = omega (arith, signed_arith, h)

-- an offset that is written out: at most 24:59:59
pub offset_near : (text : List ℕ) (p : ℤ × List ℕ) → read_offset text ≡ Some p → IsWithin 89999 p.0
unfolding read_offset
offset_near text p h =
    let x = after (at_most 24 (read_up_to_two (read_sign text).1)) _ p h in
    let hour = most 24 (read_up_to_two (read_sign text).1) x.0 x.1.0 in
    let y = after (read_minutes x.0.1) _ p x.1.1 in
    let m = minutes x.0.1 y.0 y.1.0 in
    let e = ap (λ (q : ℤ × List ℕ). q.0) (same_Some (signed_by (not (read_sign text).0) (x.0.0 * 3600 + y.0.0), y.0.1) p y.1.1) in
    rw (← e) (signed_near (not (read_sign text).0) (x.0.0 * 3600 + y.0.0) 89999 (omega (arith, hour, m)))

-- daylight saving time is an hour ahead where its offset is left out
dst_offset : (std : ℤ) (text : List ℕ) (q : ℤ × List ℕ) → IsWithin 89999 std → (if begins 44 text then Some (std +ℤ pos 3600, text) else read_offset text) ≡ Some q → IsWithin 93599 q.0
dst_offset std text q near h = by_bool (begins 44 text)
    (λ t. let k = rw t at h in
    let s = ap (λ (p : ℤ × List ℕ). p.0) (same_Some (std +ℤ pos 3600, text) q k) in
    (omega (arith, signed_arith, near, s), omega (arith, signed_arith, near, s)))
    (λ f. let k = rw f at h in
    let s = offset_near text q k in
    (omega (arith, signed_arith, s), omega (arith, signed_arith, s)))

dst_near : (std : ℤ) (text : List ℕ) (p : DstText × List ℕ) → IsWithin 89999 std → read_dst std text ≡ Some p → IsWithin 93599 p.0.seconds
unfolding read_dst
dst_near std text p near h =
    let name = after (read_abbreviation text) _ p h in
    let offset = after (if begins 44 name.0.1 then Some (std +ℤ pos 3600, name.0.1) else read_offset name.0.1) _ p name.1.1 in
    let start_text = after (read_byte 44 offset.0.1) _ p offset.1.1 in
    let start = after (read_day_time start_text.0) _ p start_text.1.1 in
    let finish_text = after (read_byte 44 start.0.1) _ p start.1.1 in
    let finish = after (read_day_time finish_text.0) _ p finish_text.1.1 in
    let e = ap (λ (q : DstText × List ℕ). q.0.seconds) (same_Some _ p finish.1.1) in
    let wide = dst_offset std name.0.1 offset.0 near offset.1.0 in
    subst (λ (z : ℤ). IsWithin 93599 z) e wide

tz_near : (text : List ℕ) (p : TzText × List ℕ) → read_tz text ≡ Some p → HasNearOffsets p.0
unfolding read_tz
tz_near text p h =
    let name = after (read_abbreviation text) _ p h in
    let offset = after (read_offset name.0.1) _ p name.1.1 in
    let std = offset_near name.0.1 offset.0 offset.1.0 in
    let wide : IsWithin 93599 offset.0.0 = (omega (arith, signed_arith, std), omega (arith, signed_arith, std)) in
    by_bool (begins_name offset.0.1)
    (λ t. let k = rw t at offset.1.1 in
    let dst = after (read_dst offset.0.0 offset.0.1) _ p k in
    let e = ap (λ (q : TzText × List ℕ). q.0) (same_Some (tz_text name.0.0 offset.0.0 (Some dst.0.0), dst.0.1) p dst.1.1) in
    subst (λ (z : TzText). HasNearOffsets z) e (wide, dst_near offset.0.0 offset.0.1 dst.0 std dst.1.0))
    (λ f. let k = rw f at offset.1.1 in
    let e = ap (λ (q : TzText × List ℕ). q.0) (same_Some (tz_text name.0.0 offset.0.0 None, offset.0.1) p k) in
    subst (λ (z : TzText). HasNearOffsets z) e (wide, tt))

-- a rule that is read has offsets of less than 26 hours
pub text_near : (text : List ℕ) (tz : TzText) → read_whole text ≡ Some tz → HasNearOffsets tz
unfolding read_whole
text_near text tz h =
    let x = after (read_tz text) (λ p. if length p.1 == 0 then Some p.0 else None) tz h in
    let y = if_some (length x.0.1 == 0) x.0.0 tz x.1.1 in
    subst (λ (z : TzText). HasNearOffsets z) y.1 (tz_near text x.0 x.1.0)

-- the law of instants
pub instants_lie_near : (text : List ℕ) (tz : TzText) (w t : ℤ) → read_whole text ≡ Some tz → instant_in tz w ≡ Some t → IsWithin 93599 (t -ℤ w)
instants_lie_near text tz w t h e = instant_near tz w t (text_near text tz h) e
