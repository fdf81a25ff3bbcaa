-- The first bad zone among the leading ones, or the first item that isn't of that form, is the first bad item.
use Rattle.std.proofs.Common.{◌≡◌, ◌∙◌, ℕ, ◌+◌, ◌<◌, ◌≤◌, List, [], ◌∷◌, ◌++◌, Bool, true, false, Option, Some, None, Ok, Err, length, length-append, refl, sym, ap, arith, append_assoc, append-nil}
use Rattle.spec_json.specs.Data.{Data}
use Rattle.spec_site.specs.Configuration.{read_behind, zone_in, zone_text}
use Rattle.spec_site.specs.TimeZones.{ZoneText, first_bad_zone, is_good_zone}
use Rattle.session_doc.specs.LeadingZones.{leading_zones}

pub leading_fewer : (ds : List Data) → length (leading_zones ds) ≤ length ds
leading_fewer [] = omega arith
leading_fewer (d ∷ ds) = by_item (zone_text d) refl (leading_fewer ds)
  where
    by_item : (o : Option ZoneText) → zone_text d ≡ o → length (leading_zones ds) ≤ length ds → length (leading_zones (d ∷ ds)) ≤ length (d ∷ ds)
    by_item None is h = rw is (omega arith)
    by_item (Some z) is h = rw is (omega arith)

pub bad_zone : (earlier : List ZoneText) (ds : List Data) (i : ℕ) → first_bad_zone earlier (leading_zones ds) ≡ Some i → read_behind zone_in earlier ds ≡ Err i
bad_zone earlier [] i e = cc
bad_zone earlier (d ∷ ds) i e = by_item (zone_text d) refl (λ z. bad_zone (earlier ++ z ∷ []) ds i)
  where
    Rest : Type 0
    Rest = (z : ZoneText) → first_bad_zone (earlier ++ z ∷ []) (leading_zones ds) ≡ Some i → read_behind zone_in (earlier ++ z ∷ []) ds ≡ Err i

    by_zone : (z : ZoneText) (b : Bool) → zone_text d ≡ Some z → is_good_zone earlier z ≡ b → Rest → read_behind zone_in earlier (d ∷ ds) ≡ Err i
    by_zone z true is g rest = rw (is, g) (rest z (rw (is, g) at e))
    by_zone z false is g rest = let f = rw (is, g) at e in rw (is, g) cc

    by_item : (o : Option ZoneText) → zone_text d ≡ o → Rest → read_behind zone_in earlier (d ∷ ds) ≡ Err i
    by_item None is rest = let f = rw is at e in cc
    by_item (Some z) is rest = by_zone z (is_good_zone earlier z) is refl rest

pub some_left : (earlier : List ZoneText) (ds : List Data) → first_bad_zone earlier (leading_zones ds) ≡ None → length (leading_zones ds) < length ds
    → read_behind zone_in earlier ds ≡ Err (length earlier + length (leading_zones ds))
some_left earlier [] e l = absurd (omega arith)
some_left earlier (d ∷ ds) e l = by_item (zone_text d) refl (λ z. some_left (earlier ++ z ∷ []) ds)
  where
    Rest : Type 0
    Rest = (z : ZoneText) → first_bad_zone (earlier ++ z ∷ []) (leading_zones ds) ≡ None → length (leading_zones ds) < length ds
        → read_behind zone_in (earlier ++ z ∷ []) ds ≡ Err (length (earlier ++ z ∷ []) + length (leading_zones ds))

    by_zone : (z : ZoneText) (b : Bool) → zone_text d ≡ Some z → is_good_zone earlier z ≡ b → Rest → read_behind zone_in earlier (d ∷ ds) ≡ Err (length earlier + length (leading_zones (d ∷ ds)))
    by_zone z true is g rest =
        let fewer = rw is at l in
        rw (is, g) (rest z (rw (is, g) at e) (omega (arith, fewer)) ∙ ap Err (omega (arith, length-append earlier (z ∷ []))))
    by_zone z false is g rest = let f = rw (is, g) at e in cc

    by_item : (o : Option ZoneText) → zone_text d ≡ o → Rest → read_behind zone_in earlier (d ∷ ds) ≡ Err (length earlier + length (leading_zones (d ∷ ds)))
    by_item None is rest = rw is (ap Err (omega arith))
    by_item (Some z) is rest = by_zone z (is_good_zone earlier z) is refl rest

pub none_left : (earlier : List ZoneText) (ds : List Data) → first_bad_zone earlier (leading_zones ds) ≡ None → length ds ≤ length (leading_zones ds)
    → read_behind zone_in earlier ds ≡ Ok (earlier ++ leading_zones ds)
none_left earlier [] e l = ap Ok (sym (append-nil earlier))
none_left earlier (d ∷ ds) e l = by_item (zone_text d) refl (λ z. none_left (earlier ++ z ∷ []) ds)
  where
    Rest : Type 0
    Rest = (z : ZoneText) → first_bad_zone (earlier ++ z ∷ []) (leading_zones ds) ≡ None → length ds ≤ length (leading_zones ds)
        → read_behind zone_in (earlier ++ z ∷ []) ds ≡ Ok ((earlier ++ z ∷ []) ++ leading_zones ds)

    by_zone : (z : ZoneText) (b : Bool) → zone_text d ≡ Some z → is_good_zone earlier z ≡ b → Rest → read_behind zone_in earlier (d ∷ ds) ≡ Ok (earlier ++ leading_zones (d ∷ ds))
    by_zone z true is g rest =
        let fewer = rw is at l in
        rw (is, g) (rest z (rw (is, g) at e) (omega (arith, fewer)) ∙ ap Ok (append_assoc earlier (z ∷ []) (leading_zones ds)))
    by_zone z false is g rest = let f = rw (is, g) at e in cc

    by_item : (o : Option ZoneText) → zone_text d ≡ o → Rest → read_behind zone_in earlier (d ∷ ds) ≡ Ok (earlier ++ leading_zones (d ∷ ds))
    by_item None is rest = let fewer = rw is at l in absurd (omega (arith, fewer))
    by_item (Some z) is rest = by_zone z (is_good_zone earlier z) is refl rest
