-- What a trail has of the entries of an account.
use Rattle.std.proofs.Common.{◌≡◌, ◌≤◌, ◌+◌, ◌-◌, ◌++◌, [], ℕ, List, Option, None, Some, ap, arith, drop, length, length-append, length-drop, subst, subst₂, sym, take, ◌∙◌}
use Rattle.std.proofs.lemmas.List.{drop-append-le, drop-drop, drop-take, drop_all, map-append, take-append-drop, take-append-le, take-take}
use Rattle.account_core.proofs.Soundness.{behind_front, join_sound}
use Rattle.account_core.specs.Trails.{AreFrom, AreSoundFrom, HasCopies}
use Rattle.account_core.specs.declared.trail.Trail.{Trail}
use Rattle.cal_model.specs.Sound.{first_unsound}
use Rattle.spec_history.specs.History.{changes_of}
use Rattle.spec_history.specs.declared.entry.Change.{Change}
use Rattle.spec_history.specs.declared.entry.Entry.{Entry}
use Rattle.spec_site.specs.TimeZones.{ZoneText}

changes_of_both : (es more : List Entry) → changes_of (es ++ more) ≡ changes_of es ++ changes_of more
changes_of_both es more = map-append (λ (e : Entry). e.change) es more

module _ (zones : List ZoneText) where
  -- what there is from a place on, where the copies began there or before
  pub reaches : (first place : ℕ) (es h : List Entry) → AreFrom zones (Some first) es h → place ≤ length h → place - first ≤ length es
  reaches first place es h are le = omega (arith, ap (λ (l : List Entry). length l) are.1, length-drop first h, are.0, le)

  pub from_place : (first place : ℕ) (es h : List Entry) → AreFrom zones (Some first) es h → first ≤ place → drop (place - first) es ≡ drop place h
  from_place first place es h are le =
      let whole : first + (place - first) ≡ place = omega (arith, le) in
      ap (λ (l : List Entry). drop (place - first) l) (sym are.1) ∙ drop-drop (place - first) first h ∙ ap (λ (n : ℕ). drop n h) whole

  -- which is sound
  pub sound_from : (first place : ℕ) (h : List Entry) → AreSoundFrom zones first h → first ≤ place → AreSoundFrom zones place h
  sound_from first place h sound le =
      let more = place - first in
      let whole : first + more ≡ place = omega (arith, le) in
      let front : take first h ++ take more (drop first h) ≡ take place h =
      ap (λ (l : List Entry). take first h ++ l) (sym (drop-take first more h) ∙ ap (λ (n : ℕ). drop first (take n h)) whole)
      ∙ ap (λ (l : List Entry). l ++ drop first (take place h)) (sym (take-take first place h le)) ∙ take-append-drop first (take place h) in
      let rest : take more (drop first h) ++ drop place h ≡ drop first h =
      ap (λ (l : List Entry). take more (drop first h) ++ l) (sym (drop-drop more first h ∙ ap (λ (n : ℕ). drop n h) whole)) ∙ take-append-drop more (drop first h) in
      let parts = changes_of_both (take more (drop first h)) (drop place h) in
      ap (λ (cs : List Change). first_unsound zones cs (changes_of (drop place h))) (sym (ap changes_of front) ∙ changes_of_both (take first h) (take more (drop first h)))
      ∙ behind_front zones (changes_of (take first h)) (changes_of (take more (drop first h))) (changes_of (drop place h))
      (ap (first_unsound zones (changes_of (take first h))) (sym parts ∙ ap changes_of rest) ∙ sound)

  -- more entries come, which are sound behind those that there are
  more_from : (first : Option ℕ) (es more h : List Entry) → first_unsound zones (changes_of h) (changes_of more) ≡ None → AreFrom zones first es h → AreFrom zones first (es ++ more) (h ++ more)
  more_from None es more h sound are = tt
  more_from (Some first) es more h sound are =
      let front = ap changes_of (take-append-le first h more are.0) in
      let rest = ap changes_of (drop-append-le first h more are.0) ∙ changes_of_both (drop first h) more in
      let all : changes_of (take first h) ++ changes_of (drop first h) ≡ changes_of h = sym (changes_of_both (take first h) (drop first h)) ∙ ap changes_of (take-append-drop first h) in (
        omega (arith, are.0, length-append h more),
        drop-append-le first h more are.0 ∙ ap (λ (l : List Entry). l ++ more) are.1,
        ap (λ (cs : List Change). first_unsound zones cs (changes_of (drop first (h ++ more)))) front ∙ ap (first_unsound zones (changes_of (take first h))) rest
            ∙ join_sound zones (changes_of (take first h)) (changes_of (drop first h)) (changes_of more) are.2 (ap (λ (cs : List Change). first_unsound zones cs (changes_of more)) all ∙ sound),
      )

  -- a trail that copies nothing, and one that begins behind all entries
  pub has_nothing : (t : Trail) (h : List Entry) → t.first ≡ None → HasCopies zones t h
  has_nothing t h none = subst (λ (first : Option ℕ). AreFrom zones first t.entries.items h) (sym none) tt

  pub has_begun : (t : Trail) (h : List Entry) (count : ℕ) → t.first ≡ Some count → t.entries.items ≡ [] → count ≡ length h → HasCopies zones t h
  has_begun t h count first none all =
      let nothing : drop count h ≡ [] = drop_all count h (omega (arith, all)) in
      let sound : AreSoundFrom zones count h = ap (λ (l : List Entry). first_unsound zones (changes_of (take count h)) (changes_of l)) nothing in
      let are : AreFrom zones (Some count) [] h = (omega (arith, all), nothing, sound) in
      subst₂ (λ (o : Option ℕ) (es : List Entry). AreFrom zones o es h) (sym first) (sym none) are

  -- it goes on with what comes, and has what it had where nothing came
  pub has_more : (t u : Trail) (h more : List Entry) → u.first ≡ t.first → u.entries.items ≡ t.entries.items ++ more → first_unsound zones (changes_of h) (changes_of more) ≡ None
      → HasCopies zones t h → HasCopies zones u (h ++ more)
  has_more t u h more first es sound has = subst₂ (λ (o : Option ℕ) (l : List Entry). AreFrom zones o l (h ++ more)) (sym first) (sym es) (more_from t.first t.entries.items more h sound has)

  pub has_same : (t u : Trail) (h : List Entry) → u.first ≡ t.first → u.entries.items ≡ t.entries.items → HasCopies zones t h → HasCopies zones u h
  has_same t u h first es has = subst₂ (λ (o : Option ℕ) (l : List Entry). AreFrom zones o l h) (sym first) (sym es) has
