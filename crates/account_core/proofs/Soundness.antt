-- Lists of sound changes with one more.
use Rattle.std.proofs.Common.{◌≡◌, ◌∙◌, ◌++◌, ◌∷◌, List, [], true, None, append-nil, append_assoc, refl, sym, ap}
use Rattle.cal_model.specs.Sound.{first_unsound, is_sound}
use Rattle.object_outcomes.proofs.SoundLemmas.{some_place}
use Rattle.spec_history.specs.declared.entry.Change.{Change}
use Rattle.spec_site.specs.TimeZones.{ZoneText}

module _ (zones : List ZoneText) where
  none_more : (before cs : List Change) (c : Change) → first_unsound zones before cs ≡ None → is_sound zones (before ++ cs) c ≡ true → first_unsound zones before (cs ++ c ∷ []) ≡ None
  none_more before [] c none sound = let here : is_sound zones before c ≡ true = sym (ap (λ ds. is_sound zones ds c) (append-nil before)) ∙ sound in rw here refl
  none_more before (d ∷ cs) c none sound =
      let first = some_place zones before cs d (is_sound zones before d) refl none in
      let rest = none_more (before ++ d ∷ []) cs c first.1 (ap (λ ds. is_sound zones ds c) (append_assoc before (d ∷ []) cs) ∙ sound) in
      rw first.0 rest

  -- changes behind others that are sound, too
  pub join_sound : (before cs ds : List Change) → first_unsound zones before cs ≡ None → first_unsound zones (before ++ cs) ds ≡ None → first_unsound zones before (cs ++ ds) ≡ None
  join_sound before [] ds h g = ap (λ l. first_unsound zones l ds) (sym (append-nil before)) ∙ g
  join_sound before (c ∷ cs) ds h g =
      let first = some_place zones before cs c (is_sound zones before c) refl h in
      rw first.0 (join_sound (before ++ c ∷ []) cs ds first.1 (ap (λ l. first_unsound zones l ds) (append_assoc before (c ∷ []) cs) ∙ g))

  -- and what is left of them behind their front
  pub behind_front : (before cs ds : List Change) → first_unsound zones before (cs ++ ds) ≡ None → first_unsound zones (before ++ cs) ds ≡ None
  behind_front before [] ds h = ap (λ l. first_unsound zones l ds) (append-nil before) ∙ h
  behind_front before (c ∷ cs) ds h =
      let first = some_place zones before (cs ++ ds) c (is_sound zones before c) refl h in
      ap (λ l. first_unsound zones l ds) (sym (append_assoc before (c ∷ []) cs)) ∙ behind_front (before ++ c ∷ []) cs ds first.1

  -- one change more is staged
  pub one_sound : (cs staged more : List Change) (c : Change) → first_unsound zones cs staged ≡ None → is_sound zones (cs ++ staged) c ≡ true → more ≡ staged ++ c ∷ [] → first_unsound zones cs more ≡ None
  one_sound cs staged more c none sound is = ap (first_unsound zones cs) is ∙ none_more cs staged c none sound
