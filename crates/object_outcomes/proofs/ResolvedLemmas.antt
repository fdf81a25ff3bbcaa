-- Texts behind what they begin with.
use Rattle.std.proofs.Common.{◌≡◌, ◌≢◌, ℕ, List, [], ◌∷◌, ◌++◌, ◌==◌, Bool, true, false, Option, Some, None, MatchOption, Bor, codes, drop, option_map, take, if◌then◌else◌, refl, sym, ap, ◌∙◌}
use Rattle.std.proofs.lemmas.Bool.{ne_eqb}
use Rattle.std.proofs.lemmas.List.{take-append-drop}
use Rattle.std.proofs.lemmas.Slice.Eq.{bytes_eq-Decides}
use Rattle.std.specs.Str.{bytes_eq}
use Rattle.std.specs.Str.Pattern.{FindsTextPrefix, StripsPrefix}
use Rattle.cal_model.specs.CreatedIds.{below_calendar_ids}
use Rattle.spec_json.specs.Parts.{behind_hash}

no_hash : (s : List ℕ) → ((rest : List ℕ) → s ≢ 35 ∷ rest) → None ≡ behind_hash s
no_hash [] h = refl
no_hash (b ∷ bs) h = let unlike : (b == 35) ≡ false = ne_eqb b 35 (λ e. h bs (ap (λ x. x ∷ bs) e)) in rw unlike refl

-- a text is cut behind its `#`
pub hash_cut : (s : List ℕ) (r : Option (Bor (List ℕ))) → MatchOption r ((rest : List ℕ) → s ≢ 35 ∷ rest) (λ x. s ≡ 35 ∷ x.now) → option_map (λ x. x.now) r ≡ behind_hash s
hash_cut s None h = no_hash s h
hash_cut s (Some x) h = sym (ap behind_hash h)

below_there : (s rest : List ℕ) → s ≡ codes "calendarIds/" ++ rest → Some rest ≡ below_calendar_ids s
below_there s rest h = sym (ap below_calendar_ids h)

below_absent : (s : List ℕ) → ((rest : List ℕ) → s ≢ codes "calendarIds/" ++ rest) → (same : Bool) → bytes_eq (take 12 s) (codes "calendarIds/") ≡ same → None ≡ (if same then Some (drop 12 s) else None)
below_absent s h false e = refl
below_absent s h true e = absurd (h (drop 12 s) (sym (take-append-drop 12 s) ∙ ap (λ t. t ++ drop 12 s) ((bytes_eq-Decides _ _).0 e)))

-- a text is cut behind `calendarIds/`
pub below_cut : (s : List ℕ) (r : Option (Bor (List ℕ))) → MatchOption r ((rest : List ℕ) → s ≢ codes "calendarIds/" ++ rest) (λ x. s ≡ codes "calendarIds/" ++ x.now) → option_map (λ x. x.now) r ≡ below_calendar_ids s
below_cut s None h = below_absent s h _ refl
below_cut s (Some x) h = below_there s x.now h

-- what cutting off a text says
pub text_cut : (p s : List ℕ) (r : Option (Bor (List ℕ))) → MatchOption r (FindsTextPrefix p s None) (λ x. StripsPrefix (FindsTextPrefix p) s x.now) → MatchOption r ((rest : List ℕ) → s ≢ p ++ rest) (λ x. s ≡ p ++ x.now)
text_cut p s None h = h
text_cut p s (Some x) h = h.1.1 ∙ ap (λ t. p ++ t) (sym h.2)
