-- A configuration that is accepted comes to its site.
use Rattle.std.proofs.Common.{◌≡◌, ◌+◌, ℕ, List, Some, None, Result, Ok, Err, sym, ap, ◌∙◌, subst, take, option_map}
use Rattle.std.proofs.lemmas.Option.{same_Some}
use Rattle.std.specs.Prelude.{IfSome}
use Rattle.io_edge.specs.Outside.{IsMissing, OpenerShown, file_named}
use Rattle.jmapd_run.proofs.StartLemmas.{configured_taken}
use Rattle.jmapd_run.specs.Completes.{IsAccepted}
use Rattle.jmapd_run.specs.Starts.{IsLoaded}
use Rattle.spec_site.specs.Configuration.{Fault, Site, configured}
use Rattle.spec_site.specs.declared.limits.TheConstants.{MAX_CONFIGURATION_BYTES}

pub only_site : (other site : Site) (what : Result Site Fault) → what ≡ Ok other → what ≡ Ok site → other ≡ site
only_site other site what is_other is_site = cc

pub never : (fault : Fault) (site : Site) (what : Result Site Fault) → what ≡ Err fault → what ≡ Ok site → ⊥
never fault site what is_fault is_site = cc

module _ (o o' : OpenerShown) (name : List ℕ) (site : Site) (accepted : IsAccepted (Some name) o site) where
  abbrev files_of : List (List ℕ × List ℕ)
  files_of = accepted.1.0

  -- what the file of the name came to is the site
  pub comes_to : (what : Result Site Fault) → IsLoaded o o' name what → what ≡ Ok site
  comes_to what loaded =
      let told : o.files ≡ Some files_of = accepted.1.1 in
      let first : option_map (take (MAX_CONFIGURATION_BYTES + 1)) (file_named files_of name) ≡ Some loaded.0 =
      subst (λ f. IfSome f (λ t. option_map (take (MAX_CONFIGURATION_BYTES + 1)) (file_named t name) ≡ Some loaded.0)) told loaded.1 in
      let same : take (MAX_CONFIGURATION_BYTES + 1) accepted.0 ≡ loaded.0 =
      same_Some (take (MAX_CONFIGURATION_BYTES + 1) accepted.0) loaded.0 (ap (option_map (take (MAX_CONFIGURATION_BYTES + 1))) (sym accepted.1.2) ∙ first) in
      sym loaded.2 ∙ (ap configured (sym same) ∙ (configured_taken accepted.0 ∙ accepted.2))

  -- there is a file of the name
  pub is_there : IsMissing o.files name → ⊥
  is_there missing =
      let told : o.files ≡ Some files_of = accepted.1.1 in
      let none : file_named files_of name ≡ None = subst (λ f. IfSome f (λ t. file_named t name ≡ None)) told missing in
      absurd (let bad : Some accepted.0 ≡ None = sym accepted.1.2 ∙ none in cc)
