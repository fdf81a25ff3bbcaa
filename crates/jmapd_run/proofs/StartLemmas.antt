-- What a command and the configuration come to is one thing.
use Rattle.std.proofs.Common.{◌≡◌, ◌+◌, ◌<◌, ◌≤◌, ℕ, Bool, true, false, List, Option, Some, None, Result, Ok, Err, inl, inr, length, take, refl, sym, ap, ◌∙◌, subst, arith, option_map}
use Rattle.std.proofs.lemmas.Bool.Decides.{nat_tests}
use Rattle.std.proofs.lemmas.List.{length-take-le, take_all}
use Rattle.std.proofs.lemmas.Option.{same_Some}
use Rattle.std.specs.Prelude.{IfSome, if◌then◌else◌, nat_le, option_and_then}
use Rattle.io_edge.specs.Outside.{IsMissing, OpenerShown, Rose, file_named}
use Rattle.spec_json.specs.Json.{reading}
use Rattle.spec_site.specs.Configuration.{Fault, Site, built_in, configured, site_read, user_named}
use Rattle.spec_site.specs.declared.field.Field.TheVariants.{Json}
use Rattle.spec_site.specs.declared.limits.TheConstants.{MAX_CONFIGURATION_BYTES}
use Rattle.command_line.specs.Commands.{Command, Listen, batch, listen, stdio, workload}
use Rattle.jmapd_run.specs.Starts.{HasConfiguration, IsLoaded, IsNotOpened, IsSite, IsStart, IsUser, Start, batch_for, configuration_named, configuration_of, misconfigured, not_opened, stdio_of, usage, workers_for, workload_by}

-- ---- the bytes that are loaded of a configuration come to what all of them come to

is_within : (n : ℕ) → nat_le n MAX_CONFIGURATION_BYTES ≡ true → n ≤ MAX_CONFIGURATION_BYTES
is_within n h = grind (arith, nat_tests)

is_beyond : (n : ℕ) → nat_le n MAX_CONFIGURATION_BYTES ≡ false → MAX_CONFIGURATION_BYTES < n
is_beyond n h = grind (arith, nat_tests)

not_within : (n : ℕ) → MAX_CONFIGURATION_BYTES < n → nat_le n MAX_CONFIGURATION_BYTES ≡ false
not_within n h = grind (arith, nat_tests)

refused_beyond : (bytes : List ℕ) → MAX_CONFIGURATION_BYTES < length bytes → configured bytes ≡ Err (record { field = Json; index = 0 })
refused_beyond bytes h = ap (λ (t : Bool). if t then site_read (reading bytes) else Err (record { field = Json; index = 0 })) (not_within (length bytes) h)

pub configured_taken : (bytes : List ℕ) → configured (take (MAX_CONFIGURATION_BYTES + 1) bytes) ≡ configured bytes
configured_taken bytes = by_size (nat_le (length bytes) MAX_CONFIGURATION_BYTES) refl
  where
    by_size : (t : Bool) → nat_le (length bytes) MAX_CONFIGURATION_BYTES ≡ t → configured (take (MAX_CONFIGURATION_BYTES + 1) bytes) ≡ configured bytes
    by_size true e =
        let few : length bytes ≤ MAX_CONFIGURATION_BYTES = is_within (length bytes) e in
        ap configured (take_all (MAX_CONFIGURATION_BYTES + 1) bytes (omega (arith, few)))
    by_size false e =
        let many : MAX_CONFIGURATION_BYTES < length bytes = is_beyond (length bytes) e in
        let all : length (take (MAX_CONFIGURATION_BYTES + 1) bytes) ≡ MAX_CONFIGURATION_BYTES + 1 = length-take-le (MAX_CONFIGURATION_BYTES + 1) bytes (omega (arith, many)) in
        let still : MAX_CONFIGURATION_BYTES < length (take (MAX_CONFIGURATION_BYTES + 1) bytes) = omega (arith, all) in
        refused_beyond (take (MAX_CONFIGURATION_BYTES + 1) bytes) still ∙ sym (refused_beyond bytes many)

-- ---- what a command and the bytes of its configuration come to

abbrev loaded : Option (List ℕ) → Option (Result Site Fault)
loaded bytes = option_map configured bytes

abbrev pub site_of : Option (List ℕ) → Option (List ℕ) → Option (Result Site Fault)
site_of None bytes = Some (Ok built_in)
site_of (Some name) bytes = loaded bytes

abbrev by_user : Site → Option ℕ → Start
by_user site None = usage
by_user site (Some user) = batch_for site user

abbrev pub batch_start : Option (Result Site Fault) → Option (List ℕ) → Start
batch_start None who = not_opened
batch_start (Some (Err fault)) who = misconfigured fault.field fault.index
batch_start (Some (Ok site)) None = batch_for site 0
batch_start (Some (Ok site)) (Some name) = by_user site (user_named site name)

abbrev pub stdio_start : Option (Result Site Fault) → Start
stdio_start None = not_opened
stdio_start (Some (Err fault)) = misconfigured fault.field fault.index
stdio_start (Some (Ok site)) = stdio_of site

abbrev pub listen_start : Listen → Option (Result Site Fault) → Start
listen_start l None = not_opened
listen_start l (Some (Err fault)) = misconfigured fault.field fault.index
listen_start l (Some (Ok site)) = workers_for l site

abbrev pub start_of_command : Option (List ℕ) → Option Command → Start
start_of_command bytes None = usage
start_of_command bytes (Some (batch config who)) = batch_start (site_of config bytes) who
start_of_command bytes (Some (stdio config)) = stdio_start (loaded bytes)
start_of_command bytes (Some (workload number size)) = workload_by number size
start_of_command bytes (Some (listen l)) = listen_start l (loaded bytes)

pub user_is : (site : Site) (who : Option (List ℕ)) (user : ℕ) → IsUser site who user → batch_start (Some (Ok site)) who ≡ batch_for site user
user_is site None user u = ap (batch_for site) (sym u)
user_is site (Some name) user u = ap (by_user site) u

-- ---- what the opener gives are these bytes

prefix_is : (bytes : Option (List ℕ)) (some : List ℕ) (what : Result Site Fault) → option_map (take (MAX_CONFIGURATION_BYTES + 1)) bytes ≡ Some some → configured some ≡ what → loaded bytes ≡ Some what
prefix_is None some what e f = cc
prefix_is (Some all) some what e f = ap (λ r. Some r) (sym (configured_taken all) ∙ (ap configured (same_Some (take (MAX_CONFIGURATION_BYTES + 1) all) some e) ∙ f))

loaded_is : (o o' : OpenerShown) (name : List ℕ) (bytes : Option (List ℕ)) (what : Result Site Fault) → HasConfiguration (Some name) o bytes → IsLoaded o o' name what → loaded bytes ≡ Some what
loaded_is o o' name bytes what has l =
    let told : option_map (take (MAX_CONFIGURATION_BYTES + 1)) (file_named has.0 name) ≡ Some l.0 =
    subst (λ (f : Option (List (List ℕ × List ℕ))). IfSome f (λ files. option_map (take (MAX_CONFIGURATION_BYTES + 1)) (file_named files name) ≡ Some l.0)) has.1 l.1 in
    prefix_is bytes l.0 what (ap (option_map (take (MAX_CONFIGURATION_BYTES + 1))) (sym has.2) ∙ told) l.2

site_is : (o o' : OpenerShown) (config : Option (List ℕ)) (bytes : Option (List ℕ)) (site : Site) → HasConfiguration config o bytes → IsSite o o' config site → site_of config bytes ≡ Some (Ok site)
site_is o o' None bytes site has s = ap (λ (x : Site). Some (Ok x)) (sym s.0)
site_is o o' (Some name) bytes site has l = loaded_is o o' name bytes (Ok site) has l

missing_is : (o : OpenerShown) (name : List ℕ) (bytes : Option (List ℕ)) → HasConfiguration (Some name) o bytes → IsMissing o.files name → loaded bytes ≡ None
missing_is o name bytes has missing =
    ap loaded (sym has.2 ∙ subst (λ (f : Option (List (List ℕ × List ℕ))). IfSome f (λ files. file_named files name ≡ None)) has.1 missing)

module _ (asked : Option Command) (o o' : OpenerShown) (bytes : Option (List ℕ)) (has : HasConfiguration (configuration_named asked) o bytes) (quiet : Rose o.faults o'.faults → ⊥) where
  of_command : (c : Option Command) → asked ≡ c → start_of_command bytes asked ≡ start_of_command bytes c
  of_command c e = ap (start_of_command bytes) e

  has_named : (c : Command) → asked ≡ Some c → HasConfiguration (configuration_of c) o bytes
  has_named c e = subst (λ (k : Option Command). HasConfiguration (option_and_then configuration_of k) o bytes) e has

  has_name : (c : Command) (name : List ℕ) → asked ≡ Some c → configuration_of c ≡ Some name → HasConfiguration (Some name) o bytes
  has_name c name e f = subst (λ (n : Option (List ℕ)). HasConfiguration n o bytes) f (has_named c e)

  by_configuration : (c : Command) (name : List ℕ) (r : Option (Result Site Fault)) (start : Start) → asked ≡ Some c → configuration_of c ≡ Some name → loaded bytes ≡ r
      → ((who : Option (List ℕ)) → batch_start r who ≡ start) → stdio_start r ≡ start → ((asks : Listen) → listen_start asks r ≡ start) → start_of_command bytes asked ≡ start
  by_configuration (batch config who) name r start e f l b s w = of_command _ e ∙ (ap (λ (x : Option (List ℕ)). batch_start (site_of x bytes) who) f ∙ (ap (λ x. batch_start x who) l ∙ b who))
  by_configuration (stdio config) name r start e f l b s w = of_command _ e ∙ (ap stdio_start l ∙ s)
  by_configuration (workload number size) name r start e f l b s w = cc
  by_configuration (listen asks) name r start e f l b s w = of_command _ e ∙ (ap (listen_start asks) l ∙ w asks)

  no_file : (c : Command) (name : List ℕ) → asked ≡ Some c → configuration_of c ≡ Some name → IsNotOpened o o' name → start_of_command bytes asked ≡ not_opened
  no_file c name e f (inl missing) = by_configuration c name None not_opened e f (missing_is o name bytes (has_name c name e f) missing) (λ who. refl) refl (λ l. refl)
  no_file c name e f (inr rose) = absurd (quiet rose)

  pub start_is : (start : Start) → IsStart o o' asked start → start_of_command bytes asked ≡ start
  start_is usage (inl h) = of_command None h.0
  start_is usage (inr h) = of_command _ h.3 ∙ (ap (λ x. batch_start x (Some h.1)) (site_is o o' h.0 bytes h.2 (has_named _ h.3) h.4) ∙ ap (by_user h.2) h.5)
  start_is not_opened h = no_file h.0 h.1 h.2 h.3 h.4
  start_is (misconfigured field index) h =
      by_configuration h.0 h.1 (Some (Err (record { field = field; index = index }))) (misconfigured field index) h.2 h.3 (loaded_is o o' h.1 bytes _ (has_name h.0 h.1 h.2 h.3) h.4) (λ who. refl) refl (λ l. refl)
  start_is (batch_for site user) h = of_command _ h.2 ∙ (ap (λ x. batch_start x h.1) (site_is o o' h.0 bytes site (has_named _ h.2) h.3) ∙ user_is site h.1 user h.4)
  start_is (stdio_of site) h = of_command _ h.1 ∙ ap stdio_start (loaded_is o o' h.0 bytes (Ok site) (has_named _ h.1) h.2)
  start_is (workload_by number size) h = of_command _ h.0
  start_is (workers_for l site) h = of_command _ h.0 ∙ ap (listen_start l) (loaded_is o o' l.config bytes (Ok site) (has_named _ h.0) h.1)
