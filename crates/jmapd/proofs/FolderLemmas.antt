-- Accounts that are opened one after the other, each at the entries of its file.
use Rattle.std.proofs.Common.{◌≡◌, ◌∙◌, ◌≤◌, ◌<◌, ◌+◌, ◌++◌, ◌∷◌, [], ℕ, List, ap, arith, get_or, length, map, sym, take}
use Rattle.std.proofs.lemmas.List.{get_or-map, map-append, take_all, take_more}
use Rattle.account_desk.proofs.FreshLemmas.{count_bases}
use Rattle.account_desk.specs.FreshDesk.{bases}
use Rattle.kept_run.specs.Steps.{account_base}
use Rattle.spec_history.specs.Base.{Base, no_base}
use Rattle.spec_site.specs.Configuration.{Site, SiteAccount}

pub nameless : SiteAccount
nameless = record { id = []; name = [] }

-- the bases of the accounts so far, with one more
pub bases_more : {A : Type 0} (base : A → Base) (site : Site) (n : ℕ) (accounts accounts' : List A) (a : A) → n < length site.accounts → map base accounts ≡ take n (bases site) → accounts' ≡ accounts ++ a ∷ []
    → ((d : SiteAccount) → base a ≡ account_base site (get_or site.accounts n d).id) → map base accounts' ≡ take (n + 1) (bases site)
bases_more base site n accounts accounts' a there so_far pushed is =
    let one : base a ≡ get_or (bases site) n no_base = is nameless ∙ sym (get_or-map (λ (x : SiteAccount). account_base site x.id) site.accounts n nameless no_base there) in
    ap (map base) pushed ∙ map-append base accounts (a ∷ []) ∙ (λ i. so_far i ++ one i ∷ []) ∙ sym (take_more (bases site) n no_base (omega (arith, there, count_bases site)))

pub all_bases : {A : Type 0} (base : A → Base) (site : Site) (n : ℕ) (accounts : List A) → length site.accounts ≤ n → map base accounts ≡ take n (bases site) → map base accounts ≡ bases site
all_bases base site n accounts over so_far = so_far ∙ take_all n (bases site) (omega (arith, over, count_bases site))
