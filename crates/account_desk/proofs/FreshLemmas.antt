-- A desk that was just opened.
use Rattle.std.proofs.Common.{◌≡◌, ℕ, ◌+◌, ◌<◌, ◌≤◌, ◌^◌, List, [], ◌∷◌, ◌++◌, All, length, map, take, get_or, refl, sym, ap, ◌∙◌, subst, arith}
use Rattle.std.proofs.lemmas.List.{length-map, map_more, take_all, get_or-map as get_or-map_within}
use Rattle.std.proofs.lemmas.List.Elements.{All-from_get_or}
use Rattle.std.proofs.Math.ListN.{get_or-map}
use Rattle.spec_history.specs.Base.{Base, no_base}
use Rattle.account_desk.specs.FreshDesk.{account_rules, bases, fresh_desk}
use Rattle.spec_history.specs.Signed.{written_by}
use Rattle.spec_site.specs.Configuration.{Site, SiteAccount}
use Rattle.spec_history.specs.declared.entry.Entry.{Entry}
use Rattle.account_desk.specs.SoleDesk.{IsSoleDesk, account_at, fresh_account, fresh_accounts, shown_of}

abbrev pub opened : Base → Base × List Entry
opened b = (b, [])

abbrev base_of : Site → SiteAccount → Base
base_of site a = record { account_id = a.id; zones = site.zones; generation = site.generation }

pub count_bases : (site : Site) → length (bases site) ≡ length site.accounts
count_bases site = length-map site.accounts (base_of site)

pub account_is : (site : Site) (k : ℕ) → account_at (fresh_accounts site) k ≡ fresh_account site k
account_is site k = get_or-map opened (bases site) k no_base

-- what a site gives the account of a number
pub fresh_is : (site : Site) (n : ℕ) (id : List ℕ) (zones : List (List ℕ × List ℕ)) → n < length site.accounts → ((d : SiteAccount) → id ≡ (get_or site.accounts n d).id)
    → zones ≡ site.zones → opened (record { account_id = id; zones = zones; generation = site.generation }) ≡ fresh_account site n
fresh_is site n id zones there id_is zones_is =
    let nameless : SiteAccount = record { id = []; name = [] } in
    let e = get_or-map_within (base_of site) site.accounts n nameless no_base there in
    ap opened ((λ i. record { account_id = id_is nameless i; zones = zones_is i; generation = site.generation }) ∙ sym e)

-- one account more was opened
pub opened_more : (site : Site) (n : ℕ) (accounts accounts' : List (Base × List Entry)) (a : Base × List Entry) → n < length site.accounts
    → accounts ≡ map opened (take n (bases site)) → a ≡ fresh_account site n → accounts' ≡ accounts ++ a ∷ [] → accounts' ≡ map opened (take (n + 1) (bases site))
opened_more site n accounts accounts' a there so_far is pushed =
    let e = map_more opened (bases site) n no_base (let c = count_bases site in omega arith) in
    pushed ∙ ((λ i. so_far i ++ is i ∷ []) ∙ sym e)

-- all accounts were opened
pub all_opened : (site : Site) (n count : ℕ) (accounts : List (Base × List Entry)) → count ≡ length site.accounts → count ≤ n → accounts ≡ map opened (take n (bases site)) → accounts ≡ fresh_accounts site
all_opened site n count accounts all over so_far = so_far ∙ ap (map opened) (take_all n (bases site) (let c = count_bases site in omega arith))

count_opened : (site : Site) → length (fresh_accounts site) ≡ length site.accounts
count_opened site = length-map (bases site) opened ∙ count_bases site

pub count_fresh : (site : Site) (accounts : List (Base × List Entry)) → accounts ≡ fresh_accounts site → length accounts ≡ length site.accounts
count_fresh site accounts is = ap length is ∙ count_opened site

pub shown_fresh : (site : Site) (accounts : List (Base × List Entry)) → accounts ≡ fresh_accounts site → shown_of (accounts, 0) ≡ fresh_desk site
shown_fresh site accounts is =
    let count : length (fresh_accounts site) ≡ length site.accounts = count_opened site in
    let fresh : shown_of (fresh_accounts site, 0) ≡ fresh_desk site = λ i. record {
      accounts = count i;
      rules = account_rules;
      turns = 0;
      base = λ k. (account_is site k i).0;
      seen = λ k. (account_is site k i).1;
      author = λ k. 0;
      last = λ k. 0;
    } in
    ap (λ (l : List (Base × List Entry)). shown_of (l, 0)) is ∙ fresh

pub sole_fresh : (site : Site) (accounts : List (Base × List Entry)) → accounts ≡ fresh_accounts site → length accounts < 2 ^ 32 → IsSoleDesk accounts 0
sole_fresh site accounts is few = record {
  few = few;
  within = omega arith;
  own = subst (All (λ (a : Base × List Entry). written_by 0 a.1 ≡ a.1)) (sym is)
      (All-from_get_or (λ (a : Base × List Entry). written_by 0 a.1 ≡ a.1) (fresh_accounts site) (no_base, [])
      (λ k there. subst (λ (a : Base × List Entry). written_by 0 a.1 ≡ a.1) (sym (account_is site k)) refl));
}
