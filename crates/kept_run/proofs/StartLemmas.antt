-- The accounts of a site, opened one after the other.
use Rattle.std.proofs.Common.{◌≡◌, ◌+◌, ◌<◌, ◌≤◌, ◌++◌, ◌∷◌, [], ℕ, List, Option, Some, None, Result, Ok, Err, length, map, take, refl, sym, ap, ◌∙◌, subst, arith}
use Rattle.std.proofs.Math.ListN.{get_or}
use Rattle.std.proofs.lemmas.List.{length-map, map-append, take_all, take_more, get_or-map, get_or_default}
use Rattle.std.proofs.lemmas.List.Elements.{All-nil, All-push}
use Rattle.std.specs.Prelude.{All, IfErr, IsErrAnd}
use Rattle.account_desk.specs.FreshDesk.{bases}
use Rattle.journal_keeper.specs.Journals.{HasDamage, KeeperShown, Kept, Lists}
use Rattle.kept_run.proofs.OpenLemmas.{own_entries}
use Rattle.kept_run.proofs.TextLemmas.{nameless}
use Rattle.kept_run.specs.Opened.{AreOpened, HasGoodList, RunGoesOn, foreign_place}
use Rattle.kept_run.specs.Steps.{AccountLoadHow, IsLoad, NotOpened, OpenHow, TellsOf, account_base}
use Rattle.jmapd_run.specs.declared.kept_status.KeptStatus.{KeptStatus}
use Rattle.jmapd_run.specs.declared.kept_status.KeptStatus.TheVariants.{Plain, KeepFault, Damaged, ForeignJournal, BadJournal}
use Rattle.jmapd_run.specs.declared.status.Status.TheVariants.{Cut, Config, Done, NoMemory, OpenFault, ReadFault, Refused, Usage, WriteFault}
use Rattle.spec_history.specs.Base.{Base, no_base}
use Rattle.spec_history.specs.Signed.{written_by}
use Rattle.spec_history.specs.declared.entry.Entry.{Entry}
use Rattle.spec_site.specs.Configuration.{Site, SiteAccount}

pub loads_none : (j : KeeperShown) → IsLoad j j
loads_none j = record { told = refl; faults = omega arith; damages = omega arith }

pub loads_more : (i j k : KeeperShown) → IsLoad i j → IsLoad j k → IsLoad i k
loads_more i j k a b = record { told = b.told ∙ a.told; faults = omega (arith, a.faults, b.faults); damages = omega (arith, a.damages, b.damages) }

-- a status that tells of the first entry of another author is that of opening an account at the list
pub tells_open : (site : Site) (id : List ℕ) (list : List Entry) (place : ℕ) → foreign_place list ≡ Some place → (e : KeptStatus) → TellsOf id place e → OpenHow site id list (Err e)
tells_open site id list place bad (ForeignJournal account at) t = (t.0, bad ∙ ap (λ (p : ℕ). Some p) (sym t.1))
tells_open site id list place bad (BadJournal account kind n) t = absurd t
tells_open site id list place bad (Plain NoMemory) t = tt
tells_open site id list place bad (Plain Done) t = absurd t
tells_open site id list place bad (Plain Refused) t = absurd t
tells_open site id list place bad (Plain Usage) t = absurd t
tells_open site id list place bad (Plain (Config f i)) t = absurd t
tells_open site id list place bad (Plain ReadFault) t = absurd t
tells_open site id list place bad (Plain WriteFault) t = absurd t
tells_open site id list place bad (Plain OpenFault) t = absurd t
tells_open site id list place bad (Plain Cut) t = absurd t
tells_open site id list place bad KeepFault t = absurd t
tells_open site id list place bad (Damaged account at text) t = absurd t

-- these are the accounts of a site up to a number, each with what the keeper has of it
pub record AreFirst (site : Site) (told : Option Kept) (n : ℕ) (accounts : List (Base × List Entry)) : Type 0 where
  pub first : map (λ (a : Base × List Entry). a.0) accounts ≡ take n (bases site)
  pub go_on : All (HasGoodList told) accounts
  pub own : All (λ (a : Base × List Entry). written_by 0 a.1 ≡ a.1) accounts

pub none_first : (site : Site) (told : Option Kept) → AreFirst site told 0 []
none_first site told = record { first = refl; go_on = All-nil (HasGoodList told); own = All-nil (λ (a : Base × List Entry). written_by 0 a.1 ≡ a.1) }

pub none_at_first : (site : Site) (told : Option Kept) {accounts : List (Base × List Entry)} → accounts ≡ [] → AreFirst site told 0 accounts
none_at_first site told empty = subst (AreFirst site told 0) (sym empty) (none_first site told)

count_bases : (site : Site) → length (bases site) ≡ length site.accounts
count_bases site = length-map site.accounts (λ (a : SiteAccount). account_base site a.id)

base_at : (site : Site) (n : ℕ) → n < length site.accounts → get_or (bases site) n no_base ≡ account_base site (get_or site.accounts n nameless).id
base_at site n there = get_or-map (λ (a : SiteAccount). account_base site a.id) site.accounts n nameless no_base there

module _ (site : Site) (n : ℕ) (i j k : KeeperShown) (there : n < length site.accounts) (before : IsLoad i j) where
  abbrev id : List ℕ
  id = (get_or site.accounts n nameless).id

  -- one account more
  pub first_more : (accounts accounts' : List (Base × List Entry)) (a : Base × List Entry) → AreFirst site i.told n accounts → accounts' ≡ accounts ++ a ∷ [] → AccountLoadHow site id j k (Ok a) → AreFirst site i.told (n + 1) accounts'
  first_more accounts accounts' a f pushed how =
      let base_is : a.0 ≡ get_or (bases site) n no_base = how.0 ∙ sym (base_at site n there) in
      let zones = ap (λ (b : Base). b.zones) how.0 in
      let good : RunGoesOn a.0.zones a.1 = subst (λ z. RunGoesOn z a.1) (sym zones) how.2 in
      let listed : Lists i.told a.0.account_id a.1 =
      subst (λ (y : Option Kept × List ℕ). Lists y.0 y.1 a.1) (λ m. (before.told m, sym (ap (λ (b : Base). b.account_id) how.0) m)) how.1 in
      let all : AreFirst site i.told (n + 1) (accounts ++ a ∷ []) = record {
        first = map-append (λ (b : Base × List Entry). b.0) accounts (a ∷ []) ∙ ((λ m. f.first m ++ base_is m ∷ []) ∙ sym (map-first n));
        go_on = All-push (HasGoodList i.told) accounts a f.go_on (record { listed = listed; good = good });
        own = All-push (λ (b : Base × List Entry). written_by 0 b.1 ≡ b.1) accounts a f.own (own_entries a.1 good.own);
      } in
      subst (AreFirst site i.told (n + 1)) (sym pushed) all
    where
      map-first : (m : ℕ) → take (n + 1) (bases site) ≡ take n (bases site) ++ get_or (bases site) n no_base ∷ []
      map-first m = take_more (bases site) n no_base (omega (arith, there, count_bases site))

  -- an account doesn't open
  pub not_opened : (e : KeptStatus) → AccountLoadHow site id j k (Err e) → NotOpened site i k e
  not_opened KeepFault how = omega (arith, how, before.faults)
  not_opened (Damaged account place text) how = (
    (n, there, λ d. how.0 ∙ ap (λ (a : SiteAccount). a.id) (get_or_default site.accounts n nameless d there)),
    how.1,
    subst (λ (y : Option Kept × List ℕ). HasDamage y.0 y.1 place text.items) (λ m. (before.told m, sym how.0 m)) how.2,
    omega (arith, how.3, before.damages),
  )
  not_opened (ForeignJournal account place) how = (
    (n, there, λ d. how.0 ∙ ap (λ (a : SiteAccount). a.id) (get_or_default site.accounts n nameless d there)),
    how.1,
    subst (λ (y : Option Kept × List ℕ). Lists y.0 y.1 how.1) (λ m. (before.told m, sym how.0 m)) how.2,
    how.3,
  )
  not_opened (BadJournal account kind number) how = (
    (n, there, λ d. how.0 ∙ ap (λ (a : SiteAccount). a.id) (get_or_default site.accounts n nameless d there)),
    how.1,
    subst (λ (y : Option Kept × List ℕ). Lists y.0 y.1 how.1) (λ m. (before.told m, sym how.0 m)) how.2,
    how.3,
  )
  not_opened (Plain NoMemory) how = tt
  not_opened (Plain Done) how = absurd how
  not_opened (Plain Refused) how = absurd how
  not_opened (Plain Usage) how = absurd how
  not_opened (Plain (Config f i)) how = absurd how
  not_opened (Plain ReadFault) how = absurd how
  not_opened (Plain WriteFault) how = absurd how
  not_opened (Plain OpenFault) how = absurd how
  not_opened (Plain Cut) how = absurd how

-- what is true of a status is true of one that is passed on
pub refused_so : {X : Type 0} (r : Result X KeptStatus) (e : KeptStatus) (P : KeptStatus → Type 0) → IsErrAnd r (λ (status : KeptStatus). status ≡ e) → P e → IfErr r P
refused_so (Ok x) e P h p = tt
refused_so (Err status) e P h p = subst P (sym h) p

pub all_opened : (site : Site) (told : Option Kept) (n : ℕ) (accounts : List (Base × List Entry)) → length site.accounts ≤ n → AreFirst site told n accounts → AreOpened site told accounts
all_opened site told n accounts over f = record {
  bases = f.first ∙ take_all n (bases site) (omega (arith, over, count_bases site));
  go_on = f.go_on;
}

pub count_opened : (site : Site) (told : Option Kept) (accounts : List (Base × List Entry)) → AreOpened site told accounts → length accounts ≡ length site.accounts
count_opened site told accounts o = sym (length-map accounts (λ (a : Base × List Entry). a.0)) ∙ (ap length o.bases ∙ count_bases site)
