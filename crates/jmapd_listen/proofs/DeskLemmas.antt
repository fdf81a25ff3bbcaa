-- The desks of workers over the fresh accounts of a site.
use Rattle.std.proofs.Common.{◌≡◌, ℕ, suc, zero, ◌<◌, List, [], ◌∷◌, Result, Ok, Err, Some, length, map, slice_get, refl, sym, ap, ◌∙◌, subst, arith}
use Rattle.std.proofs.lemmas.List.{length-map}
use Rattle.std.proofs.lemmas.Option.{same_Some, slice_get-map, slice_get_within}
use Rattle.std.specs.Option.{option_map_or}
use Rattle.std.specs.Prelude.{IfOk, option_map, slice_index_or}
use Rattle.account_desk.proofs.FreshLemmas.{account_is, count_bases, opened}
use Rattle.account_desk.specs.FreshDesk.{account_rules, bases}
use Rattle.account_desk.specs.SharedDesk.{shown_by_passes}
use Rattle.account_desk.specs.SoleDesk.{account_at, fresh_accounts}
use Rattle.account_lock.specs.Passes.{PassState, opened_pass}
use Rattle.atomic_table.specs.Seated.{TableId}
use Rattle.jmapd_listen.specs.Listens.{AreDesksAt, AreDesksOf, IsDeskAt}
use Rattle.listen_workers.proofs.HandLemmas.{some_at}
use Rattle.listen_workers.proofs.PassLemmas.{passes_count}
use Rattle.listen_workers.specs.Passes.{ShareAccounts, fresh_passes}
use Rattle.spec_batch.specs.Chain.{Rules}
use Rattle.spec_history.specs.Base.{Base, no_base}
use Rattle.spec_history.specs.declared.entry.Entry.{Entry}
use Rattle.spec_site.specs.Configuration.{Site}

-- what is read of the pass of account k, or of none
read_at : {X : Type 0} (read : PassState → X) (d : X) (is : Base × List Entry → X) (n : ℕ) → ((lock : TableId) (a : Base × List Entry) → read (opened_pass lock a.0 a.1 n) ≡ is a) → is (no_base, []) ≡ d
    → (locks : List TableId) (accounts : List (Base × List Entry)) (k : ℕ) → length locks ≡ length accounts → option_map_or read (slice_get (fresh_passes locks accounts n) k) d ≡ is (account_at accounts k)
read_at read d is n each none [] [] k e = sym none
read_at read d is n each none [] (a ∷ accounts) k e = absurd (omega (arith, e))
read_at read d is n each none (l ∷ ls) [] k e = absurd (omega (arith, e))
read_at read d is n each none (l ∷ ls) (a ∷ accounts) zero e = each l a
read_at read d is n each none (l ∷ ls) (a ∷ accounts) (suc k) e = read_at read d is n each none ls accounts k (omega (arith, e))

number_at : (locks : List TableId) (accounts : List (Base × List Entry)) (n k : ℕ) → length locks ≡ length accounts → k < length accounts → option_map_or (λ (p : PassState). p.number) (slice_get (fresh_passes locks accounts n) k) 0 ≡ n
number_at [] [] n k e few = absurd (omega (arith, few))
number_at [] (a ∷ accounts) n k e few = absurd (omega (arith, e))
number_at (l ∷ ls) [] n k e few = absurd (omega (arith, e))
number_at (l ∷ ls) (a ∷ accounts) n zero e few = refl
number_at (l ∷ ls) (a ∷ accounts) n (suc k) e few = number_at ls accounts n k (omega (arith, e)) (omega (arith, few))

-- the base of an account of a list, and of a list of bases
base_at : (accounts : List (Base × List Entry)) (k : ℕ) → (account_at accounts k).0 ≡ slice_index_or (map (λ (a : Base × List Entry). a.0) accounts) k no_base
base_at [] k = refl
base_at (a ∷ accounts) zero = refl
base_at (a ∷ accounts) (suc k) = base_at accounts k

-- as many accounts as the site has
pub count_of_bases : (site : Site) (accounts : List (Base × List Entry)) → map (λ (a : Base × List Entry). a.0) accounts ≡ bases site → length accounts ≡ length site.accounts
count_of_bases site accounts is = sym (length-map accounts (λ (a : Base × List Entry). a.0)) ∙ ap length is ∙ count_bases site

module _ (locks : List TableId) (accounts : List (Base × List Entry)) (n : ℕ) (even : length locks ≡ length accounts) where
  is_desk : (site : Site) (how : Rules) → map (λ (a : Base × List Entry). a.0) accounts ≡ bases site
      → IsDeskAt site how (λ k. (account_at accounts k).1) n (shown_by_passes how (fresh_passes locks accounts n, 0))
  is_desk site how are =
      let count = count_of_bases site accounts are in
      record {
        unused = (passes_count locks accounts n even ∙ (even ∙ count), refl);
        rules = refl;
        opened = λ k. (
          read_at (λ (p : PassState). p.base) no_base (λ (a : Base × List Entry). a.0) n (λ lock a. refl) refl locks accounts k even ∙ base_at accounts k ∙ ap (λ (bs : List Base). slice_index_or bs k no_base) are,
          read_at (λ (p : PassState). p.seen) [] (λ (a : Base × List Entry). a.1) n (λ lock a. refl) refl locks accounts k even,
        );
        author = λ k few. number_at locks accounts n k even (omega (arith, few, count));
        last = λ k. read_at (λ (p : PassState). p.turns) 0 (λ a. 0) n (λ lock a. refl) refl locks accounts k even;
      }

-- desks that share the accounts of a site are those of its workers
pub are_desks_at : (site : Site) (how : Rules) (workers : ℕ) (accounts : List (Base × List Entry)) (desks : List (List PassState × ℕ)) → map (λ (a : Base × List Entry). a.0) accounts ≡ bases site → length desks ≡ workers
    → ShareAccounts accounts desks → AreDesksAt site how (λ k. (account_at accounts k).1) workers (map (shown_by_passes how) desks)
are_desks_at site how workers accounts desks are many share = (length-map desks (shown_by_passes how) ∙ many, each)
  where
    each : (n : ℕ) (desk : _) → slice_get (map (shown_by_passes how) desks) n ≡ Some desk → IsDeskAt site how (λ k. (account_at accounts k).1) n desk
    each n desk at =
        let within = slice_get_within (map (shown_by_passes how) desks) n desk at in
        let count = length-map desks (shown_by_passes how) in
        let one = some_at desks n (omega (arith, within, count)) in
        let is = share.2 n one.0 one.1 in
        let same = same_Some (shown_by_passes how one.0) desk (sym (slice_get-map (shown_by_passes how) desks n ∙ ap (option_map (shown_by_passes how)) one.1) ∙ at) in
        subst (IsDeskAt site how (λ k. (account_at accounts k).1) n) (ap (shown_by_passes how) (sym is) ∙ same) (is_desk share.0 accounts n share.1 site how are)

-- those of fresh accounts
pub are_desks : (site : Site) (workers : ℕ) (accounts : List (Base × List Entry)) (desks : List (List PassState × ℕ)) → accounts ≡ fresh_accounts site → length desks ≡ workers → ShareAccounts accounts desks
    → AreDesksOf site workers (map (shown_by_passes account_rules) desks)
are_desks site workers accounts desks fresh many share =
    let own : map (λ (a : Base × List Entry). a.0) accounts ≡ bases site = ap (map (λ (a : Base × List Entry). a.0)) fresh ∙ bases_fresh (bases site) in
    let none : (k : ℕ) → (account_at accounts k).1 ≡ [] = λ k. ap (λ (them : List (Base × List Entry)). (account_at them k).1) fresh ∙ ap (λ (a : Base × List Entry). a.1) (account_is site k) in
    subst (λ (entries : ℕ → List Entry). AreDesksAt site account_rules entries workers (map (shown_by_passes account_rules) desks)) (λ i k. none k i) (are_desks_at site account_rules workers accounts desks own many share)
  where
    bases_fresh : (bs : List Base) → map (λ (a : Base × List Entry). a.0) (map opened bs) ≡ bs
    bases_fresh [] = refl
    bases_fresh (b ∷ bs) = ap (λ (l : List Base). b ∷ l) (bases_fresh bs)

pub ok_both : {T E : Type 0} (r : Result T E) (P Q R : T → Type 0) → ((x : T) → P x → Q x → R x) → IfOk r P → IfOk r Q → IfOk r R
ok_both (Ok x) P Q R both p q = both x p q
ok_both (Err e) P Q R both p q = tt
